use Rattle.std.proofs.Common.{◌≡◌, ◌++◌, map, take}
use Rattle.multistatus.specs.Rows.{of_status}
use Rattle.multistatus.proofs.endings.with_rows_of_status.Given as goal

abbrev pub invariant-loop-href : goal.invariant-loop-href
invariant-loop-href l = l.rows ≡ l.fn.rows ++ map (of_status l.code) (take l.href-index l.hrefs)
