use Rattle.std.proofs.Common.{◌≡◌, take}
use Rattle.status_keeper.proofs.mem_keeper.copy_rows.Given as goal

-- what is copied so far
abbrev pub invariant-loop-row : goal.invariant-loop-row
invariant-loop-row l = l.copied.items ≡ take l.row-index l.rows
