use Rattle.std.proofs.Common.{◌≡◌, take}
use Rattle.job_writes.specs.Writings.{sources}
use Rattle.job_rows.specs.RowsAfter.{rows_after}
use Rattle.job_rows.proofs.building.all_rows.Given as goal

abbrev pub invariant-loop-i : goal.invariant-loop-i
invariant-loop-i l = l.after.items ≡ rows_after (sources l.a l.b) l.rows (take l.i l.plan) (take l.i l.outcomes.put.items) (take l.i l.outcomes.removed.items)
