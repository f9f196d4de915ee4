use Rattle.std.proofs.Common.{◌≡◌, true, false, take}
use Rattle.job_writes.specs.Writings.{sources}
use Rattle.job_rows.specs.RowsAfter.{IsUnchanged}
use Rattle.job_rows.proofs.building.any_differs.Given as goal

abbrev pub invariant-loop-i : goal.invariant-loop-i
invariant-loop-i l = record {
  same : l.differs ≡ false → IsUnchanged (sources l.a l.b) l.rows (take l.i l.plan) (take l.i l.outcomes.put.items) (take l.i l.outcomes.removed.items);
  differs : l.differs ≡ true → IsUnchanged (sources l.a l.b) l.rows (take l.i l.plan) (take l.i l.outcomes.put.items) (take l.i l.outcomes.removed.items) → ⊥;
}
