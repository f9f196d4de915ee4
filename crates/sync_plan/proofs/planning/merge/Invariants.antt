use Rattle.std.proofs.Common.{◌+◌, drop, length}
use Rattle.sync_plan.proofs.Merges.{Merging}
use Rattle.sync_plan.proofs.planning.merge.Given as goal

abbrev pub invariant-loop-ident : goal.invariant-loop-ident
invariant-loop-ident l = Merging l.a l.b l.rows l.rules (drop l.at.a l.a) (drop l.at.b l.b) (drop l.at.row l.rows) l.steps.items

abbrev pub decreases-loop-ident : goal.decreases-loop-ident
decreases-loop-ident l = length (drop l.at.a l.a) + length (drop l.at.b l.b) + length (drop l.at.row l.rows)
