use Rattle.std.proofs.Common.{◌≡◌, ◌++◌, drop}
use Rattle.std.specs.Vec.Iter.{into_iter_items}
use Rattle.sync_run.specs.Lines.{lines_of}
use Rattle.sync_run.proofs.lines.lines_of.Given as goal

abbrev pub invariant-loop-planned : goal.invariant-loop-planned
invariant-loop-planned l = l.lines.items ++ lines_of (drop l.planned-index l.plan) (into_iter_items l.firsts) (into_iter_items l.seconds) ≡ lines_of l.plan l.fn.outcomes.put.items l.fn.outcomes.removed.items
