use Rattle.std.proofs.Common.{drop}
use Rattle.std.specs.Vec.Iter.{into_iter_items}
use Rattle.sync_run.specs.Lines.{lines_of}
use Rattle.sync_run.proofs.EndLemmas.{empty_by, firsts_end, seconds_end}
use Rattle.sync_run.proofs.lines.lines_of.Goals as goal

pub returns-in_default : goal.returns-in_default
returns-in_default c =
    firsts_end c.loop-planned.lines.items (lines_of c.args.plan.now c.args.outcomes.put.items c.args.outcomes.removed.items) (drop c.loop-planned.planned-index c.args.plan.now) (into_iter_items c.loop-planned.firsts) (into_iter_items c.loop-planned.seconds)
    (empty_by (into_iter_items c.loop-planned.firsts) c.loop-planned.firsts.rest.len c.loop-planned.firsts.rest.ok.0 c.in_default.ensures.cases.0) c.loop-planned.invariant

pub returns-in_default-next : goal.returns-in_default-next
returns-in_default-next c =
    seconds_end c.loop-planned.lines.items (lines_of c.args.plan.now c.args.outcomes.put.items c.args.outcomes.removed.items) (drop c.loop-planned.planned-index c.args.plan.now) (into_iter_items c.loop-planned.firsts) (into_iter_items c.loop-planned.seconds)
    (empty_by (into_iter_items c.loop-planned.seconds) c.loop-planned.seconds.rest.len c.loop-planned.seconds.rest.ok.0 c.in_default-next.ensures.cases.0) c.loop-planned.invariant
