use Rattle.std.proofs.Common.{sym, subst}
use Rattle.job_writes.specs.Writings.{now_of, sources}
use Rattle.sync_plan.specs.declared.report.JobEnd.{JobEnd}
use Rattle.sync_run.specs.Ends.{closing, ClosesAs}
use Rattle.sync_run.proofs.EndLemmas.{closes_as}
use Rattle.sync_run.proofs.job.close.Goals as goal

pub returns-clause-closes : goal.returns-clause-closes
returns-clause-closes g c told_a told_b told_k =
    let x = sources c.args.read.now.a c.args.read.now.b in
    let y = closing (now_of (g.A.Store.side c.args.a.now) (g.A.Store.waiting c.args.a.now)) (g.A.Store.side c.ending-end.new.a) (now_of (g.B.Store.side c.args.b.now) (g.B.Store.waiting c.args.b.now)) (g.B.Store.side c.ending-end.new.b) (g.K.Keeper.state c.args.keeper.now) (g.K.Keeper.state c.ending-end.new.keeper) in
    let found = g.K.Keeper.found c.args.keeper.now in
    let old = c.args.read.now.rows.items in
    subst (λ (end : JobEnd). ClosesAs x old c.args.plan.now c.args.outcomes found y c.report_of.result end) (sym c.report_of.ensures.end)
    (closes_as x old c.args.plan.now c.args.outcomes found y c.report_of.result c.in-Ok.rows.changed c.in-Ok.rows.rows.items c.in-Ok-lines_of.lines.items c.ending-end.result
    (rw c.deref.ensures.value at c.in-Ok.ensures.rows) (rw c.deref.ensures.value at c.in-Ok.ensures.same) (rw c.deref.ensures.value at c.in-Ok.ensures.differs) c.in-Ok-lines_of.ensures c.report_of.ensures.lines (c.ending-end.ensures.ends told_a told_b told_k))
