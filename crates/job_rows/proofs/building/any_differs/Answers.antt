use Rattle.std.proofs.Common.{◌∙◌, ap, sym, arith, false, get_or}
use Rattle.job_writes.specs.Writings.{sources, FitsPut, FitsRemoval, failed_after}
use Rattle.job_writes.proofs.OrderLemmas.{no_step}
use Rattle.job_rows.specs.RowsAfter.{row_after, IsUnchanged}
use Rattle.job_rows.proofs.RowLemmas.{fit_length, same_turn, differs_turn, whole}
use Rattle.job_rows.proofs.building.any_differs.Goals as goal

pub index-requires : goal.index-requires
index-requires c = omega (arith, c.loop-i-test.true, fit_length (λ failed p. FitsPut p.step) false c.args.plan.now c.args.outcomes.now.put.items c.requires.whole.put)

pub index-requires-in-loop-i : goal.index-requires-in-loop-i
index-requires-in-loop-i c = omega (arith, c.loop-i-test.true, fit_length (λ failed p. FitsRemoval failed p.step) (failed_after false c.args.outcomes.now.put.items) c.args.plan.now c.args.outcomes.now.removed.items c.requires.whole.removed)

pub loop-i-preserved : goal.loop-i-preserved
loop-i-preserved c =
    let x = sources c.args.a.now c.args.b.now in
    let rows = c.args.rows.now in
    let plan = c.args.plan.now in
    let put = c.args.outcomes.now.put.items in
    let removed = c.args.outcomes.now.removed.items in
    let lf = fit_length (λ failed p. FitsPut p.step) false plan put c.requires.whole.put in
    let lg = fit_length (λ failed p. FitsRemoval failed p.step) (failed_after false put) plan removed c.requires.whole.removed in
    let inv = c.loop-i.invariant in
    let one = c.differs_at-one in
    let at = ap (row_after x rows (get_or plan c.loop-i.i no_step)) c.outcome_of-outcome.ensures in
    record {
      same = same_turn x rows plan put removed c.loop-i.i c.index.result.now c.index-in-loop-i.result.now c.loop-i-test.true lf lg c.index.ensures c.index-in-loop-i.ensures c.loop-i.differs one.result c.either-differs.result c.either-differs.ensures inv.same (λ e. sym at ∙ one.ensures.same e);
      differs = differs_turn x rows plan put removed c.loop-i.i c.index.result.now c.index-in-loop-i.result.now c.loop-i-test.true lf lg c.index.ensures c.index-in-loop-i.ensures c.loop-i.differs one.result c.either-differs.result c.either-differs.ensures inv.differs (λ e same. one.ensures.differs e (at ∙ same));
    }

pub returns-clause-same : goal.returns-clause-same
returns-clause-same c same =
    let lf = fit_length (λ failed p. FitsPut p.step) false c.args.plan.now c.args.outcomes.now.put.items c.requires.whole.put in
    let lg = fit_length (λ failed p. FitsRemoval failed p.step) (failed_after false c.args.outcomes.now.put.items) c.args.plan.now c.args.outcomes.now.removed.items c.requires.whole.removed in
    whole (sources c.args.a.now c.args.b.now) c.args.rows.now c.args.plan.now c.args.outcomes.now.put.items c.args.outcomes.now.removed.items c.loop-i.i (IsUnchanged (sources c.args.a.now c.args.b.now) c.args.rows.now) c.loop-i-test.false lf lg (c.loop-i.invariant.same same)

pub returns-clause-differs : goal.returns-clause-differs
returns-clause-differs c differs =
    let lf = fit_length (λ failed p. FitsPut p.step) false c.args.plan.now c.args.outcomes.now.put.items c.requires.whole.put in
    let lg = fit_length (λ failed p. FitsRemoval failed p.step) (failed_after false c.args.outcomes.now.put.items) c.args.plan.now c.args.outcomes.now.removed.items c.requires.whole.removed in
    whole (sources c.args.a.now c.args.b.now) c.args.rows.now c.args.plan.now c.args.outcomes.now.put.items c.args.outcomes.now.removed.items c.loop-i.i (λ ps fs gs. IsUnchanged (sources c.args.a.now c.args.b.now) c.args.rows.now ps fs gs → ⊥) c.loop-i-test.false lf lg (c.loop-i.invariant.differs differs)
