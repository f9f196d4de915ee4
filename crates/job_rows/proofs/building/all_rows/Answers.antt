use Rattle.std.proofs.Common.{◌≡◌, ◌∙◌, ap, arith, false, get_or}
use Rattle.job_writes.specs.Writings.{sources, FitsPut, FitsRemoval, failed_after}
use Rattle.job_writes.proofs.OrderLemmas.{no_step}
use Rattle.job_rows.specs.RowsAfter.{row_after, rows_after}
use Rattle.job_rows.proofs.RowLemmas.{fit_length, rows_turn, whole}
use Rattle.job_rows.proofs.building.all_rows.Goals as goal

pub index-requires : goal.index-requires
index-requires c = omega (arith, c.loop-i-test.true, fit_length (λ failed p. FitsPut p.step) false c.args.plan.now c.args.outcomes.now.put.items c.requires.whole.put)

pub index-requires-in-loop-i : goal.index-requires-in-loop-i
index-requires-in-loop-i c = omega (arith, c.loop-i-test.true, fit_length (λ failed p. FitsRemoval failed p.step) (failed_after false c.args.outcomes.now.put.items) c.args.plan.now c.args.outcomes.now.removed.items c.requires.whole.removed)

pub loop-i-preserved : goal.loop-i-preserved
loop-i-preserved c =
    let x = sources c.args.a.now c.args.b.now in
    let rows = c.args.rows.now in
    let plan = c.args.plan.now in
    let put = c.args.outcomes.now.put.items in
    let removed = c.args.outcomes.now.removed.items in
    let lf = fit_length (λ failed p. FitsPut p.step) false plan put c.requires.whole.put in
    let lg = fit_length (λ failed p. FitsRemoval failed p.step) (failed_after false put) plan removed c.requires.whole.removed in
    let at = ap (row_after x rows (get_or plan c.loop-i.i no_step)) c.outcome_of-outcome.ensures in
    rows_turn x rows plan put removed c.loop-i.i c.index.result.now c.index-in-loop-i.result.now c.loop-i-test.true lf lg c.index.ensures c.index-in-loop-i.ensures c.loop-i.after.items c.add.new.rows.items c.in-Ok.row c.loop-i.invariant c.in-Ok-add.ensures (c.in-Ok.ensures ∙ at)

pub returns : goal.returns
returns c =
    let lf = fit_length (λ failed p. FitsPut p.step) false c.args.plan.now c.args.outcomes.now.put.items c.requires.whole.put in
    let lg = fit_length (λ failed p. FitsRemoval failed p.step) (failed_after false c.args.outcomes.now.put.items) c.args.plan.now c.args.outcomes.now.removed.items c.requires.whole.removed in
    whole (sources c.args.a.now c.args.b.now) c.args.rows.now c.args.plan.now c.args.outcomes.now.put.items c.args.outcomes.now.removed.items c.loop-i.i (λ ps fs gs. c.loop-i.after.items ≡ rows_after (sources c.args.a.now c.args.b.now) c.args.rows.now ps fs gs) c.loop-i-test.false lf lg c.loop-i.invariant
