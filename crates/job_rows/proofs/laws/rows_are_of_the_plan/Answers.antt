use Rattle.std.proofs.Common.{false}
use Rattle.std.proofs.lemmas.List.Elements.{recursion_from_All}
use Rattle.sync_plan.specs.Plans.{IsPlannedFor}
use Rattle.job_writes.specs.Writings.{failed_after}
use Rattle.job_rows.proofs.NextLemmas.{are_steps, rows_rise, row_of_step}
use Rattle.job_rows.proofs.laws.rows_are_of_the_plan.Goals as goal

pub returns-clause-rise : goal.returns-clause-rise
returns-clause-rise c x rows rules plan os is whole =
    rows_rise x rows rules plan os.put.items os.removed.items (are_steps x rows rules false false (failed_after false os.put.items) plan os.put.items os.removed.items (recursion_from_All (IsPlannedFor x.a.seen.items x.b.seen.items rows rules) plan is.each) whole.put whole.named whole.removed) is.rising

pub returns-clause-each : goal.returns-clause-each
returns-clause-each c x rows rules plan os p f g is whole at =
    row_of_step x rows rules p f g plan os.put.items os.removed.items (are_steps x rows rules false false (failed_after false os.put.items) plan os.put.items os.removed.items (recursion_from_All (IsPlannedFor x.a.seen.items x.b.seen.items rows rules) plan is.each) whole.put whole.named whole.removed) is.rising at
