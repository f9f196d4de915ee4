use Rattle.std.proofs.lemmas.List.Elements.{recursion_from_All}
use Rattle.sync_plan.specs.declared.report.Side.TheVariants.{A, B}
use Rattle.sync_plan.specs.Plans.{IsPlannedFor}
use Rattle.job_reads.specs.Readings.{course_of_a, course_of_b}
use Rattle.job_writes.specs.Writings.{sources}
use Rattle.job_traces.proofs.PlaceLemmas.{moved_by_edit}
use Rattle.job_traces.proofs.laws.moved_is_by_edit.Goals as goal

pub returns-clause-on_a : goal.returns-clause-on_a
returns-clause-on_a c force rules x r plan waits os end p f g read is_plan whole did at moved =
    moved_by_edit (course_of_a x r end.state) (course_of_b x r x.b_now) A (sources r.a r.b) r.rows.items rules read.entries_a read.fetched_a read.reads_a read.taken_a waits p f g plan os end is_plan.rising (recursion_from_All (IsPlannedFor r.a.seen.items r.b.seen.items r.rows.items rules) plan is_plan.each) whole did at moved

pub returns-clause-on_b : goal.returns-clause-on_b
returns-clause-on_b c force rules x r plan waits os end p f g read is_plan whole did at moved =
    moved_by_edit (course_of_b x r end.state) (course_of_a x r x.a_now) B (sources r.a r.b) r.rows.items rules read.entries_b read.fetched_b read.reads_b read.taken_b waits p f g plan os end is_plan.rising (recursion_from_All (IsPlannedFor r.a.seen.items r.b.seen.items r.rows.items rules) plan is_plan.each) whole did at moved
