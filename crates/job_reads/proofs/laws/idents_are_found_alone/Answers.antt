use Rattle.job_reads.specs.Readings.{course_of_a, course_of_b}
use Rattle.job_reads.proofs.TookLemmas.{within_place, found_alone}
use Rattle.job_reads.proofs.laws.idents_are_found_alone.Goals as goal

pub returns-clause-on_a : goal.returns-clause-on_a
returns-clause-on_a c force x r exit place seen read alone is_seen = found_alone (course_of_a x r exit) read.entries_a read.fetched_a read.reads_a r.a.seen.items r.a.items.items read.taken_a alone seen (within_place r.a.seen.items place seen is_seen)

pub returns-clause-on_b : goal.returns-clause-on_b
returns-clause-on_b c force x r exit place seen read alone is_seen = found_alone (course_of_b x r exit) read.entries_b read.fetched_b read.reads_b r.b.seen.items r.b.items.items read.taken_b alone seen (within_place r.b.seen.items place seen is_seen)
