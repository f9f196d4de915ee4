use Rattle.job_reads.specs.Readings.{course_of_a, course_of_b}
use Rattle.job_reads.proofs.TookLemmas.{text_read}
use Rattle.job_reads.proofs.laws.texts_were_read.Goals as goal

pub returns-clause-on_a : goal.returns-clause-on_a
returns-clause-on_a c force x r exit place seen item read is_seen is_text = text_read (course_of_a x r exit) read.entries_a read.fetched_a read.reads_a r.a.seen.items r.a.items.items place seen item read.taken_a is_seen is_text

pub returns-clause-on_b : goal.returns-clause-on_b
returns-clause-on_b c force x r exit place seen item read is_seen is_text = text_read (course_of_b x r exit) read.entries_b read.fetched_b read.reads_b r.b.seen.items r.b.items.items place seen item read.taken_b is_seen is_text
