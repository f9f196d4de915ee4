use Rattle.sync_run.proofs.ReadingLemmas.{asked_read, all_read}
use Rattle.sync_run.proofs.laws.reads_are_asked.Goals as goal

pub returns-clause-only : goal.returns-clause-only
returns-clause-only c force rules waits_a waits_b x report job = asked_read force rules waits_a waits_b x report job

pub returns-clause-each : goal.returns-clause-each
returns-clause-each c force rules waits_a waits_b x report on = all_read force rules waits_a waits_b x report on
