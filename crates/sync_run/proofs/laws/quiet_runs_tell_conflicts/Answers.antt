use Rattle.sync_run.proofs.EndingLemmas.{quiet_conflicts}
use Rattle.sync_run.proofs.laws.quiet_runs_tell_conflicts.Goals as goal

pub returns : goal.returns
returns c force rules waits_a waits_b x report job quiet = quiet_conflicts force rules waits_a waits_b x report job quiet
