use Rattle.sync_run.proofs.EndingLemmas.{quiet_end}
use Rattle.sync_run.proofs.laws.quiet_runs_end_well.Goals as goal

pub returns : goal.returns
returns c force rules x report job quiet = quiet_end force rules x report job quiet
