use Rattle.sync_plan.proofs.Cleans.{clean_job}
use Rattle.sync_plan.proofs.laws.clean_is_a_run.Goals as goal

pub returns : goal.returns
returns c rules run clean on_a on_b = clean_job rules run clean on_a on_b
