use Rattle.job_runs.proofs.StepLemmas.{job_step}
use Rattle.job_runs.proofs.laws.run_is_a_job_step.Goals as goal

pub returns : goal.returns
returns c rules a b before after honest_a honest_b job = job_step rules a b before after honest_a honest_b job
