use Rattle.job_traces.proofs.JobLemmas.{job_of}
use Rattle.job_traces.proofs.laws.runs_are_jobs.Goals as goal

pub returns : goal.returns
returns c force rules x r exit_a exit_b after ran = job_of force rules x r exit_a exit_b after ran
