use Rattle.sync_run.proofs.RunLemmas.{run_of}
use Rattle.sync_run.proofs.laws.ends_are_runs.Goals as goal

pub returns : goal.returns
returns c force rules waits_a waits_b x report job = run_of force rules waits_a waits_b x report job
