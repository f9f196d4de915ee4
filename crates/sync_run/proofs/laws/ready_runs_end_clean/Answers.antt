use Rattle.sync_run.proofs.ReadyLemmas.{ready_end}
use Rattle.sync_run.proofs.laws.ready_runs_end_clean.Goals as goal

pub returns : goal.returns
returns c force rules x report rows job ready quiet end = ready_end force rules x report rows ready quiet end job
