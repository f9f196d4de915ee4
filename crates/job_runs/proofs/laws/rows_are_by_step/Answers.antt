use Rattle.job_runs.proofs.HeldLemmas.{by_step}
use Rattle.job_runs.proofs.laws.rows_are_by_step.Goals as goal

pub returns : goal.returns
returns c rules a b before after ident honest_a honest_b job = by_step rules a b before after honest_a honest_b job ident
