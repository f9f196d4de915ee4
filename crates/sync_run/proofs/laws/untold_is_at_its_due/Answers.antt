use Rattle.sync_run.proofs.DueLemmas.{settled_is_due}
use Rattle.sync_run.proofs.laws.untold_is_at_its_due.Goals as goal

pub returns : goal.returns
returns c force rules x report s ident honest_a honest_b quiet untold settled = settled_is_due force rules x report s ident honest_a honest_b quiet untold settled
