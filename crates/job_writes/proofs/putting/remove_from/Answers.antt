use Rattle.job_writes.proofs.CallLemmas.{any_change}
use Rattle.job_writes.proofs.putting.remove_from.Goals as goal

pub returns-in-Ok-clause-changes : goal.returns-in-Ok-clause-changes
returns-in-Ok-clause-changes g c = any_change c.drop_item.ensures.changes

pub returns-in-Err-clause-changes : goal.returns-in-Err-clause-changes
returns-in-Err-clause-changes g c = any_change c.drop_item.ensures.changes
