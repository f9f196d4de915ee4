use Rattle.job_writes.proofs.CallLemmas.{any_change}
use Rattle.sync_run.proofs.ending.ending.Goals as goal

pub returns-in-Err-clause-changes_a : goal.returns-in-Err-clause-changes_a
returns-in-Err-clause-changes_a g c = any_change c.flush.ensures.changes

pub returns-in-Err-flush-clause-changes_a : goal.returns-in-Err-flush-clause-changes_a
returns-in-Err-flush-clause-changes_a g c = any_change c.flush.ensures.changes

pub returns-in-Err-flush-clause-changes_b : goal.returns-in-Err-flush-clause-changes_b
returns-in-Err-flush-clause-changes_b g c = any_change c.flush-2.ensures.changes

pub returns-clause-changes_a : goal.returns-clause-changes_a
returns-clause-changes_a g c = any_change c.flush.ensures.changes

pub returns-clause-changes_b : goal.returns-clause-changes_b
returns-clause-changes_b g c = any_change c.flush-2.ensures.changes
