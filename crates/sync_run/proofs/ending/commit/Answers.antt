use Rattle.outside.proofs.Runs.{ChangesBy-weaker}
use Rattle.sync_run.proofs.EndLemmas.{commit_is_keeping}
use Rattle.sync_run.proofs.ending.commit.Goals as goal

pub returns-in-Ok-clause-keeper : goal.returns-in-Ok-clause-keeper
returns-in-Ok-clause-keeper g c = ChangesBy-weaker (commit_is_keeping _) c.commit.ensures.changes

pub returns-in-Err-clause-keeper : goal.returns-in-Err-clause-keeper
returns-in-Err-clause-keeper g c = ChangesBy-weaker (commit_is_keeping _) c.commit.ensures.changes
