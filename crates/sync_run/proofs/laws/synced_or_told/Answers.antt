use Rattle.sync_run.proofs.SettledLemmas.{in_sync_of}
use Rattle.sync_run.proofs.laws.synced_or_told.Goals as goal

pub returns : goal.returns
returns c force rules waits_a waits_b x report job synced = in_sync_of force rules waits_a waits_b x report job synced
