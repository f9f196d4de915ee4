use Rattle.sync_run.proofs.PromiseLemmas.{promise_kept}
use Rattle.sync_run.proofs.laws.promises_are_kept.Goals as goal

pub returns : goal.returns
returns c force rules waits_a waits_b x report job = promise_kept force rules waits_a waits_b x report job
