use Rattle.sync_run.proofs.RefusedLemmas.{comes_too_long}
use Rattle.sync_run.proofs.laws.too_long_is_so.Goals as goal

pub returns : goal.returns
returns c force rules waits_a waits_b x report job is = comes_too_long force rules waits_a waits_b x report job is
