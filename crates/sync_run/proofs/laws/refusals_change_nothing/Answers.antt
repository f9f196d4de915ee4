use Rattle.sync_run.proofs.RefusedLemmas.{refused_reads}
use Rattle.sync_run.proofs.laws.refusals_change_nothing.Goals as goal

pub returns : goal.returns
returns c force rules waits_a waits_b x report refusal job is = refused_reads force rules waits_a waits_b x report refusal job is
