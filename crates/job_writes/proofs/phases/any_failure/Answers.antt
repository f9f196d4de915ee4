use Rattle.job_writes.proofs.OrderLemmas.{failed_slice}
use Rattle.job_writes.proofs.phases.any_failure.Goals as goal

pub loop-outcome-preserved : goal.loop-outcome-preserved
loop-outcome-preserved c = failed_slice c.args.outcomes.now c.loop-outcome.outcome-index c.outcome-item.result c.fails-failed.result c.loop-outcome.failed c.loop-outcome-test.true c.outcome-item.is c.loop-outcome.invariant c.fails-failed.ensures
