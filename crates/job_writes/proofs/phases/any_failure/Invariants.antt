use Rattle.std.proofs.Common.{◌≡◌, false, take}
use Rattle.job_writes.specs.Writings.{failed_after}
use Rattle.job_writes.proofs.phases.any_failure.Given as goal

abbrev pub invariant-loop-outcome : goal.invariant-loop-outcome
invariant-loop-outcome l = l.failed ≡ failed_after false (take l.outcome-index l.outcomes)
