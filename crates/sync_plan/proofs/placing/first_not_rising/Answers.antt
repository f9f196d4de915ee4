use Rattle.std.proofs.Common.{arith}
use Rattle.sync_plan.proofs.Indexes.{rising_from_adjacent}
use Rattle.sync_plan.proofs.placing.first_not_rising.Goals as goal

pub returns-clause-none : goal.returns-clause-none
returns-clause-none c = rising_from_adjacent c.args.placed.now (λ k d lt. c.loop-i.invariant k d (omega arith))
