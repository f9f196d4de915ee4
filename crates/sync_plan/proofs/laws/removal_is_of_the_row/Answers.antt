use Rattle.sync_plan.proofs.Overwrites.{removal_named}
use Rattle.sync_plan.proofs.laws.removal_is_of_the_row.Goals as goal

pub returns : goal.returns
returns c rules v side is = removal_named rules v side is
