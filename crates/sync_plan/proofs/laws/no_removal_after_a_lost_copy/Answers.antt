use Rattle.sync_plan.proofs.Emptied.{put_is_there}
use Rattle.sync_plan.proofs.laws.no_removal_after_a_lost_copy.Goals as goal

pub returns : goal.returns
returns c rules run gone put old version step quiet_gone quiet_put writable at_gone at_put lost = put_is_there rules run gone put old version step quiet_gone quiet_put writable at_gone at_put lost
