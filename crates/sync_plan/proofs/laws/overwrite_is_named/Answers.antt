use Rattle.sync_plan.proofs.Overwrites.{overwrite_named}
use Rattle.sync_plan.proofs.laws.overwrite_is_named.Goals as goal

pub returns : goal.returns
returns c rules v answer side version to here is = overwrite_named rules answer side v version to here is
