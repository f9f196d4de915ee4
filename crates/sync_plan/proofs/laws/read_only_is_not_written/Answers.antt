use Rattle.sync_plan.proofs.Overwrites.{never_written}
use Rattle.sync_plan.proofs.laws.read_only_is_not_written.Goals as goal

pub returns : goal.returns
returns c rules v answer side on = never_written rules v answer side on
