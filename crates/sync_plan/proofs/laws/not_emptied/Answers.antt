use Rattle.sync_plan.proofs.Emptied.{never_emptied}
use Rattle.sync_plan.proofs.laws.not_emptied.Goals as goal

pub returns : goal.returns
returns c rules first last runs ident version side full is_due story = never_emptied rules first last runs ident version side full is_due story
