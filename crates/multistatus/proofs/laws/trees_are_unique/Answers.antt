use Rattle.multistatus.proofs.Documents.{HasTree-unique}
use Rattle.multistatus.proofs.laws.trees_are_unique.Goals as goal

pub returns : goal.returns
returns c = HasTree-unique
