use Rattle.multistatus.proofs.Cuts.{cut_by}
use Rattle.multistatus.proofs.text.cut.Goals as goal

pub returns-clause-found : goal.returns-clause-found
returns-clause-found c = cut_by c.args.mark.now c.args.text.now c.split_once.result c.split_once.ensures.cases
