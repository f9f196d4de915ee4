use Rattle.multistatus.proofs.Cuts.{stripped_by}
use Rattle.multistatus.proofs.text.stripped.Goals as goal

pub returns-clause-found : goal.returns-clause-found
returns-clause-found c = stripped_by c.args.mark.now c.args.text.now c.strip_prefix.result c.strip_prefix.ensures.cases
