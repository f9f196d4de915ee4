use Rattle.std.proofs.Common.{sym}
use Rattle.multistatus.specs.Texts.{resolved_text}
use Rattle.multistatus.proofs.Escapes.{referred-none}
use Rattle.multistatus.proofs.references.resolved.Goals as goal

pub returns-in-None : goal.returns-in-None
unfolding resolved_text
returns-in-None c = referred-none c.args.text.now (sym c.in-None.ensures.found)
