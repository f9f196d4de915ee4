use Rattle.std.proofs.Common.{sym}
use Rattle.multistatus.specs.Texts.{line_ends}
use Rattle.multistatus.proofs.Escapes.{line_ends-none}
use Rattle.multistatus.proofs.references.line_ends.Goals as goal

pub returns-in-None : goal.returns-in-None
unfolding line_ends
returns-in-None c = sym (line_ends-none c.args.text.now (sym c.in-None.ensures.found))
