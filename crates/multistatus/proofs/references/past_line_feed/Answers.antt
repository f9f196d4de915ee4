use Rattle.std.proofs.Common.{sym}
use Rattle.multistatus.proofs.Cuts.{stripped_found}
use Rattle.multistatus.proofs.Escapes.{line_ends-line_feed, line_ends-other}
use Rattle.multistatus.proofs.references.past_line_feed.Goals as goal

pub returns-in-Some-clause-rest : goal.returns-in-Some-clause-rest
returns-in-Some-clause-rest c = line_ends-line_feed c.args.text.now c.in-Some.rest.now (stripped_found _ _ _ (sym c.in-Some.ensures.found))

pub returns-in-None-clause-rest : goal.returns-in-None-clause-rest
returns-in-None-clause-rest c = line_ends-other c.args.text.now (sym c.in-None.ensures.found)
