use Rattle.multistatus.proofs.Fronts.{text_shorter}
use Rattle.multistatus.proofs.tokens.text_at.Goals as goal

pub returns-clause-shorter : goal.returns-clause-shorter
returns-clause-shorter c = rw c.text_bytes.ensures.rest (text_shorter c.args.text.now c.requires.some c.requires.other)
