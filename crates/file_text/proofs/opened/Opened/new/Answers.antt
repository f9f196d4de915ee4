use Rattle.file_text.proofs.Opening.{between_is}
use Rattle.file_text.proofs.opened.Opened.new.Goals as goal

pub returns-clause-place : goal.returns-clause-place
returns-clause-place c = between_is _ c.new.ensures.place
