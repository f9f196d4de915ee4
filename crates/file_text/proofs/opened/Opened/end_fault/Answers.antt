use Rattle.std.proofs.Common.{sym, ◌∙◌}
use Rattle.item_text.specs.Places.{names_of}
use Rattle.file_text.proofs.Opening.{end_outside, end_within}
use Rattle.file_text.proofs.opened.Opened.end_fault.Goals as goal

pub returns-then-is_outside : goal.returns-then-is_outside
returns-then-is_outside c = end_outside c.args.count (names_of c.args.self.now.stack) _ (sym c.is_outside.ensures ∙ c.if-is_outside.true)

pub returns-else-is_outside : goal.returns-else-is_outside
returns-else-is_outside c = c.end_fault.ensures ∙ end_within c.args.count (names_of c.args.self.now.stack) _ (sym c.is_outside.ensures ∙ c.if-is_outside.false)
