use Rattle.std.proofs.Common.{sym, ◌∙◌}
use Rattle.item_text.specs.Places.{names_of}
use Rattle.file_text.proofs.Opening.{place_outside, place_within}
use Rattle.file_text.proofs.opened.Opened.reopen.Goals as goal

pub returns-then-is_outside-clause-place : goal.returns-then-is_outside-clause-place
returns-then-is_outside-clause-place c = c.new.ensures.place ∙ sym (place_outside (names_of c.args.self.now.stack) _ (sym c.is_outside.ensures ∙ c.if-is_outside.true))

pub returns-else-is_outside-clause-place : goal.returns-else-is_outside-clause-place
returns-else-is_outside-clause-place c = sym (place_within (names_of c.args.self.now.stack) _ (sym c.is_outside.ensures ∙ c.if-is_outside.false))
