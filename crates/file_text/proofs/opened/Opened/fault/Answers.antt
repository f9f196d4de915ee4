use Rattle.std.proofs.Common.{sym, ◌∙◌}
use Rattle.item_text.specs.Places.{names_of, place_seen}
use Rattle.item_text.specs.Kinds.{kind_seen}
use Rattle.file_text.proofs.Opening.{uid_between, fault_outside, fault_within}
use Rattle.file_text.proofs.opened.Opened.fault.Goals as goal

pub fault-requires : goal.fault-requires
fault-requires c = c.requires ∙ sym (uid_between (place_seen c.args.self.now.stack) (kind_seen c.args.kind))

pub returns-then-is_outside : goal.returns-then-is_outside
returns-then-is_outside c = fault_outside c.args.number (names_of c.args.self.now.stack) _ _ (sym c.is_outside.ensures ∙ c.if-is_outside.true) c.fault_outside.ensures

pub returns-else-is_outside : goal.returns-else-is_outside
returns-else-is_outside c = c.fault.ensures ∙ fault_within c.args.number (names_of c.args.self.now.stack) _ _ (sym c.is_outside.ensures ∙ c.if-is_outside.false)
