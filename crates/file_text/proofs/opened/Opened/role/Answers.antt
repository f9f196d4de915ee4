use Rattle.item_text.specs.Places.{names_of}
use Rattle.file_text.proofs.Opening.{role_outside, role_direct, role_deep}
use Rattle.file_text.proofs.opened.Opened.role.Goals as goal

pub returns-in-Empty : goal.returns-in-Empty
returns-in-Empty c = role_outside (names_of c.args.self.now.stack) _ _ _ c.in-Empty.ensures c.role_outside.ensures

pub returns-in-One : goal.returns-in-One
returns-in-One c = role_direct (names_of c.args.self.now.stack) _ _ _ _ c.in-One.ensures (c.direct_role.ensures _)

pub returns-in-Two : goal.returns-in-Two
returns-in-Two c = role_deep (names_of c.args.self.now.stack) _ _ _ _ _ _ _ c.in-Two.ensures c.requires c.deep_role.ensures

pub returns-in-Deep : goal.returns-in-Deep
returns-in-Deep c = role_deep (names_of c.args.self.now.stack) _ _ _ _ _ _ _ c.in-Deep.ensures.3 c.requires c.deep_role-in-Deep.ensures
