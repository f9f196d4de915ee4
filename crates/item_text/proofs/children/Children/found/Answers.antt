use Rattle.item_text.proofs.Marks.{found_first, found_next}
use Rattle.item_text.proofs.children.Children.found.Goals as goal

pub returns-in-Some : goal.returns-in-Some
returns-in-Some c = λ rest. found_next c.args.self.now.done.items c.args.self.now.last c.in-Some.child c.given.result c.args.uid.now rest c.in-Some.is c.given.ensures

pub returns-in_default : goal.returns-in_default
returns-in_default c = λ rest. found_first c.args.self.now.done.items c.args.self.now.last c.args.uid.now rest c.in_default.is
