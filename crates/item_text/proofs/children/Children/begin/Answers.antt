use Rattle.item_text.proofs.Marks.{begins_first, begins_next}
use Rattle.item_text.proofs.children.Children.begin.Goals as goal

pub returns-in_ok-push-in-Some : goal.returns-in_ok-push-in-Some
returns-in_ok-push-in-Some c = λ rest. begins_next c.args.self.now.done.items c.push.new.self.items c.args.self.now.last c.in-Some.child c.args.number rest c.in-Some.is c.in_ok-push-in-Some.ensures.items

pub returns-in-None : goal.returns-in-None
returns-in-None c = λ rest. begins_first c.args.self.now.done.items c.args.self.now.last c.args.number rest c.in-None.is
