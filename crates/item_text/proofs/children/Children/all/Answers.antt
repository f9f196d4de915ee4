use Rattle.item_text.proofs.Marks.{all_alone, all_with_last}
use Rattle.item_text.proofs.children.Children.all.Goals as goal

pub returns-in_ok-push-in-Some : goal.returns-in_ok-push-in-Some
returns-in_ok-push-in-Some c = all_with_last c.args.self.done.items c.push.new.self.items c.args.self.last c.in-Some.child c.in-Some.is c.in_ok-push-in-Some.ensures.items

pub returns-in-None : goal.returns-in-None
returns-in-None c = all_alone c.args.self.done.items c.args.self.last c.in-None.is
