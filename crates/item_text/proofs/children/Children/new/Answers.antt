use Rattle.item_text.proofs.Marks.{starts}
use Rattle.item_text.proofs.children.Children.new.Goals as goal

pub returns : goal.returns
returns c = λ rest. starts c.new.result.items rest c.new.ensures.items
