use Rattle.item_text.proofs.Stacks.{entered}
use Rattle.item_text.proofs.stack.Stack.enter.Goals as goal

pub returns-then-is_timezone-clause-place : goal.returns-then-is_timezone-clause-place
returns-then-is_timezone-clause-place c = entered c.args.self.now.names.items _ c.args.name c.in_ok-push.ensures.items

pub returns-else-is_timezone-clause-place : goal.returns-else-is_timezone-clause-place
returns-else-is_timezone-clause-place c = entered c.args.self.now.names.items _ c.args.name c.in_ok-push.ensures.items
