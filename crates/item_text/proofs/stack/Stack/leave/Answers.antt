use Rattle.std.proofs.Common.{arith}
use Rattle.item_text.proofs.Stacks.{left, left_none}
use Rattle.item_text.proofs.stack.Stack.leave.Goals as goal

pub returns-then-is_timezone-clause-place : goal.returns-then-is_timezone-clause-place
returns-then-is_timezone-clause-place c = left c.args.self.now.names.items _ c.in-Some.name c.in-Some.ensures.items

pub returns-else-is_timezone-clause-place : goal.returns-else-is_timezone-clause-place
returns-else-is_timezone-clause-place c = left c.args.self.now.names.items _ c.in-Some.name c.in-Some.ensures.items

pub returns-in_default-clause-place : goal.returns-in_default-clause-place
returns-in_default-clause-place c = left_none c.args.self.now.names.items c.pop.new.self.items c.in_default.ensures.items (omega (arith, c.in_default.ensures.cases.1, c.pop.new.self.ok.0))
