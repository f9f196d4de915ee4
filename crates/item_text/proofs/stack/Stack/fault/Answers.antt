use Rattle.item_text.proofs.Stacks.{fault_named}
use Rattle.item_text.proofs.stack.Stack.fault.Goals as goal

pub returns-in-One : goal.returns-in-One
returns-in-One c = fault_named c.args.number _ _ _ _ _ c.in-One.ensures c.requires (λ e. c.fault_within.ensures _ e)

pub returns-in-Two : goal.returns-in-Two
returns-in-Two c = fault_named c.args.number _ _ _ _ _ c.in-Two.ensures c.requires (λ e. c.fault_within-in-Two.ensures _ e)

pub returns-in-Deep : goal.returns-in-Deep
returns-in-Deep c = fault_named c.args.number _ _ _ _ _ c.in-Deep.ensures.3 c.requires (λ e. c.fault_within-in-Deep.ensures _ e)
