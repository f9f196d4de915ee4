use Rattle.sync_plan.proofs.Holds.{copy_held, write_held, removal_held}
use Rattle.sync_plan.proofs.table.hold.Goals as goal

pub returns-in-CopyTo : goal.returns-in-CopyTo
returns-in-CopyTo c = copy_held c.args.rules.now c.in-CopyTo.side c.args.verdict c.hold_on.result c.in-CopyTo.is c.hold_on.ensures

pub returns-in-WriteOver : goal.returns-in-WriteOver
returns-in-WriteOver c = write_held c.args.rules.now c.in-WriteOver.side c.args.verdict c.hold_on-in-WriteOver.result c.in-WriteOver.is c.hold_on-in-WriteOver.ensures

pub returns-in-RemoveFrom : goal.returns-in-RemoveFrom
returns-in-RemoveFrom c = removal_held c.args.rules.now c.in-RemoveFrom.side c.args.verdict c.hold_on-in-RemoveFrom.result c.in-RemoveFrom.is c.hold_on-in-RemoveFrom.ensures
