use Rattle.sync_plan.proofs.Overwrites.{unsettled_open, open_unsettled}
use Rattle.sync_plan.proofs.laws.unsettled_is_open.Goals as goal

pub returns-clause-open : goal.returns-clause-open
returns-clause-open c rules v is = unsettled_open rules v is

pub returns-clause-unsettled : goal.returns-clause-unsettled
returns-clause-unsettled c rules v is = open_unsettled rules v is
