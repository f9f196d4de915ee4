use Rattle.std.proofs.Common.{rules}
use Rattle.std.proofs.lemmas.Result.{on_ok_weaker}
use Rattle.std.proofs.lemmas.List.Sorted.{answers_always}
use Rattle.std.specs.Ordering.{is_lt}
use Rattle.sync_plan.specs.declared.placing.Placed.{Placed}
use Rattle.sync_plan.specs.Placing.{placed_cmp}
use Rattle.sync_plan.proofs.Indexes.{below_order}
use Rattle.sync_plan.proofs.placing.sort_by_ident.Goals as goal

pub returns-clause-sorted : goal.returns-clause-sorted
returns-clause-sorted c =
    on_ok_weaker c.sort_by.result (λ h. h (λ (x y : Placed). is_lt (placed_cmp x y)) below_order (answers_always _ _ _ (λ f a r f' called. search rules))) c.sort_by.ensures.sorted
