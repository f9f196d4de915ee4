use Rattle.std.specs.List.{AllAdjacentBelow}
use Rattle.status_keeper.specs.Idents.{Precedes}
use Rattle.sync_plan.specs.Placing.{ident_in}
use Rattle.sync_plan.proofs.placing.first_not_rising.Given as goal

abbrev pub invariant-loop-i : goal.invariant-loop-i
invariant-loop-i l = AllAdjacentBelow (λ x y. Precedes (ident_in x) (ident_in y)) l.placed l.i
