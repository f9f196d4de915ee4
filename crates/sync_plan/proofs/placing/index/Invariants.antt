use Rattle.std.proofs.Common.{◌≡◌, ◌<◌, ℕ, All, length, get_or, vec_len}
use Rattle.sync_plan.specs.declared.placing.Placed.{Placed}
use Rattle.sync_plan.specs.Placing.{place_in, IsEntryOf}
use Rattle.sync_plan.proofs.placing.index.Given as goal

abbrev pub invariant-loop-place : goal.invariant-loop-place
invariant-loop-place l = record {
  each : All (IsEntryOf l.list) l.placed.items;
  in_order : (k : ℕ) (d : Placed) → k < length l.placed.items → place_in (get_or l.placed.items k d) ≡ k;
  length_so_far : vec_len l.placed ≡ l.place;
}
