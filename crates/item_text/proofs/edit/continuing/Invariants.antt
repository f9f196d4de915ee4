use Rattle.std.proofs.Common.{◌≡◌, ◌+◌, ℕ, List, map, drop, Bor}
use Rattle.item_text.proofs.EditSteps.{continuing}
use Rattle.item_text.proofs.edit.continuing.Given as goal

abbrev pub invariant-loop-part : goal.invariant-loop-part
invariant-loop-part l =
    (l.count ≡ l.part-index) × (continuing (map (λ (x : Bor (List ℕ)). x.now) l.parts) ≡ l.count + continuing (map (λ (x : Bor (List ℕ)). x.now) (drop l.part-index l.parts)))
