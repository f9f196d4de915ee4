use Rattle.std.proofs.Common.{map, ℕ, drop, List, Bor}
use Rattle.item_text.proofs.Feeding.{Fed}
use Rattle.item_text.proofs.normal.digest_of.Given as goal

abbrev pub invariant-lines : goal.invariant-lines
invariant-lines l = Fed l.hasher l.between (map (λ (x : Bor (List ℕ)). x.now) (drop l.line-index l.lines)) (map (λ (x : Bor (List ℕ)). x.now) l.lines)
