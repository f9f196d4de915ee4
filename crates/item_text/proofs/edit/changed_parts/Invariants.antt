use Rattle.std.proofs.Common.{◌≡◌, ◌≤◌, ◌++◌, ◌-◌, ℕ, List, map, length, drop, Bor}
use Rattle.item_text.specs.Edits.{by_line, all_changed}
use Rattle.item_text.proofs.edit.changed_parts.Given as goal

abbrev pub invariant-loop-start : goal.invariant-loop-start
invariant-loop-start l =
    (l.start ≤ length l.parts)
    × (map (λ (x : Bor (List ℕ)). x.now) l.all.items ++ all_changed l.new l.left (by_line (map (λ (x : Bor (List ℕ)). x.now) (drop l.start l.parts))) ≡ all_changed l.new l.changes (by_line (map (λ (x : Bor (List ℕ)). x.now) l.parts)))

abbrev pub decreases-loop-start : goal.decreases-loop-start
decreases-loop-start l = length l.parts - l.start
