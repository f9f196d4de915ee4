use Rattle.std.proofs.Common.{ℕ, ◌+◌, drop}
use Rattle.outfits.specs.Slots.{IsAt, IsAbsent}
use Rattle.outfits.proofs.slots.find.Given as goal

-- what is found of the slots that are left is found of all
abbrev pub invariant-loop-i : goal.invariant-loop-i
invariant-loop-i g l = record {
  found : (k : ℕ) → IsAt (drop l.i l.slots) l.path k → IsAt l.slots l.path (l.i + k);
  absent : IsAbsent (drop l.i l.slots) l.path → IsAbsent l.slots l.path;
}
