use Rattle.std.proofs.Common.{◌≡◌, take}
use Rattle.children.proofs.copies.copy_places.Given as goal

-- what is copied so far
abbrev pub invariant-loop-place : goal.invariant-loop-place
invariant-loop-place l = l.copied.items ≡ take l.place-index l.places
