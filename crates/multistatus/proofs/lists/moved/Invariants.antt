use Rattle.std.proofs.Common.{◌≡◌, ◌++◌, length, reverse}
use Rattle.multistatus.proofs.lists.moved.Given as goal

abbrev pub invariant-loop-value : goal.invariant-loop-value
invariant-loop-value o l = l.left.items ++ reverse l.places.items ≡ l.fn.values.items

abbrev pub decreases-loop-value : goal.decreases-loop-value
decreases-loop-value o l = length l.left.items
