use Rattle.std.proofs.Common.{◌≡◌, ◌≤◌, None, length}
use Rattle.item_text.specs.Seen.{left_behind, count_of, size_of}
use Rattle.item_text.specs.Places.{IsCounted}
use Rattle.item_text.specs.Walks.{found_from, found_in}
use Rattle.item_text.proofs.walk.go_over.Given as goal

abbrev pub invariant-loop-next : goal.invariant-loop-next
invariant-loop-next l =
    IsCounted l.walk.stack × (found_from l.walk (left_behind None l.lines) ≡ found_in (left_behind None l.fn.lines)) × (count_of l.lines ≡ count_of l.fn.lines) × (size_of l.lines ≤ size_of l.fn.lines)

abbrev pub decreases-loop-next : goal.decreases-loop-next
decreases-loop-next l = length l.lines.rest.now
