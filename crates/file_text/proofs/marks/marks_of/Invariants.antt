use Rattle.std.proofs.Common.{◌≡◌, ◌≤◌, None, [], length}
use Rattle.item_text.specs.Components.{Before}
use Rattle.file_text.specs.Opened.{found_from, found_behind}
use Rattle.item_text.specs.Places.{IsCounted}
use Rattle.item_text.specs.Seen.{left_behind, count_of, size_of}
use Rattle.file_text.proofs.marks.marks_of.Given as goal

abbrev pub invariant-loop-next : goal.invariant-loop-next
invariant-loop-next l =
    (found_from l.marking (count_of l.fn.lines) (left_behind None l.lines) ≡ found_behind [] Before (count_of l.fn.lines) (left_behind None l.fn.lines))
    × IsCounted l.marking.opened.stack × (count_of l.lines ≡ count_of l.fn.lines) × (size_of l.lines ≤ size_of l.fn.lines)

abbrev pub decreases-loop-next : goal.decreases-loop-next
decreases-loop-next l = length l.lines.rest.now
