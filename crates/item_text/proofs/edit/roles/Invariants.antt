use Rattle.std.proofs.Common.{◌≤◌, None, map, length}
use Rattle.item_text.specs.Components.{placed}
use Rattle.item_text.specs.Edits.{role_of}
use Rattle.item_text.specs.Places.{place_seen, IsCounted}
use Rattle.item_text.specs.Seen.{left_behind, size_of}
use Rattle.item_text.proofs.RoleSteps.{Met}
use Rattle.item_text.proofs.edit.roles.Given as goal

abbrev pub invariant-loop-all : goal.invariant-loop-all
invariant-loop-all l =
    IsCounted l.stack × Met (place_seen l.stack) l.all.items (left_behind None l.lines) (map role_of (placed (left_behind None l.fn.lines))) × (size_of l.lines ≤ size_of l.fn.lines)

abbrev pub decreases-loop-all : goal.decreases-loop-all
decreases-loop-all l = length l.lines.rest.now
