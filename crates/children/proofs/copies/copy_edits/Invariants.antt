use Rattle.std.proofs.Common.{◌≡◌, take}
use Rattle.children.proofs.copies.copy_edits.Given as goal

-- what is copied so far
abbrev pub invariant-loop-edited : goal.invariant-loop-edited
invariant-loop-edited l = l.copied.items ≡ take l.edited-index l.edits
