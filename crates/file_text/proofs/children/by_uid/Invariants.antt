use Rattle.std.proofs.Common.{◌≡◌, ℕ, List, filter, take}
use Rattle.file_text.specs.Parts.{has_uid}
use Rattle.file_text.specs.Spans.{parts_at, children_at}
use Rattle.file_text.proofs.children.by_uid.Given as goal

abbrev pub invariant-loop-child : goal.invariant-loop-child
invariant-loop-child l = (q : List ℕ) → children_at l.lines l.map q ≡ filter (has_uid q) (parts_at l.lines (take l.child-index l.children))
