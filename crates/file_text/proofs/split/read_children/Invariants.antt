use Rattle.std.proofs.Common.{◌≡◌, ℕ, List, ◌++◌, map, take, drop}
use Rattle.file_text.specs.Groups.{IsLeft}
use Rattle.file_text.specs.Parts.{groups_behind, groups}
use Rattle.file_text.specs.Spans.{parts_at}
use Rattle.file_text.specs.Splits.{calendar_text, read_behind}
use Rattle.file_text.proofs.split.read_children.Given as goal

abbrev pub invariant-loop-child : goal.invariant-loop-child
invariant-loop-child l =
    IsLeft l.lines l.left (parts_at l.lines l.children) (parts_at l.lines (take l.child-index l.children))
    × ((rest : List (List ℕ)) → read_behind l.items.items (map (calendar_text l.head) (groups_behind (parts_at l.lines l.children) (parts_at l.lines (take l.child-index l.children)) (parts_at l.lines (drop l.child-index l.children))) ++ rest)
    ≡ read_behind l.fn.items.items (map (calendar_text l.head) (groups (parts_at l.lines l.children)) ++ rest))
