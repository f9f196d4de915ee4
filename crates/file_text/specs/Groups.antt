-- Groups: the children that make an item with the next child of a VCALENDAR, and those that are still to come.
use Rattle.std.specs.Prelude.{ℕ, ◌≡◌, if◌then◌else◌, List, [], ◌∷◌}
use Rattle.std.specs.List.{filter, list_any}
use Rattle.std.specs.BTreeMap.{BTreeMap}
use Rattle.std.specs.declared.string.String.{String}
use Rattle.std.specs.declared.vec.Vec.{Vec}
use Rattle.std.specs.declared.alloc.Global.{Global}
use Rattle.item_text.specs.Refusals.{same_uid}
use Rattle.file_text.specs.Parts.{uid_of, has_uid, together}
use Rattle.file_text.specs.Spans.{children_at}
use Rattle.file_text.specs.declared.marks.Mark.{Mark}
use Rattle.file_text.specs.declared.parts.Span.{Span}

-- the children that make an item with a child that stands behind others, or none where one before it has its UID
unfoldable pub group_of : List (List Mark) → List (List Mark) → List Mark → List (List Mark)
group_of all before child = if list_any (λ other. same_uid (uid_of other) (uid_of child)) before then [] else together all child (uid_of child)

-- the group alone, or nothing where it has no child
abbrev pub some_group : List (List Mark) → List (List (List Mark))
some_group [] = []
some_group (child ∷ more) = (child ∷ more) ∷ []

-- a map holds the children of each UID that none before has
pub record IsLeft (lines : List Mark) (by_uid : BTreeMap (String Global) (Vec Span Global)) (all before : List (List Mark)) : Type 0 where
  pub each : (q : List ℕ) → children_at lines by_uid q ≡ (if list_any (has_uid q) before then [] else filter (has_uid q) all)
