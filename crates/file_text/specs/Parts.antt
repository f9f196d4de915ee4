-- Parts: the components of a file, the parts of a component, and which children make an item. This project's own.
use Rattle.std.specs.Prelude.{ℕ, Bool, true, false, if◌then◌else◌, List, [], ◌∷◌, ◌++◌, Option, Some, None}
use Rattle.std.specs.List.{onto_first, filter, filter_map, list_any}
use Rattle.item_text.specs.Components.{value_of}
use Rattle.item_text.specs.Refusals.{first_of, same_uid}
use Rattle.file_text.specs.declared.marks.Mark.{Mark}
use Rattle.file_text.specs.declared.marks.Role.{Role}
use Rattle.file_text.specs.declared.marks.Role.TheVariants as role
use Rattle.file_text.specs.declared.parts.PartKind.{PartKind}
use Rattle.file_text.specs.declared.parts.PartKind.TheVariants as kind
use Rattle.file_text.specs.declared.parts.Level.{Level}
use Rattle.file_text.specs.declared.parts.Level.TheVariants as level

-- Where lines are cut: a file before each component, a component before each line that stands directly in it. So each property and
-- each direct component is a part.
unfoldable pub begins : Level → Role → Bool
begins level.File role.Calendar = true
begins level.File role.Other = true
begins level.File _ = false
begins level.Component role.Uid = false
begins level.Component role.Deep = false
begins level.Component _ = true

-- lines cut before each that begins a part
unfoldable pub cut : Level → List Mark → List (List Mark)
cut level [] = []
cut level (line ∷ []) = (line ∷ []) ∷ []
cut level (line ∷ next ∷ rest) = if begins level next.role then (line ∷ []) ∷ cut level (next ∷ rest) else onto_first line (cut level (next ∷ rest))

-- what the first line of a part is
unfoldable pub head_role : List Mark → Role
head_role [] = role.Deep
head_role (line ∷ rest) = line.role

-- whether a part whose first line is this is of a kind
unfoldable pub is_of : PartKind → Role → Bool
is_of kind.Property role.Property = true
is_of kind.Zone role.Zone = true
is_of kind.Child role.Child = true
is_of _ _ = false

-- the parts of a kind: the properties that stand directly in a component, its time zones, or its other components, its children
unfoldable pub parts_of : PartKind → List (List Mark) → List (List Mark)
parts_of kind parts = filter (λ part. is_of kind (head_role part)) parts

-- the UID that a line of a child gives
unfoldable pub uid_in : Role → List ℕ → Option (List ℕ)
uid_in role.Uid text = Some (value_of text)
uid_in _ text = None

-- the UID of a child: the first that it gives
unfoldable pub uid_of : List Mark → Option (List ℕ)
uid_of child = first_of (filter_map (λ (line : Mark). uid_in line.role line.text) child)

abbrev pub has_uid : List ℕ → List Mark → Bool
has_uid uid child = same_uid (uid_of child) (Some uid)

-- the children that make one item with a child: all of its UID; a child without UID is alone
unfoldable pub together : List (List Mark) → List Mark → Option (List ℕ) → List (List Mark)
together all child None = child ∷ []
together all child (Some uid) = filter (has_uid uid) all

-- the children that make an item each, of those behind others: a child begins an item unless one before it has its UID
unfoldable pub groups_behind : List (List Mark) → List (List Mark) → List (List Mark) → List (List (List Mark))
groups_behind all before [] = []
groups_behind all before (child ∷ rest) =
    if list_any (λ other. same_uid (uid_of other) (uid_of child)) before then groups_behind all (before ++ child ∷ []) rest
    else together all child (uid_of child) ∷ groups_behind all (before ++ child ∷ []) rest

-- the children of a VCALENDAR, those of each item together, in the order in which the items first appear
unfoldable pub groups : List (List Mark) → List (List (List Mark))
groups all = groups_behind all [] all
