-- Edits: how the text of an item with another UID is made. What that text is stands in AnotherUid. This project's own.
use Rattle.std.specs.Prelude.{ℕ, ◌==◌, Bool, true, false, nat_eq, if◌then◌else◌, List, [], ◌∷◌, ◌++◌, map, codes, is_some}
use Rattle.std.specs.List.{starts_with, onto_first, slice_split, join_with_byte}
use Rattle.item_text.specs.Lines.{continues, without_mark, logical_lines}
use Rattle.item_text.specs.Components.{Kind, Opens, Place, next_place, Placed, placed, holds_uid, uid_at}
use Rattle.item_text.specs.declared.edit.Role.{Role}
use Rattle.item_text.specs.declared.edit.Role.TheVariants.{Opener, Giver, Other}
use Rattle.item_text.specs.declared.edit.Change.{Change}
use Rattle.item_text.specs.declared.edit.Change.TheVariants.{Stays, Replaced, Followed}

-- whether a line opens a component that holds a UID: a child of a VCALENDAR, or a top component of another name
unfoldable pub opens_holder : Place → Kind → Bool
opens_holder place (Opens name) = holds_uid (next_place place (Opens name))
opens_holder place kind = false

unfoldable pub role_at : Place → Kind → Role
role_at place kind = if opens_holder place kind then Opener else if is_some (uid_at place kind) then Giver else Other

unfoldable pub role_of : Placed → Role
role_of line = role_at line.place line.kind

-- whether a UID comes before the next component that holds one
unfoldable pub gives_uid : List Role → Bool
gives_uid [] = false
gives_uid (Opener ∷ rest) = false
gives_uid (Giver ∷ rest) = true
gives_uid (Other ∷ rest) = gives_uid rest

-- In each component that holds a UID the first UID line is replaced; where there is none, the opening line is followed. `seeking`: the
-- first UID of the component that opened last is still to come.
unfoldable pub changes : Bool → List Role → List Change
changes seeking [] = []
changes seeking (Opener ∷ rest) = (if gives_uid rest then Stays else Followed) ∷ changes (gives_uid rest) rest
changes seeking (Giver ∷ rest) = (if seeking then Replaced else Stays) ∷ changes false rest
changes seeking (Other ∷ rest) = Stays ∷ changes seeking rest

-- what stands between the line feeds of a text, that of each logical line in a list of its own
unfoldable pub by_line : List (List ℕ) → List (List (List ℕ))
by_line [] = []
by_line (part ∷ []) = (part ∷ []) ∷ []
by_line (part ∷ next ∷ rest) = if continues next then onto_first part (by_line (next ∷ rest)) else (part ∷ []) ∷ by_line (next ∷ rest)

-- what becomes of the parts of one logical line
unfoldable pub changed : List ℕ → Change → List (List ℕ) → List (List ℕ)
changed new Stays parts = parts
changed new Replaced parts = new ∷ []
changed new Followed parts = parts ++ (new ∷ [])

-- what becomes of all parts; those behind the last change stay
unfoldable pub all_changed : List ℕ → List Change → List (List (List ℕ)) → List (List ℕ)
all_changed new all [] = []
all_changed new [] (parts ∷ rest) = parts ++ all_changed new [] rest
all_changed new (change ∷ more) (parts ∷ rest) = changed new change parts ++ all_changed new more rest

-- what becomes of the lines of an item
unfoldable pub changes_of : List Placed → List Change
changes_of all = changes false (map role_of all)

-- the line of a UID, without its end
abbrev pub uid_line : List ℕ → List ℕ
uid_line uid = codes "UID:" ++ uid

-- the U+FEFF at the front of a text, where it has one
unfoldable pub mark_of_text : List ℕ → List ℕ
mark_of_text text = if starts_with nat_eq text (239 ∷ 187 ∷ 191 ∷ []) then 239 ∷ 187 ∷ 191 ∷ [] else []

-- what stands between the line feeds of a text
unfoldable pub parts_of : List ℕ → List (List ℕ)
parts_of text = slice_split (λ b. b == 10) (without_mark text)

-- the text that is made
unfoldable pub with_uid : List ℕ → List ℕ → List ℕ
with_uid text uid =
    mark_of_text text ++ join_with_byte 10 (all_changed (uid_line uid ++ (13 ∷ [])) (changes_of (placed (logical_lines text))) (by_line (parts_of text)))
