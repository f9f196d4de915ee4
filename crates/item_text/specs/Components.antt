-- Components: what each logical line of a text is, and in which components it stands.
use Rattle.std.specs.Prelude.{ℕ, ◌==◌, Bool, false, ◌&&◌, ◌||◌, not, if◌then◌else◌, List, [], ◌∷◌, length, take, drop, map, codes, Option, Some, None, nat_le, nat_lt}
use Rattle.std.specs.Char.{to_ascii_uppercase}
use Rattle.std.specs.List.{before_first, position_or_len}
use Rattle.std.specs.Str.{bytes_eq}
use Rattle.item_text.specs.Lines.{Line, trimmed}

-- a lower-case letter of ASCII
abbrev pub is_lower : ℕ → Bool
is_lower b = nat_le 97 b && nat_le b 122

-- a text in ASCII upper case
abbrev pub upper : List ℕ → List ℕ
upper text = map to_ascii_uppercase text

-- whether a line begins with a word that is given in upper case, in any ASCII case
abbrev pub begins_with : List ℕ → List ℕ → Bool
begins_with word line = bytes_eq (upper (take (length word) line)) word

abbrev pub is_colon : ℕ → Bool
is_colon b = b == 58

abbrev pub is_semicolon : ℕ → Bool
is_semicolon b = b == 59

abbrev pub ends_name : ℕ → Bool
ends_name b = (b == 58) || (b == 59)

abbrev pub has_colon : List ℕ → Bool
has_colon line = nat_lt (position_or_len is_colon line) (length line)

-- whether a double quote is open behind a text; `quoted`: whether one is open before it
unfoldable pub quoted_behind : Bool → List ℕ → Bool
quoted_behind quoted [] = quoted
quoted_behind quoted (b ∷ bs) = if b == 34 then quoted_behind (not quoted) bs else quoted_behind quoted bs

-- what stands behind the first colon that is in no double quotes, or nothing where there is none; `quoted`: whether a quote is open
unfoldable pub behind_colon : Bool → List ℕ → List ℕ
behind_colon quoted [] = []
behind_colon quoted (b ∷ bs) =
    if b == 34 then behind_colon (not quoted) bs
    else if is_colon b && not quoted then bs
    else behind_colon quoted bs

-- a property's name: the text before its first `:` or `;`, trimmed, in upper case
unfoldable pub name_of : List ℕ → List ℕ
name_of line = upper (trimmed (before_first ends_name line))

-- a property's value, trimmed
unfoldable pub value_of : List ℕ → List ℕ
value_of line = trimmed (behind_colon false line)

-- what a trimmed line is: it opens or closes a component of a name, is a property with a name and a value, or is blank
pub data Kind : Type 0 where
  Opens : List ℕ → Kind
  Closes : List ℕ → Kind
  Property : List ℕ → List ℕ → Kind
  Blank : Kind

unfoldable pub kind_of : List ℕ → Kind
kind_of line =
    if begins_with (codes "BEGIN:") line then Opens (upper (trimmed (drop 6 line)))
    else if begins_with (codes "END:") line then Closes (upper (trimmed (drop 4 line)))
    else if length line == 0 then Blank
    else Property (name_of line) (value_of line)

-- where a line stands: before the component of the text, within the open components, the innermost first, or behind the component
pub data Place : Type 0 where
  Before : Place
  Within : List (List ℕ) → Place
  Behind : Place

-- the place behind a line that closes the innermost component
unfoldable pub outside_of : List (List ℕ) → Place
outside_of [] = Behind
outside_of (name ∷ []) = Behind
outside_of (name ∷ outer ∷ more) = Within (outer ∷ more)

-- the place behind a line of this kind at this place
unfoldable pub next_place : Place → Kind → Place
next_place Before (Opens name) = Within (name ∷ [])
next_place (Within open_names) (Opens name) = Within (name ∷ open_names)
next_place (Within open_names) (Closes name) = outside_of open_names
next_place place kind = place

-- a logical line, trimmed, with its kind and its place
pub record Placed : Type 0 where
  pub number : ℕ
  pub text : List ℕ
  pub kind : Kind
  pub place : Place

unfoldable pub placed_at : Place → Line → Placed
placed_at place line = record { number = line.number; text = trimmed line.text; kind = kind_of (trimmed line.text); place = place }

unfoldable pub placed_from : Place → List Line → List Placed
placed_from place [] = []
placed_from place (line ∷ rest) = placed_at place line ∷ placed_from (next_place place (kind_of (trimmed line.text))) rest

-- the place behind all lines
unfoldable pub last_place : Place → List Line → Place
last_place place [] = place
last_place place (line ∷ rest) = last_place (next_place place (kind_of (trimmed line.text))) rest

-- the lines of a text in their places
unfoldable pub placed : List Line → List Placed
placed all = placed_from Before all

abbrev pub is_calendar : List ℕ → Bool
is_calendar name = bytes_eq name (codes "VCALENDAR")

abbrev pub is_timezone : List ℕ → Bool
is_timezone name = bytes_eq name (codes "VTIMEZONE")

-- whether a property of this place may be a UID: directly in a child of a VCALENDAR, or directly in a top component of another name
unfoldable pub holds_uid : Place → Bool
holds_uid (Within (top ∷ [])) = not (is_calendar top)
holds_uid (Within (child ∷ top ∷ [])) = is_calendar top && not (is_timezone child)
holds_uid place = false

unfoldable pub uid_at : Place → Kind → Option (List ℕ)
uid_at place (Property name value) = if holds_uid place && bytes_eq name (codes "UID") && nat_lt 0 (length value) then Some value else None
uid_at place kind = None

-- the UID that a line gives, if it gives one
unfoldable pub uid_of : Placed → Option (List ℕ)
uid_of line = uid_at line.place line.kind
