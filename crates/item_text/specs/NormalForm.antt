-- The normal form of an item: what two texts of the same item have in common. This project's own.
use Rattle.std.specs.Prelude.{ℕ, Bool, false, ◌&&◌, not, if◌then◌else◌, List, [], ◌∷◌, ◌++◌, map, codes}
use Rattle.std.specs.List.{filter, list_any}
use Rattle.std.specs.Str.{bytes_eq}
use Rattle.std.specs.Ordering.{nat_cmp, is_lt}
use Rattle.std.specs.Cmp.Lexicographic.{slice_cmp}
use Rattle.item_text.specs.Components.{Kind, Opens, Closes, Property, Blank, Place, Within, Placed, is_calendar, is_timezone}

-- the properties that a program writes anew without a change of the item, and the UID
abbrev pub dropped_names : List (List ℕ)
dropped_names =
    codes "PRODID" ∷ codes "METHOD" ∷ codes "REV" ∷ codes "LAST-MODIFIED" ∷ codes "CREATED" ∷ codes "DTSTAMP"
    ∷ codes "UID" ∷ codes "X-RADICALE-NAME" ∷ codes "X-WR-CALNAME" ∷ []

unfoldable pub is_dropped : List ℕ → Bool
is_dropped name = list_any (bytes_eq name) dropped_names

-- the components round a line of this place
unfoldable pub open_at : Place → List (List ℕ)
open_at (Within open_names) = open_names
open_at place = []

unfoldable pub is_in_calendar : List (List ℕ) → Bool
is_in_calendar [] = false
is_in_calendar (name ∷ outer) = is_calendar name

-- whether the normal form keeps a line: no blank line, nothing of a VTIMEZONE, no property directly in a VCALENDAR or of a dropped name
unfoldable pub keeps : List (List ℕ) → Kind → Bool
keeps open_names (Opens name) = not (list_any is_timezone (name ∷ open_names))
keeps open_names (Closes name) = not (list_any is_timezone open_names)
keeps open_names (Property name value) = not (list_any is_timezone open_names) && not (is_in_calendar open_names) && not (is_dropped name)
keeps open_names Blank = false

unfoldable pub is_kept : Placed → Bool
is_kept line = keeps (open_at line.place) line.kind

-- a line as the normal form has it
unfoldable pub written_as : List ℕ → Kind → List ℕ
written_as text (Opens name) = codes "BEGIN:" ++ name
written_as text (Closes name) = codes "END:" ++ name
written_as text kind = text

unfoldable pub written : Placed → List ℕ
written line = written_as line.text line.kind

-- a line put into lines that stand in the order of their bytes
unfoldable pub put_in_order : List ℕ → List (List ℕ) → List (List ℕ)
put_in_order line [] = line ∷ []
put_in_order line (next ∷ rest) = if is_lt (slice_cmp nat_cmp next line) then next ∷ put_in_order line rest else line ∷ next ∷ rest

-- lines in the order of their bytes
unfoldable pub in_order : List (List ℕ) → List (List ℕ)
in_order [] = []
in_order (line ∷ rest) = put_in_order line (in_order rest)

-- lines, each behind a line's end
unfoldable pub each_behind_end : List (List ℕ) → List ℕ
each_behind_end [] = []
each_behind_end (line ∷ rest) = (13 ∷ 10 ∷ []) ++ line ++ each_behind_end rest

-- lines joined by a carriage return and a line feed, without one at the end
unfoldable pub joined : List (List ℕ) → List ℕ
joined [] = []
joined (line ∷ rest) = line ++ each_behind_end rest

unfoldable pub normal_form : List Placed → List ℕ
normal_form all = joined (in_order (map written (filter is_kept all)))
