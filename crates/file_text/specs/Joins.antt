-- Joins: the file of items. This project's own.
use Rattle.std.specs.Prelude.{ℕ, ◌+◌, Bool, true, false, not, if◌then◌else◌, nat_lt, List, [], ◌∷◌, ◌++◌, map, length, codes, Result, Ok, Err}
use Rattle.std.specs.List.{filter, flat_map, list_any}
use Rattle.std.specs.Str.{bytes_eq}
use Rattle.item_text.specs.Lines.{logical_lines}
use Rattle.item_text.specs.Components.{Before}
use Rattle.item_text.specs.Items.{ItemValue}
use Rattle.item_text.specs.declared.item.ItemError.{ItemError}
use Rattle.item_text.specs.declared.item.ItemError.TheVariants.{TooLong}
use Rattle.file_text.specs.Marks.{marks_from}
use Rattle.file_text.specs.Parts.{cut, parts_of, head_role}
use Rattle.file_text.specs.Splits.{split}
use Rattle.file_text.specs.Written.{folded, written, all_written}
use Rattle.file_text.specs.declared.marks.Mark.{Mark}
use Rattle.file_text.specs.declared.marks.Role.{Role}
use Rattle.file_text.specs.declared.marks.Role.TheVariants as role
use Rattle.file_text.specs.declared.parts.Level.TheVariants as level
use Rattle.file_text.specs.declared.parts.PartKind.TheVariants as kind

-- the lines of an item's text that aren't blank, trimmed, with what they are
unfoldable pub item_marks : List ℕ → List Mark
item_marks text = marks_from Before (logical_lines text)

abbrev pub is_calendar : Role → Bool
is_calendar role.Calendar = true
is_calendar _ = false

-- the items that are a VCALENDAR, and all others
unfoldable pub calendars : List (List Mark) → List (List Mark)
calendars items = filter (λ item. is_calendar (head_role item)) items

unfoldable pub others : List (List Mark) → List (List Mark)
others items = filter (λ item. not (is_calendar (head_role item))) items

-- the opening line and the properties of the first VCALENDAR
unfoldable pub head_of : List Mark → List ℕ
head_of calendar = folded (codes "BEGIN:VCALENDAR") ++ all_written (parts_of kind.Property (cut level.Component calendar))

unfoldable pub first_head : List (List Mark) → List ℕ
first_head [] = []
first_head (calendar ∷ rest) = head_of calendar

-- the closing line, where there is a VCALENDAR
unfoldable pub end_of : List (List Mark) → List ℕ
end_of [] = []
end_of (calendar ∷ rest) = folded (codes "END:VCALENDAR")

-- the time zones of a VCALENDAR, each as it is written
unfoldable pub zones_of : List Mark → List (List ℕ)
zones_of calendar = map written (parts_of kind.Zone (cut level.Component calendar))

-- those that weren't written before, where these were
unfoldable pub new_zones : List (List ℕ) → List (List ℕ) → List (List ℕ)
new_zones before [] = []
new_zones before (zone ∷ rest) = if list_any (bytes_eq zone) before then new_zones (before ++ zone ∷ []) rest else zone ∷ new_zones (before ++ zone ∷ []) rest

unfoldable pub all_zones : List (List ℕ) → List ℕ
all_zones zones = flat_map (λ zone. zone) (new_zones [] zones)

-- the children of a VCALENDAR
abbrev pub children_in : List Mark → List (List Mark)
children_in calendar = parts_of kind.Child (cut level.Component calendar)

-- and as they are written
unfoldable pub children_of : List Mark → List ℕ
children_of calendar = all_written (children_in calendar)

-- the bytes that stand round the children of each item of a VCALENDAR as it is split
abbrev pub frame_of : List (List Mark) → ℕ
frame_of items = length (first_head (calendars items) ++ all_zones (flat_map zones_of (calendars items))) + length (end_of (calendars items))

-- One VCALENDAR of all that the items have, where there is one: the properties of the first, each time zone once, all children. Then all
-- other items.
unfoldable pub joined : List (List Mark) → List ℕ
joined items =
    (((first_head (calendars items) ++ all_zones (flat_map zones_of (calendars items))) ++ flat_map children_of (calendars items)) ++ end_of (calendars items))
    ++ all_written (others items)

abbrev pub is_too_long : Result (List ItemValue) ItemError → Bool
is_too_long (Err TooLong) = true
is_too_long _ = false

-- A file of more than 256 MiB is too long, and so is one of which an item as it is split has more than 8 MiB.
unfoldable pub limited : List ℕ → Result (List ℕ) ItemError
limited file = if nat_lt 268435456 (length file) then Err TooLong else if is_too_long (split file) then Err TooLong else Ok file

-- the file of items of these texts
unfoldable pub join : List (List ℕ) → Result (List ℕ) ItemError
join texts = limited (joined (map item_marks texts))
