-- Splits: the items of a file of components. This project's own.
use Rattle.std.specs.Prelude.{ℕ, if◌then◌else◌, nat_lt, List, [], ◌∷◌, ◌++◌, map, length, codes, Option, Some, None, Result, Ok, Err}
use Rattle.std.specs.List.{flat_map}
use Rattle.std.specs.Str.{is_utf8}
use Rattle.std.specs.Str.Lossy.{utf8_valid_len}
use Rattle.item_text.specs.Lines.{physical_lines, logical_lines}
use Rattle.item_text.specs.Components.{Before}
use Rattle.item_text.specs.Items.{ItemValue, read_item}
use Rattle.item_text.specs.declared.item.ItemError.{ItemError}
use Rattle.item_text.specs.declared.item.ItemError.TheVariants.{TooLong, NotUtf8}
use Rattle.file_text.specs.Marks.{refusal_from, marks_from}
use Rattle.file_text.specs.Parts.{cut, parts_of, groups, head_role}
use Rattle.file_text.specs.Written.{folded, written, all_written}
use Rattle.file_text.specs.declared.marks.Mark.{Mark}
use Rattle.file_text.specs.declared.marks.Role.{Role}
use Rattle.file_text.specs.declared.marks.Role.TheVariants as role
use Rattle.file_text.specs.declared.parts.Level.TheVariants as level
use Rattle.file_text.specs.declared.parts.PartKind.TheVariants as kind

-- what stands before the children in each item of a VCALENDAR: its properties and all its time zones
unfoldable pub calendar_head : List (List Mark) → List ℕ
calendar_head parts = (folded (codes "BEGIN:VCALENDAR") ++ all_written (parts_of kind.Property parts)) ++ all_written (parts_of kind.Zone parts)

-- the text of an item with these children
unfoldable pub calendar_text : List ℕ → List (List Mark) → List ℕ
calendar_text head group = (head ++ all_written group) ++ folded (codes "END:VCALENDAR")

-- the texts of the items of the parts of a VCALENDAR: each has the properties and the time zones of all
unfoldable pub calendar_texts : List (List Mark) → List (List ℕ)
calendar_texts parts = map (calendar_text (calendar_head parts)) (groups (parts_of kind.Child parts))

-- the texts of the items of a component: any other than a VCALENDAR is one item
unfoldable pub texts_by : Role → List Mark → List (List ℕ)
texts_by role.Calendar component = calendar_texts (cut level.Component component)
texts_by _ component = written component ∷ []

unfoldable pub texts_of : List Mark → List (List ℕ)
texts_of component = texts_by (head_role component) component

-- the texts of the items of a file
unfoldable pub file_texts : List Mark → List (List ℕ)
file_texts marks = flat_map texts_of (cut level.File marks)

-- what comes of a value, unless there is a refusal in its place
unfoldable pub go_on : {X Y : Type 0} → Result X ItemError → (X → Result Y ItemError) → Result Y ItemError
go_on (Ok x) next = next x
go_on (Err refusal) next = Err refusal

-- these items and those that the texts read as, or the refusal of the first text that is none
unfoldable pub read_behind : List ItemValue → List (List ℕ) → Result (List ItemValue) ItemError
read_behind items [] = Ok items
read_behind items (text ∷ rest) = go_on (read_item text) (λ item. read_behind (items ++ item ∷ []) rest)

unfoldable pub unless_refused : Option ItemError → Result (List ItemValue) ItemError → Result (List ItemValue) ItemError
unless_refused None items = items
unless_refused (Some refusal) items = Err refusal

-- the items of a file that is UTF-8, or why it is none
unfoldable pub split_text : List ℕ → Result (List ItemValue) ItemError
split_text text =
    unless_refused (refusal_from (length (physical_lines text)) Before (logical_lines text)) (read_behind [] (file_texts (marks_from Before (logical_lines text))))

-- The items of a file, in order. A file of more than 256 MiB is too long; one that isn't UTF-8 is refused with the length of its longest
-- UTF-8 front.
unfoldable pub split : List ℕ → Result (List ItemValue) ItemError
split text = if nat_lt 268435456 (length text) then Err TooLong else if is_utf8 text then split_text text else Err (NotUtf8 (utf8_valid_len text))
