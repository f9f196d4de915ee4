-- Marks: what each line of a file of components is, and why a text is no such file. This project's own.
use Rattle.std.specs.Prelude.{ℕ, if◌then◌else◌, List, [], ◌∷◌, ◌++◌, map, Option, Some, None, is_some}
use Rattle.item_text.specs.Lines.{Line, trimmed}
use Rattle.item_text.specs.Components.{Kind, Opens, Closes, Blank, kind_of, Place, Before, Within, Behind, next_place, is_calendar, is_timezone, uid_at}
use Rattle.item_text.specs.Refusals.{else_of, fault_at}
use Rattle.item_text.specs.declared.item.ItemError.{ItemError}
use Rattle.item_text.specs.declared.item.ItemError.TheVariants.{Unbalanced}
use Rattle.file_text.specs.declared.marks.Mark.{Mark}
use Rattle.file_text.specs.declared.marks.Role.{Role}
use Rattle.file_text.specs.declared.marks.Role.TheVariants as role

-- behind a component of a file another may begin
unfoldable pub between : Place → Place
between Behind = Before
between place = place

-- the place in a file behind a line of this kind
unfoldable pub next_in_file : Place → Kind → Place
next_in_file place kind = between (next_place place kind)

-- The fault of a line of a file. Outside a component only the opening line of one and blank lines may stand.
unfoldable pub fault_in_file : ℕ → Place → Kind → Option ItemError
fault_in_file number (Within names) kind = fault_at number (Within names) kind
fault_in_file number outside (Opens name) = None
fault_in_file number outside kind = fault_at number Behind kind

-- the fault of the end of a file of so many physical lines: a component isn't closed
unfoldable pub fault_of_end : ℕ → Place → Option ItemError
fault_of_end count (Within names) = Some (Unbalanced count)
fault_of_end count outside = None

-- why lines behind a place are none of a file of so many physical lines: the first fault of a line, or else that of the end
unfoldable pub refusal_from : ℕ → Place → List Line → Option ItemError
refusal_from count place [] = fault_of_end count place
refusal_from count place (line ∷ rest) =
    else_of (fault_in_file line.number place (kind_of (trimmed line.text))) (refusal_from count (next_in_file place (kind_of (trimmed line.text))) rest)

-- A line opens a VCALENDAR or another component of the file. Directly in one stand its properties, the opening lines of its time
-- zones and of its other components, its children, and its closing line. Deeper stand the UIDs of the children of a VCALENDAR, and
-- all else.
unfoldable pub role_at : Place → Kind → Role
role_at (Within (top ∷ [])) (Opens name) = if is_timezone name then role.Zone else role.Child
role_at (Within (top ∷ [])) (Closes name) = role.End
role_at (Within (top ∷ [])) kind = role.Property
role_at (Within names) kind = if is_some (uid_at (Within names) kind) then role.Uid else role.Deep
role_at outside (Opens name) = if is_calendar name then role.Calendar else role.Other
role_at outside kind = role.Deep

-- a trimmed line with what it is, unless it is blank
unfoldable pub marked : Place → List ℕ → Kind → List Mark
marked place text Blank = []
marked place text kind = record { text = text; role = role_at place kind } ∷ []

-- the lines behind a place that aren't blank, trimmed, with what they are
unfoldable pub marks_from : Place → List Line → List Mark
marks_from place [] = []
marks_from place (line ∷ rest) =
    marked place (trimmed line.text) (kind_of (trimmed line.text)) ++ marks_from (next_in_file place (kind_of (trimmed line.text))) rest

-- the texts of lines
abbrev pub mark_texts : List Mark → List (List ℕ)
mark_texts marks = map (λ (mark : Mark). mark.text) marks
