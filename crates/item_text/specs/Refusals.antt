-- Refusals: why a text is no item, with the line that shows it. This project's own.
use Rattle.std.specs.Prelude.{ℕ, Bool, false, ◌&&◌, not, nat_lt, if◌then◌else◌, List, [], ◌∷◌, ◌++◌, length, Option, Some, None}
use Rattle.std.specs.List.{filter_map, find}
use Rattle.std.specs.Option.{option_map}
use Rattle.std.specs.Str.{bytes_eq}
use Rattle.item_text.specs.Lines.{Line}
use Rattle.item_text.specs.declared.item.ItemError.{ItemError}
use Rattle.item_text.specs.declared.item.ItemError.TheVariants.{NoComponent, Unbalanced, Extra, LongUid, TwoUids}
use Rattle.item_text.specs.Components.{Kind, Opens, Closes, Blank, Place, Before, Within, Behind, Placed, is_calendar, is_timezone, uid_at, uid_of, placed, last_place}

-- the first of a list
unfoldable pub first_of : {X : Type 0} → List X → Option X
first_of [] = None
first_of (x ∷ rest) = Some x

-- the first of two that is there
unfoldable pub else_of : {X : Type 0} → Option X → Option X → Option X
else_of (Some x) other = Some x
else_of None other = other

-- whether a closing line of this name closes the innermost open component
unfoldable pub closes : List (List ℕ) → List ℕ → Bool
closes [] name = false
closes (innermost ∷ outer) name = bytes_eq innermost name

unfoldable pub long_uid : ℕ → Option (List ℕ) → Option ItemError
long_uid number None = None
long_uid number (Some uid) = if nat_lt 500 (length uid) then Some (LongUid number) else None

-- The fault of one line. Before the component only its opening line and blank lines may stand, behind it only blank lines. Within it
-- a closing line closes the innermost component, and a UID has at most 500 bytes.
unfoldable pub fault_at : ℕ → Place → Kind → Option ItemError
fault_at number place Blank = None
fault_at number Before (Opens name) = None
fault_at number Before kind = Some (NoComponent number)
fault_at number Behind kind = Some (Extra number)
fault_at number (Within open_names) (Closes name) = if closes open_names name then None else Some (Unbalanced number)
fault_at number (Within open_names) kind = long_uid number (uid_at (Within open_names) kind)

unfoldable pub fault_of : Placed → Option ItemError
fault_of line = fault_at line.number line.place line.kind

-- the fault of the end of a text of so many physical lines: no component came, or one isn't closed
unfoldable pub fault_of_end : ℕ → Place → List ItemError
fault_of_end count Before = NoComponent 1 ∷ []
fault_of_end count (Within open_names) = Unbalanced count ∷ []
fault_of_end count Behind = []

-- a child of a VCALENDAR: the number of its opening line, and its first UID
pub record Child : Type 0 where
  pub number : ℕ
  pub uid : Option (List ℕ)

-- what the children are told by: the opening line of a child, or a UID
pub data Mark : Type 0 where
  Begins : ℕ → Mark
  Uid : List ℕ → Mark

unfoldable pub begins_child : ℕ → Place → Kind → Option Mark
begins_child number (Within (top ∷ [])) (Opens name) = if is_calendar top && not (is_timezone name) then Some (Begins number) else None
begins_child number place kind = None

unfoldable pub mark_or : Option Mark → Option (List ℕ) → Option Mark
mark_or (Some mark) uid = Some mark
mark_or None uid = option_map Uid uid

unfoldable pub mark_of : Placed → Option Mark
mark_of line = mark_or (begins_child line.number line.place line.kind) (uid_of line)

-- the first UID before the next child
unfoldable pub first_uid : List Mark → Option (List ℕ)
first_uid (Uid uid ∷ rest) = Some uid
first_uid marks = None

unfoldable pub children_of : List Mark → List Child
children_of [] = []
children_of (Begins number ∷ rest) = record { number = number; uid = first_uid rest } ∷ children_of rest
children_of (Uid uid ∷ rest) = children_of rest

-- the direct components of a VCALENDAR other than VTIMEZONE
unfoldable pub children : List Placed → List Child
children all = children_of (filter_map mark_of all)

unfoldable pub same_uid : Option (List ℕ) → Option (List ℕ) → Bool
same_uid (Some uid) (Some other) = bytes_eq uid other
same_uid uid other = false

-- The refusals of a VCALENDAR whose opening line has this number: it has no child, or it has two or more and one of them has no UID
-- or not that of the first. The first such child is told.
unfoldable pub calendar_fault : ℕ → List Child → Option ItemError
calendar_fault number [] = Some (NoComponent number)
calendar_fault number (child ∷ []) = None
calendar_fault number (child ∷ second ∷ more) =
    option_map (λ (other : Child). TwoUids other.number) (find (λ (other : Child). not (same_uid child.uid other.uid)) (child ∷ second ∷ more))

unfoldable pub opens_calendar_at : Place → Kind → Bool
opens_calendar_at Before (Opens name) = is_calendar name
opens_calendar_at place kind = false

unfoldable pub opens_calendar : Placed → Bool
opens_calendar line = opens_calendar_at line.place line.kind

-- the refusal that the children give, where a VCALENDAR is opened in the line of this number
unfoldable pub fault_of_calendar : Option ℕ → List Child → Option ItemError
fault_of_calendar None all = None
fault_of_calendar (Some number) all = calendar_fault number all

-- Why these lines, of so many physical lines, are no item. The lowest line comes first, and at one line its own fault before that of
-- the end of the text.
unfoldable pub refusal_of : ℕ → List Line → Option ItemError
refusal_of count all =
    else_of (first_of (filter_map fault_of (placed all) ++ fault_of_end count (last_place Before all)))
    (fault_of_calendar (option_map (λ (line : Placed). line.number) (find opens_calendar (placed all))) (children (placed all)))
