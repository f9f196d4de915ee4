-- Another UID: what becomes of each line of a text, by the lines next to it that concern UIDs. This project's own.
use Rattle.std.specs.Prelude.{◌≡◌, ◌⊎◌, ◌<◌, ℕ, Bool, true, false, not, ◌&&◌, ◌||◌, if◌then◌else◌, List, [], ◌∷◌, ◌++◌, map, length, find, flat_map, Some, is_some}
use Rattle.std.specs.Option.{option_map, unwrap_or}
use Rattle.std.specs.List.{join_with_byte}
use Rattle.item_text.specs.Lines.{logical_lines}
use Rattle.item_text.specs.Components.{Placed, placed, uid_of}
use Rattle.item_text.specs.Items.{ItemValue, item_of}
use Rattle.item_text.specs.declared.item.ItemError.{ItemError}
use Rattle.item_text.specs.declared.item.ItemError.TheVariants.{TooLong, NoMemory}
use Rattle.item_text.specs.Edits.{opens_holder, by_line, uid_line, mark_of_text, parts_of}

-- whether a line opens a component that holds a UID, whether it gives a UID, and whether it does either
abbrev pub opens : Placed → Bool
opens line = opens_holder line.place line.kind

abbrev pub gives : Placed → Bool
gives line = is_some (uid_of line)

abbrev pub concerns : Placed → Bool
concerns line = opens line || gives line

-- whether of these lines the first that concerns UIDs is such a one
abbrev pub first_is : (Placed → Bool) → List Placed → Bool
first_is such lines = unwrap_or (option_map such (find concerns lines)) false

-- the UID line of a component: of the lines before it, the nearest first, the first that concerns UIDs opens the component
abbrev pub is_own : List Placed → Placed → Bool
is_own before line = gives line && first_is opens before

-- the opening line of a component without a UID line: of the lines behind it the first that concerns UIDs gives none
abbrev pub is_bare : Placed → List Placed → Bool
is_bare line after = opens line && not (first_is gives after)

-- A logical line, what stands between its line feeds, and what stands there in the text with another UID.
pub record Rewritten : Type 0 where
  pub line : Placed
  pub old : List (List ℕ)
  pub new : List (List ℕ)

-- the new line takes the place of a component's own UID line, and stands behind the opening line of a component without one; any other line stays
abbrev pub becomes : List ℕ → List Placed → Placed → List Placed → List (List ℕ) → List (List ℕ)
becomes new before line after old = if is_own before line then new ∷ [] else if is_bare line after then old ++ (new ∷ []) else old

abbrev pub AllBecome : List ℕ → List Placed → List Rewritten → Type 0
AllBecome new before [] = Unit {0}
AllBecome new before (r ∷ rest) = (r.new ≡ becomes new before r.line (map (λ x. x.line) rest) r.old) × AllBecome new (r.line ∷ before) rest

-- what stands between the line feeds of all lines, before and after, and of the end of the text behind them
abbrev pub all_old : List Rewritten → List (List (List ℕ)) → List (List ℕ)
all_old lines end = flat_map (λ r. r.old) lines ++ flat_map (λ parts. parts) end

abbrev pub all_new : List Rewritten → List (List (List ℕ)) → List (List ℕ)
all_new lines end = flat_map (λ r. r.new) lines ++ flat_map (λ parts. parts) end

-- A text and the same with another UID: of its logical lines, in order, each becomes what it is to become. All else stands as it stood.
pub record HasAnotherUid (text uid edited : List ℕ) : Type 0 where
  pub lines : List Rewritten
  pub end : List (List (List ℕ))
  pub are : map (λ r. r.line) lines ≡ placed (logical_lines text)
  pub parts : map (λ r. r.old) lines ++ end ≡ by_line (parts_of text)
  pub become : AllBecome (uid_line uid ++ (13 ∷ [])) [] lines
  pub before : text ≡ mark_of_text text ++ join_with_byte 10 (all_old lines end)
  pub after : edited ≡ mark_of_text text ++ join_with_byte 10 (all_new lines end)

-- why an item gets no other UID: its text would be too long, or memory ran out
abbrev pub IsRefused : List ℕ → List ℕ → ItemError → Type 0
IsRefused text uid error = (error ≡ NoMemory) ⊎ ((error ≡ TooLong) × ((edited : List ℕ) × HasAnotherUid text uid edited × (8388608 < length edited)))

-- an item and the same with another UID
pub record IsWithUid (item : ItemValue) (uid : List ℕ) (other : ItemValue) : Type 0 where
  pub text : HasAnotherUid item.text uid other.text
  pub ident : other.ident ≡ uid
  pub has_uid : other.has_uid ≡ true
  pub version : other.version ≡ item.version
  pub is_item : item_of other.text ≡ Some other
