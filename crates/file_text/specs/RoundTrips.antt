-- RoundTrips: what a joined file is split into.
use Rattle.std.specs.Prelude.{◌≡◌, ℕ, Bool, not, List, ◌++◌, map, Some, Ok}
use Rattle.std.specs.List.{All, filter}
use Rattle.item_text.specs.Items.{ItemValue, item_of}
use Rattle.file_text.specs.Joins.{item_marks, is_calendar}
use Rattle.file_text.specs.Parts.{head_role}
use Rattle.file_text.specs.Splits.{split}

-- each is the item of its text
abbrev pub AreItems : List ItemValue → Type 0
AreItems items = All (λ (item : ItemValue). item_of item.text ≡ Some item) items

-- an item that is a VCALENDAR
abbrev pub is_calendar_item : ItemValue → Bool
is_calendar_item item = is_calendar (head_role (item_marks item.text))

-- items as a joined file has them: those that are a VCALENDAR in order, and then all others in order
abbrev pub in_file_order : List ItemValue → List ItemValue
in_file_order items = filter is_calendar_item items ++ filter (λ (item : ItemValue). not (is_calendar_item item)) items

abbrev pub idents : List ItemValue → List (List ℕ)
idents items = map (λ (item : ItemValue). item.ident) items

abbrev pub versions : List ItemValue → List (List ℕ)
versions items = map (λ (item : ItemValue). item.version) items

-- a file is split into items of the idents and the versions of these
pub record SplitsLike (file : List ℕ) (items : List ItemValue) : Type 0 where
  pub again : List ItemValue
  pub are : split file ≡ Ok again
  pub same_idents : idents again ≡ idents items
  pub same_versions : versions again ≡ versions items
