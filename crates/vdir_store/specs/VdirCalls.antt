-- What the parts of the store's calls do, in the words of the side (this project's own).
use Rattle.std.specs.Prelude.{◌≡◌, ◌≢◌, ℕ, List, [], ◌∷◌, ◌++◌, map, ◌⊎◌, Option, Some, None, Result, Ok, Err}
use Rattle.std.specs.List.{AllByRecursion}
use Rattle.outside.specs.declared.folder.FileEntry.{FileEntry}
use Rattle.outside.specs.declared.folder.Expect.{Expect}
use Rattle.outside.specs.declared.folder.Expect.TheVariants.{Absent, Etag}
use Rattle.item_text.specs.declared.item.ItemError.{ItemError}
use Rattle.item_text.specs.declared.item.ItemError.TheVariants as item_error
use Rattle.store_model.specs.declared.store.Entry.{Entry}
use Rattle.store_model.specs.declared.store.Fetched.{Fetched}
use Rattle.store_model.specs.declared.store.StoreError.{StoreError}
use Rattle.store_model.specs.declared.store.StoreError.TheVariants.{BadItem, NoMemory}
use Rattle.store_model.specs.Sides.{SideState, Sometime}
use Rattle.store_model.specs.Waits.{Change}
use Rattle.store_model.specs.StoreCalls.{WasFetched, read_of, HasFault}

abbrev pub listed_entry : FileEntry → Entry
listed_entry e = record { href = e.name; etag = e.etag }

-- the answer of an item's error: want of memory stays what it is, and may come at any error
abbrev pub IsBadItem : List ℕ → ItemError → StoreError → Type 0
IsBadItem name error answer = (answer ≡ NoMemory) ⊎ ((error ≢ item_error.NoMemory) × (answer ≡ BadItem name error))

-- one href of a get
abbrev pub FetchAnswer : SideState → SideState → List ℕ → Result Fetched StoreError → Type 0
FetchAnswer s t href (Ok f) = (f.href ≡ href) × WasFetched s t f × (t.reads ≡ s.reads ++ read_of f ∷ [])
FetchAnswer s t href (Err NoMemory) = Unit {0}
FetchAnswer s t href (Err e) = Sometime (HasFault href e) s t

-- the first hrefs of a get gave these
pub record GetSoFar (hrefs : List (List ℕ)) (given : List Fetched) (s t : SideState) : Type 0 where
  pub asked : map (λ f. f.href) given ≡ hrefs
  pub fetched : AllByRecursion (WasFetched s t) given
  pub reads : t.reads ≡ s.reads ++ map read_of given

-- what a conditional write is expected to find
abbrev pub expected_by : Expect → Option (List ℕ)
expected_by Absent = None
expected_by (Etag tag) = Some tag.now

-- the change that a conditional write of a file makes
abbrev pub change_of : List ℕ → Expect → Option (List ℕ) → Change
change_of name expect sent = record { href = name; expected = expected_by expect; sent = sent }
