-- What each call of a store may do, where the store tells its side (this project's own).
use Rattle.std.specs.Prelude.{◌≡◌, ◌≢◌, ℕ, Bool, true, false, ◌&&◌, ◌||◌, nat_le, List, [], ◌∷◌, ◌++◌, ◌⊎◌, ◌<◌, ◌≤◌, length, map, Option, Some, None, Result, Ok, Err}
use Rattle.std.specs.List.{AllByRecursion, list_all, list_any}
use Rattle.std.specs.Str.{bytes_eq}
use Rattle.std.specs.FinMap as fin
use Rattle.std.specs.declared.vec.Vec.{Vec}
use Rattle.std.specs.declared.alloc.Global.{Global}
use Rattle.item_text.specs.Items.{ItemValue, item_of, read_item}
use Rattle.item_text.specs.declared.item.ItemError.TheVariants as item_error
use Rattle.store_model.specs.declared.event.Held.{Held}
use Rattle.store_model.specs.declared.event.StoreEvent.{StoreEvent}
use Rattle.store_model.specs.declared.event.StoreEvent.TheVariants.{Edited, Toggled, Wrote, Read}
use Rattle.store_model.specs.declared.store.Entry.{Entry}
use Rattle.store_model.specs.declared.store.Fetched.{Fetched}
use Rattle.store_model.specs.declared.store.Put.{Put}
use Rattle.store_model.specs.declared.store.HookNote.{HookNote}
use Rattle.store_model.specs.declared.store.StoreError.{StoreError}
use Rattle.store_model.specs.declared.store.StoreError.TheVariants.{Fault, Moved, TooLong, TooMany, NotThere, Vanished, BadItem, NoMemory}
use Rattle.outside.specs.Runs.{ChangesBy}
use Rattle.outside.specs.declared.folder.FolderError.{FolderError}
use Rattle.outside.specs.declared.folder.FolderError.TheVariants as folder_error
use Rattle.store_model.specs.Sides.{Content, SideState, happens, IsTrueEvent, Evolves, IsOutside, Sometime, WasRead, WasEdited, Writes, HoldsAt}
use Rattle.store_model.specs.Waits.{Change, In, fits, new_at, Acts, Sent, Flushes}

abbrev pub entry_of : List ℕ × Held → Entry
entry_of e = record { href = e.0; etag = (e.1).etag }

-- whether an entry is within the limits of a listing: an href of 1,000 bytes, and an etag of 300
abbrev pub is_short : Entry → Bool
is_short e = nat_le (length e.href) 1000 && nat_le (length e.etag) 300

-- what list answers of the side at a moment of the call. Where several refusals hold, NotThere comes before TooMany, and that before TooLong
abbrev pub IsListing : Result (Vec Entry Global) StoreError → SideState → Type 0
IsListing (Ok entries) m = (m.is_there ≡ true) × (entries.items ≡ map entry_of (fin.entries m.content)) × (length entries.items ≤ 100000) × (list_all is_short entries.items ≡ true)
IsListing (Err NotThere) m = m.is_there ≡ false
IsListing (Err TooMany) m = (m.is_there ≡ true) × (100000 < length (fin.entries m.content))
IsListing (Err TooLong) m = (m.is_there ≡ true) × (length (fin.entries m.content) ≤ 100000) × (list_all is_short (map entry_of (fin.entries m.content)) ≡ false)
IsListing (Err Moved) m = ⊥
IsListing (Err (Vanished href)) m = ⊥
IsListing (Err (BadItem href error)) m = ⊥
IsListing (Err Fault) m = Unit {0}
IsListing (Err NoMemory) m = Unit {0}

-- the same, and what the store recalls from it is what it held
abbrev pub IsListed : (Content → Type 0) → Result (Vec Entry Global) StoreError → SideState → Type 0
IsListed recalls (Ok entries) m = IsListing (Ok entries) m × ((c : Content) → recalls c → c ≡ m.content)
IsListed recalls (Err e) m = IsListing (Err e) m

-- the hrefs in use, as a store knows them, after a listing: those that it gave, and the same as before where it failed
abbrev pub TakenByList : (List ℕ → Bool) → (List ℕ → Bool) → Result (Vec Entry Global) StoreError → Type 0
TakenByList had has (Ok entries) = (q : List ℕ) → has q ≡ list_any (λ e. bytes_eq q e.href) entries.items
TakenByList had has (Err e) = (q : List ℕ) → has q ≡ had q

-- and after a new item: one more where it was stored, and the same as before where it wasn't
abbrev pub TakenByPut : (List ℕ → Bool) → (List ℕ → Bool) → Result Put StoreError → Type 0
TakenByPut had has (Ok put) = (q : List ℕ) → has q ≡ (bytes_eq put.href q || had q)
TakenByPut had has (Err e) = (q : List ℕ) → has q ≡ had q

-- the collection is there, and each href at which something stands is in use as the store knows it
pub record IsKnown (taken : List ℕ → Bool) (m : SideState) : Type 0 where
  pub there : m.is_there ≡ true
  pub covers : (q : List ℕ) → taken q ≡ false → fin.get m.content q ≡ None

-- after a new item was put into a side that was known: it is known still, unless an edit from outside came. Without such an edit no name was taken
abbrev pub KnownAfterPut : SideState → (List ℕ → Bool) → SideState → Result Put StoreError → Type 0
KnownAfterPut s taken t (Ok put) = WasEdited s t ⊎ IsKnown taken t
KnownAfterPut s taken t (Err Moved) = WasEdited s t
KnownAfterPut s taken t (Err Fault) = Unit {0}
KnownAfterPut s taken t (Err NoMemory) = Unit {0}
KnownAfterPut s taken t (Err TooLong) = ⊥
KnownAfterPut s taken t (Err TooMany) = ⊥
KnownAfterPut s taken t (Err NotThere) = ⊥
KnownAfterPut s taken t (Err (Vanished href)) = ⊥
KnownAfterPut s taken t (Err (BadItem href error)) = ⊥

-- a store changed by events of this kind alone, where it tells its side; its count of faults doesn't fall
abbrev pub Changes : {X : Type 0} → (X → ℕ) → (X → Type 0) → (X → SideState) → (StoreEvent → Type 0) → X → X → Type 0
Changes count tells side Kind old new = ChangesBy happens IsTrueEvent count tells side Kind old new

-- the text of a fetched item stood at its href under its etag, and was read
pub record WasFetched (s t : SideState) (f : Fetched) : Type 0 where
  pub is_item : item_of f.item.text ≡ Some f.item
  pub stood : Sometime (HoldsAt f.href (record { etag = f.etag; text = f.item.text })) s t
  pub was_read : WasRead s t f.item.text

-- at a moment from s to t it was so, or it was so as the store recalls from its listing
abbrev pub StoodOrListed : (Content → Type 0) → (SideState → Type 0) → SideState → SideState → Type 0
StoodOrListed recalls Was s t = Sometime Was s t ⊎ ((m : SideState) × recalls m.content × Was m)

-- the text of an item that get answers stood there so, and was read
pub record WasGot (recalls : Content → Type 0) (s t : SideState) (f : Fetched) : Type 0 where
  pub is_item : item_of f.item.text ≡ Some f.item
  pub stood : StoodOrListed recalls (HoldsAt f.href (record { etag = f.etag; text = f.item.text })) s t
  pub was_read : WasRead s t f.item.text

abbrev pub read_of : Fetched → List ℕ × List ℕ
read_of f = (f.href, f.item.text)

-- why an asked href has no item, by the side at a moment
abbrev pub HasFault : List ℕ → StoreError → SideState → Type 0
HasFault href (Vanished name) m = (name ≡ href) × (fin.get m.content href ≡ None)
HasFault href (BadItem name error) m = (name ≡ href) × ((held : Held) × (fin.get m.content href ≡ Some held) × (read_item held.text ≡ Err error))
HasFault href Fault m = Unit {0}
HasFault href NoMemory m = Unit {0}
HasFault href TooLong m = ⊥
HasFault href Moved m = ⊥
HasFault href TooMany m = ⊥
HasFault href NotThere m = ⊥

-- the hrefs before this one gave their items, and at a moment this one had the fault
pub record StopsAt (recalls : Content → Type 0) (s t : SideState) (hrefs : List (List ℕ)) (error : StoreError) : Type 0 where
  pub given : List Fetched
  pub href : List ℕ
  pub rest : List (List ℕ)
  pub asked : hrefs ≡ map (λ f. f.href) given ++ href ∷ rest
  pub fetched : AllByRecursion (WasGot recalls s t) given
  pub fault : StoodOrListed recalls (HasFault href error) s t

abbrev pub GetAnswer : (Content → Type 0) → SideState → SideState → List (List ℕ) → Result (Vec Fetched Global) StoreError → Type 0
GetAnswer recalls s t hrefs (Ok fetched) = (map (λ f. f.href) fetched.items ≡ hrefs) × AllByRecursion (WasGot recalls s t) fetched.items × (t.reads ≡ s.reads ++ map read_of fetched.items)
GetAnswer recalls s t hrefs (Err NoMemory) = Unit {0}
GetAnswer recalls s t hrefs (Err e) = StopsAt recalls s t hrefs e

-- edits from outside, and readings at these hrefs
abbrev pub IsGetOf : List (List ℕ) → StoreEvent → Type 0
IsGetOf hrefs (Edited href old new) = Unit {0}
IsGetOf hrefs Toggled = Unit {0}
IsGetOf hrefs (Wrote href old new sent) = ⊥
IsGetOf hrefs (Read href text) = In href hrefs

-- edits from outside, and own writes that store this item where nothing stood
abbrev pub IsPutOf : ItemValue → StoreEvent → Type 0
IsPutOf item (Wrote href None (Some held) (Some sent)) = sent ≡ item.text
IsPutOf item (Wrote href old new sent) = ⊥
IsPutOf item (Edited href old new) = Unit {0}
IsPutOf item Toggled = Unit {0}
IsPutOf item (Read href text) = ⊥

-- the item was stored at this href, where nothing stood, and the store then held it under this etag
pub record StoresNew (s t : SideState) (item : ItemValue) (href : List ℕ) (held : Held) : Type 0 where
  pub writes : Writes (Wrote href None (Some held) (Some item.text)) s t

-- what an error of a writing call leaves: where it moved nothing was written, and else the change acted whole or not at all.
-- No store that tells its side has a limit on what it is sent
abbrev pub Unsent : Change → SideState → List Change → SideState → List Change → StoreError → Type 0
Unsent c s w t w' Moved = Evolves IsOutside s t × Sometime (λ m. fits c m ≡ false) s t × (w' ≡ w)
Unsent c s w t w' Fault = (Evolves IsOutside s t ⊎ Acts c s t) × (w' ≡ w)
Unsent c s w t w' NoMemory = (Evolves IsOutside s t ⊎ Acts c s t) × (w' ≡ w)
Unsent c s w t w' TooLong = ⊥
Unsent c s w t w' TooMany = ⊥
Unsent c s w t w' NotThere = ⊥
Unsent c s w t w' (Vanished href) = ⊥
Unsent c s w t w' (BadItem href error) = ⊥

-- a new item wasn't stored, or it was under an href that it may get
abbrev pub NewUnsent : (List ℕ → Type 0) → ItemValue → SideState → List Change → SideState → List Change → StoreError → Type 0
NewUnsent may item s w t w' e = (Evolves IsOutside s t × (w' ≡ w)) ⊎ ((href : List ℕ) × may href × Unsent (new_at href item.text) s w t w' e)

abbrev pub PutNewAnswer : Bool → (List ℕ → Type 0) → ItemValue → SideState → List Change → SideState → List Change → Result Put StoreError → Type 0
PutNewAnswer waits may item s w t w' (Ok put) = may put.href × Sent waits (new_at put.href item.text) put.etag s w t w'
PutNewAnswer waits may item s w t w' (Err Moved) = (href : List ℕ) × may href × Unsent (new_at href item.text) s w t w' Moved
PutNewAnswer waits may item s w t w' (Err Fault) = NewUnsent may item s w t w' Fault
PutNewAnswer waits may item s w t w' (Err NoMemory) = NewUnsent may item s w t w' NoMemory
PutNewAnswer waits may item s w t w' (Err TooLong) = ⊥
PutNewAnswer waits may item s w t w' (Err TooMany) = ⊥
PutNewAnswer waits may item s w t w' (Err NotThere) = ⊥
PutNewAnswer waits may item s w t w' (Err (Vanished href)) = ⊥
PutNewAnswer waits may item s w t w' (Err (BadItem href error)) = ⊥

abbrev pub PutOverAnswer : Bool → Change → SideState → List Change → SideState → List Change → Result (Option (List ℕ)) StoreError → Type 0
PutOverAnswer waits c s w t w' (Ok etag) = Sent waits c etag s w t w'
PutOverAnswer waits c s w t w' (Err e) = Unsent c s w t w' e

abbrev pub DropAnswer : Bool → Change → SideState → List Change → SideState → List Change → Result (Unit {0}) StoreError → Type 0
DropAnswer waits c s w t w' (Ok done) = Sent waits c None s w t w'
DropAnswer waits c s w t w' (Err e) = Unsent c s w t w' e

-- A flush lets all that waits act, or nothing of it. Where nothing waits it answers Ok, but for a fault.
abbrev pub FlushAnswer : SideState → List Change → SideState → List Change → Result (Unit {0}) StoreError → Type 0
FlushAnswer s w t w' (Ok done) = Flushes w s t × (w' ≡ [])
FlushAnswer s w t w' (Err Moved) = Evolves IsOutside s t × (w' ≡ w) × (w ≡ [] → ⊥)
FlushAnswer s w t w' (Err Fault) = Evolves IsOutside s t ⊎ Flushes w s t
FlushAnswer s w t w' (Err e) = (Evolves IsOutside s t ⊎ Flushes w s t) × (w ≡ [] → ⊥)

-- whatever it is called for, a store goes on waiting or not waiting, and its flush on being sure or not
abbrev pub Stays : {X : Type 0} → (X → Bool) → (X → Bool) → X → X → Type 0
Stays waits is_sure old new = (waits new ≡ waits old) × (is_sure new ≡ is_sure old)

-- no call runs a hook yet: the notes and the hook calls stay as they were
abbrev pub RunsNoHook : {X : Type 0} → (X → List HookNote) → (X → List (List (List ℕ))) → X → X → Type 0
RunsNoHook notes hook_calls old new = (notes new ≡ notes old) × (hook_calls new ≡ hook_calls old)

-- what a store recalls from its listing it has recalled before
abbrev pub RecallsNoMore : {X : Type 0} → (X → Content → Type 0) → X → X → Type 0
RecallsNoMore recalls old new = (c : Content) → recalls new c → recalls old c

-- a call that lists nothing: the store is listed where it was, and recalls no more than it did
abbrev pub Keeps : {X : Type 0} → (X → Bool) → (X → Content → Type 0) → X → X → Type 0
Keeps is_listed recalls old new = (is_listed new ≡ is_listed old) × RecallsNoMore recalls old new

-- a listing: the store is listed, or where it failed is so where it was, and recalls no more than it did
abbrev pub KeepsByList : {X Y E : Type 0} → (X → Bool) → (X → Content → Type 0) → X → X → Result Y E → Type 0
KeepsByList is_listed recalls old new (Ok found) = is_listed new ≡ true
KeepsByList is_listed recalls old new (Err e) = Keeps is_listed recalls old new

-- a flush: the store is listed only where it was, and recalls no more than it did
abbrev pub KeepsByFlush : {X : Type 0} → (X → Bool) → (X → Content → Type 0) → X → X → Type 0
KeepsByFlush is_listed recalls old new = (is_listed new ≡ true → is_listed old ≡ true) × RecallsNoMore recalls old new

-- its writes don't wait, and it is listed
abbrev pub IsReady : {X : Type 0} → (X → Bool) → (X → Bool) → X → Type 0
IsReady waits is_listed x = (waits x ≡ false) × (is_listed x ≡ true)

-- the item was stored once where nothing stood, or not at all
abbrev pub PutsAtMostOnce : SideState → SideState → ItemValue → Type 0
PutsAtMostOnce s t item = Evolves IsOutside s t ⊎ ((href : List ℕ) × (held : Held) × StoresNew s t item href held)

-- (for stores whose writes don't wait) what put_new answers
abbrev pub PutAnswer : SideState → SideState → ItemValue → Result Put StoreError → Type 0
PutAnswer s t item (Ok put) = (held : Held) × StoresNew s t item put.href held × (put.etag ≡ Some held.etag)
PutAnswer s t item (Err Moved) = Evolves IsOutside s t
PutAnswer s t item (Err Fault) = PutsAtMostOnce s t item
PutAnswer s t item (Err NoMemory) = PutsAtMostOnce s t item
PutAnswer s t item (Err TooLong) = ⊥
PutAnswer s t item (Err TooMany) = ⊥
PutAnswer s t item (Err NotThere) = ⊥
PutAnswer s t item (Err (Vanished href)) = ⊥
PutAnswer s t item (Err (BadItem href error)) = ⊥

-- an error and its cause: a Fault comes only where the count rose, and want of memory is never wrapped
abbrev pub StoreCause : Type 0 → StoreError → Type 0
StoreCause rose Fault = rose
StoreCause rose Moved = Unit {0}
StoreCause rose TooLong = Unit {0}
StoreCause rose TooMany = Unit {0}
StoreCause rose NotThere = Unit {0}
StoreCause rose (Vanished href) = Unit {0}
StoreCause rose (BadItem href error) = error ≢ item_error.NoMemory
StoreCause rose NoMemory = Unit {0}

-- what the error of a folder is to the store over it
abbrev pub error_of_folder : FolderError → StoreError
error_of_folder folder_error.Fault = Fault
error_of_folder folder_error.TooLong = TooLong
error_of_folder folder_error.NoMemory = NoMemory
