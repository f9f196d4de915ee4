-- Each answer of the folder, as an answer of the store.
use Rattle.std.proofs.Common.{rules, arith, ◌≡◌, ◌⊎◌, ℕ, ◌<◌, ◌≤◌, Bool, true, false, cond, List, [], ◌∷◌, ◌++◌, map, length, Some, None, Result, Ok, Err, refl, sym, ap, ◌∙◌, subst, inl, inr}
use Rattle.std.specs.Prelude.{◌≢◌, if◌then◌else◌, not, ◌&&◌, nat_lt, nat_eq}
use Rattle.std.specs.List.{filter, ends_with, list_all}
use Rattle.std.specs.Option.{option_map}
use Rattle.std.specs.FinMap as fin
use Rattle.std.specs.declared.vec.Vec.{Vec}
use Rattle.std.specs.declared.alloc.Global.{Global}
use Rattle.std.proofs.lemmas.List.{length-map}
use Rattle.outside.specs.Etag.{etag}
use Rattle.outside.specs.Files as folders
use Rattle.outside.specs.Files.{FolderState}
use Rattle.outside.specs.FolderCalls as folder_calls
use Rattle.outside.specs.FolderCalls.{AfterEdits, NamesAnswer, ReadAnswer}
use Rattle.outside.specs.declared.folder.FileEntry.{FileEntry}
use Rattle.outside.specs.declared.folder.FolderError.{FolderError}
use Rattle.outside.specs.declared.folder.FolderError.TheVariants as folder_error
use Rattle.outside.specs.declared.folder.FolderEvent.TheVariants as folder_event
use Rattle.outside.specs.Runs.{after}
use Rattle.item_text.specs.Items.{ItemValue, item_of, read_item}
use Rattle.item_text.specs.declared.item.ItemError.{ItemError}
use Rattle.item_text.specs.declared.item.ItemError.TheVariants as item_error
use Rattle.store_model.specs.Sides as sides
use Rattle.store_model.specs.Sides.{SideState, Since, Sometime, IsTrueEvent}
use Rattle.store_model.specs.StoreCalls as store_calls
use Rattle.store_model.specs.StoreCalls.{is_short, IsListing, WasFetched, HasFault, read_of, error_of_folder}
use Rattle.store_model.specs.declared.event.Held.{Held}
use Rattle.store_model.specs.declared.event.StoreEvent.TheVariants.{Read}
use Rattle.store_model.specs.declared.store.Entry.{Entry}
use Rattle.store_model.specs.declared.store.Fetched.{Fetched}
use Rattle.store_model.specs.declared.store.StoreError.{StoreError}
use Rattle.store_model.specs.declared.store.StoreError.TheVariants as store_error
use Rattle.store_model.proofs.Moments.{Evolves-refl, Evolves-trans, Evolves-one, Since-from_evolves, outside_keeps_reads}
use Rattle.vdir_store.specs.Names.{is_item, tmp_ending}
use Rattle.vdir_store.specs.Vdir.{held_of, held_entry, content_of, side_of}
use Rattle.vdir_store.specs.VdirCalls.{listed_entry, IsBadItem, FetchAnswer}
use Rattle.vdir_store.proofs.ContentLemmas.{entries-content_of, get-content_of}
use Rattle.vdir_store.proofs.Lifting.{side_of-happens, outside_seen, get-side}

-- the edits lead to the end, where the call does nothing
pub to_end : {s m t : FolderState} → folders.Evolves folders.IsOutside s m → t ≡ m → folders.Evolves folders.IsOutside s t
to_end {s} edits same = subst (λ (x : FolderState). folders.Evolves folders.IsOutside s x) (sym same) edits

-- at the end of edits from outside it was so
pub at_end : (ending : List ℕ) (s t : FolderState) (Was : SideState → Type 0) → folders.Evolves folders.IsOutside s t → Was (side_of ending t) → Sometime Was (side_of ending s) (side_of ending t)
at_end ending s t Was edits was = record { moment = side_of ending t; from = Since-from_evolves (outside_seen ending s t edits); until = Evolves-refl (side_of ending t); was = was }

-- ---- list

pub list_not_there : (ending : List ℕ) (s t : FolderState) → AfterEdits s (λ m. NamesAnswer m t ending (Ok None)) → Sometime (IsListing (Err store_error.NotThere)) (side_of ending s) (side_of ending t)
list_not_there ending s t h = at_end ending s t (IsListing (Err store_error.NotThere)) (to_end h.edits h.does.0) (ap (λ (x : FolderState). x.is_there) h.does.0 ∙ h.does.1)

pub list_failed : (ending : List ℕ) (s t : FolderState) (e : FolderError) → AfterEdits s (λ m. NamesAnswer m t ending (Err e)) → Sometime (IsListing (Err (error_of_folder e))) (side_of ending s) (side_of ending t)
list_failed ending s t folder_error.Fault h = at_end ending s t (IsListing (Err store_error.Fault)) (to_end h.edits h.does) tt
list_failed ending s t folder_error.TooLong h = absurd h.does
list_failed ending s t folder_error.NoMemory h = at_end ending s t (IsListing (Err store_error.NoMemory)) (to_end h.edits h.does) tt

pub list_no_memory_later : (ending : List ℕ) (s t : FolderState) (found : Vec FileEntry Global) → AfterEdits s (λ m. NamesAnswer m t ending (Ok (Some found))) → Sometime (IsListing (Err store_error.NoMemory)) (side_of ending s) (side_of ending t)
list_no_memory_later ending s t found h = at_end ending s t (IsListing (Err store_error.NoMemory)) (to_end h.edits h.does.0) tt

same_entry : (ending : List ℕ) (x : List ℕ × List ℕ) (ys : List FileEntry) (zs : List (List ℕ × List ℕ)) (b : Bool) → is_item ending x.0 ≡ b → map listed_entry ys ≡ map store_calls.entry_of (map held_entry zs) → map listed_entry (cond (is_item ending x.0) (folder_calls.entry_of x ∷ ys) ys) ≡ map store_calls.entry_of (map held_entry (cond b (x ∷ zs) zs))
same_entry ending x ys zs true is h = rw is (ap (λ l. store_calls.entry_of (held_entry x) ∷ l) h)
same_entry ending x ys zs false is h = rw is h

-- the entries that the folder lists and the store keeps are those of the content
same_entries : (ending : List ℕ) (xs : List (List ℕ × List ℕ)) → map listed_entry (filter (λ e. is_item ending e.name) (map folder_calls.entry_of (filter (λ f. ends_with nat_eq f.0 ending) xs))) ≡ map store_calls.entry_of (map held_entry (filter (λ f. is_item ending f.0) xs))
unfolding is_item
same_entries ending [] = refl
same_entries ending (x ∷ xs) =
    elim (ends_with nat_eq x.0 ending) as (λ b. ends_with nat_eq x.0 ending ≡ b →
    map listed_entry (filter (λ e. is_item ending e.name) (map folder_calls.entry_of (cond b (x ∷ filter (λ f. ends_with nat_eq f.0 ending) xs) (filter (λ f. ends_with nat_eq f.0 ending) xs))))
    ≡ map store_calls.entry_of (map held_entry (cond (b && (nat_lt (length ending) (length x.0) && not (ends_with nat_eq x.0 tmp_ending))) (x ∷ filter (λ f. is_item ending f.0) xs) (filter (λ f. is_item ending f.0) xs)))) [
      | true ↦ λ e. same_entry ending x (filter (λ y. is_item ending y.name) (map folder_calls.entry_of (filter (λ f. ends_with nat_eq f.0 ending) xs))) (filter (λ f. is_item ending f.0) xs) (nat_lt (length ending) (length x.0) && not (ends_with nat_eq x.0 tmp_ending)) (ap (λ b. b && (nat_lt (length ending) (length x.0) && not (ends_with nat_eq x.0 tmp_ending))) e) (same_entries ending xs)
      | false ↦ λ e. same_entries ending xs
    ] refl

pub same_listing : (ending : List ℕ) (files : folders.Files) (found : Vec FileEntry Global) (entries : Vec Entry Global) → found.items ≡ folder_calls.entries_of ending files → entries.items ≡ map listed_entry (filter (λ e. is_item ending e.name) found.items) → entries.items ≡ map store_calls.entry_of (fin.entries (content_of ending files))
same_listing ending files found entries f e =
    e ∙ ap (λ xs. map listed_entry (filter (λ (y : FileEntry). is_item ending y.name) xs)) f ∙ same_entries ending (fin.entries files) ∙ ap (map store_calls.entry_of) (sym (entries-content_of ending files))

found_items : (ending : List ℕ) (s t : FolderState) (found : Vec FileEntry Global) (entries : Vec Entry Global) → AfterEdits s (λ m. NamesAnswer m t ending (Ok (Some found))) → entries.items ≡ map listed_entry (filter (λ e. is_item ending e.name) found.items) → entries.items ≡ map store_calls.entry_of (fin.entries (content_of ending t.files))
found_items ending s t found entries h e = same_listing ending t.files found entries (h.does.2 ∙ ap (λ (x : FolderState). folder_calls.entries_of ending x.files) (sym h.does.0)) e

pub list_ok : (ending : List ℕ) (s t : FolderState) (found : Vec FileEntry Global) (entries : Vec Entry Global) → AfterEdits s (λ m. NamesAnswer m t ending (Ok (Some found))) → entries.items ≡ map listed_entry (filter (λ e. is_item ending e.name) found.items) → length entries.items ≤ 100000 → list_all is_short entries.items ≡ true → Sometime (IsListing (Ok entries)) (side_of ending s) (side_of ending t)
list_ok ending s t found entries h e few short =
    at_end ending s t (IsListing (Ok entries)) (to_end h.edits h.does.0) (ap (λ (x : FolderState). x.is_there) h.does.0 ∙ h.does.1, found_items ending s t found entries h e, few, short)

-- there are as many items as entries
as_many : (ending : List ℕ) (s t : FolderState) (found : Vec FileEntry Global) (entries : Vec Entry Global) → AfterEdits s (λ m. NamesAnswer m t ending (Ok (Some found))) → entries.items ≡ map listed_entry (filter (λ e. is_item ending e.name) found.items) → length entries.items ≡ length (fin.entries (content_of ending t.files))
as_many ending s t found entries h e = ap length (found_items ending s t found entries h e) ∙ length-map (fin.entries (content_of ending t.files)) store_calls.entry_of

pub list_too_many : (ending : List ℕ) (s t : FolderState) (found : Vec FileEntry Global) (entries : Vec Entry Global) → AfterEdits s (λ m. NamesAnswer m t ending (Ok (Some found))) → entries.items ≡ map listed_entry (filter (λ e. is_item ending e.name) found.items) → 100000 < length entries.items → Sometime (IsListing (Err store_error.TooMany)) (side_of ending s) (side_of ending t)
list_too_many ending s t found entries h e many =
    let as_long = as_many ending s t found entries h e in
    at_end ending s t (IsListing (Err store_error.TooMany)) (to_end h.edits h.does.0) (ap (λ (x : FolderState). x.is_there) h.does.0 ∙ h.does.1, omega (arith, as_long))

pub list_too_long : (ending : List ℕ) (s t : FolderState) (found : Vec FileEntry Global) (entries : Vec Entry Global) → AfterEdits s (λ m. NamesAnswer m t ending (Ok (Some found))) → entries.items ≡ map listed_entry (filter (λ e. is_item ending e.name) found.items) → length entries.items ≤ 100000 → list_all is_short entries.items ≡ false → Sometime (IsListing (Err store_error.TooLong)) (side_of ending s) (side_of ending t)
list_too_long ending s t found entries h e few long =
    let as_long = as_many ending s t found entries h e in
    at_end ending s t (IsListing (Err store_error.TooLong)) (to_end h.edits h.does.0) (ap (λ (x : FolderState). x.is_there) h.does.0 ∙ h.does.1, omega (arith, as_long), ap (list_all is_short) (sym (found_items ending s t found entries h e)) ∙ long)

-- a listing that is not handed out
pub list_forgets : (s t : SideState) (entries : Vec Entry Global) → Sometime (IsListing (Ok entries)) s t → Sometime (IsListing (Err store_error.NoMemory)) s t
list_forgets s t entries h = record { moment = h.moment; from = h.from; until = h.until; was = tt }

-- ---- get, one href

-- a fault at a moment is answered, or else want of memory
pub fetch_fault : (name : List ℕ) (s t : SideState) (e : StoreError) → Sometime (HasFault name e) s t → FetchAnswer s t name (Err e)
fetch_fault name s t store_error.Fault h = h
fetch_fault name s t store_error.Moved h = h
fetch_fault name s t store_error.TooLong h = h
fetch_fault name s t store_error.TooMany h = h
fetch_fault name s t store_error.NotThere h = h
fetch_fault name s t (store_error.Vanished href) h = h
fetch_fault name s t (store_error.BadItem href error) h = h
fetch_fault name s t store_error.NoMemory h = tt

-- the error that was made of a fault, or want of memory
pub fault_made : (m : SideState) (name : List ℕ) (e x : StoreError) → (e ≡ store_error.NoMemory) ⊎ (e ≡ x) → HasFault name x m → HasFault name e m
fault_made m name e x (inl none) h = subst (λ (y : StoreError). HasFault name y m) (sym none) tt
fault_made m name e x (inr same) h = subst (λ (y : StoreError). HasFault name y m) (sym same) h

-- an href that isn't an item's name is no item's at any moment
pub fetch_not_item : (ending name : List ℕ) (s : FolderState) (e : StoreError) → is_item ending name ≡ false → (e ≡ store_error.NoMemory) ⊎ (e ≡ store_error.Vanished name) → FetchAnswer (side_of ending s) (side_of ending s) name (Err e)
fetch_not_item ending name s e is made =
    let S = side_of ending s in
    let none : HasFault name (store_error.Vanished name) S = (refl, get-content_of ending s.files name ∙ ap (λ b. cond b (option_map held_of (fin.get s.files name)) None) is) in
    fetch_fault name S S e (record { moment = S; from = Evolves-refl S; until = Evolves-refl S; was = fault_made S name e (store_error.Vanished name) made none })

-- where the folder read nothing
fetch_unread : (ending name : List ℕ) (s t : FolderState) → folders.Evolves folders.IsOutside s t → (e : StoreError) → HasFault name e (side_of ending t) → FetchAnswer (side_of ending s) (side_of ending t) name (Err e)
fetch_unread ending name s t edits e fault = fetch_fault name (side_of ending s) (side_of ending t) e (at_end ending s t (HasFault name e) edits fault)

pub fetch_vanished : (ending name : List ℕ) (limit : ℕ) (s t : FolderState) (e : StoreError) → is_item ending name ≡ true → (e ≡ store_error.NoMemory) ⊎ (e ≡ store_error.Vanished name) → AfterEdits s (λ m. ReadAnswer m t name limit (Ok None)) → FetchAnswer (side_of ending s) (side_of ending t) name (Err e)
fetch_vanished ending name limit s t e is made h =
    let none : fin.get t.files name ≡ None = ap (λ (x : FolderState). fin.get x.files name) h.does.0 ∙ h.does.1 in
    fetch_unread ending name s t (to_end h.edits h.does.0) e (fault_made (side_of ending t) name e (store_error.Vanished name) made (refl, get-side ending name t None is none))

pub fetch_fault_of_folder : (ending name : List ℕ) (limit : ℕ) (s t : FolderState) → AfterEdits s (λ m. ReadAnswer m t name limit (Err folder_error.Fault)) → FetchAnswer (side_of ending s) (side_of ending t) name (Err store_error.Fault)
fetch_fault_of_folder ending name limit s t h = fetch_unread ending name s t (to_end h.edits h.does) store_error.Fault tt

too_long_text : (text : List ℕ) → 8388608 < length text → read_item text ≡ Err item_error.TooLong
unfolding read_item
too_long_text text h = let t : nat_lt 8388608 (length text) ≡ true = search rules in rw t refl

-- a bad item's fault, as it is answered
pub bad_made : (m : SideState) (name : List ℕ) (error : ItemError) (e : StoreError) (held : Held) → IsBadItem name error e → fin.get m.content name ≡ Some held → (error ≢ item_error.NoMemory → read_item held.text ≡ Err error) → HasFault name e m
bad_made m name error e held (inl none) there bad = subst (λ (y : StoreError). HasFault name y m) (sym none) tt
bad_made m name error e held (inr made) there bad = subst (λ (y : StoreError). HasFault name y m) (sym made.1) (refl, (held, there, bad made.0))

pub fetch_too_long : (ending name : List ℕ) (s t : FolderState) (e : StoreError) → is_item ending name ≡ true → IsBadItem name item_error.TooLong e → AfterEdits s (λ m. ReadAnswer m t name 8388608 (Err folder_error.TooLong)) → FetchAnswer (side_of ending s) (side_of ending t) name (Err e)
fetch_too_long ending name s t e is made h =
    let r = h.does.1 in
    let there : fin.get t.files name ≡ Some r.0 = ap (λ (x : FolderState). fin.get x.files name) h.does.0 ∙ r.1 in
    fetch_unread ending name s t (to_end h.edits h.does.0) e (bad_made (side_of ending t) name item_error.TooLong e (held_of r.0) made (get-side ending name t (Some r.0) is there) (λ _. too_long_text r.0 r.2))

-- the folder read the file
pub record IsSeenRead (s t : SideState) (name bytes : List ℕ) : Type 0 where
  pub moment : SideState
  pub before : sides.Evolves sides.IsOutside s moment
  pub is_true : IsTrueEvent moment (Read name bytes)
  pub same : t ≡ sides.happens moment (Read name bytes)
  pub there : fin.get moment.content name ≡ Some (held_of bytes)

pub seen_read : (ending name : List ℕ) (limit : ℕ) (s t : FolderState) (bytes : Vec ℕ Global) → is_item ending name ≡ true → AfterEdits s (λ m. ReadAnswer m t name limit (Ok (Some bytes))) → IsSeenRead (side_of ending s) (side_of ending t) name bytes.items
seen_read ending name limit s t bytes is h =
    let m = h.moment in
    let there : fin.get (content_of ending m.files) name ≡ Some (held_of bytes.items) = get-side ending name m (Some bytes.items) is h.does.0 in
    record {
      moment = side_of ending m;
      before = outside_seen ending s m h.edits;
      is_true = tt;
      same = ap (side_of ending) h.does.2 ∙ side_of-happens ending m (folder_event.Read name bytes.items) refl h.does.0 ∙ ap (λ b. after sides.happens (side_of ending m) (if b then Some (Read name bytes.items) else None)) is;
      there = there;
    }

-- the side goes on from the moment of the reading
until_end : {s t : SideState} {name bytes : List ℕ} (r : IsSeenRead s t name bytes) → Since (sides.happens r.moment (Read name bytes)) t
until_end {s} {t} {name} {bytes} r = subst (λ (x : SideState). Since (sides.happens r.moment (Read name bytes)) x) (sym r.same) (Evolves-refl (sides.happens r.moment (Read name bytes)))

pub at_read : {s t : SideState} {name bytes : List ℕ} (Was : SideState → Type 0) (r : IsSeenRead s t name bytes) → Was r.moment → Sometime Was s t
at_read {s} {t} {name} {bytes} Was r was =
    record { moment = r.moment; from = Since-from_evolves r.before; until = Evolves-trans (Evolves-one r.moment (Read name bytes) tt r.is_true) (until_end r); was = was }

-- what reading answered, where it isn't want of memory
pub read_answer : (text : List ℕ) (error : ItemError) → (◌≡◌ {A = Result ItemValue ItemError} (Err error) (Err item_error.NoMemory)) ⊎ (Err error ≡ read_item text) → error ≢ item_error.NoMemory → read_item text ≡ Err error
read_answer text error (inl none) other = absurd (other cc)
read_answer text error (inr same) other = sym same

pub fetch_bad : (ending name : List ℕ) (limit : ℕ) (s t : FolderState) (bytes : Vec ℕ Global) (e : StoreError) (error : ItemError) → is_item ending name ≡ true → IsBadItem name error e → (◌≡◌ {A = Result ItemValue ItemError} (Err error) (Err item_error.NoMemory)) ⊎ (Err error ≡ read_item bytes.items) → AfterEdits s (λ m. ReadAnswer m t name limit (Ok (Some bytes))) → FetchAnswer (side_of ending s) (side_of ending t) name (Err e)
fetch_bad ending name limit s t bytes e error is made answer h =
    let r = seen_read ending name limit s t bytes is h in
    fetch_fault name (side_of ending s) (side_of ending t) e (at_read (HasFault name e) r (bad_made r.moment name error e (held_of bytes.items) made r.there (read_answer bytes.items error answer)))

pub fetched_at : (s t : SideState) (name bytes : List ℕ) (f : Fetched) → IsSeenRead s t name bytes → f.href ≡ name → f.etag ≡ etag bytes → f.item.text ≡ bytes → item_of f.item.text ≡ Some f.item → WasFetched s t f × (t.reads ≡ s.reads ++ read_of f ∷ [])
fetched_at s t name bytes f r href tag text item =
    let stood : fin.get (r.moment).content f.href ≡ Some (record { etag = f.etag; text = f.item.text }) = ap (fin.get (r.moment).content) href ∙ (r.there ∙ λ i. Some (record { etag = sym tag i; text = sym text i })) in (
      record {
        is_item = item;
        stood = at_read (sides.HoldsAt f.href (record { etag = f.etag; text = f.item.text })) r stood;
        was_read = subst (λ (x : List ℕ). sides.WasRead s t x) (sym text) (record { moment = r.moment; href = name; from = Since-from_evolves r.before; is_true = r.is_true; until = until_end r });
      },
      ap (λ (x : SideState). x.reads) r.same ∙ ((λ i. outside_keeps_reads r.before i ++ (name, bytes) ∷ []) ∙ λ i. s.reads ++ (sym href i, sym text i) ∷ []),
    )

pub fetch_ok : (ending name : List ℕ) (limit : ℕ) (s t : FolderState) (bytes : Vec ℕ Global) (f : Fetched) → is_item ending name ≡ true → f.href ≡ name → f.etag ≡ etag bytes.items → f.item.text ≡ bytes.items → item_of f.item.text ≡ Some f.item → AfterEdits s (λ m. ReadAnswer m t name limit (Ok (Some bytes))) → FetchAnswer (side_of ending s) (side_of ending t) name (Ok f)
fetch_ok ending name limit s t bytes f is href tag text item h =
    let both = fetched_at (side_of ending s) (side_of ending t) name bytes.items f (seen_read ending name limit s t bytes is h) href tag text item in
    (href, both.0, both.1)
