-- Own writes of the folder, as changes of the side.
use Rattle.std.proofs.Common.{◌≡◌, ℕ, Bool, true, false, cond, List, [], Option, Some, None, Ok, Err, refl, sym, ap, ◌∙◌, subst, inl, inr}
use Rattle.std.specs.Prelude.{if◌then◌else◌, ◌&&◌, is_none}
use Rattle.std.specs.Option.{option_map}
use Rattle.std.specs.FinMap as fin
use Rattle.outside.specs.Etag.{etag}
use Rattle.outside.specs.Runs.{after}
use Rattle.outside.specs.Files as folders
use Rattle.outside.specs.Files.{FolderState}
use Rattle.outside.specs.FolderCalls.{AfterEdits, ReplaceAnswer, RemoveAnswer, meets, has_etag, has_tagged, wrote}
use Rattle.outside.specs.declared.folder.Expect.{Expect}
use Rattle.outside.specs.declared.folder.Expect.TheVariants.{Absent, Etag}
use Rattle.outside.specs.declared.folder.Change.TheVariants as change
use Rattle.outside.specs.declared.folder.FolderError.{FolderError}
use Rattle.outside.specs.declared.folder.FolderError.TheVariants as folder_error
use Rattle.outside.specs.declared.folder.FolderEvent.TheVariants as folder_event
use Rattle.item_text.specs.Items.{ItemValue, item_of}
use Rattle.store_model.specs.Sides as sides
use Rattle.store_model.specs.Sides.{SideState}
use Rattle.store_model.specs.Waits.{Change, fits_at, fits, new_at, gone_at, Acts}
use Rattle.store_model.specs.StoreCalls.{PutNewAnswer, PutOverAnswer, DropAnswer, Unsent, error_of_folder}
use Rattle.store_model.specs.declared.event.Held.{Held}
use Rattle.store_model.specs.declared.event.StoreEvent.TheVariants.{Wrote}
use Rattle.store_model.specs.declared.store.Put.{Put}
use Rattle.store_model.specs.declared.store.StoreError.{StoreError}
use Rattle.store_model.specs.declared.store.StoreError.TheVariants as store_error
use Rattle.outside.proofs.Runs.{Runs-refl}
use Rattle.vdir_store.proofs.ContentLemmas.{get-content_of}
use Rattle.store_model.proofs.Moments.{Evolves-refl}
use Rattle.vdir_store.specs.Names.{is_item}
use Rattle.vdir_store.specs.Vdir.{held_of, content_of, side_of}
use Rattle.vdir_store.specs.VdirCalls.{expected_by, change_of}
use Rattle.vdir_store.proofs.Lifting.{side_of-happens, outside_seen, get-side}
use Rattle.vdir_store.proofs.CallLemmas.{to_end, at_end}

-- what a file is expected to be, its item is expected to be
fits-held : (expect : Expect) (m : FolderState) (name : List ℕ) (o : Option (List ℕ)) → fin.get m.files name ≡ o → (m.is_there && fits_at (expected_by expect) (option_map held_of o)) ≡ meets m name expect
fits-held Absent m name None e = rw e refl
fits-held Absent m name (Some bytes) e = rw e refl
fits-held (Etag tag) m name None e = rw e refl
fits-held (Etag tag) m name (Some bytes) e = rw e refl

pub fits-meets : (ending name : List ℕ) (expect : Expect) (sent : Option (List ℕ)) (m : FolderState) → is_item ending name ≡ true → fits (change_of name expect sent) (side_of ending m) ≡ meets m name expect
fits-meets ending name expect sent m is =
    ap (λ o. m.is_there && fits_at (expected_by expect) o) (get-side ending name m (fin.get m.files name) is refl) ∙ fits-held expect m name (fin.get m.files name) refl

second_true : (a b : Bool) → (a && b) ≡ true → b ≡ true
second_true true b h = h
second_true false b h = absurd (let clash : false ≡ true = h in cc)

-- an own write that is seen
pub seen_change : (ending : List ℕ) (c : Change) (s m t : FolderState) → is_item ending c.href ≡ true → sides.KeepsItem (option_map held_of c.sent) c.sent → folders.Evolves folders.IsOutside s m → m.is_there ≡ true → fits c (side_of ending m) ≡ true → t ≡ wrote m c.href c.sent → (acts : Acts c (side_of ending s) (side_of ending t)) × (acts.new ≡ option_map held_of c.sent)
seen_change ending c s m t is keeps edits there fit same =
    let old = fin.get (content_of ending m.files) c.href in
    let w = Wrote c.href old (option_map held_of c.sent) c.sent in
    let is_old : option_map held_of (fin.get m.files c.href) ≡ old = sym (get-side ending c.href m (fin.get m.files c.href) is refl) in
    let step : side_of ending t ≡ sides.happens (side_of ending m) w =
    ap (side_of ending) same
    ∙ side_of-happens ending m (folder_event.Wrote c.href (fin.get m.files c.href) c.sent) (ap (λ b. if b then None else Some c.href) is) (there, refl)
    ∙ ap (λ b. after sides.happens (side_of ending m) (if b then Some (Wrote c.href (option_map held_of (fin.get m.files c.href)) (option_map held_of c.sent) c.sent) else None)) is
    ∙ ap (λ o. sides.happens (side_of ending m) (Wrote c.href o (option_map held_of c.sent) c.sent)) is_old
    in (
      record {
        old = old;
        new = option_map held_of c.sent;
        fit = second_true m.is_there (fits_at c.expected old) fit;
        writes = record {
          moment = side_of ending m;
          before = outside_seen ending s m edits;
          is_true = (refl, keeps);
          after = subst (λ (x : SideState). sides.Evolves sides.IsOutside (sides.happens (side_of ending m) w) x) (sym step) (Evolves-refl (sides.happens (side_of ending m) w));
        };
      },
      refl,
    )

keeps_item : (item : ItemValue) → item_of item.text ≡ Some item → sides.KeepsItem (Some (held_of item.text)) (Some item.text)
keeps_item item good = (item, item, good, good, refl, refl)

is_there_met : (m : FolderState) (name : List ℕ) (expect : Expect) → meets m name expect ≡ true → m.is_there ≡ true
is_there_met m name Absent h = first_true m.is_there (is_none (fin.get m.files name)) h
  where
    first_true : (a b : Bool) → (a && b) ≡ true → a ≡ true
    first_true true b h = refl
    first_true false b h = h
is_there_met m name (Etag tag) h = first_true m.is_there (has_etag tag.now (fin.get m.files name)) h
  where
    first_true : (a b : Bool) → (a && b) ≡ true → a ≡ true
    first_true true b h = refl
    first_true false b h = h

-- a conditional write that acted
written : (ending name : List ℕ) (expect : Expect) (item : ItemValue) (s m t : FolderState) → is_item ending name ≡ true → item_of item.text ≡ Some item → folders.Evolves folders.IsOutside s m → meets m name expect ≡ true → t ≡ wrote m name (Some item.text) → (acts : Acts (change_of name expect (Some item.text)) (side_of ending s) (side_of ending t)) × (acts.new ≡ Some (held_of item.text))
written ending name expect item s m t is good edits met same =
    seen_change ending (change_of name expect (Some item.text)) s m t is (keeps_item item good) edits (is_there_met m name expect met) (fits-meets ending name expect (Some item.text) m is ∙ met) same

pub write_done : (ending name tag : List ℕ) (expect : Expect) (item : ItemValue) (s t : FolderState) → is_item ending name ≡ true → item_of item.text ≡ Some item → tag ≡ etag item.text → AfterEdits s (λ m. ReplaceAnswer m t name expect item.text (Ok change.Done)) → PutOverAnswer false (change_of name expect (Some item.text)) (side_of ending s) [] (side_of ending t) [] (Ok (Some tag))
write_done ending name tag expect item s t is good e h =
    let w = written ending name expect item s h.moment t is good h.edits h.does.0 h.does.1 in
    (w.0, ap Some e ∙ sym (ap (option_map (λ (x : Held). x.etag)) w.1), refl)

moved_at : (ending : List ℕ) (c : Change) (s m t : FolderState) → folders.Evolves folders.IsOutside s m → t ≡ m → fits c (side_of ending m) ≡ false → Unsent c (side_of ending s) [] (side_of ending t) [] store_error.Moved
moved_at ending c s m t edits same off =
    let run = to_end edits same in
    (outside_seen ending s t run, at_end ending s t (λ x. fits c x ≡ false) run (ap (λ (x : FolderState). fits c (side_of ending x)) same ∙ off), refl)

pub write_moved : (ending name : List ℕ) (expect : Expect) (item : ItemValue) (s t : FolderState) → is_item ending name ≡ true → AfterEdits s (λ m. ReplaceAnswer m t name expect item.text (Ok change.Moved)) → PutOverAnswer false (change_of name expect (Some item.text)) (side_of ending s) [] (side_of ending t) [] (Err store_error.Moved)
write_moved ending name expect item s t is h = moved_at ending (change_of name expect (Some item.text)) s h.moment t h.edits h.does.1 (fits-meets ending name expect (Some item.text) h.moment is ∙ h.does.0)

pub write_failed : (ending name : List ℕ) (expect : Expect) (item : ItemValue) (s t : FolderState) (e : FolderError) → is_item ending name ≡ true → item_of item.text ≡ Some item → AfterEdits s (λ m. ReplaceAnswer m t name expect item.text (Err e)) → PutOverAnswer false (change_of name expect (Some item.text)) (side_of ending s) [] (side_of ending t) [] (Err (error_of_folder e))
write_failed ending name expect item s t folder_error.Fault is good h = elim h.does [
  | inl same ↦ (inl (outside_seen ending s t (to_end h.edits same)), refl)
  | inr acted ↦ (inr (written ending name expect item s h.moment t is good h.edits acted.0 acted.1).0, refl)
]
write_failed ending name expect item s t folder_error.TooLong is good h = absurd h.does
write_failed ending name expect item s t folder_error.NoMemory is good h = (inl (outside_seen ending s t (to_end h.edits h.does)), refl)

-- a name that no item has is nothing to write over or to take away
off_at : (a b : Bool) → b ≡ false → (a && b) ≡ false
off_at true b e = e
off_at false b e = refl

pub moved_by_name : (ending : List ℕ) (c : Change) (tag : List ℕ) (s : FolderState) → is_item ending c.href ≡ false → c.expected ≡ Some tag → Unsent c (side_of ending s) [] (side_of ending s) [] store_error.Moved
moved_by_name ending c tag s is expected =
    let none : fin.get (content_of ending s.files) c.href ≡ None = get-content_of ending s.files c.href ∙ ap (λ b. cond b (option_map held_of (fin.get s.files c.href)) None) is in
    let off : fits_at c.expected (fin.get (content_of ending s.files) c.href) ≡ false = (λ i. fits_at (expected i) (none i)) in
    moved_at ending c s s s (Runs-refl s) refl (off_at s.is_there _ off)

-- ---- removals

has_tagged-fits : (ending name tag : List ℕ) (m : FolderState) → is_item ending name ≡ true → fits (gone_at name tag) (side_of ending m) ≡ has_tagged m name tag
has_tagged-fits ending name tag m is =
    ap (λ o. m.is_there && fits_at (Some tag) o) (get-side ending name m (fin.get m.files name) is refl) ∙ ap (λ b. m.is_there && b) (by (fin.get m.files name))
  where
    by : (o : Option (List ℕ)) → fits_at (Some tag) (option_map held_of o) ≡ has_etag tag o
    by None = refl
    by (Some bytes) = refl

first_true : (a b : Bool) → (a && b) ≡ true → a ≡ true
first_true true b h = refl
first_true false b h = h

removed : (ending name tag : List ℕ) (s m t : FolderState) → is_item ending name ≡ true → folders.Evolves folders.IsOutside s m → has_tagged m name tag ≡ true → t ≡ wrote m name None → (acts : Acts (gone_at name tag) (side_of ending s) (side_of ending t)) × (acts.new ≡ None)
removed ending name tag s m t is edits met same =
    seen_change ending (gone_at name tag) s m t is tt edits (first_true m.is_there _ met) (has_tagged-fits ending name tag m is ∙ met) same

pub drop_done : (ending name tag : List ℕ) (s t : FolderState) → is_item ending name ≡ true → AfterEdits s (λ m. RemoveAnswer m t name tag (Ok change.Done)) → DropAnswer false (gone_at name tag) (side_of ending s) [] (side_of ending t) [] (Ok tt)
drop_done ending name tag s t is h =
    let w = removed ending name tag s h.moment t is h.edits h.does.0 h.does.1 in
    (w.0, sym (ap (option_map (λ (x : Held). x.etag)) w.1), refl)

pub drop_moved : (ending name tag : List ℕ) (s t : FolderState) → is_item ending name ≡ true → AfterEdits s (λ m. RemoveAnswer m t name tag (Ok change.Moved)) → DropAnswer false (gone_at name tag) (side_of ending s) [] (side_of ending t) [] (Err store_error.Moved)
drop_moved ending name tag s t is h = moved_at ending (gone_at name tag) s h.moment t h.edits h.does.1 (has_tagged-fits ending name tag h.moment is ∙ h.does.0)

pub drop_failed : (ending name tag : List ℕ) (s t : FolderState) (e : FolderError) → is_item ending name ≡ true → AfterEdits s (λ m. RemoveAnswer m t name tag (Err e)) → DropAnswer false (gone_at name tag) (side_of ending s) [] (side_of ending t) [] (Err (error_of_folder e))
drop_failed ending name tag s t folder_error.Fault is h = elim h.does [
  | inl same ↦ (inl (outside_seen ending s t (to_end h.edits same)), refl)
  | inr acted ↦ (inr (removed ending name tag s h.moment t is h.edits acted.0 acted.1).0, refl)
]
drop_failed ending name tag s t folder_error.TooLong is h = absurd h.does
drop_failed ending name tag s t folder_error.NoMemory is h = (inl (outside_seen ending s t (to_end h.edits h.does)), refl)

-- ---- put_new

pub put_ok : (may : List ℕ → Type 0) (name : List ℕ) (item : ItemValue) (s t : SideState) (put : Put) (tag : Option (List ℕ)) → put.href ≡ name → put.etag ≡ tag → may name → PutOverAnswer false (new_at name item.text) s [] t [] (Ok tag) → PutNewAnswer false may item s [] t [] (Ok put)
put_ok may name item s t put tag href etag chosen sent =
    subst (λ (x : Put). PutNewAnswer false may item s [] t [] (Ok x)) (λ i. record { href = sym href i; etag = sym etag i }) (chosen, sent)

pub put_err : (may : List ℕ → Type 0) (name : List ℕ) (item : ItemValue) (s t : SideState) (e : StoreError) → may name → Unsent (new_at name item.text) s [] t [] e → PutNewAnswer false may item s [] t [] (Err e)
put_err may name item s t store_error.Moved chosen unsent = (name, chosen, unsent)
put_err may name item s t store_error.Fault chosen unsent = inr (name, chosen, unsent)
put_err may name item s t store_error.TooLong chosen unsent = absurd unsent
put_err may name item s t store_error.NoMemory chosen unsent = inr (name, chosen, unsent)
put_err may name item s t store_error.TooMany chosen unsent = absurd unsent
put_err may name item s t store_error.NotThere chosen unsent = absurd unsent
put_err may name item s t (store_error.Vanished href) chosen unsent = absurd unsent
put_err may name item s t (store_error.BadItem href error) chosen unsent = absurd unsent
