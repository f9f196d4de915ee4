-- What happens to the folder happens to the side.
use Rattle.std.proofs.Common.{◌≡◌, ℕ, Bool, true, false, cond, not, List, [], ◌∷◌, ◌++◌, Option, Some, None, refl, sym, ap, ◌∙◌, subst, append-nil, inl}
use Rattle.std.specs.Prelude.{if◌then◌else◌}
use Rattle.std.specs.List.{filter_map}
use Rattle.std.specs.Option.{option_map}
use Rattle.std.specs.FinMap as fin
use Rattle.std.proofs.lemmas.List.Elements.{filter_map-append}
use Rattle.outside.specs.Runs.{after, ForEvent}
use Rattle.outside.proofs.Runs.{Runs-refl, Runs-one, Runs-lift}
use Rattle.outside.specs.Files as folders
use Rattle.outside.specs.Files.{FolderState, IsReadOf}
use Rattle.outside.specs.declared.folder.FolderEvent.{FolderEvent}
use Rattle.outside.specs.declared.folder.FolderEvent.TheVariants as folder_event
use Rattle.store_model.specs.Sides as sides
use Rattle.store_model.specs.Sides.{SideState}
use Rattle.store_model.specs.StoreCalls as store_calls
use Rattle.store_model.specs.declared.event.StoreEvent.{StoreEvent}
use Rattle.store_model.specs.declared.event.StoreEvent.TheVariants.{Edited, Toggled, Wrote, Read}
use Rattle.vdir_store.specs.Names.{is_item}
use Rattle.vdir_store.specs.Vdir.{held_of, content_of, event_of, trail_of, read_in, change_beside, side_of}
use Rattle.vdir_store.proofs.ContentLemmas.{content_of-item, content_of-other, get-content_of}

-- a list of what each event leaves, one event later
one_more : {X : Type 0} (f : FolderEvent → Option X) (es : List FolderEvent) (e : FolderEvent) (x : X) → f e ≡ Some x → filter_map f (es ++ e ∷ []) ≡ filter_map f es ++ x ∷ []
one_more f es e x h = filter_map-append f es (e ∷ []) ∙ rw h refl

none_more : {X : Type 0} (f : FolderEvent → Option X) (es : List FolderEvent) (e : FolderEvent) → f e ≡ None → filter_map f (es ++ e ∷ []) ≡ filter_map f es
none_more f es e h = filter_map-append f es (e ∷ []) ∙ rw h (append-nil (filter_map f es))

-- a file's event, as an edit and an own write are: of an item, or of another file
file_step : (ending : List ℕ) (s : FolderState) (e : FolderEvent) (x : StoreEvent) (name : List ℕ) (new : Option (List ℕ))
    → trail_of ending e ≡ (if is_item ending name then Some x else None) → read_in ending e ≡ None → change_beside ending e ≡ None
    → sides.happens (side_of ending s) x ≡ record { is_there = s.is_there; content = sides.put_held (content_of ending s.files) name (option_map held_of new); trail = filter_map (trail_of ending) s.trail ++ x ∷ []; reads = filter_map (read_in ending) s.trail; beside = filter_map (change_beside ending) s.trail }
    → (b : Bool) → is_item ending name ≡ b
    → record { is_there = s.is_there; content = content_of ending (folders.put_file s.files name new); trail = filter_map (trail_of ending) (s.trail ++ e ∷ []); reads = filter_map (read_in ending) (s.trail ++ e ∷ []); beside = filter_map (change_beside ending) (s.trail ++ e ∷ []) } ≡ after sides.happens (side_of ending s) (if b then Some x else None)
file_step ending s e x name new h r o p true is =
    let t = one_more (trail_of ending) s.trail e x (h ∙ ap (λ b. if b then Some x else None) is) in
    let u = none_more (read_in ending) s.trail e r in
    let v = none_more (change_beside ending) s.trail e o in
    let k = content_of-item ending s.files name new is in
    (λ i. record { is_there = s.is_there; content = k i; trail = t i; reads = u i; beside = v i }) ∙ sym p
file_step ending s e x name new h r o p false is =
    let t = none_more (trail_of ending) s.trail e (h ∙ ap (λ b. if b then Some x else None) is) in
    let u = none_more (read_in ending) s.trail e r in
    let v = none_more (change_beside ending) s.trail e o in
    let k = content_of-other ending s.files name new is in
    λ i. record { is_there = s.is_there; content = k i; trail = t i; reads = u i; beside = v i }

read_step : (ending : List ℕ) (s : FolderState) (name bytes : List ℕ) (b : Bool) → is_item ending name ≡ b
    → record { is_there = s.is_there; content = content_of ending s.files; trail = filter_map (trail_of ending) (s.trail ++ folder_event.Read name bytes ∷ []); reads = filter_map (read_in ending) (s.trail ++ folder_event.Read name bytes ∷ []); beside = filter_map (change_beside ending) (s.trail ++ folder_event.Read name bytes ∷ []) } ≡ after sides.happens (side_of ending s) (if b then Some (Read name bytes) else None)
read_step ending s name bytes true is =
    let t = none_more (trail_of ending) s.trail (folder_event.Read name bytes) refl in
    let u = one_more (read_in ending) s.trail (folder_event.Read name bytes) (name, bytes) (ap (λ b. if b then Some (name, bytes) else None) is) in
    let v = none_more (change_beside ending) s.trail (folder_event.Read name bytes) refl in
    λ i. record { is_there = s.is_there; content = content_of ending s.files; trail = t i; reads = u i; beside = v i }
read_step ending s name bytes false is =
    let t = none_more (trail_of ending) s.trail (folder_event.Read name bytes) refl in
    let u = none_more (read_in ending) s.trail (folder_event.Read name bytes) (ap (λ b. if b then Some (name, bytes) else None) is) in
    let v = none_more (change_beside ending) s.trail (folder_event.Read name bytes) refl in
    λ i. record { is_there = s.is_there; content = content_of ending s.files; trail = t i; reads = u i; beside = v i }

-- one event that changes nothing beside the items: what it is to the folder, seen as a side, is what it is to the side
pub side_of-happens : (ending : List ℕ) (s : FolderState) (e : FolderEvent) → change_beside ending e ≡ None → folders.IsTrueEvent s e → side_of ending (folders.happens s e) ≡ after sides.happens (side_of ending s) (event_of ending e)
side_of-happens ending s (folder_event.Edited name old new) none is_true = file_step ending s (folder_event.Edited name old new) (Edited name (option_map held_of old) (option_map held_of new)) name new refl refl none refl (is_item ending name) refl
side_of-happens ending s (folder_event.Wrote name old new) none is_true = file_step ending s (folder_event.Wrote name old new) (Wrote name (option_map held_of old) (option_map held_of new) new) name new refl refl none refl (is_item ending name) refl
side_of-happens ending s (folder_event.Read name bytes) none is_true = read_step ending s name bytes (is_item ending name) refl
side_of-happens ending s folder_event.Toggled none is_true =
    let t = one_more (trail_of ending) s.trail folder_event.Toggled Toggled refl in
    let u = none_more (read_in ending) s.trail folder_event.Toggled refl in
    let v = none_more (change_beside ending) s.trail folder_event.Toggled none in
    λ i. record { is_there = not s.is_there; content = content_of ending s.files; trail = t i; reads = u i; beside = v i }
side_of-happens ending s folder_event.Made none is_true = absurd (let clash : Some [] ≡ None = none in cc)

-- what stands at an item's name
pub get-side : (ending name : List ℕ) (s : FolderState) (o : Option (List ℕ)) → is_item ending name ≡ true → fin.get s.files name ≡ o → fin.get (content_of ending s.files) name ≡ option_map held_of o
get-side ending name s o is e = get-content_of ending s.files name ∙ ap (λ b. cond b (option_map held_of (fin.get s.files name)) None) is ∙ ap (option_map held_of) e

-- an edit from outside, or a reading, is true of the side, if the side sees it
edited_true : (ending : List ℕ) (s : FolderState) (name : List ℕ) (old new : Option (List ℕ)) (b : Bool) → is_item ending name ≡ b → old ≡ fin.get s.files name → ForEvent (sides.IsTrueEvent (side_of ending s)) (if b then Some (Edited name (option_map held_of old) (option_map held_of new)) else None)
edited_true ending s name old new true is h = ap (option_map held_of) h ∙ sym (get-side ending name s (fin.get s.files name) is refl)
edited_true ending s name old new false is h = tt

read_true : (ending : List ℕ) (s : FolderState) (name bytes : List ℕ) (b : Bool) → ForEvent (sides.IsTrueEvent (side_of ending s)) (if b then Some (Read name bytes) else None)
read_true ending s name bytes true = tt
read_true ending s name bytes false = tt

reads_true : (ending name : List ℕ) (s : FolderState) (e : FolderEvent) → IsReadOf name e → folders.IsTrueEvent s e → ForEvent (sides.IsTrueEvent (side_of ending s)) (event_of ending e)
reads_true ending of s (folder_event.Edited name old new) kind h = edited_true ending s name old new (is_item ending name) refl h.1
reads_true ending of s (folder_event.Wrote name old new) kind h = absurd kind
reads_true ending of s (folder_event.Read name bytes) kind h = read_true ending s name bytes (is_item ending name)
reads_true ending of s folder_event.Toggled kind h = tt
reads_true ending of s folder_event.Made kind h = absurd kind

outside_true : (ending : List ℕ) (s : FolderState) (e : FolderEvent) → folders.IsOutside e → folders.IsTrueEvent s e → ForEvent (sides.IsTrueEvent (side_of ending s)) (event_of ending e)
outside_true ending s (folder_event.Edited name old new) kind h = edited_true ending s name old new (is_item ending name) refl h.1
outside_true ending s (folder_event.Wrote name old new) kind h = absurd kind
outside_true ending s (folder_event.Read name bytes) kind h = absurd kind
outside_true ending s folder_event.Toggled kind h = tt
outside_true ending s folder_event.Made kind h = absurd kind

seen_kind : (P : StoreEvent → Type 0) (x : StoreEvent) (b : Bool) → P x → ForEvent P (if b then Some x else None)
seen_kind P x true p = p
seen_kind P x false p = tt

outside_kind : (ending : List ℕ) (e : FolderEvent) → folders.IsOutside e → ForEvent sides.IsOutside (event_of ending e)
outside_kind ending (folder_event.Edited name old new) kind = seen_kind sides.IsOutside (Edited name (option_map held_of old) (option_map held_of new)) (is_item ending name) tt
outside_kind ending (folder_event.Wrote name old new) kind = absurd kind
outside_kind ending (folder_event.Read name bytes) kind = absurd kind
outside_kind ending folder_event.Toggled kind = tt
outside_kind ending folder_event.Made kind = absurd kind

read_kind : (ending name : List ℕ) (e : FolderEvent) → IsReadOf name e → ForEvent (store_calls.IsGetOf (name ∷ [])) (event_of ending e)
read_kind ending of (folder_event.Edited name old new) kind = seen_kind (store_calls.IsGetOf (of ∷ [])) (Edited name (option_map held_of old) (option_map held_of new)) (is_item ending name) tt
read_kind ending of (folder_event.Wrote name old new) kind = absurd kind
read_kind ending of (folder_event.Read name bytes) kind = seen_kind (store_calls.IsGetOf (of ∷ [])) (Read name bytes) (is_item ending name) (inl kind)
read_kind ending of folder_event.Toggled kind = tt
read_kind ending of folder_event.Made kind = absurd kind

outside_beside : (ending : List ℕ) (e : FolderEvent) → folders.IsOutside e → change_beside ending e ≡ None
outside_beside ending (folder_event.Edited name old new) kind = refl
outside_beside ending (folder_event.Wrote name old new) kind = absurd kind
outside_beside ending (folder_event.Read name bytes) kind = refl
outside_beside ending folder_event.Toggled kind = refl
outside_beside ending folder_event.Made kind = absurd kind

read_beside : (ending name : List ℕ) (e : FolderEvent) → IsReadOf name e → change_beside ending e ≡ None
read_beside ending of (folder_event.Edited name old new) kind = refl
read_beside ending of (folder_event.Wrote name old new) kind = absurd kind
read_beside ending of (folder_event.Read name bytes) kind = refl
read_beside ending of folder_event.Toggled kind = refl
read_beside ending of folder_event.Made kind = absurd kind

one_seen : {Kind : StoreEvent → Type 0} (t : SideState) (o : Option StoreEvent) → ForEvent (sides.IsTrueEvent t) o → ForEvent Kind o → sides.Evolves Kind t (after sides.happens t o)
one_seen t None is_true kind = Runs-refl t
one_seen t (Some e) is_true kind = Runs-one t e kind is_true

-- a run of the folder that changes nothing beside the items is a run of the side
seen : (ending : List ℕ) (Of : FolderEvent → Type 0) (Kind : StoreEvent → Type 0)
    → ((e : FolderEvent) → Of e → change_beside ending e ≡ None)
    → ((s : FolderState) (e : FolderEvent) → Of e → folders.IsTrueEvent s e → ForEvent (sides.IsTrueEvent (side_of ending s)) (event_of ending e))
    → ((e : FolderEvent) → Of e → ForEvent Kind (event_of ending e))
    → (s t : FolderState) → folders.Evolves Of s t → sides.Evolves Kind (side_of ending s) (side_of ending t)
seen ending Of Kind none truly kinds s t run =
    Runs-lift (side_of ending) (λ s e of is_true. subst (λ (x : SideState). sides.Evolves Kind (side_of ending s) x) (sym (side_of-happens ending s e (none e of) is_true)) (one_seen (side_of ending s) (event_of ending e) (truly s e of is_true) (kinds e of))) run

-- edits from outside of the folder are edits from outside of the side, and a call that reads a file reads at its href
pub outside_seen : (ending : List ℕ) (s t : FolderState) → folders.Evolves folders.IsOutside s t → sides.Evolves sides.IsOutside (side_of ending s) (side_of ending t)
outside_seen ending s t run = seen ending folders.IsOutside sides.IsOutside (outside_beside ending) (outside_true ending) (outside_kind ending) s t run

pub read_seen : (ending name : List ℕ) (s t : FolderState) → folders.Evolves (IsReadOf name) s t → sides.Evolves (store_calls.IsGetOf (name ∷ [])) (side_of ending s) (side_of ending t)
read_seen ending name s t run = seen ending (IsReadOf name) (store_calls.IsGetOf (name ∷ [])) (read_beside ending name) (reads_true ending name) (read_kind ending name) s t run

-- and so are the changes of a call
module _ {X : Type 0} {count : X → ℕ} {tells : X → Type 0} {state : X → FolderState} where
  pub Changes-outside : (ending : List ℕ) (old new : X) → folders.Changes count tells state folders.IsOutside old new → store_calls.Changes count tells (λ x. side_of ending (state x)) sides.IsOutside old new
  Changes-outside ending old new changes = record { later = changes.later; told = λ t. let end = changes.told t in (end.0, outside_seen ending (state old) (state new) end.1) }

  pub Changes-read : (ending name : List ℕ) (old new : X) → folders.Changes count tells state (IsReadOf name) old new → store_calls.Changes count tells (λ x. side_of ending (state x)) (store_calls.IsGetOf (name ∷ [])) old new
  Changes-read ending name old new changes = record { later = changes.later; told = λ t. let end = changes.told t in (end.0, read_seen ending name (state old) (state new) end.1) }
