-- What happens to the folder happens to the status.
use Rattle.std.proofs.Common.{◌≡◌, ℕ, Bool, true, false, cond, not, List, [], ◌∷◌, ◌++◌, Option, Some, None, Ok, Err, refl, sym, ap, ◌∙◌, subst, append-nil}
use Rattle.std.specs.Prelude.{if◌then◌else◌}
use Rattle.std.specs.List.{filter_map}
use Rattle.std.specs.FinMap as fin
use Rattle.std.specs.FinMap.{get-insert, get-remove}
use Rattle.std.specs.Str.{bytes_eq}
use Rattle.std.specs.Ordering.{nat_cmp, eq_by_cmp}
use Rattle.std.specs.Cmp.{eq_by_cmp_equiv}
use Rattle.std.specs.Cmp.Lexicographic.{slice_cmp, nat_list_cmp_total}
use Rattle.std.proofs.lemmas.Map.Text.{is_eq-slice_cmp}
use Rattle.std.proofs.lemmas.List.Elements.{filter_map-append}
use Rattle.std.proofs.lemmas.Slice.Eq.{bytes_eq-Decides}
use Rattle.outside.specs.Etag.{etag}
use Rattle.outside.specs.Runs.{after, ForEvent}
use Rattle.outside.proofs.Runs.{Runs-refl, Runs-one, Runs-lift}
use Rattle.outside.specs.Files as folders
use Rattle.outside.specs.Files.{Files, FolderState, put_file}
use Rattle.outside.specs.FolderCalls.{wrote}
use Rattle.outside.specs.declared.folder.FolderEvent.{FolderEvent}
use Rattle.outside.specs.declared.folder.FolderEvent.TheVariants as folder_event
use Rattle.status_keeper.specs.Kept.{Stamp, Tagged, KeeperEvent, KeeperState, Edited, Toggled, Made, Committed, Spoiled, kept_after, stamp_after, toggled, made, happens, Evolves, IsEdit, IsMaking}
use Rattle.status_keeper.specs.Status.{Kept, text_of, kept_of}
use Rattle.status_keeper.specs.FileStatus.{status_file, stamp_in, own_write, written, event_of, change_beside, state_of}

same_name : (name q : List ℕ) → eq_by_cmp (slice_cmp nat_cmp) q name ≡ bytes_eq name q
same_name name q = sym (sym (is_eq-slice_cmp name q) ∙ (eq_by_cmp_equiv nat_list_cmp_total).symm name q)

-- the file under a name, after a change of a file
pub got : (files : Files) (name : List ℕ) (new : Option (List ℕ)) (q : List ℕ) → fin.get (put_file files name new) q ≡ cond (bytes_eq name q) new (fin.get files q)
got files name (Some bytes) q = get-insert nat_list_cmp_total files name bytes q ∙ ap (λ b. cond b (Some bytes) (fin.get files q)) (same_name name q)
got files name None q = get-remove nat_list_cmp_total files name q ∙ ap (λ b. cond b None (fin.get files q)) (same_name name q)

-- a list of what each event leaves, one event later
one_more : {X : Type 0} (f : FolderEvent → Option X) (es : List FolderEvent) (e : FolderEvent) (x : X) → f e ≡ Some x → filter_map f (es ++ e ∷ []) ≡ filter_map f es ++ x ∷ []
one_more f es e x h = filter_map-append f es (e ∷ []) ∙ rw h refl

none_more : {X : Type 0} (f : FolderEvent → Option X) (es : List FolderEvent) (e : FolderEvent) → f e ≡ None → filter_map f (es ++ e ∷ []) ≡ filter_map f es
none_more f es e h = filter_map-append f es (e ∷ []) ∙ rw h (append-nil (filter_map f es))

-- a change of the file, or an edit of another
file_step : (s : FolderState) (e : FolderEvent) (x : KeeperEvent) (name : List ℕ) (new : Option (List ℕ))
    → event_of e ≡ (if bytes_eq name status_file then Some x else None) → change_beside e ≡ None
    → kept_after (kept_of (fin.get s.files status_file)) x ≡ kept_of new → stamp_after (stamp_in s.is_there (fin.get s.files status_file)) x ≡ stamp_in s.is_there new
    → (b : Bool) → bytes_eq name status_file ≡ b
    → record { kept = kept_of (fin.get (put_file s.files name new) status_file); stamp = stamp_in s.is_there (fin.get (put_file s.files name new) status_file); trail = filter_map event_of (s.trail ++ e ∷ []); beside = filter_map change_beside (s.trail ++ e ∷ []) } ≡ after happens (state_of s) (if b then Some x else None)
file_step s e x name new h o k p true is =
    let t = one_more event_of s.trail e x (h ∙ ap (λ b. if b then Some x else None) is) in
    let v = none_more change_beside s.trail e o in
    let g : fin.get (put_file s.files name new) status_file ≡ new = got s.files name new status_file ∙ ap (λ b. cond b new (fin.get s.files status_file)) is in
    let y = ap kept_of g ∙ sym k in
    let z = ap (stamp_in s.is_there) g ∙ sym p in
    λ i. record { kept = y i; stamp = z i; trail = t i; beside = v i }
file_step s e x name new h o k p false is =
    let t = none_more event_of s.trail e (h ∙ ap (λ b. if b then Some x else None) is) in
    let v = none_more change_beside s.trail e o in
    let g : fin.get (put_file s.files name new) status_file ≡ fin.get s.files status_file = got s.files name new status_file ∙ ap (λ b. cond b new (fin.get s.files status_file)) is in
    let y = ap kept_of g in
    let z = ap (stamp_in s.is_there) g in
    λ i. record { kept = y i; stamp = z i; trail = t i; beside = v i }

-- what an own write of the file leaves
own_kept : (k : Kept) (text : List ℕ) (kept : Kept) → kept_after k (own_write text kept) ≡ kept
own_kept k text (Err e) = refl
own_kept k text (Ok rows) = at (bytes_eq text (text_of rows))
  where
    at : (b : Bool) → kept_after k (if b then Committed rows else Spoiled (Ok rows) (Tagged (etag text))) ≡ Ok rows
    at true = refl
    at false = refl

own_stamp : (s : Stamp) (text : List ℕ) (kept : Kept) → stamp_after s (own_write text kept) ≡ Tagged (etag text)
own_stamp s text (Err e) = refl
own_stamp s text (Ok rows) = at (bytes_eq text (text_of rows)) refl
  where
    at : (b : Bool) → bytes_eq text (text_of rows) ≡ b → stamp_after s (if b then Committed rows else Spoiled (Ok rows) (Tagged (etag text))) ≡ Tagged (etag text)
    at true is = ap (λ (x : List ℕ). Tagged (etag x)) (sym ((bytes_eq-Decides text (text_of rows)).0 is))
    at false is = refl

written_kept : (k : Kept) (new : Option (List ℕ)) → kept_after k (written new) ≡ kept_of new
written_kept k None = refl
written_kept k (Some text) = own_kept k text (kept_of (Some text))

written_stamp : (s : Stamp) (b : Bool) (new : Option (List ℕ)) → b ≡ true → stamp_after s (written new) ≡ stamp_in b new
written_stamp s b None there = ap (λ (x : Bool). stamp_in x None) (sym there)
written_stamp s b (Some text) there = own_stamp s text (kept_of (Some text))

-- an own write of the file by this text
pub wrote_status : (s : FolderState) (text : List ℕ) → state_of (wrote s status_file (Some text)) ≡ happens (state_of s) (own_write text (kept_of (Some text)))
wrote_status s text =
    let same : bytes_eq status_file status_file ≡ true = (bytes_eq-Decides status_file status_file).1 refl in
    file_step s (folder_event.Wrote status_file (fin.get s.files status_file) (Some text)) (own_write text (kept_of (Some text))) status_file (Some text) refl refl
    (own_kept (kept_of (fin.get s.files status_file)) text (kept_of (Some text))) (own_stamp (stamp_in s.is_there (fin.get s.files status_file)) text (kept_of (Some text))) true same

pub read_step : (s : FolderState) (name bytes : List ℕ) → state_of (folders.happens s (folder_event.Read name bytes)) ≡ state_of s
read_step s name bytes =
    let t = none_more event_of s.trail (folder_event.Read name bytes) refl in
    let v = none_more change_beside s.trail (folder_event.Read name bytes) refl in
    λ i. record { kept = kept_of (fin.get s.files status_file); stamp = stamp_in s.is_there (fin.get s.files status_file); trail = t i; beside = v i }

toggles : (b : Bool) (o : Option (List ℕ)) → o ≡ None → stamp_in (not b) o ≡ toggled (stamp_in b o)
toggles true None h = refl
toggles false None h = refl
toggles b (Some bytes) h = absurd (let clash = h in cc)

makes : (b : Bool) (o : Option (List ℕ)) → stamp_in true o ≡ made (stamp_in b o)
makes true None = refl
makes false None = refl
makes b (Some bytes) = refl

-- one event that changes nothing beside the file: what it is to the folder, seen as a status, is what it is to the status
pub state_of-happens : (s : FolderState) (e : FolderEvent) → change_beside e ≡ None → folders.IsTrueEvent s e → state_of (folders.happens s e) ≡ after happens (state_of s) (event_of e)
state_of-happens s (folder_event.Edited name old new) none is_true =
    file_step s (folder_event.Edited name old new) (Edited (kept_of new) (stamp_in true new)) name new refl none refl (ap (λ (b : Bool). stamp_in b new) (sym is_true.0)) (bytes_eq name status_file) refl
state_of-happens s (folder_event.Wrote name old new) none is_true =
    file_step s (folder_event.Wrote name old new) (written new) name new refl none (written_kept (kept_of (fin.get s.files status_file)) new) (written_stamp (stamp_in s.is_there (fin.get s.files status_file)) s.is_there new is_true.0) (bytes_eq name status_file) refl
state_of-happens s (folder_event.Read name bytes) none is_true = read_step s name bytes
state_of-happens s folder_event.Toggled none is_true =
    let t = one_more event_of s.trail folder_event.Toggled Toggled refl in
    let v = none_more change_beside s.trail folder_event.Toggled refl in
    let g : fin.get s.files status_file ≡ None = ap (λ files. fin.get files status_file) is_true ∙ fin.get-empty (slice_cmp nat_cmp) status_file in
    let z = toggles s.is_there (fin.get s.files status_file) g in
    λ i. record { kept = kept_of (fin.get s.files status_file); stamp = z i; trail = t i; beside = v i }
state_of-happens s folder_event.Made none is_true =
    let t = one_more event_of s.trail folder_event.Made Made refl in
    let v = none_more change_beside s.trail folder_event.Made refl in
    let z = makes s.is_there (fin.get s.files status_file) in
    λ i. record { kept = kept_of (fin.get s.files status_file); stamp = z i; trail = t i; beside = v i }

one_seen : {Kind : KeeperEvent → Type 0} (t : KeeperState) (o : Option KeeperEvent) → ForEvent Kind o → Evolves Kind t (after happens t o)
one_seen t None kind = Runs-refl t
one_seen t (Some e) kind = Runs-one t e kind tt

-- a run of the folder that changes nothing beside the file is a run of the status
seen : (Of : FolderEvent → Type 0) (Kind : KeeperEvent → Type 0) → ((e : FolderEvent) → Of e → change_beside e ≡ None) → ((e : FolderEvent) → Of e → ForEvent Kind (event_of e))
    → (s t : FolderState) → folders.Evolves Of s t → Evolves Kind (state_of s) (state_of t)
seen Of Kind none kinds s t run =
    Runs-lift state_of (λ s e of is_true. subst (λ (x : KeeperState). Evolves Kind (state_of s) x) (sym (state_of-happens s e (none e of) is_true)) (one_seen (state_of s) (event_of e) (kinds e of))) run

making_beside : (e : FolderEvent) → folders.IsMaking e → change_beside e ≡ None
making_beside (folder_event.Edited name old new) kind = refl
making_beside (folder_event.Wrote name old new) kind = absurd kind
making_beside (folder_event.Read name bytes) kind = absurd kind
making_beside folder_event.Toggled kind = refl
making_beside folder_event.Made kind = refl

outside_beside : (e : FolderEvent) → folders.IsOutside e → change_beside e ≡ None
outside_beside (folder_event.Edited name old new) kind = refl
outside_beside (folder_event.Wrote name old new) kind = absurd kind
outside_beside (folder_event.Read name bytes) kind = absurd kind
outside_beside folder_event.Toggled kind = refl
outside_beside folder_event.Made kind = absurd kind

seen_kind : (P : KeeperEvent → Type 0) (x : KeeperEvent) (b : Bool) → P x → ForEvent P (if b then Some x else None)
seen_kind P x true p = p
seen_kind P x false p = tt

making_kind : (e : FolderEvent) → folders.IsMaking e → ForEvent IsMaking (event_of e)
making_kind (folder_event.Edited name old new) kind = seen_kind IsMaking (Edited (kept_of new) (stamp_in true new)) (bytes_eq name status_file) tt
making_kind (folder_event.Wrote name old new) kind = absurd kind
making_kind (folder_event.Read name bytes) kind = absurd kind
making_kind folder_event.Toggled kind = tt
making_kind folder_event.Made kind = tt

outside_kind : (e : FolderEvent) → folders.IsOutside e → ForEvent IsEdit (event_of e)
outside_kind (folder_event.Edited name old new) kind = seen_kind IsEdit (Edited (kept_of new) (stamp_in true new)) (bytes_eq name status_file) tt
outside_kind (folder_event.Wrote name old new) kind = absurd kind
outside_kind (folder_event.Read name bytes) kind = absurd kind
outside_kind folder_event.Toggled kind = tt
outside_kind folder_event.Made kind = absurd kind

-- edits from outside of the folder are edits of the status, and so is the making of the folder seen there
pub making_seen : (s t : FolderState) → folders.Evolves folders.IsMaking s t → Evolves IsMaking (state_of s) (state_of t)
making_seen s t run = seen folders.IsMaking IsMaking making_beside making_kind s t run

pub outside_seen : (s t : FolderState) → folders.Evolves folders.IsOutside s t → Evolves IsEdit (state_of s) (state_of t)
outside_seen s t run = seen folders.IsOutside IsEdit outside_beside outside_kind s t run
