-- Own writes of a folder, seen by its status.
use Rattle.std.proofs.Common.{◌≡◌, ℕ, Bool, true, false, List, [], ◌∷◌, ◌++◌, Option, Some, None, Ok, Err, refl, sym, ap, ◌∙◌, subst}
use Rattle.std.specs.Prelude.{if◌then◌else◌}
use Rattle.std.specs.Str.{bytes_eq}
use Rattle.std.specs.FinMap as fin
use Rattle.std.proofs.lemmas.List.Elements.{filter_map-append}
use Rattle.outside.specs.Etag.{etag}
use Rattle.outside.specs.Files.{FolderState}
use Rattle.outside.specs.FolderCalls.{wrote}
use Rattle.outside.specs.declared.folder.FolderEvent.TheVariants as folder_event
use Rattle.status_keeper.specs.Kept.{Tagged, KeeperEvent, KeeperState, Committed, Spoiled, IsEdit, happens}
use Rattle.status_keeper.specs.Status.{Kept, text_of, kept_of}
use Rattle.status_keeper.specs.FileStatus.{status_file, own_write, change_beside, state_of}
use Rattle.status_keeper.proofs.Lifting.{wrote_status}

abbrev last_of : List KeeperEvent → Option KeeperEvent
last_of [] = None
last_of (e ∷ []) = Some e
last_of (e ∷ f ∷ es) = last_of (f ∷ es)

last_is : (es : List KeeperEvent) (e : KeeperEvent) → last_of (es ++ e ∷ []) ≡ Some e
last_is [] e = refl
last_is (x ∷ []) e = refl
last_is (x ∷ y ∷ es) e = last_is (y ∷ es) e

no_edit : (text : List ℕ) (kept : Kept) → IsEdit (own_write text kept) → ⊥
no_edit text (Err error) h = h
no_edit text (Ok rows) h = at (bytes_eq text (text_of rows)) h
  where
    at : (b : Bool) → IsEdit (if b then Committed rows else Spoiled (Ok rows) (Tagged (etag text))) → ⊥
    at true h = h
    at false h = h

pub own_write_is_no_edit : (s : FolderState) (text : List ℕ) (e : KeeperEvent) → state_of (wrote s status_file (Some text)) ≡ happens (state_of s) e → IsEdit e → ⊥
own_write_is_no_edit s text e is edit =
    let own : KeeperEvent = own_write text (kept_of (Some text)) in
    let trails : Some own ≡ Some e =
    sym (last_is (state_of s).trail own) ∙ ap (λ (x : KeeperState). last_of x.trail) (sym (wrote_status s text) ∙ is) ∙ last_is (state_of s).trail e in
    let same : e ≡ own = cc in
    no_edit text (kept_of (Some text)) (subst IsEdit same edit)

pub other_write_is_beside : (s : FolderState) (name : List ℕ) (new : Option (List ℕ)) → bytes_eq name status_file ≡ false → (state_of (wrote s name new)).beside ≡ (state_of s).beside ++ name ∷ []
other_write_is_beside s name new other =
    filter_map-append change_beside s.trail (folder_event.Wrote name (fin.get s.files name) new ∷ []) ∙ rw other refl
