-- What stands in a folder, as a keeper tells it from what it found.
use Rattle.std.proofs.Common.{◌≡◌, ℕ, Bool, true, false, List, [], ◌∷◌, Option, Some, None, Ok, refl, sym, ap, ◌∙◌, subst}
use Rattle.std.specs.Prelude.{if◌then◌else◌, ◌&&◌, is_none}
use Rattle.std.specs.Option.{option_map}
use Rattle.std.specs.FinMap as fin
use Rattle.std.specs.Ordering.{nat_cmp}
use Rattle.std.specs.Cmp.Lexicographic.{slice_cmp}
use Rattle.outside.specs.Etag.{etag}
use Rattle.outside.specs.Runs.{Leads}
use Rattle.outside.proofs.Runs.{Runs-refl}
use Rattle.outside.proofs.FolderLemmas.{make_run, IsEmptyWhereAbsent}
use Rattle.outside.specs.Files as folders
use Rattle.outside.specs.Files.{FolderState}
use Rattle.outside.specs.FolderCalls.{has_etag, made}
use Rattle.outside.specs.declared.folder.FolderEvent.{FolderEvent}
use Rattle.outside.specs.declared.folder.FolderEvent.TheVariants as folder_event
use Rattle.status_keeper.specs.KeeperCalls.{found_at, is_as_found, made_where, placed}
use Rattle.status_keeper.specs.FileStatus.{status_file, stamp_in, state_of, is_file_as_found, folder_placed}
use Rattle.status_keeper.proofs.Lifting.{state_of-happens}

-- a folder that isn't there stays without files
empty_by : (s t : FolderState) (es : List FolderEvent) → Leads folders.happens folders.IsTrueEvent folders.IsOutside s es t → IsEmptyWhereAbsent s → IsEmptyWhereAbsent t
empty_by s t [] leads law = subst IsEmptyWhereAbsent (sym leads) law
empty_by s t (folder_event.Edited name old new ∷ es) leads law = empty_by (folders.happens s (folder_event.Edited name old new)) t es leads.2 (λ absent. absurd (let clash : true ≡ false = sym leads.1.0 ∙ absent in cc))
empty_by s t (folder_event.Toggled ∷ es) leads law = empty_by (folders.happens s folder_event.Toggled) t es leads.2 (λ absent. leads.1)
empty_by s t (folder_event.Wrote name old new ∷ es) leads law = absurd leads.0
empty_by s t (folder_event.Read name bytes ∷ es) leads law = absurd leads.0
empty_by s t (folder_event.Made ∷ es) leads law = absurd leads.0

pub empty_later : (s t : FolderState) → folders.Evolves folders.IsOutside s t → IsEmptyWhereAbsent s → IsEmptyWhereAbsent t
empty_later s t run law = empty_by s t run.events run.leads law

empty_made : (m : FolderState) (b : Bool) → IsEmptyWhereAbsent m → IsEmptyWhereAbsent (if b then m else folders.happens m folder_event.Made)
empty_made m true law = law
empty_made m false law = λ absent. absurd (let clash : true ≡ false = absent in cc)

pub empty_placed : (found : Option (List ℕ)) (m : FolderState) → IsEmptyWhereAbsent m → IsEmptyWhereAbsent (folder_placed found m)
empty_placed None m law = empty_made m m.is_there law
empty_placed (Some tag) m law = law

-- the making of the folder is a run of its own
pub placed_made : (found : Option (List ℕ)) (m : FolderState) → folders.Evolves folders.IsMaking m (folder_placed found m)
placed_made None m = make_run m m (made m) (Ok tt) (Runs-refl m) refl
placed_made (Some tag) m = Runs-refl m

no_file : (m : FolderState) → IsEmptyWhereAbsent m → m.is_there ≡ false → fin.get m.files status_file ≡ None
no_file m law absent = ap (λ files. fin.get files status_file) (law absent) ∙ fin.get-empty (slice_cmp nat_cmp) status_file

made_seen : (m : FolderState) → IsEmptyWhereAbsent m → (b : Bool) → m.is_there ≡ b → state_of (if b then m else folders.happens m folder_event.Made) ≡ made_where (stamp_in b (fin.get m.files status_file)) (state_of m)
made_seen m law true is = at (fin.get m.files status_file)
  where
    at : (o : Option (List ℕ)) → state_of m ≡ made_where (stamp_in true o) (state_of m)
    at None = refl
    at (Some bytes) = refl
made_seen m law false is = state_of-happens m folder_event.Made refl is ∙ ap (λ (o : Option (List ℕ)). made_where (stamp_in false o) (state_of m)) (sym (no_file m law is))

-- the folder is placed as its status is
pub placed_seen : (found : Option (List ℕ)) (m : FolderState) → IsEmptyWhereAbsent m → state_of (folder_placed found m) ≡ placed found (state_of m)
placed_seen None m law = made_seen m law m.is_there refl
placed_seen (Some tag) m law = refl

met_none : (b : Bool) (o : Option (List ℕ)) → (b && is_none o) ≡ is_as_found None (stamp_in b o)
met_none true None = refl
met_none false None = refl
met_none true (Some bytes) = refl
met_none false (Some bytes) = refl

met_some : (tag : List ℕ) (b : Bool) (o : Option (List ℕ)) → (b ≡ false → o ≡ None) → (b && has_etag tag o) ≡ is_as_found (Some tag) (stamp_in b o)
met_some tag true None law = refl
met_some tag false None law = refl
met_some tag true (Some bytes) law = refl
met_some tag false (Some bytes) law = absurd (let clash = law refl in cc)

-- the file is as it was found where what stands is
pub met_seen : (found : Option (List ℕ)) (m : FolderState) → IsEmptyWhereAbsent m → is_file_as_found found m ≡ is_as_found found (state_of m).stamp
met_seen None m law = met_none m.is_there (fin.get m.files status_file)
met_seen (Some tag) m law = met_some tag m.is_there (fin.get m.files status_file) (no_file m law)

-- what is found of a file
found_in : (b : Bool) (o : Option (List ℕ)) → found_at (stamp_in b o) ≡ option_map etag o
found_in true None = refl
found_in false None = refl
found_in b (Some bytes) = refl

pub stands : (m : FolderState) (o : Option (List ℕ)) → fin.get m.files status_file ≡ o → found_at (state_of m).stamp ≡ option_map etag o
stands m o is = found_in m.is_there (fin.get m.files status_file) ∙ ap (option_map etag) is
