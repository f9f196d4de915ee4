-- What each answer of a folder says of its run.
use Rattle.std.proofs.Common.{ℕ, inl, inr, Bool, true, false, Option, Some, None, Result, Ok, Err, ◌≡◌, List, [], refl, sym, subst}
use Rattle.std.specs.Prelude.{◌&&◌, if◌then◌else◌}
use Rattle.std.specs.FinMap as fin
use Rattle.std.specs.declared.vec.Vec.{Vec}
use Rattle.std.specs.declared.alloc.Global.{Global}
use Rattle.outside.specs.declared.folder.FolderEvent.{FolderEvent}
use Rattle.outside.specs.declared.folder.FolderEvent.TheVariants.{Edited, Toggled, Wrote, Read, Made}
use Rattle.outside.specs.declared.folder.FolderError.{FolderError}
use Rattle.outside.specs.declared.folder.FolderError.TheVariants.{Fault, TooLong, NoMemory}
use Rattle.outside.specs.declared.folder.Change.{Change}
use Rattle.outside.specs.declared.folder.Change.TheVariants.{Done, Moved}
use Rattle.outside.specs.declared.folder.Expect.{Expect}
use Rattle.outside.specs.declared.folder.Expect.TheVariants.{Absent, Etag}
use Rattle.outside.specs.Files.{FolderState, happens, IsTrueEvent, Evolves, IsOutside, IsReadOf, IsWriteOf, IsMaking}
use Rattle.outside.specs.FolderCalls.{ReadAnswer, ReplaceAnswer, RemoveAnswer, MakeAnswer, meets}
use Rattle.outside.proofs.Runs.{Runs-trans, Runs-weaker, Runs-one, KeepsEvents}

-- a conditional write that acted, or was refused, and whose answer was lost
pub replace_lost : (m t : FolderState) (name : List ℕ) (expect : Expect) (new : List ℕ) (change : Change) → ReplaceAnswer m t name expect new (Ok change) → ReplaceAnswer m t name expect new (Err Fault)
replace_lost m t name expect new Done h = inr h
replace_lost m t name expect new Moved h = inl h.1

pub remove_lost : (m t : FolderState) (name tag : List ℕ) (change : Change) → RemoveAnswer m t name tag (Ok change) → RemoveAnswer m t name tag (Err Fault)
remove_lost m t name tag Done h = inr h
remove_lost m t name tag Moved h = inl h.1

pub outside_is_read : (name : List ℕ) (e : FolderEvent) → IsOutside e → IsReadOf name e
outside_is_read of (Edited name old new) h = tt
outside_is_read of Toggled h = tt
outside_is_read of (Wrote name old new) h = h
outside_is_read of (Read name bytes) h = absurd h
outside_is_read of Made h = h

pub outside_is_write : (name : List ℕ) (new : Option (List ℕ)) (e : FolderEvent) → IsOutside e → IsWriteOf name new e
outside_is_write of what (Edited name old new) h = tt
outside_is_write of what Toggled h = tt
outside_is_write of what (Wrote name old new) h = absurd h
outside_is_write of what (Read name bytes) h = h
outside_is_write of what Made h = h

pub outside_is_making : (e : FolderEvent) → IsOutside e → IsMaking e
outside_is_making (Edited name old new) h = tt
outside_is_making Toggled h = tt
outside_is_making (Wrote name old new) h = h
outside_is_making (Read name bytes) h = h
outside_is_making Made h = absurd h

-- nothing happens, after the edits
still : {Kind : FolderEvent → Type 0} {s m t : FolderState} → ((e : FolderEvent) → IsOutside e → Kind e) → Evolves IsOutside s m → t ≡ m → Evolves Kind s t
still {Kind} {s} f edits same = subst (λ (x : FolderState). Evolves Kind s x) (sym same) (Runs-weaker f edits)

-- one event happens, after the edits
then_one : {Kind : FolderEvent → Type 0} {s m t : FolderState} (e : FolderEvent) → ((e : FolderEvent) → IsOutside e → Kind e) → Evolves IsOutside s m → Kind e → IsTrueEvent m e → t ≡ happens m e → Evolves Kind s t
then_one {Kind} {s} {m} e f edits kind is_true same = subst (λ (x : FolderState). Evolves Kind s x) (sym same) (Runs-trans (Runs-weaker f edits) (Runs-one m e kind is_true))

pub read_run : (s m t : FolderState) (name : List ℕ) (limit : ℕ) (result : Result (Option (Vec ℕ Global)) FolderError) → Evolves IsOutside s m → ReadAnswer m t name limit result → Evolves (IsReadOf name) s t
read_run s m t name limit (Ok None) edits does = still (outside_is_read name) edits does.0
read_run s m t name limit (Ok (Some bytes)) edits does = then_one (Read name bytes.items) (outside_is_read name) edits refl does.0 does.2
read_run s m t name limit (Err TooLong) edits does = still (outside_is_read name) edits does.0
read_run s m t name limit (Err Fault) edits does = still (outside_is_read name) edits does
read_run s m t name limit (Err NoMemory) edits does = still (outside_is_read name) edits does

both_true : (a b : Bool) → (a && b) ≡ true → a ≡ true
both_true true b h = refl
both_true false b h = h

met_is_there : (m : FolderState) (name : List ℕ) (expect : Expect) → meets m name expect ≡ true → m.is_there ≡ true
met_is_there m name Absent h = both_true m.is_there _ h
met_is_there m name (Etag tag) h = both_true m.is_there _ h

pub replace_run : (s m t : FolderState) (name : List ℕ) (expect : Expect) (new : List ℕ) (result : Result Change FolderError) → Evolves IsOutside s m → ReplaceAnswer m t name expect new result → Evolves (IsWriteOf name (Some new)) s t
replace_run s m t name expect new (Ok Done) edits does = then_one (Wrote name (fin.get m.files name) (Some new)) (outside_is_write name (Some new)) edits (refl, refl) (met_is_there m name expect does.0, refl) does.1
replace_run s m t name expect new (Ok Moved) edits does = still (outside_is_write name (Some new)) edits does.1
replace_run s m t name expect new (Err TooLong) edits does = absurd does
replace_run s m t name expect new (Err Fault) edits does = elim does [
  | inl same ↦ still (outside_is_write name (Some new)) edits same
  | inr acted ↦ then_one (Wrote name (fin.get m.files name) (Some new)) (outside_is_write name (Some new)) edits (refl, refl) (met_is_there m name expect acted.0, refl) acted.1
]
replace_run s m t name expect new (Err NoMemory) edits does = still (outside_is_write name (Some new)) edits does

pub remove_run : (s m t : FolderState) (name tag : List ℕ) (result : Result Change FolderError) → Evolves IsOutside s m → RemoveAnswer m t name tag result → Evolves (IsWriteOf name None) s t
remove_run s m t name tag (Ok Done) edits does = then_one (Wrote name (fin.get m.files name) None) (outside_is_write name None) edits (refl, refl) (both_true _ _ does.0, refl) does.1
remove_run s m t name tag (Ok Moved) edits does = still (outside_is_write name None) edits does.1
remove_run s m t name tag (Err TooLong) edits does = absurd does
remove_run s m t name tag (Err Fault) edits does = elim does [
  | inl same ↦ still (outside_is_write name None) edits same
  | inr acted ↦ then_one (Wrote name (fin.get m.files name) None) (outside_is_write name None) edits (refl, refl) (both_true _ _ acted.0, refl) acted.1
]
remove_run s m t name tag (Err NoMemory) edits does = still (outside_is_write name None) edits does

made_run : (s m t : FolderState) (b : Bool) → m.is_there ≡ b → Evolves IsOutside s m → t ≡ (if b then m else happens m Made) → Evolves IsMaking s t
made_run s m t true is edits same = still outside_is_making edits same
made_run s m t false is edits same = then_one Made outside_is_making edits tt is same

pub make_run : (s m t : FolderState) (result : Result (Unit {0}) FolderError) → Evolves IsOutside s m → MakeAnswer m t result → Evolves IsMaking s t
make_run s m t (Ok done) edits does = made_run s m t m.is_there refl edits does
make_run s m t (Err TooLong) edits does = absurd does
make_run s m t (Err Fault) edits does = elim does [
  | inl same ↦ still outside_is_making edits same
  | inr acted ↦ made_run s m t m.is_there refl edits acted
]
make_run s m t (Err NoMemory) edits does = still outside_is_making edits does

-- a folder's edits from outside are a run of each call's kind
pub outside_reads : (name : List ℕ) (s t : FolderState) → Evolves IsOutside s t → Evolves (IsReadOf name) s t
outside_reads name s t edits = Runs-weaker (outside_is_read name) edits

pub outside_writes : (name : List ℕ) (new : Option (List ℕ)) (s t : FolderState) → Evolves IsOutside s t → Evolves (IsWriteOf name new) s t
outside_writes name new s t edits = Runs-weaker (outside_is_write name new) edits

pub outside_makes : (s t : FolderState) → Evolves IsOutside s t → Evolves IsMaking s t
outside_makes s t edits = Runs-weaker outside_is_making edits

-- a folder keeps all that happens to it, the reads among the rest
pub folder_keeps : KeepsEvents happens
folder_keeps = record {
  trail_of = λ s. s.trail;
  reads_of = λ s. [];
  is_kept = λ e. true;
  is_read = λ e. false;
  trail_grows = λ s e. refl;
  reads_grow = λ s e. refl;
  either = λ e h. sym h;
}

-- a folder that isn't there has no files
abbrev pub IsEmptyWhereAbsent : FolderState → Type 0
IsEmptyWhereAbsent s = s.is_there ≡ false → s.files ≡ fin.empty
