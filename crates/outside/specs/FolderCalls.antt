-- What each call of a folder may do, where the folder tells its state.
use Rattle.std.specs.Prelude.{if◌then◌else◌, is_some, ◌≡◌, ℕ, Bool, true, false, ◌&&◌, List, ◌⊎◌, ◌<◌, ◌≤◌, ◌-◌, ◌^◌, length, map, filter, nat_eq, Option, Some, None, is_none, Result, Ok, Err}
use Rattle.std.specs.FinMap as fin
use Rattle.std.specs.List.{ends_with}
use Rattle.std.specs.Str.{bytes_eq}
use Rattle.std.specs.declared.vec.Vec.{Vec}
use Rattle.std.specs.declared.alloc.Global.{Global}
use Rattle.outside.specs.declared.folder.FolderEvent.TheVariants.{Edited, Toggled, Wrote, Read, Made}
use Rattle.outside.specs.declared.folder.FolderError.{FolderError}
use Rattle.outside.specs.declared.folder.FolderError.TheVariants.{Fault, TooLong, NoMemory}
use Rattle.outside.specs.declared.folder.Change.{Change}
use Rattle.outside.specs.declared.folder.Change.TheVariants.{Done, Moved}
use Rattle.outside.specs.declared.folder.Expect.{Expect}
use Rattle.outside.specs.declared.folder.Expect.TheVariants.{Absent, Etag}
use Rattle.outside.specs.declared.folder.FileEntry.{FileEntry}
use Rattle.outside.specs.Files.{Files, FolderState, happens, Evolves, IsOutside}
use Rattle.outside.specs.Etag.{etag}

-- first edits from outside, and then what the call does
pub record AfterEdits (s : FolderState) (Does : FolderState → Type 0) : Type 0 where
  pub moment : FolderState
  pub edits : Evolves IsOutside s moment
  pub does : Does moment

abbrev pub entry_of : List ℕ × List ℕ → FileEntry
entry_of file = record { name = file.0; etag = etag file.1 }

-- the files whose name ends so, in byte order of names
abbrev pub entries_of : List ℕ → Files → List FileEntry
entries_of ending files = map entry_of (filter (λ file. ends_with nat_eq file.0 ending) (fin.entries files))

abbrev pub NamesAnswer : FolderState → FolderState → List ℕ → Result (Option (Vec FileEntry Global)) FolderError → Type 0
NamesAnswer m t ending (Ok None) = (t ≡ m) × (m.is_there ≡ false)
NamesAnswer m t ending (Ok (Some entries)) = (t ≡ m) × (m.is_there ≡ true) × (entries.items ≡ entries_of ending m.files)
NamesAnswer m t ending (Err TooLong) = ⊥
NamesAnswer m t ending (Err Fault) = t ≡ m
NamesAnswer m t ending (Err NoMemory) = t ≡ m

-- the names of the subfolders; no reading of a file
abbrev pub FoldersAnswer : FolderState → FolderState → Result (Option (Vec (List ℕ) Global)) FolderError → Type 0
FoldersAnswer m t (Ok None) = (t ≡ m) × (m.is_there ≡ false)
FoldersAnswer m t (Ok (Some names)) = (t ≡ m) × (m.is_there ≡ true) × (names.items ≡ m.folders)
FoldersAnswer m t (Err TooLong) = ⊥
FoldersAnswer m t (Err Fault) = t ≡ m
FoldersAnswer m t (Err NoMemory) = t ≡ m

abbrev pub ReadAnswer : FolderState → FolderState → List ℕ → ℕ → Result (Option (Vec ℕ Global)) FolderError → Type 0
ReadAnswer m t name limit (Ok None) = (t ≡ m) × (fin.get m.files name ≡ None)
ReadAnswer m t name limit (Ok (Some bytes)) = (fin.get m.files name ≡ Some bytes.items) × (length bytes.items ≤ limit) × (t ≡ happens m (Read name bytes.items))
ReadAnswer m t name limit (Err TooLong) = (t ≡ m) × ((bytes : List ℕ) × (fin.get m.files name ≡ Some bytes) × (limit < length bytes))
ReadAnswer m t name limit (Err Fault) = t ≡ m
ReadAnswer m t name limit (Err NoMemory) = t ≡ m

abbrev pub has_etag : List ℕ → Option (List ℕ) → Bool
has_etag tag None = false
has_etag tag (Some bytes) = bytes_eq (etag bytes) tag

-- whether the folder is there, with a file of this etag under the name
abbrev pub has_tagged : FolderState → List ℕ → List ℕ → Bool
has_tagged m name tag = m.is_there && has_etag tag (fin.get m.files name)

-- whether the file is as a conditional write expects it
abbrev pub meets : FolderState → List ℕ → Expect → Bool
meets m name Absent = m.is_there && is_none (fin.get m.files name)
meets m name (Etag tag) = has_tagged m name tag.now

-- an edit from outside of the file under a name
abbrev pub edited : FolderState → List ℕ → Option (List ℕ) → FolderState
edited m name new = happens m (Edited name (fin.get m.files name) new)

-- what an edit from outside leaves. One that brings a file makes the folder first
abbrev pub after_edit : FolderState → List ℕ → Option (List ℕ) → FolderState
after_edit s name new = if s.is_there then edited s name new else (if is_some new then edited (happens s Toggled) name new else s)

-- an own write of the file under a name
abbrev pub wrote : FolderState → List ℕ → Option (List ℕ) → FolderState
wrote m name new = happens m (Wrote name (fin.get m.files name) new)

abbrev pub ReplaceAnswer : FolderState → FolderState → List ℕ → Expect → List ℕ → Result Change FolderError → Type 0
ReplaceAnswer m t name expect new (Ok Done) = (meets m name expect ≡ true) × (t ≡ wrote m name (Some new))
ReplaceAnswer m t name expect new (Ok Moved) = (meets m name expect ≡ false) × (t ≡ m)
ReplaceAnswer m t name expect new (Err Fault) = (t ≡ m) ⊎ ((meets m name expect ≡ true) × (t ≡ wrote m name (Some new)))
ReplaceAnswer m t name expect new (Err NoMemory) = t ≡ m
ReplaceAnswer m t name expect new (Err TooLong) = ⊥

abbrev pub RemoveAnswer : FolderState → FolderState → List ℕ → List ℕ → Result Change FolderError → Type 0
RemoveAnswer m t name tag (Ok Done) = (has_tagged m name tag ≡ true) × (t ≡ wrote m name None)
RemoveAnswer m t name tag (Ok Moved) = (has_tagged m name tag ≡ false) × (t ≡ m)
RemoveAnswer m t name tag (Err Fault) = (t ≡ m) ⊎ ((has_tagged m name tag ≡ true) × (t ≡ wrote m name None))
RemoveAnswer m t name tag (Err NoMemory) = t ≡ m
RemoveAnswer m t name tag (Err TooLong) = ⊥

-- the folder is there
abbrev pub made : FolderState → FolderState
made m = if m.is_there then m else happens m Made

abbrev pub MakeAnswer : FolderState → FolderState → Result (Unit {0}) FolderError → Type 0
MakeAnswer m t (Ok done) = t ≡ made m
MakeAnswer m t (Err Fault) = (t ≡ m) ⊎ (t ≡ made m)
MakeAnswer m t (Err NoMemory) = t ≡ m
MakeAnswer m t (Err TooLong) = ⊥

-- an error and its cause: a Fault comes only where the count rose, and TooLong never
abbrev pub FolderCause : Type 0 → FolderError → Type 0
FolderCause rose Fault = rose
FolderCause rose TooLong = ⊥
FolderCause rose NoMemory = Unit {0}

-- of a reading: TooLong comes only where the length of a file, a u64, can be past the limit
abbrev pub ReadCause : Type 0 → ℕ → FolderError → Type 0
ReadCause rose limit Fault = rose
ReadCause rose limit TooLong = limit < 2 ^ 64 - 1
ReadCause rose limit NoMemory = Unit {0}

-- what was read is within the limit
abbrev pub IsWithin : ℕ → Result (Option (Vec ℕ Global)) FolderError → Type 0
IsWithin limit (Ok None) = Unit {0}
IsWithin limit (Ok (Some bytes)) = length bytes.items ≤ limit
IsWithin limit (Err e) = Unit {0}
