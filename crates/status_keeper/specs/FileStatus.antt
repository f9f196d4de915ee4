-- A folder seen as a keeper: the status is its file `items`, and what happens to the file happens to the status (this project's own).
use Rattle.std.specs.Prelude.{◌≡◌, ◌<◌, ◌≤◌, ◌⊎◌, ◌&&◌, ℕ, Bool, true, false, is_none, List, codes, length, Option, Some, None, Result, Ok, Err, if◌then◌else◌}
use Rattle.std.specs.List.{filter_map}
use Rattle.std.specs.Str.{bytes_eq}
use Rattle.std.specs.FinMap as fin
use Rattle.outside.specs.Etag.{etag}
use Rattle.outside.specs.Files as folders
use Rattle.outside.specs.Files.{FolderState}
use Rattle.outside.specs.FolderCalls.{has_tagged, made, wrote}
use Rattle.outside.specs.declared.folder.FolderEvent.{FolderEvent}
use Rattle.outside.specs.declared.folder.FolderEvent.TheVariants as folder_event
use Rattle.outside.specs.declared.folder.FolderError.{FolderError}
use Rattle.outside.specs.declared.folder.FolderError.TheVariants as folder_error
use Rattle.outside.specs.declared.folder.Change.{Change}
use Rattle.outside.specs.declared.folder.Change.TheVariants as change
use Rattle.status_keeper.specs.declared.row.Row.{Row}
use Rattle.status_keeper.specs.declared.keeper.KeeperError.{KeeperError}
use Rattle.status_keeper.specs.declared.keeper.KeeperError.TheVariants.{Fault, Moved, Damaged, TooLong, NoMemory}
use Rattle.status_keeper.specs.Kept.{Stamp, Gone, Empty, Tagged, KeeperEvent, Edited, Toggled, Made, Committed, Spoiled, KeeperState}
use Rattle.status_keeper.specs.Status.{Kept, max_status, text_of, kept_of}

-- the name of the file
abbrev pub status_file : List ℕ
status_file = codes "items"

-- what stands of the status, by whether the folder is there and by the file
abbrev pub stamp_in : Bool → Option (List ℕ) → Stamp
stamp_in b (Some bytes) = Tagged (etag bytes)
stamp_in true None = Empty
stamp_in false None = Gone

-- an own write of the file is a commit where it leaves just the text of the rows that it means
abbrev pub own_write : List ℕ → Kept → KeeperEvent
own_write text (Ok rows) = if bytes_eq text (text_of rows) then Committed rows else Spoiled (Ok rows) (Tagged (etag text))
own_write text (Err e) = Spoiled (Err e) (Tagged (etag text))

abbrev pub written : Option (List ℕ) → KeeperEvent
written None = Spoiled (kept_of None) Empty
written (Some text) = own_write text (kept_of (Some text))

-- what an event of the folder is to the status: nothing, where it doesn't touch the file. A folder comes and goes without files
abbrev pub event_of : FolderEvent → Option KeeperEvent
event_of (folder_event.Edited name old new) = if bytes_eq name status_file then Some (Edited (kept_of new) (stamp_in true new)) else None
event_of (folder_event.Wrote name old new) = if bytes_eq name status_file then Some (written new) else None
event_of folder_event.Toggled = Some Toggled
event_of (folder_event.Read name bytes) = None
event_of folder_event.Made = Some Made

-- an own change of another file, by its name
abbrev pub change_beside : FolderEvent → Option (List ℕ)
change_beside (folder_event.Edited name old new) = None
change_beside (folder_event.Wrote name old new) = if bytes_eq name status_file then None else Some name
change_beside folder_event.Toggled = None
change_beside (folder_event.Read name bytes) = None
change_beside folder_event.Made = None

-- the status that a folder holds, and all that has happened to it
abbrev pub state_of : FolderState → KeeperState
state_of s = record { kept = kept_of (fin.get s.files status_file); stamp = stamp_in s.is_there (fin.get s.files status_file); trail = filter_map event_of s.trail; beside = filter_map change_beside s.trail }

-- whether the file is as a keeper found it: of the same etag; or absent, and its folder there
abbrev pub is_file_as_found : Option (List ℕ) → FolderState → Bool
is_file_as_found None m = m.is_there && is_none (fin.get m.files status_file)
is_file_as_found (Some tag) m = has_tagged m status_file tag

-- the folder is there, where no file was found in it
abbrev pub folder_placed : Option (List ℕ) → FolderState → FolderState
folder_placed None s = made s
folder_placed (Some tag) s = s

-- edits from outside, the making of the folder where no file was found, edits again, and then what the call does
pub record AfterMaking (found : Option (List ℕ)) (s : FolderState) (Does : FolderState → Type 0) : Type 0 where
  pub asked : FolderState
  pub edits : folders.Evolves folders.IsOutside s asked
  pub moment : FolderState
  pub later : folders.Evolves folders.IsOutside (folder_placed found asked) moment
  pub does : Does moment

-- the answer of a conditional write of this text, whose condition was met or not
abbrev pub PutAnswer : FolderState → FolderState → Bool → List ℕ → Result (Unit {0}) KeeperError → Type 0
PutAnswer m t met text (Ok u) = (met ≡ true) × (t ≡ wrote m status_file (Some text))
PutAnswer m t met text (Err Moved) = (met ≡ false) × (t ≡ m)
PutAnswer m t met text (Err Fault) = (t ≡ m) ⊎ ((met ≡ true) × (t ≡ wrote m status_file (Some text)))
PutAnswer m t met text (Err NoMemory) = t ≡ m
PutAnswer m t met text (Err TooLong) = ⊥
PutAnswer m t met text (Err (Damaged k)) = ⊥

-- this text was written over the file as it was found
abbrev pub Puts : Option (List ℕ) → List ℕ → FolderState → FolderState → Type 0
Puts found text t m = (is_file_as_found found m ≡ true) × (t ≡ wrote m status_file (Some text))

-- a write of this text to the file: it acts exactly where the file is as it was found. Only a text past the limit is too long
abbrev pub PutsTo : Option (List ℕ) → FolderState → FolderState → List ℕ → Result (Unit {0}) KeeperError → Type 0
PutsTo found s t text (Ok u) = AfterMaking found s (Puts found text t)
PutsTo found s t text (Err Moved) = AfterMaking found s (λ m. (is_file_as_found found m ≡ false) × (t ≡ m))
PutsTo found s t text (Err Fault) = folders.Evolves folders.IsMaking s t ⊎ AfterMaking found s (Puts found text t)
PutsTo found s t text (Err NoMemory) = folders.Evolves folders.IsMaking s t
PutsTo found s t text (Err TooLong) = folders.Evolves folders.IsOutside s t × (max_status < length text)
PutsTo found s t text (Err (Damaged k)) = ⊥

-- rows whose text passes the limit are neither written nor compared with what stands
abbrev pub IsWithin : List Row → Result (Unit {0}) KeeperError → Type 0
IsWithin rows (Ok u) = length (text_of rows) ≤ max_status
IsWithin rows (Err Moved) = length (text_of rows) ≤ max_status
IsWithin rows (Err Fault) = Unit {0}
IsWithin rows (Err TooLong) = Unit {0}
IsWithin rows (Err NoMemory) = Unit {0}
IsWithin rows (Err (Damaged k)) = Unit {0}

-- a commit of these rows to the file: their text is written exactly where it is within the limit and the file is as it was found
pub record CommitsTo (told : Type 0) (s t : FolderState) (found : Option (List ℕ)) (rows : List Row) (result : Result (Unit {0}) KeeperError) : Type 0 where
  pub within : IsWithin rows result
  pub puts : told → PutsTo found s t (text_of rows) result

-- a folder's refusal, as a keeper's
abbrev pub refusal_of : FolderError → KeeperError
refusal_of folder_error.Fault = Fault
refusal_of folder_error.TooLong = TooLong
refusal_of folder_error.NoMemory = NoMemory

abbrev pub moved_of : Change → Result (Unit {0}) KeeperError
moved_of change.Done = Ok tt
moved_of change.Moved = Err Moved

abbrev pub replaced_of : Result Change FolderError → Result (Unit {0}) KeeperError
replaced_of (Ok done) = moved_of done
replaced_of (Err e) = Err (refusal_of e)
