-- The file of the configuration, read through the outfit (this project's own).
use Rattle.std.specs.Prelude.{◌≡◌, ◌≢◌, ◌≤◌, ◌<◌, ℕ, List, length, Some, None, Result, Ok, Err}
use Rattle.std.specs.FinMap as fin
use Rattle.outside.specs.Causes.{Rose}
use Rattle.outside.specs.Files.{FolderState, happens}
use Rattle.outside.specs.FolderCalls.{AfterEdits}
use Rattle.outside.specs.declared.folder.FolderEvent.TheVariants.{Read}
use Rattle.outfits.specs.Places.{Place}
use Rattle.vdirsyncer_cli.specs.declared.file_error.FileError.{FileError}
use Rattle.vdirsyncer_cli.specs.declared.file_error.FileError.TheVariants.{IsNotThere, Fault, TooLong, NoMemory}
use Rattle.vdirsyncer_cli.specs.Places.{Places, place_at}

-- the longest configuration, 1 MiB
abbrev pub config_limit : ℕ
config_limit = 1048576

-- the file was read: its bytes stood there, within the limit
pub record IsFile (m t : FolderState) (name bytes : List ℕ) : Type 0 where
  pub stood : fin.get m.files name ≡ Some bytes
  pub fits : length bytes ≤ config_limit
  pub was_read : t ≡ happens m (Read name bytes)

-- what the file holds in the one folder state that the reading met, and what the reading leaves
abbrev pub FileSays : FolderState → FolderState → List ℕ → Result (List ℕ) FileError → Type 0
FileSays m t name (Ok bytes) = IsFile m t name bytes
FileSays m t name (Err IsNotThere) = (t ≡ m) × (fin.get m.files name ≡ None)
FileSays m t name (Err TooLong) = (t ≡ m) × ((bytes : List ℕ) × (fin.get m.files name ≡ Some bytes) × (config_limit < length bytes))
FileSays m t name (Err Fault) = t ≡ m
FileSays m t name (Err NoMemory) = t ≡ m

-- one reading of the file, between its place at entry and at exit
pub record FileStep (old new : Place) (tells : Type 0) (name : List ℕ) (result : Result (List ℕ) FileError) : Type 0 where
  pub later : old.faults ≤ new.faults
  pub cause : result ≡ Err Fault → Rose old.faults new.faults
  pub told : tells → AfterEdits old.state (λ m. FileSays m new.state name result)

-- the file was read through the outfit, and no other place was touched
pub record FileRead (old new : Places) (tells : List ℕ → Type 0) (folder name : List ℕ) (result : Result (List ℕ) FileError) : Type 0 where
  pub step : FileStep (place_at old folder) (place_at new folder) (tells folder) name result
  pub others : (q : List ℕ) → q ≢ folder → new q ≡ old q
