-- What a folder holds and what happens to it.
use Rattle.std.specs.Prelude.{◌≡◌, ℕ, Bool, true, false, not, List, [], ◌∷◌, ◌++◌, Option, Some, None}
use Rattle.std.specs.Ordering.{nat_cmp}
use Rattle.std.specs.Cmp.Lexicographic.{slice_cmp}
use Rattle.std.specs.FinMap as fin
use Rattle.outside.specs.Runs.{Runs, ChangesBy, Anything}
use Rattle.outside.specs.declared.folder.FolderEvent.{FolderEvent}
use Rattle.outside.specs.declared.folder.FolderEvent.TheVariants.{Edited, Toggled, Wrote, Read, Made}

-- the files of a folder: from names to bytes
abbrev pub Files : Type 0
Files = fin.FinMap (slice_cmp nat_cmp) (List ℕ)

-- the file under a name becomes this, or goes
abbrev pub put_file : Files → List ℕ → Option (List ℕ) → Files
put_file files name (Some bytes) = fin.insert files name bytes
put_file files name None = fin.remove files name

pub record FolderState : Type 0 where
  pub is_there : Bool
  pub files : Files
  -- the names of its subfolders, in byte order
  pub folders : List (List ℕ)
  -- all that has happened, the first of it first
  pub trail : List FolderEvent

abbrev pub files_after : Files → FolderEvent → Files
files_after files (Edited name old new) = put_file files name new
files_after files Toggled = files
files_after files (Wrote name old new) = put_file files name new
files_after files (Read name bytes) = files
files_after files Made = files

abbrev pub presence_after : Bool → FolderEvent → Bool
presence_after b (Edited name old new) = b
presence_after b Toggled = not b
presence_after b (Wrote name old new) = b
presence_after b (Read name bytes) = b
presence_after b Made = true

-- what an event changes; it stands in the trail
abbrev pub happens : FolderState → FolderEvent → FolderState
happens s e = record { is_there = presence_after s.is_there e; files = files_after s.files e; folders = s.folders; trail = s.trail ++ e ∷ [] }

-- an event tells the truth of the folder as it was just before it. A folder comes and goes empty
abbrev pub IsTrueEvent : FolderState → FolderEvent → Type 0
IsTrueEvent s (Edited name old new) = (s.is_there ≡ true) × (old ≡ fin.get s.files name)
IsTrueEvent s Toggled = s.files ≡ fin.empty
IsTrueEvent s (Wrote name old new) = (s.is_there ≡ true) × (old ≡ fin.get s.files name)
IsTrueEvent s (Read name bytes) = fin.get s.files name ≡ Some bytes
IsTrueEvent s Made = s.is_there ≡ false

-- t is s after some true events, each of them of this kind
abbrev pub Evolves : (FolderEvent → Type 0) → FolderState → FolderState → Type 0
Evolves Kind s t = Runs happens IsTrueEvent Kind s t

abbrev pub Since : FolderState → FolderState → Type 0
Since s t = Evolves Anything s t

-- an edit from outside, of a file or of the folder
abbrev pub IsOutside : FolderEvent → Type 0
IsOutside (Edited name old new) = Unit {0}
IsOutside Toggled = Unit {0}
IsOutside (Wrote name old new) = ⊥
IsOutside (Read name bytes) = ⊥
IsOutside Made = ⊥

-- edits from outside, and readings of the file under this name
abbrev pub IsReadOf : List ℕ → FolderEvent → Type 0
IsReadOf of (Edited name old new) = Unit {0}
IsReadOf of Toggled = Unit {0}
IsReadOf of (Wrote name old new) = ⊥
IsReadOf of (Read name bytes) = name ≡ of
IsReadOf of Made = ⊥

-- edits from outside, and own writes under this name that leave this
abbrev pub IsWriteOf : List ℕ → Option (List ℕ) → FolderEvent → Type 0
IsWriteOf of what (Edited name old new) = Unit {0}
IsWriteOf of what Toggled = Unit {0}
IsWriteOf of what (Wrote name old new) = (name ≡ of) × (new ≡ what)
IsWriteOf of what (Read name bytes) = ⊥
IsWriteOf of what Made = ⊥

-- edits from outside, and the making of the folder
abbrev pub IsMaking : FolderEvent → Type 0
IsMaking (Edited name old new) = Unit {0}
IsMaking Toggled = Unit {0}
IsMaking (Wrote name old new) = ⊥
IsMaking (Read name bytes) = ⊥
IsMaking Made = Unit {0}

-- no own write
abbrev pub IsNoWrite : FolderEvent → Type 0
IsNoWrite (Edited name old new) = Unit {0}
IsNoWrite Toggled = Unit {0}
IsNoWrite (Wrote name old new) = ⊥
IsNoWrite (Read name bytes) = Unit {0}
IsNoWrite Made = Unit {0}

-- a folder changed by events of this kind alone, where it tells its state; its count of faults doesn't fall
abbrev pub Changes : {X : Type 0} → (X → ℕ) → (X → Type 0) → (X → FolderState) → (FolderEvent → Type 0) → X → X → Type 0
Changes count tells state Kind old new = ChangesBy happens IsTrueEvent count tells state Kind old new

-- a folder to which nothing has happened. Of several files under one name the first counts
abbrev pub is_new : Bool → List (List ℕ × List ℕ) → List (List ℕ) → FolderState
is_new there files folders = record { is_there = there; files = fin.from_entries files; folders = folders; trail = [] }

-- the state that a folder shows which tells nothing of what it holds
abbrev pub nothing_told : FolderState
nothing_told = record { is_there = false; files = fin.empty; folders = []; trail = [] }
