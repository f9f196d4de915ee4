-- The places of an outfit: what stands at each location, and what opening and giving back change (this project's own).
use Rattle.std.specs.Prelude.{◌≡◌, ◌≢◌, ℕ, false, List, [], Contains, Option, Some, None, Result, Ok, Err}
use Rattle.outside.specs.declared.folder.NoMemory.{NoMemory}
use Rattle.outside.specs.Files.{FolderState, is_new}

-- what is known of a folder: its count of faults, and its state, which says something where it is told
pub record Place : Type 0 where
  pub faults : ℕ
  pub state : FolderState

abbrev pub place_by : {D : Type 0} → (D → ℕ) → (D → FolderState) → D → Place
place_by count state d = record { faults = count d; state = state d }

-- at each location stands what stood there
abbrev pub IsSame : {P : Type 0} → (List ℕ → Option P) → (List ℕ → Option P) → Type 0
IsSame old new = (q : List ℕ) → new q ≡ old q

-- at this location stands this now (nothing: it is out), and everywhere else what stood there
pub record ChangesOnly {P : Type 0} (old new : List ℕ → Option P) (path : List ℕ) (place : Option P) : Type 0 where
  pub here : new path ≡ place
  pub others : (q : List ℕ) → q ≢ path → new q ≡ old q

-- no place is out
abbrev pub IsWhole : {P : Type 0} → (List ℕ → Option P) → Type 0
IsWhole places = (q : List ℕ) → places q ≢ None

-- a place is handed out as it stands, exactly where it isn't out
abbrev pub OpenAnswer : {D P : Type 0} → (D → P) → (List ℕ → Option P) → (List ℕ → Option P) → List ℕ → Result (Option D) NoMemory → Type 0
OpenAnswer place_of old new path (Ok (Some dir)) = (old path ≡ Some (place_of dir)) × ChangesOnly old new path None
OpenAnswer place_of old new path (Ok None) = (old path ≡ None) × IsSame old new
OpenAnswer place_of old new path (Err e) = IsSame old new

-- each location of which the state was told still tells it
abbrev pub StayTold : (List ℕ → Type 0) → (List ℕ → Type 0) → Type 0
StayTold old new = (q : List ℕ) → old q → new q

-- what is handed out tells its state where its place did
abbrev pub OpenTold : {D : Type 0} → (D → Type 0) → (List ℕ → Type 0) → (List ℕ → Type 0) → List ℕ → Result (Option D) NoMemory → Type 0
OpenTold tells_of old new path (Ok (Some dir)) = (old path → tells_of dir) × StayTold old new
OpenTold tells_of old new path (Ok None) = StayTold old new
OpenTold tells_of old new path (Err e) = StayTold old new

-- a place tells its state where what is put there does, and all others stay as they are
pub record GiveTold (old new : List ℕ → Type 0) (path : List ℕ) (is_told : Type 0) : Type 0 where
  pub here : is_told → new path
  pub others : (q : List ℕ) → q ≢ path → old q → new q

-- a folder that isn't there, without files and faults
abbrev pub blank_place : Place
blank_place = record { faults = 0; state = is_new false [] [] }

-- at each location of a list stands what was put there, and everywhere else a blank
pub record StandAs {D P : Type 0} (place_of : D → P) (blank : P) (dirs : List (List ℕ × D)) (places : List ℕ → Option P) : Type 0 where
  pub each : (d : List ℕ × D) → Contains dirs d → places d.0 ≡ Some (place_of d.1)
  pub others : (q : List ℕ) → ((d : List ℕ × D) → Contains dirs d → d.0 ≢ q) → places q ≡ Some blank
