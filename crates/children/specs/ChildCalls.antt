-- What each call of a spawner may do, where the spawner tells its state (this project's own).
use Rattle.std.specs.Prelude.{◌≡◌, ℕ, ◌-◌, ◌^◌, ◌<◌, ◌≤◌, max, List, length, ◌⊎◌, Result, Ok, Err}
use Rattle.children.specs.declared.spawner.Ended.{Ended}
use Rattle.children.specs.declared.spawner.Edited.{Edited}
use Rattle.children.specs.declared.spawner.ChildEvent.{ChildEvent}
use Rattle.children.specs.declared.spawner.ChildEvent.TheVariants.{Ran, RanEditor}
use Rattle.children.specs.declared.spawner.SpawnError.{SpawnError}
use Rattle.children.specs.declared.spawner.SpawnError.TheVariants.{Fault, TooLong, NoMemory}
use Rattle.children.specs.Children.{ChildState, happens, IsTrueEvent}

-- this program was run, and no other
pub record Played (s t : ChildState) (e : ChildEvent) : Type 0 where
  pub is_true : IsTrueEvent s e
  pub after : t ≡ happens s e

-- a program was run with these words, and ended in this way
pub record RanSo (s t : ChildState) (argv : List (List ℕ)) (Is : Ended → Type 0) : Type 0 where
  pub ended : Ended
  pub played : Played s t (Ran argv ended)
  pub so : Is ended

-- an editor was run with these words over these texts, and ended in this way
pub record EditedSo (s t : ChildState) (argv : List (List ℕ)) (a b : List ℕ) (Is : Edited → Type 0) : Type 0 where
  pub edited : Edited
  pub played : Played s t (RanEditor argv a b edited)
  pub so : Is edited

-- the program was run, or it wasn't
abbrev pub RanOrNot : ChildState → ChildState → List (List ℕ) → Type 0
RanOrNot s t argv = (t ≡ s) ⊎ RanSo s t argv (λ ended. Unit {0})

abbrev pub RunAnswer : ChildState → ChildState → List (List ℕ) → ℕ → Result Ended SpawnError → Type 0
RunAnswer s t argv limit (Ok ended) = Played s t (Ran argv ended) × (length ended.output ≤ limit)
RunAnswer s t argv limit (Err TooLong) = RanSo s t argv (λ ended. limit < length ended.output)
RunAnswer s t argv limit (Err Fault) = RanOrNot s t argv
RunAnswer s t argv limit (Err NoMemory) = RanOrNot s t argv

-- the length of the longer of the two files
abbrev pub longest : Edited → ℕ
longest edited = max (length edited.a) (length edited.b)

abbrev pub EditedOrNot : ChildState → ChildState → List (List ℕ) → List ℕ → List ℕ → Type 0
EditedOrNot s t argv a b = (t ≡ s) ⊎ EditedSo s t argv a b (λ edited. Unit {0})

abbrev pub EditAnswer : ChildState → ChildState → List (List ℕ) → List ℕ → List ℕ → ℕ → Result Edited SpawnError → Type 0
EditAnswer s t argv a b limit (Ok edited) = Played s t (RanEditor argv a b edited) × (longest edited ≤ limit)
EditAnswer s t argv a b limit (Err TooLong) = EditedSo s t argv a b (λ edited. limit < longest edited)
EditAnswer s t argv a b limit (Err Fault) = EditedOrNot s t argv a b
EditAnswer s t argv a b limit (Err NoMemory) = EditedOrNot s t argv a b

-- an error and its cause: a Fault comes only where the count rose, and TooLong only where the length of an output, a
-- u64, can be past the limit
abbrev pub SpawnCause : Type 0 → ℕ → SpawnError → Type 0
SpawnCause rose limit Fault = rose
SpawnCause rose limit TooLong = limit < 2 ^ 64 - 1
SpawnCause rose limit NoMemory = Unit {0}
