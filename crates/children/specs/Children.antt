-- What a spawner tells of the programs that it ran, and of those still to come (this project's own).
use Rattle.std.specs.Prelude.{◌≡◌, ℕ, Bool, false, ◌==◌, List, [], ◌∷◌, ◌++◌, drop, length, Option, Some, None}
use Rattle.outside.specs.Runs.{ChangesBy}
use Rattle.children.specs.declared.spawner.Ended.{Ended}
use Rattle.children.specs.declared.spawner.Edited.{Edited}
use Rattle.children.specs.declared.spawner.ChildEvent.{ChildEvent}
use Rattle.children.specs.declared.spawner.ChildEvent.TheVariants.{Ran, RanEditor}

-- how the next programs and the next editors will end, the first of them first
pub record Script : Type 0 where
  pub runs : List Ended
  pub edits : List Edited

pub record ChildState : Type 0 where
  -- what is to come, where that is told
  pub ahead : Option Script
  -- all programs that were run, the first of them first
  pub calls : List ChildEvent

-- what is still to come once a program has run
abbrev pub ahead_after : Option Script → ChildEvent → Option Script
ahead_after None e = None
ahead_after (Some script) (Ran argv ended) = Some (record { runs = drop 1 script.runs; edits = script.edits })
ahead_after (Some script) (RanEditor argv a b edited) = Some (record { runs = script.runs; edits = drop 1 script.edits })

abbrev pub happens : ChildState → ChildEvent → ChildState
happens s e = record { ahead = ahead_after s.ahead e; calls = s.calls ++ e ∷ [] }

-- this stands next
abbrev pub IsNext : {X : Type 0} → List X → X → Type 0
IsNext [] x = ⊥
IsNext (y ∷ ys) x = x ≡ y

-- a program ends as the next of its kind is to, where that is told
abbrev pub IsToCome : Option Script → ChildEvent → Type 0
IsToCome None e = Unit {0}
IsToCome (Some script) (Ran argv ended) = IsNext script.runs ended
IsToCome (Some script) (RanEditor argv a b edited) = IsNext script.edits edited

abbrev pub IsTrueEvent : ChildState → ChildEvent → Type 0
IsTrueEvent s e = IsToCome s.ahead e

-- a program was run with these words
abbrev pub IsRunOf : List (List ℕ) → ChildEvent → Type 0
IsRunOf of (Ran argv ended) = argv ≡ of
IsRunOf of (RanEditor argv a b edited) = ⊥

-- an editor was run with these words over these texts
abbrev pub IsEditOf : List (List ℕ) → List ℕ → List ℕ → ChildEvent → Type 0
IsEditOf of one two (Ran argv ended) = ⊥
IsEditOf of one two (RanEditor argv a b edited) = (argv ≡ of) × (a ≡ one) × (b ≡ two)

-- a spawner changed by programs of this kind alone, where it tells its state; its count of faults doesn't fall
abbrev pub Changes : {X : Type 0} → (X → ℕ) → (X → Type 0) → (X → ChildState) → (ChildEvent → Type 0) → X → X → Type 0
Changes count tells state Kind old new = ChangesBy happens IsTrueEvent count tells state Kind old new

-- it is told that no program is to come
abbrev pub no_run_left : Option Script → Bool
no_run_left None = false
no_run_left (Some script) = length script.runs == 0

-- it is told that no editor is to come
abbrev pub no_edit_left : Option Script → Bool
no_edit_left None = false
no_edit_left (Some script) = length script.edits == 0

-- a spawner that has run nothing, and is to play this
abbrev pub is_new : List Ended → List Edited → ChildState
is_new runs edits = record { ahead = Some (record { runs = runs; edits = edits }); calls = [] }

-- the state that a spawner shows which tells nothing
abbrev pub nothing_told : ChildState
nothing_told = record { ahead = None; calls = [] }
