-- What a `Play` stands for, and what playing its next program does (this project's own).
use Rattle.std.specs.Prelude.{◌≡◌, ℕ, ◌<◌, ◌≤◌, true, false, List, drop, Option, Some, None, Result, Ok, Err}
use Rattle.outside.specs.declared.folder.NoMemory.{NoMemory}
use Rattle.outside.specs.declared.plan.FaultPlan.{FaultPlan}
use Rattle.outside.specs.Plans.{Course}
use Rattle.children.specs.declared.spawner.Ended.{Ended}
use Rattle.children.specs.declared.spawner.Edited.{Edited}
use Rattle.children.specs.declared.spawner.ChildEvent.TheVariants.{Ran, RanEditor}
use Rattle.children.specs.declared.spawner.SpawnError.{SpawnError}
use Rattle.children.specs.declared.spawner.SpawnError.TheVariants.{TooLong}
use Rattle.children.specs.declared.play.Play.{Play}
use Rattle.children.specs.declared.mem_child.MemChild.{MemChild}
use Rattle.children.specs.Children.{ChildState, is_new, no_run_left, no_edit_left}
use Rattle.children.specs.ChildCalls.{Played}

abbrev pub state_of : Play → ChildState
state_of p = record {
  ahead = Some (record { runs = drop p.ran p.runs.items; edits = drop p.edited p.edits.items });
  calls = p.calls.items;
}

-- the next program is played, where there is one
abbrev pub RunPlayed : ChildState → ChildState → List (List ℕ) → Result (Option Ended) NoMemory → Type 0
RunPlayed s t argv (Ok None) = (t ≡ s) × (no_run_left s.ahead ≡ true)
RunPlayed s t argv (Ok (Some ended)) = Played s t (Ran argv ended) × (no_run_left s.ahead ≡ false)
RunPlayed s t argv (Err e) = (t ≡ s) × (no_run_left s.ahead ≡ false)

abbrev pub EditPlayed : ChildState → ChildState → List (List ℕ) → List ℕ → List ℕ → Result (Option Edited) NoMemory → Type 0
EditPlayed s t argv a b (Ok None) = (t ≡ s) × (no_edit_left s.ahead ≡ true)
EditPlayed s t argv a b (Ok (Some edited)) = Played s t (RanEditor argv a b edited) × (no_edit_left s.ahead ≡ false)
EditPlayed s t argv a b (Err e) = (t ≡ s) × (no_edit_left s.ahead ≡ false)

-- a value whose length is this, where it is within the limit
abbrev pub IsWithin : {X : Type 0} → X → ℕ → ℕ → Result X SpawnError → Type 0
IsWithin value len limit (Ok x) = (x ≡ value) × (len ≤ limit)
IsWithin value len limit (Err TooLong) = limit < len
IsWithin value len limit (Err e) = ⊥

-- a child that has run nothing yet, and is to play what this one was given
abbrev pub start_of : MemChild → ChildState
start_of m = is_new m.play.runs.items m.play.edits.items

-- by both plans the same calls fail
pub record FailsAlike (plan other : FaultPlan) : Type 0 where
  pub places : other.places.items ≡ plan.places.items
  pub stop_at : other.stop_at ≡ plan.stop_at

-- what is told of both plans before their first calls
abbrev pub BeginsAlike : Option Course → Option Course → Type 0
BeginsAlike (Some course) (Some other) = FailsAlike course.plan other.plan × (other.calls ≡ 0)
BeginsAlike course other = ⊥
