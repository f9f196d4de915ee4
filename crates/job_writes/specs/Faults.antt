-- How many faults of a side outcomes tell (this project's own).
use Rattle.std.specs.Prelude.{ℕ, ◌+◌, ◌-◌, ◌^◌, ◌≤◌, min, List, [], ◌∷◌}
use Rattle.store_model.specs.declared.store.StoreError.{StoreError}
use Rattle.store_model.specs.declared.store.StoreError.TheVariants as store
use Rattle.sync_plan.specs.declared.report.Side.{Side}
use Rattle.sync_plan.specs.declared.report.Side.TheVariants.{A, B}
use Rattle.job_writes.specs.declared.outcome.Outcome.{Outcome}
use Rattle.job_writes.specs.declared.outcome.Outcome.TheVariants.{Kept, Gone, Written, Left, Conflict, NotWritten, NotRemoved, Skipped}

-- the count has risen by so many at least, or it stands at the last value of a u64
abbrev pub RoseBy : ℕ → ℕ → ℕ → Type 0
RoseBy before n now = min (before + n) (2 ^ 64 - 1) ≤ now

abbrev pub fault_in : StoreError → ℕ
fault_in store.Fault = 1
fault_in store.Moved = 0
fault_in store.TooLong = 0
fault_in store.TooMany = 0
fault_in store.NotThere = 0
fault_in (store.Vanished href) = 0
fault_in (store.BadItem href error) = 0
fault_in store.NoMemory = 0

-- an error of one side, as it counts for a side
abbrev pub fault_at : Side → Side → StoreError → ℕ
fault_at A A error = fault_in error
fault_at A B error = 0
fault_at B A error = 0
fault_at B B error = fault_in error

abbrev pub faults_in : Side → Outcome → ℕ
faults_in side (NotWritten at error) = fault_at side at error
faults_in side (NotRemoved at error) = fault_at side at error
faults_in side Kept = 0
faults_in side Gone = 0
faults_in side (Written row) = 0
faults_in side Left = 0
faults_in side Conflict = 0
faults_in side Skipped = 0

abbrev pub faults_of : Side → List Outcome → ℕ
faults_of side [] = 0
faults_of side (o ∷ os) = faults_in side o + faults_of side os
