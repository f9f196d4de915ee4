-- Whether a side is still known while a run writes there, and copies that meet a taken name (this project's own).
use Rattle.std.specs.Prelude.{◌≡◌, ◌⊎◌, ℕ, Bool, false, List}
use Rattle.store_model.specs.declared.store.StoreError.{StoreError}
use Rattle.store_model.specs.declared.store.StoreError.TheVariants as store
use Rattle.store_model.specs.Sides.{SideState, WasEdited}
use Rattle.store_model.specs.StoreCalls.{IsKnown}
use Rattle.sync_plan.specs.declared.report.Side.{Side}
use Rattle.sync_plan.specs.declared.dues.Step.{Step}
use Rattle.sync_plan.specs.declared.dues.Step.TheVariants as step
use Rattle.sync_plan.specs.declared.seen.Planned.{Planned}
use Rattle.job_writes.specs.declared.outcome.Outcome.{Outcome}
use Rattle.job_writes.specs.declared.outcome.Outcome.TheVariants.{Kept, Gone, Written, Left, Conflict, NotWritten, NotRemoved, Skipped}
use Rattle.job_writes.specs.Writings.{AllFit, is_failure}

-- a side is known, or an edit from outside came
abbrev pub StillKnown : SideState → (List ℕ → Bool) → SideState → Type 0
StillKnown s taken t = WasEdited s t ⊎ IsKnown taken t

-- where the step was Ok
abbrev pub KnownAfter : SideState → (List ℕ → Bool) → SideState → Outcome → Type 0
KnownAfter s taken t o = is_failure o ≡ false → StillKnown s taken t

abbrev pub IsMovedError : StoreError → Type 0
IsMovedError store.Moved = Unit {0}
IsMovedError store.Fault = ⊥
IsMovedError store.TooLong = ⊥
IsMovedError store.TooMany = ⊥
IsMovedError store.NotThere = ⊥
IsMovedError (store.Vanished href) = ⊥
IsMovedError (store.BadItem href error) = ⊥
IsMovedError store.NoMemory = ⊥

-- the call was answered `moved`
abbrev pub IsMovedOut : Outcome → Type 0
IsMovedOut (NotWritten side error) = IsMovedError error
IsMovedOut (NotRemoved side error) = IsMovedError error
IsMovedOut Kept = ⊥
IsMovedOut Gone = ⊥
IsMovedOut (Written row) = ⊥
IsMovedOut Left = ⊥
IsMovedOut Conflict = ⊥
IsMovedOut Skipped = ⊥

-- it was a copy to this side
abbrev pub IsCopyMoved : Side → Step → Outcome → Type 0
IsCopyMoved side (step.CopyTo to) o = (to ≡ side) × IsMovedOut o
IsCopyMoved side (step.WriteOver to) o = ⊥
IsCopyMoved side (step.RemoveFrom from) o = ⊥
IsCopyMoved side step.Forget o = ⊥
IsCopyMoved side step.Keep o = ⊥
IsCopyMoved side step.HandOver o = ⊥
IsCopyMoved side step.Conflict o = ⊥
IsCopyMoved side (step.Held to) o = ⊥

-- a copy before which none has failed meets a taken name only where an edit from outside came
abbrev pub CopiesMoveByEdit : Side → SideState → SideState → Bool → Planned → Outcome → Type 0
CopiesMoveByEdit side s t failed p o = failed ≡ false → IsCopyMoved side p.step o → WasEdited s t

abbrev pub AllMoveByEdit : Side → SideState → SideState → List Planned → List Outcome → Type 0
AllMoveByEdit side s t ps os = AllFit (CopiesMoveByEdit side s t) false ps os
