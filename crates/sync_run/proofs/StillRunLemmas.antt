-- A run in which no count of faults rises tells no fault, and a status to which no edit comes wasn't edited.
use Rattle.std.proofs.Common.{List, [], ◌∷◌}
use Rattle.std.specs.List.{AllByRecursion}
use Rattle.store_model.specs.declared.store.StoreError.{StoreError}
use Rattle.store_model.specs.declared.store.StoreError.TheVariants as store
use Rattle.outside.proofs.Runs.{Runs-weaker}
use Rattle.status_keeper.specs.Kept.{KeeperState}
use Rattle.status_keeper.specs.KeeperCalls.{WasEdited as StatusEdited}
use Rattle.status_keeper.specs.declared.keeper.KeeperError.{KeeperError}
use Rattle.status_keeper.specs.declared.keeper.KeeperError.TheVariants as keeper
use Rattle.sync_plan.specs.declared.report.Side.{Side}
use Rattle.sync_plan.specs.declared.report.Side.TheVariants.{A, B}
use Rattle.sync_plan.specs.declared.report.What.{What}
use Rattle.sync_plan.specs.declared.report.What.TheVariants.{Conflict, NotWritten, NotRemoved, Skipped}
use Rattle.sync_plan.specs.declared.report.Line.{Line}
use Rattle.sync_plan.specs.declared.report.Refusal.TheVariants.{SameLocation, Status, Storage, StorageEmpty, SameIdent}
use Rattle.sync_plan.specs.declared.report.JobEnd.{JobEnd}
use Rattle.sync_plan.specs.declared.report.JobEnd.TheVariants.{Synced, Refused, NotFlushed, NotCommitted, NoMemory}
use Rattle.job_writes.specs.Writings.{AtSide, IsToldError}
use Rattle.sync_run.specs.Quiet.{IsDisturbed}
use Rattle.sync_run.specs.Lines.{IsCausedWhat, IsCausedLine, IsToldFailure, IsCausedEnd}

pub unedited_status : (k k' : KeeperState) → (IsDisturbed k k' → ⊥) → StatusEdited k k' → ⊥
unedited_status k k' calm edited = calm (record { moment = edited.moment; event = edited.event; from = Runs-weaker (λ e h. tt) edited.from; is_edit = edited.is_edit; until = Runs-weaker (λ e h. tt) edited.until })

-- no fault, since the count didn't rise
error_still : (rose : Type 0) → (rose → ⊥) → (error : StoreError) → IsToldError rose error → IsToldError ⊥ error
error_still rose still store.Fault told = still told
error_still rose still store.Moved told = told
error_still rose still store.TooLong told = told
error_still rose still store.TooMany told = told
error_still rose still store.NotThere told = told
error_still rose still (store.Vanished href) told = told
error_still rose still (store.BadItem href error) told = told
error_still rose still store.NoMemory told = told

module _ (a b k : Type 0) (still_a : a → ⊥) (still_b : b → ⊥) (still_k : k → ⊥) where
  side_still : (side : Side) (error : StoreError) → IsToldError (AtSide side a b) error → IsToldError (AtSide side ⊥ ⊥) error
  side_still A error told = error_still a still_a error told
  side_still B error told = error_still b still_b error told

  what_still : (what : What) → IsCausedWhat a b what → IsCausedWhat ⊥ ⊥ what
  what_still Conflict cause = cause
  what_still (NotWritten side error) cause = side_still side error cause
  what_still (NotRemoved side error) cause = side_still side error cause
  what_still Skipped cause = cause

  pub lines_still : (lines : List Line) → AllByRecursion (IsCausedLine a b) lines → AllByRecursion (IsCausedLine ⊥ ⊥) lines
  lines_still [] all = all
  lines_still (line ∷ lines) all = (what_still line.what all.0, lines_still lines all.1)

  status_still : (error : KeeperError) → IsToldFailure k error → IsToldFailure ⊥ error
  status_still keeper.Fault told = still_k told
  status_still keeper.Moved told = told
  status_still (keeper.Damaged row) told = told
  status_still keeper.TooLong told = told
  status_still keeper.NoMemory told = told

  pub end_still : (end : JobEnd) → IsCausedEnd a b k end → IsCausedEnd ⊥ ⊥ ⊥ end
  end_still Synced cause = cause
  end_still (Refused SameLocation) cause = cause
  end_still (Refused (Status error)) cause = status_still error cause
  end_still (Refused (Storage side error)) cause = side_still side error cause
  end_still (Refused (StorageEmpty side)) cause = cause
  end_still (Refused (SameIdent side ident first second)) cause = cause
  end_still (NotFlushed side error) cause = side_still side error cause
  end_still (NotCommitted error) cause = status_still error cause
  end_still NoMemory cause = cause
