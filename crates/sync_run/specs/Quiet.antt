-- A run that nothing disturbs (this project's own).
use Rattle.std.specs.Prelude.{◌≡◌, List}
use Rattle.std.specs.List.{AllByRecursion}
use Rattle.outside.specs.Runs.{Anything}
use Rattle.store_model.specs.Sides.{WasEdited}
use Rattle.status_keeper.specs.declared.keeper.KeeperError.TheVariants.{TooLong}
use Rattle.status_keeper.specs.Kept.{KeeperEvent, KeeperState, IsEdit, happens}
use Rattle.status_keeper.specs.Kept as status
use Rattle.job_reads.specs.Readings.{Span}
use Rattle.sync_plan.specs.declared.report.JobEnd.{JobEnd}
use Rattle.sync_plan.specs.declared.report.JobEnd.TheVariants.{Synced, Refused, NotFlushed, NotCommitted, NoMemory}
use Rattle.sync_plan.specs.declared.report.What.TheVariants.{Conflict}
use Rattle.sync_plan.specs.declared.report.Line.{Line}
use Rattle.sync_plan.specs.declared.report.Report.{Report}
use Rattle.sync_run.specs.Lines.{IsCausedLine, IsCausedEnd}

-- no edit from outside came to a side, and the lines tell no fault and no want of memory
pub record IsQuiet (x : Span) (report : Report) : Type 0 where
  pub calm_a : WasEdited x.a x.a_now → ⊥
  pub calm_b : WasEdited x.b x.b_now → ⊥
  pub told : AllByRecursion (IsCausedLine ⊥ ⊥) report.lines.items

-- each line tells a conflict
abbrev pub AreConflicts : List Line → Type 0
AreConflicts lines = AllByRecursion (λ line. line.what ≡ Conflict) lines

-- from s to t an edit from outside came to the status, whatever else happened to it
pub record IsDisturbed (s t : KeeperState) : Type 0 where
  pub moment : KeeperState
  pub event : KeeperEvent
  pub from : status.Evolves Anything s moment
  pub is_edit : IsEdit event
  pub until : status.Evolves Anything (happens moment event) t

-- no edit from outside came to the status, and the end tells no fault and no want of memory but as such
pub record IsQuietEnd (x : Span) (report : Report) : Type 0 where
  pub calm_k : IsDisturbed x.k x.k_now → ⊥
  pub cause : IsCausedEnd ⊥ ⊥ ⊥ report.end

-- the run was refused before any write, or it flushed both sides and committed, but where the text of its rows passes the limit, or memory ran out
abbrev pub EndsWell : JobEnd → Type 0
EndsWell Synced = Unit {0}
EndsWell (Refused refusal) = Unit {0}
EndsWell (NotFlushed side error) = ⊥
EndsWell (NotCommitted error) = error ≡ TooLong
EndsWell NoMemory = Unit {0}
