-- What a run that ended in sync leaves of each ident (this project's own).
use Rattle.std.specs.Prelude.{◌≡◌, ◌⊎◌, ℕ, Bool, List, [], ◌∷◌, Option, None}
use Rattle.status_keeper.specs.declared.row.Row.{Row}
use Rattle.status_keeper.specs.Kept.{KeeperState}
use Rattle.status_keeper.specs.Rows.{row_of}
use Rattle.store_model.specs.Sides.{SideState}
use Rattle.sync_plan.specs.declared.report.Side.TheVariants.{A, B}
use Rattle.sync_plan.specs.declared.rules.Rules.{Rules}
use Rattle.sync_plan.specs.declared.dues.Step.{Step}
use Rattle.sync_plan.specs.declared.dues.Step.TheVariants as step
use Rattle.sync_plan.specs.Plans.{versions_of}
use Rattle.sync_plan.specs.Verdicts.{Versions, step_of}
use Rattle.sync_plan.specs.JobSteps.{written}
use Rattle.job_runs.specs.Courses.{Course}
use Rattle.job_runs.specs.Jobs.{IsMade, JobOf}
use Rattle.job_reads.specs.declared.reading.ReadJob.{ReadJob}
use Rattle.job_reads.specs.Readings.{Span, span, IsRead, course_of_a, course_of_b}
use Rattle.sync_plan.specs.declared.report.Line.{Line}
use Rattle.sync_plan.specs.declared.report.Report.{Report}
use Rattle.sync_run.specs.Ends.{KeepsRows}

-- a line names the ident
abbrev pub IsTold : List ℕ → List Line → Type 0
IsTold ident [] = ⊥
IsTold ident (line ∷ lines) = (line.ident ≡ ident) ⊎ IsTold ident lines

-- a step that no run does yet: a conflict that a command is to settle, and a change that is held back
abbrev pub IsLeft : Step → Type 0
IsLeft step.HandOver = Unit {0}
IsLeft (step.Held side) = Unit {0}
IsLeft step.Forget = ⊥
IsLeft step.Keep = ⊥
IsLeft (step.CopyTo side) = ⊥
IsLeft (step.WriteOver side) = ⊥
IsLeft (step.RemoveFrom side) = ⊥
IsLeft step.Conflict = ⊥

-- a line names the ident, or its step is left, or all was written on both sides that the step says, and its row is of what both have come to
abbrev pub IsSettled : Rules → Course → Course → List ℕ → Versions → Option Row → List Line → Type 0
IsSettled rules a b ident saw after lines = IsTold ident lines ⊎ IsLeft (step_of rules saw) ⊎ IsMade a b ident saw (written (step_of rules saw) None A saw) (written (step_of rules saw) None B saw) after

-- a run that did a job, whose rows the status keeps, and each ident is settled
pub record InSync (force : Bool) (rules : Rules) (x : Span) (report : Report) : Type 0 where
  pub k : KeeperState
  pub a : SideState
  pub b : SideState
  pub r : ReadJob
  pub read : IsRead force (span x.k k x.a a x.b b) r
  pub after : List Row
  pub job : JobOf rules (course_of_a (span x.k k x.a a x.b b) r x.a_now) (course_of_b (span x.k k x.a a x.b b) r x.b_now) r.rows.items after
  pub keeps : KeepsRows k x.k_now r.rows.items after
  pub each : (ident : List ℕ) → IsSettled rules (course_of_a (span x.k k x.a a x.b b) r x.a_now) (course_of_b (span x.k k x.a a x.b b) r x.b_now) ident (versions_of ident r.a.seen.items r.b.seen.items r.rows.items) (row_of ident after) report.lines.items
