-- A job that is ready, and what a run of it that nothing disturbs leaves (this project's own).
use Rattle.std.specs.Prelude.{◌≡◌, ◌⊎◌, ◌↔◌, ◌<◌, ◌≤◌, ℕ, Bool, true, List, Some, None, length, map, Ok}
use Rattle.std.specs.List.{list_all}
use Rattle.std.specs.FinMap as fin
use Rattle.item_text.specs.Items.{ItemValue, item_of}
use Rattle.store_model.specs.declared.event.Held.{Held}
use Rattle.store_model.specs.Sides.{SideState, HoldsAt}
use Rattle.store_model.specs.StoreCalls.{entry_of, is_short}
use Rattle.status_keeper.specs.declared.row.Row.{Row}
use Rattle.status_keeper.specs.declared.keeper.KeeperError.TheVariants.{TooLong}
use Rattle.status_keeper.specs.Idents.{IsRising}
use Rattle.status_keeper.specs.Kept.{KeeperState, IsEdit}
use Rattle.status_keeper.specs.Kept as status
use Rattle.status_keeper.specs.Status.{max_status, text_of}
use Rattle.sync_plan.specs.declared.report.Side.{Side}
use Rattle.sync_plan.specs.declared.report.Side.TheVariants.{A, B}
use Rattle.sync_plan.specs.declared.rules.Rules.{Rules}
use Rattle.sync_plan.specs.declared.dues.Step.TheVariants as step
use Rattle.sync_plan.specs.Verdicts.{step_of}
use Rattle.sync_plan.specs.JobSteps.{clean_of}
use Rattle.side_views.specs.Views.{IsProperAt}
use Rattle.job_runs.specs.Courses.{Course}
use Rattle.job_runs.specs.Jobs.{state_of, IsHonest, JobOf}
use Rattle.job_reads.specs.Readings.{Span, span, IsRead, emptied_side, course_of_a, course_of_b}
use Rattle.job_reads.specs.declared.reading.ReadJob.{ReadJob}
use Rattle.sync_plan.specs.declared.report.JobEnd.TheVariants.{Synced, NotCommitted, NoMemory}
use Rattle.sync_plan.specs.declared.report.Report.{Report}
use Rattle.sync_run.specs.Quiet.{AreConflicts}
use Rattle.sync_run.specs.Settled.{IsTold, IsLeft}

-- a side is there, within the limits of a listing, and proper: each text is an item's, and each ident stands at one href at most
pub record IsReadySide (m : SideState) : Type 0 where
  pub there : m.is_there ≡ true
  pub few : length (fin.entries m.content) ≤ 100000
  pub short : list_all is_short (map entry_of (fin.entries m.content)) ≡ true
  pub items : (href : List ℕ) (held : Held) → HoldsAt href held m → (item : ItemValue) × (item_of held.text ≡ Some item)
  pub proper : (ident : List ℕ) → IsProperAt ident m

-- a side from its entry to its exit, with the rows of the status; what it is when the run has read plays no part
abbrev pub course_on : Side → List Row → SideState → SideState → Course
course_on side rows entry exit = record { side = side; rows = rows; entry = entry; read = entry; exit = exit }

-- both sides are ready, the status has these rows, none of the sides came to be empty, etags tell texts apart, and the rows are true
pub record IsReady (force : Bool) (x : Span) (rows : List Row) : Type 0 where
  pub side_a : IsReadySide x.a
  pub side_b : IsReadySide x.b
  pub kept : (x.k).kept ≡ Ok rows
  pub full : emptied_side force rows (map entry_of (fin.entries (x.a).content)) (map entry_of (fin.entries (x.b).content)) ≡ None
  pub honest_a : IsHonest (course_on A rows x.a x.a_now)
  pub honest_b : IsHonest (course_on B rows x.b x.b_now)

-- in sync: the lines are the conflicts that no rule settles, each ident's once, in the order of idents; both sides and the status
-- have all else that each ident is due; and what no run does yet is as it was
pub record EndsClean (rules : Rules) (x : Span) (rows : List Row) (report : Report) : Type 0 where
  pub synced : report.end ≡ Synced
  pub conflicts : AreConflicts report.lines.items
  pub rising : IsRising (map (λ line. line.ident) report.lines.items)
  pub told : (ident : List ℕ) → IsTold ident report.lines.items ↔ (step_of rules (state_of x.a x.b rows ident) ≡ step.Conflict)
  pub after : List Row
  pub kept : (x.k_now).kept ≡ Ok after
  pub each : (ident : List ℕ) → (IsLeft (step_of rules (state_of x.a x.b rows ident)) → ⊥) → state_of x.a_now x.b_now after ident ≡ clean_of rules None (state_of x.a x.b rows ident)
  pub left : (ident : List ℕ) → IsLeft (step_of rules (state_of x.a x.b rows ident)) → state_of x.a_now x.b_now after ident ≡ state_of x.a x.b rows ident

-- a clean run, but where memory runs out or the text of the rows passes the limit of a status
abbrev pub EndsReady : Rules → Span → List Row → Report → Type 0
EndsReady rules x rows report = (report.end ≡ NoMemory) ⊎ (report.end ≡ NotCommitted TooLong) ⊎ EndsClean rules x rows report

-- ---- rows whose text is too long

-- the run did a job on both sides, whose rows' text passes the limit of a status, and none were written
pub record ComesTooLong (force : Bool) (rules : Rules) (x : Span) : Type 0 where
  pub k : KeeperState
  pub a : SideState
  pub b : SideState
  pub r : ReadJob
  pub read : IsRead force (span x.k k x.a a x.b b) r
  pub after : List Row
  pub job : JobOf rules (course_of_a (span x.k k x.a a x.b b) r x.a_now) (course_of_b (span x.k k x.a a x.b b) r x.b_now) r.rows.items after
  pub unwritten : status.Evolves IsEdit k x.k_now
  pub too_long : max_status < length (text_of after)
