-- What a change that a run sends is for, and what became of it on the side (this project's own).
use Rattle.std.specs.Prelude.{◌≡◌, ◌⊎◌, ℕ, Bool, List, [], Option, Some, None}
use Rattle.item_text.specs.Items.{ItemValue, item_of}
use Rattle.store_model.specs.Sides.{SideState, Evolves, IsOutside}
use Rattle.store_model.specs.Waits.{Change, Flushes, ActsOrWaits}
use Rattle.status_keeper.specs.declared.row.Row.{Row}
use Rattle.sync_plan.specs.declared.report.Side.{Side}
use Rattle.sync_plan.specs.declared.report.Side.TheVariants.{A, B}
use Rattle.sync_plan.specs.declared.rules.Rules.{Rules}
use Rattle.sync_plan.specs.declared.dues.Step.{Step}
use Rattle.sync_plan.specs.declared.dues.Step.TheVariants as step
use Rattle.sync_plan.specs.declared.seen.Planned.{Planned}
use Rattle.sync_plan.specs.Plans.{IsPlan}
use Rattle.job_runs.specs.Courses.{Course}
use Rattle.job_runs.specs.Taken.{IsTaken, IsAlone}
use Rattle.job_runs.specs.Writes.{IsSource}
use Rattle.job_reads.specs.declared.reading.ReadJob.{ReadJob}
use Rattle.job_reads.specs.Readings.{Span, IsRead}
use Rattle.job_writes.specs.declared.outcome.Outcome.{Outcome}
use Rattle.job_writes.specs.declared.outcome.Outcome.TheVariants.{Kept, Gone, Written, Left, Conflict, NotWritten, NotRemoved, Skipped}
use Rattle.job_writes.specs.declared.phases.Outcomes.{Outcomes}
use Rattle.job_writes.specs.Knowns.{IsMovedOut}
use Rattle.job_writes.specs.Writings.{SideNow, Sources, now_of, sources, WritesDid, WritesTried, IsWhole}
use Rattle.job_rows.specs.RowsAfter.{rows_after}

-- it expects nothing, where the run took the side to lack the ident, or the etag of what it took
abbrev pub Expects : Course → List ℕ → Change → Option (List ℕ) → Type 0
Expects c ident ch None = ch.expected ≡ None
Expects c ident ch (Some version) = (etag : List ℕ) × (ch.expected ≡ Some etag) × IsTaken c ident version ch.href etag

-- a text of this ident and version is sent, or a removal
abbrev pub IsSentAs : List ℕ → Option (List ℕ) → Option (List ℕ) → Type 0
IsSentAs ident sent None = sent ≡ None
IsSentAs ident sent (Some version) = (text : List ℕ) × (item : ItemValue) × (sent ≡ Some text) × (item_of text ≡ Some item) × (item.ident ≡ ident) × (item.version ≡ version)

-- the change is the run's write for this ident: over what the run took the side to hold, and found at no other href, to what the step says, with a text that the run read on the other side
pub record IsWriteFor (c peer : Course) (ident : List ℕ) (saw to : Option (List ℕ)) (ch : Change) : Type 0 where
  pub expects : Expects c ident ch saw
  pub alone : IsAlone c ident ch.href saw
  pub sends : IsSentAs ident ch.sent to
  pub source : IsSource peer ident ch.sent

-- what waits acts, all of it or nothing
abbrev pub IsFlushed : SideNow → SideState → Type 0
IsFlushed s exit = Evolves IsOutside s.state exit ⊎ Flushes s.waiting s.state exit

-- all that waits acted, and nothing else happened but edits from outside
abbrev pub AllFlushed : SideNow → SideState → Type 0
AllFlushed s exit = Flushes s.waiting s.state exit

-- the step was not done: its row stays, whatever it says
abbrev pub IsUndone : Outcome → Type 0
IsUndone Kept = ⊥
IsUndone Gone = ⊥
IsUndone (Written row) = ⊥
IsUndone Left = Unit {0}
IsUndone Conflict = Unit {0}
IsUndone (NotWritten side error) = Unit {0}
IsUndone (NotRemoved side error) = Unit {0}
IsUndone Skipped = Unit {0}

-- ---- a change of what stood that is answered `moved`

-- the step was to change or remove what stood on this side
abbrev pub HasMoved : Side → Step → Outcome → Type 0
HasMoved side (step.WriteOver to) o = (to ≡ side) × IsMovedOut o
HasMoved side (step.RemoveFrom from) o = (from ≡ side) × IsMovedOut o
HasMoved side (step.CopyTo to) o = ⊥
HasMoved side step.Forget o = ⊥
HasMoved side step.Keep o = ⊥
HasMoved side step.HandOver o = ⊥
HasMoved side step.Conflict o = ⊥
HasMoved side (step.Held to) o = ⊥

-- ---- one run

-- what a run wrote on one side for its plan, and its flush
pub record WroteOn (waits : Bool) (side : Side) (x : Sources) (plan : List Planned) (start exit : SideState) : Type 0 where
  pub end : SideNow
  pub tried : WritesTried waits side x plan (now_of start []) end
  pub acts : ActsOrWaits waits start end.state
  pub flush : IsFlushed end exit

-- all steps have their outcomes, both sides were flushed, and the outcomes come to these rows
pub record CameTo (waits_a waits_b : Bool) (x : Sources) (rows : List Row) (plan : List Planned) (a exit_a b exit_b : SideState) (after : List Row) : Type 0 where
  pub os : Outcomes
  pub end_a : SideNow
  pub end_b : SideNow
  pub did_a : WritesDid waits_a A x plan (now_of a []) end_a os
  pub did_b : WritesDid waits_b B x plan (now_of b []) end_b os
  pub whole : IsWhole x plan os
  pub flush_a : AllFlushed end_a exit_a
  pub flush_b : AllFlushed end_b exit_b
  pub comes : after ≡ rows_after x rows plan os.put.items os.removed.items

-- a run that has read: what it wrote on both sides, and the rows of the status at its end, which are those of before or those that its outcomes come to
pub record Ran (force : Bool) (rules : Rules) (x : Span) (r : ReadJob) (exit_a exit_b : SideState) (after : List Row) : Type 0 where
  pub read : IsRead force x r
  pub plan : List Planned
  pub is_plan : IsPlan r.a.seen.items r.b.seen.items r.rows.items rules plan
  pub waits_a : Bool
  pub waits_b : Bool
  pub wrote_a : WroteOn waits_a A (sources r.a r.b) plan x.a_now exit_a
  pub wrote_b : WroteOn waits_b B (sources r.a r.b) plan x.b_now exit_b
  pub rows : (after ≡ r.rows.items) ⊎ CameTo waits_a waits_b (sources r.a r.b) r.rows.items plan x.a_now exit_a x.b_now exit_b after
