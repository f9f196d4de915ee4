-- One run of one job, from its first call to its last, by its report (this project's own).
use Rattle.std.specs.Prelude.{◌≡◌, ◌⊎◌, ℕ, Bool, true, false, List, [], Option, Ok, Err}
use Rattle.store_model.specs.declared.store.StoreError.{StoreError}
use Rattle.store_model.specs.declared.store.StoreError.TheVariants as store
use Rattle.store_model.specs.Sides.{SideState, WasEdited}
use Rattle.store_model.specs.Waits.{Change, ActsOrWaits}
use Rattle.store_model.specs.StoreCalls.{FlushAnswer}
use Rattle.status_keeper.specs.declared.row.Row.{Row}
use Rattle.status_keeper.specs.declared.keeper.KeeperError.{KeeperError}
use Rattle.status_keeper.specs.declared.keeper.KeeperError.TheVariants as keeper
use Rattle.status_keeper.specs.Kept.{KeeperEvent, KeeperState, Edited, Toggled, Made, Committed, Spoiled, IsMaking}
use Rattle.status_keeper.specs.Kept as status
use Rattle.status_keeper.specs.KeeperCalls.{AfterPlacing, Commits, CommitAnswer, found_at}
use Rattle.sync_plan.specs.declared.report.Side.{Side}
use Rattle.sync_plan.specs.declared.report.Side.TheVariants.{A, B}
use Rattle.sync_plan.specs.declared.rules.Rules.{Rules}
use Rattle.sync_plan.specs.declared.seen.Planned.{Planned}
use Rattle.sync_plan.specs.declared.seen.PlanError.{PlanError}
use Rattle.sync_plan.specs.declared.seen.PlanError.TheVariants as plan_error
use Rattle.sync_plan.specs.Plans.{IsPlan, IsPlanRefusal}
use Rattle.job_runs.specs.Jobs.{JobOf}
use Rattle.job_reads.specs.declared.stop.Stop.{Stop}
use Rattle.job_reads.specs.declared.stop.Stop.TheVariants as stop
use Rattle.job_reads.specs.declared.reading.ReadJob.{ReadJob}
use Rattle.job_reads.specs.Readings.{Span, span, IsRead, IsStop, course_of_a, course_of_b}
use Rattle.job_writes.specs.declared.phases.Outcomes.{Outcomes}
use Rattle.job_writes.specs.Knowns.{AllMoveByEdit}
use Rattle.job_writes.specs.Writings.{SideNow, now_of, Sources, sources, WritesDid, IsWhole}
use Rattle.job_rows.specs.RowsAfter.{rows_after, IsUnchanged}
use Rattle.job_traces.specs.Traces.{WroteOn, AllFlushed, IsFlushed}
use Rattle.sync_plan.specs.declared.report.Refusal.{Refusal}
use Rattle.sync_plan.specs.declared.report.Refusal.TheVariants.{SameLocation, Status, Storage, StorageEmpty, SameIdent}
use Rattle.sync_plan.specs.declared.report.JobEnd.{JobEnd}
use Rattle.sync_plan.specs.declared.report.JobEnd.TheVariants.{Synced, Refused, NotFlushed, NotCommitted, NoMemory}
use Rattle.sync_plan.specs.declared.report.Report.{Report}
use Rattle.sync_run.specs.Lines.{lines_of}

-- ---- the status

-- no own write but of rows
abbrev pub IsKeeping : KeeperEvent → Type 0
IsKeeping (Edited kept stamp) = Unit {0}
IsKeeping Toggled = Unit {0}
IsKeeping Made = Unit {0}
IsKeeping (Committed rows) = Unit {0}
IsKeeping (Spoiled kept stamp) = ⊥

-- ---- a run that stops while it reads

-- the end by a reading call of a side that answered the error: want of memory ends a run as such, whichever call met it
abbrev pub end_of_reading : Side → StoreError → JobEnd
end_of_reading side store.NoMemory = NoMemory
end_of_reading side error = Refused (Storage side error)

abbrev pub end_of_load : KeeperError → JobEnd
end_of_load keeper.NoMemory = NoMemory
end_of_load error = Refused (Status error)

abbrev pub end_of_stop : Stop → JobEnd
end_of_stop (stop.Unloaded error) = end_of_load error
end_of_stop (stop.Unlisted side error) = end_of_reading side error
end_of_stop (stop.Emptied side) = Refused (StorageEmpty side)
end_of_stop (stop.Unfetched side error) = end_of_reading side error
end_of_stop stop.NoMemory = NoMemory

-- ---- after all steps: both flushes, then the status

-- both sides with what waits there when all steps are done, and the status, each with what it is at the end
pub record Closing : Type 0 where
  pub end_a : SideNow
  pub exit_a : SideState
  pub end_b : SideNow
  pub exit_b : SideState
  pub k : KeeperState
  pub exit_k : KeeperState

abbrev pub closing : SideNow → SideState → SideNow → SideState → KeeperState → KeeperState → Closing
closing end_a exit_a end_b exit_b k exit_k = record { end_a = end_a; exit_a = exit_a; end_b = end_b; exit_b = exit_b; k = k; exit_k = exit_k }

-- the ends by a flush and by a commit that answered the error
abbrev pub end_of_flush : Side → StoreError → JobEnd
end_of_flush side store.NoMemory = NoMemory
end_of_flush side error = NotFlushed side error

abbrev pub end_of_commit : KeeperError → JobEnd
end_of_commit keeper.NoMemory = NoMemory
end_of_commit error = NotCommitted error

abbrev pub FlushFails : SideNow → SideState → StoreError → Type 0
FlushFails end exit error = (left : List Change) × FlushAnswer end.state end.waiting exit left (Err error)

abbrev pub NotFlushedOn : Side → Closing → StoreError → Type 0
NotFlushedOn A y error = FlushFails y.end_a y.exit_a error × (y.exit_b ≡ (y.end_b).state)
NotFlushedOn B y error = AllFlushed y.end_a y.exit_a × FlushFails y.end_b y.exit_b error

-- rows are committed exactly where they differ
abbrev pub CommitsBy : Bool → Option (List ℕ) → KeeperState → KeeperState → List Row → JobEnd → Type 0
CommitsBy false found k exit rows Synced = exit ≡ k
CommitsBy true found k exit rows Synced = CommitAnswer found k exit rows (Ok tt)
CommitsBy changed found k exit rows (NotCommitted error) = (changed ≡ true) × CommitAnswer found k exit rows (Err error)
CommitsBy changed found k exit rows NoMemory = status.Evolves IsMaking k exit
CommitsBy changed found k exit rows (Refused refusal) = ⊥
CommitsBy changed found k exit rows (NotFlushed side error) = ⊥

-- no status was written, and of each side all that waits acted, or nothing
pub record BreaksAt (y : Closing) : Type 0 where
  pub flush_a : IsFlushed y.end_a y.exit_a
  pub flush_b : IsFlushed y.end_b y.exit_b
  pub kept : status.Evolves IsMaking y.k y.exit_k

-- side a is flushed, then side b, then rows that differ are committed; the first of these calls that fails is the last
abbrev pub EndsBy : Bool → Option (List ℕ) → Closing → List Row → JobEnd → Type 0
EndsBy changed found y rows Synced = AllFlushed y.end_a y.exit_a × AllFlushed y.end_b y.exit_b × CommitsBy changed found y.k y.exit_k rows Synced
EndsBy changed found y rows (NotCommitted error) = AllFlushed y.end_a y.exit_a × AllFlushed y.end_b y.exit_b × CommitsBy changed found y.k y.exit_k rows (NotCommitted error)
EndsBy changed found y rows (NotFlushed side error) = NotFlushedOn side y error × (y.exit_k ≡ y.k)
EndsBy changed found y rows NoMemory = BreaksAt y
EndsBy changed found y rows (Refused refusal) = ⊥

-- a run that ended otherwise than by want of memory: its lines, and whether its rows differ
pub record Closes (x : Sources) (rows : List Row) (plan : List Planned) (os : Outcomes) (found : Option (List ℕ)) (y : Closing) (report : Report) (end : JobEnd) : Type 0 where
  pub changed : Bool
  pub same : changed ≡ false → IsUnchanged x rows plan os.put.items os.removed.items
  pub differs : changed ≡ true → IsUnchanged x rows plan os.put.items os.removed.items → ⊥
  pub lines : report.lines.items ≡ lines_of plan os.put.items os.removed.items
  pub ends : EndsBy changed found y (rows_after x rows plan os.put.items os.removed.items) end

abbrev pub ClosesAs : Sources → List Row → List Planned → Outcomes → Option (List ℕ) → Closing → Report → JobEnd → Type 0
ClosesAs x rows plan os found y report Synced = Closes x rows plan os found y report Synced
ClosesAs x rows plan os found y report (NotFlushed side error) = Closes x rows plan os found y report (NotFlushed side error)
ClosesAs x rows plan os found y report (NotCommitted error) = Closes x rows plan os found y report (NotCommitted error)
ClosesAs x rows plan os found y report NoMemory = BreaksAt y × (report.lines.items ≡ [])
ClosesAs x rows plan os found y report (Refused refusal) = ⊥

-- ---- a run that read

-- what a run has when it has read, and both sides and the status then and at the end; and whether it knows each side then
pub record Going : Type 0 where
  pub known_a : Bool
  pub known_b : Bool
  pub r : ReadJob
  pub k : KeeperState
  pub exit_k : KeeperState
  pub a : SideState
  pub exit_a : SideState
  pub b : SideState
  pub exit_b : SideState

-- all steps have their outcomes
pub record Finishes (rules : Rules) (waits_a waits_b : Bool) (y : Going) (report : Report) (end : JobEnd) : Type 0 where
  pub plan : List Planned
  pub is_plan : IsPlan y.r.a.seen.items y.r.b.seen.items y.r.rows.items rules plan
  pub os : Outcomes
  pub end_a : SideNow
  pub end_b : SideNow
  pub did_a : WritesDid waits_a A (sources y.r.a y.r.b) plan (now_of y.a []) end_a os
  pub did_b : WritesDid waits_b B (sources y.r.a y.r.b) plan (now_of y.b []) end_b os
  pub acts_a : ActsOrWaits waits_a y.a end_a.state
  pub acts_b : ActsOrWaits waits_b y.b end_b.state
  pub whole : IsWhole (sources y.r.a y.r.b) plan os
  -- on a side that it knows a copy before which none has failed meets a taken name only where an edit from outside came
  pub copies_a : y.known_a ≡ true → AllMoveByEdit A y.a end_a.state plan os.put.items
  pub copies_b : y.known_b ≡ true → AllMoveByEdit B y.b end_b.state plan os.put.items
  pub closes : Closes (sources y.r.a y.r.b) y.r.rows.items plan os (found_at y.k.stamp) (closing end_a y.exit_a end_b y.exit_b y.k y.exit_k) report end

-- memory ran out among the steps or behind them; no status was written
pub record BreaksOff (rules : Rules) (waits_a waits_b : Bool) (y : Going) : Type 0 where
  pub plan : List Planned
  pub is_plan : IsPlan y.r.a.seen.items y.r.b.seen.items y.r.rows.items rules plan
  pub wrote_a : WroteOn waits_a A (sources y.r.a y.r.b) plan y.a y.exit_a
  pub wrote_b : WroteOn waits_b B (sources y.r.a y.r.b) plan y.b y.exit_b
  pub kept : status.Evolves IsMaking y.k y.exit_k

-- nothing happened any more
abbrev pub IsStill : Going → Type 0
IsStill y = (y.exit_k ≡ y.k) × (y.exit_a ≡ y.a) × (y.exit_b ≡ y.b)

-- the end of a run that has no plan
abbrev pub end_of_plan : PlanError → JobEnd
end_of_plan (plan_error.SameIdent side ident first second) = Refused (SameIdent side ident first second)
end_of_plan plan_error.NoMemory = NoMemory

-- there is no plan, since two items of a side have one ident
abbrev pub IsTwinned : Going → Refusal → Type 0
IsTwinned y (SameIdent side ident first second) = IsPlanRefusal y.r.a.seen.items y.r.b.seen.items (plan_error.SameIdent side ident first second) × IsStill y
IsTwinned y SameLocation = ⊥
IsTwinned y (Status error) = ⊥
IsTwinned y (Storage side error) = ⊥
IsTwinned y (StorageEmpty side) = ⊥

abbrev pub GoesOn : Rules → Bool → Bool → Going → Report → JobEnd → Type 0
GoesOn rules waits_a waits_b y report (Refused refusal) = IsTwinned y refusal × (report.lines.items ≡ [])
GoesOn rules waits_a waits_b y report NoMemory = (IsStill y ⊎ BreaksOff rules waits_a waits_b y) × (report.lines.items ≡ [])
GoesOn rules waits_a waits_b y report Synced = Finishes rules waits_a waits_b y report Synced
GoesOn rules waits_a waits_b y report (NotFlushed side error) = Finishes rules waits_a waits_b y report (NotFlushed side error)
GoesOn rules waits_a waits_b y report (NotCommitted error) = Finishes rules waits_a waits_b y report (NotCommitted error)

-- ---- the whole run

-- it stopped while it read
pub record Stops (force : Bool) (x : Span) (report : Report) : Type 0 where
  pub why : Stop
  pub stops : IsStop force x why
  pub end : report.end ≡ end_of_stop why
  pub lines : report.lines.items ≡ []

abbrev pub going : Bool → Bool → ReadJob → KeeperState → KeeperState → SideState → SideState → SideState → SideState → Going
going known_a known_b r k exit_k a exit_a b exit_b = record { known_a = known_a; known_b = known_b; r = r; k = k; exit_k = exit_k; a = a; exit_a = exit_a; b = b; exit_b = exit_b }

-- it read, and went on
pub record RunsOn (force : Bool) (rules : Rules) (waits_a waits_b : Bool) (x : Span) (report : Report) : Type 0 where
  pub r : ReadJob
  pub k : KeeperState
  pub a : SideState
  pub b : SideState
  pub read : IsRead force (span x.k k x.a a x.b b) r
  -- each side is known then, or an edit from outside came
  pub known_a : Bool
  pub known_b : Bool
  pub knows_a : WasEdited x.a a ⊎ (known_a ≡ true)
  pub knows_b : WasEdited x.b b ⊎ (known_b ≡ true)
  pub goes_on : GoesOn rules waits_a waits_b (going known_a known_b r k x.k_now a x.a_now b x.b_now) report report.end

abbrev pub IsJob : Bool → Rules → Bool → Bool → Span → Report → Type 0
IsJob force rules waits_a waits_b x report = Stops force x report ⊎ RunsOn force rules waits_a waits_b x report

-- ---- what the laws speak of

-- the status at the end: no rows were committed and it is as it was loaded, but for edits from outside; or these rows were committed, to what was loaded
abbrev pub KeepsRows : KeeperState → KeeperState → List Row → List Row → Type 0
KeepsRows k exit before after = ((after ≡ before) × status.Evolves IsMaking k exit) ⊎ AfterPlacing (found_at k.stamp) k (Commits (found_at k.stamp) after exit)

-- a run that read did a job, and the status keeps the rows that the job came to
pub record JobRun (force : Bool) (rules : Rules) (x : Span) : Type 0 where
  pub k : KeeperState
  pub a : SideState
  pub b : SideState
  pub r : ReadJob
  pub read : IsRead force (span x.k k x.a a x.b b) r
  pub after : List Row
  pub job : JobOf rules (course_of_a (span x.k k x.a a x.b b) r x.a_now) (course_of_b (span x.k k x.a a x.b b) r x.b_now) r.rows.items after
  pub keeps : KeepsRows k x.k_now r.rows.items after
  -- nothing was read behind the reading
  pub unread_a : (x.a_now).reads ≡ a.reads
  pub unread_b : (x.b_now).reads ≡ b.reads
