-- Whatever a run ends by, each side was flushed, all of it or nothing.
use Rattle.std.proofs.Common.{◌≡◌, inl, inr, ℕ, Bool, false, List, [], Option, Ok, Err, refl, subst, sym}
use Rattle.outside.proofs.Runs.{Runs-trans, Runs-weaker}
use Rattle.store_model.specs.declared.store.StoreError.{StoreError}
use Rattle.store_model.specs.declared.store.StoreError.TheVariants as store
use Rattle.store_model.specs.Sides.{SideState}
use Rattle.status_keeper.specs.declared.keeper.KeeperError.{KeeperError}
use Rattle.status_keeper.specs.declared.keeper.KeeperError.TheVariants as keeper
use Rattle.status_keeper.specs.Kept.{KeeperState, IsEdit}
use Rattle.status_keeper.specs.Kept as status
use Rattle.status_keeper.specs.KeeperCalls.{CommitAnswer, found_at, WasEdited as StatusEdited}
use Rattle.status_keeper.proofs.Moving.{edit_is_making, moved_was_edited}
use Rattle.sync_plan.specs.declared.report.Side.{Side}
use Rattle.job_reads.specs.declared.stop.Stop.{Stop}
use Rattle.job_reads.specs.declared.stop.Stop.TheVariants as stop
use Rattle.job_writes.specs.Writings.{SideNow, AtSide, IsToldError}
use Rattle.status_keeper.specs.declared.row.Row.{Row}
use Rattle.sync_plan.specs.declared.report.Side.TheVariants.{A, B}
use Rattle.sync_plan.specs.declared.rules.Rules.{Rules}
use Rattle.job_reads.specs.Readings.{Span}
use Rattle.job_traces.specs.Traces.{IsFlushed}
use Rattle.sync_plan.specs.declared.report.JobEnd.{JobEnd}
use Rattle.sync_plan.specs.declared.report.JobEnd.TheVariants.{Synced, Refused, NotFlushed, NotCommitted, NoMemory}
use Rattle.sync_plan.specs.declared.report.Report.{Report}
use Rattle.sync_run.specs.Ends.{Closing, FlushFails, NotFlushedOn, end_of_reading, end_of_load, end_of_stop, EndsBy, going, Finishes, GoesOn, IsJob}
use Rattle.sync_run.specs.Lines.{IsToldFailure, IsCausedEnd}
use Rattle.sync_run.specs.Quiet.{IsQuiet, IsQuietEnd, AreConflicts, EndsWell}
use Rattle.sync_run.proofs.StillRunLemmas.{unedited_status}
use Rattle.sync_run.proofs.RunLemmas.{fail_flushed, still_flushed, load_run}
use Rattle.sync_run.proofs.StillLemmas.{nothing_waits}
use Rattle.sync_run.proofs.QuietLemmas.{conflicts_alone}

ends_flushed : (changed : Bool) (found : Option (List ℕ)) (y : Closing) (rows : List Row) (end : JobEnd) → EndsBy changed found y rows end → IsFlushed y.end_a y.exit_a × IsFlushed y.end_b y.exit_b
ends_flushed changed found y rows Synced at = (inr at.0, inr at.1)
ends_flushed changed found y rows (NotCommitted error) at = (inr at.0, inr at.1)
ends_flushed changed found y rows (NotFlushed A error) at = (fail_flushed y.end_a y.exit_a error at.0.0, still_flushed y.end_b y.exit_b at.0.1)
ends_flushed changed found y rows (NotFlushed B error) at = (inr at.0.0, fail_flushed y.end_b y.exit_b error at.0.1)
ends_flushed changed found y rows NoMemory at = (at.flush_a, at.flush_b)
ends_flushed changed found y rows (Refused refusal) at = absurd at

no_lines : (report : Report) → report.lines.items ≡ [] → AreConflicts report.lines.items
no_lines report none = subst AreConflicts (sym none) tt

pub quiet_conflicts : (force : Bool) (rules : Rules) (waits_a waits_b : Bool) (x : Span) (report : Report) → IsJob force rules waits_a waits_b x report → IsQuiet x report → AreConflicts report.lines.items
quiet_conflicts force rules waits_a waits_b x report (inl stops) quiet = no_lines report stops.lines
quiet_conflicts force rules waits_a waits_b x report (inr on) quiet = by report.end on.goes_on
  where
    finished : (end : JobEnd) → Finishes rules waits_a waits_b (going on.known_a on.known_b on.r on.k x.k_now on.a x.a_now on.b x.b_now) report end → AreConflicts report.lines.items
    finished end f =
        let flushes = ends_flushed (f.closes).changed _ _ _ end (f.closes).ends in
        conflicts_alone force rules waits_a waits_b x report on.r on.k on.a on.b on.read on.known_a on.known_b on.knows_a on.knows_b end f quiet flushes.0 flushes.1

    by : (end : JobEnd) → GoesOn rules waits_a waits_b (going on.known_a on.known_b on.r on.k x.k_now on.a x.a_now on.b x.b_now) report end → AreConflicts report.lines.items
    by (Refused refusal) at = no_lines report at.1
    by NoMemory at = no_lines report at.1
    by Synced f = finished Synced f
    by (NotFlushed side error) f = finished (NotFlushed side error) f
    by (NotCommitted error) f = finished (NotCommitted error) f

-- ---- the end of a run over sides whose writes act at once

not_flushed_well : (side : Side) (end : SideNow) (exit : SideState) (error : StoreError) → end.waiting ≡ [] → FlushFails end exit error → IsToldError ⊥ error → ⊥
not_flushed_well side end exit store.Moved none (left, answer) told = answer.2 none
not_flushed_well side end exit store.Fault none (left, answer) told = told
not_flushed_well side end exit store.NoMemory none (left, answer) told = told
not_flushed_well side end exit store.TooLong none (left, answer) told = answer.1 none
not_flushed_well side end exit store.TooMany none (left, answer) told = answer.1 none
not_flushed_well side end exit store.NotThere none (left, answer) told = answer.1 none
not_flushed_well side end exit (store.Vanished href) none (left, answer) told = answer.1 none
not_flushed_well side end exit (store.BadItem href error) none (left, answer) told = answer.1 none

flush_side : (side : Side) (y : Closing) (error : StoreError) → (y.end_a).waiting ≡ [] → (y.end_b).waiting ≡ [] → NotFlushedOn side y error → IsToldError (AtSide side ⊥ ⊥) error → ⊥
flush_side A y error none_a none_b at told = not_flushed_well A y.end_a y.exit_a error none_a at.0 told
flush_side B y error none_a none_b at told = not_flushed_well B y.end_b y.exit_b error none_b at.1 told

not_committed_well : (k exit : KeeperState) (rows : List Row) (error : KeeperError) → (StatusEdited k exit → ⊥) → CommitAnswer (found_at k.stamp) k exit rows (Err error) → IsToldFailure ⊥ error → error ≡ keeper.TooLong
not_committed_well k exit rows keeper.TooLong calm at told = refl
not_committed_well k exit rows keeper.Moved calm at told = absurd (calm (moved_was_edited k exit at))
not_committed_well k exit rows keeper.Fault calm at told = absurd told
not_committed_well k exit rows keeper.NoMemory calm at told = absurd told
not_committed_well k exit rows (keeper.Damaged n) calm at told = absurd at

edited_since : (s m t : KeeperState) → status.Evolves IsEdit s m → StatusEdited m t → StatusEdited s t
edited_since s m t run edited = record { event = edited.event; is_edit = edited.is_edit; moment = edited.moment; from = Runs-trans (Runs-weaker edit_is_making run) edited.from; until = edited.until }

pub quiet_end : (force : Bool) (rules : Rules) (x : Span) (report : Report) → IsJob force rules false false x report → IsQuietEnd x report → EndsWell report.end
quiet_end force rules x report (inl stops) quiet = subst EndsWell (sym stops.end) (stop_well stops.why)
  where
    reading_well : (side : Side) (error : StoreError) → EndsWell (end_of_reading side error)
    reading_well side store.NoMemory = tt
    reading_well side store.Fault = tt
    reading_well side store.Moved = tt
    reading_well side store.TooLong = tt
    reading_well side store.TooMany = tt
    reading_well side store.NotThere = tt
    reading_well side (store.Vanished href) = tt
    reading_well side (store.BadItem href error) = tt

    load_well : (error : KeeperError) → EndsWell (end_of_load error)
    load_well keeper.NoMemory = tt
    load_well keeper.Fault = tt
    load_well keeper.Moved = tt
    load_well (keeper.Damaged n) = tt
    load_well keeper.TooLong = tt

    stop_well : (why : Stop) → EndsWell (end_of_stop why)
    stop_well (stop.Unloaded error) = load_well error
    stop_well (stop.Unlisted side error) = reading_well side error
    stop_well (stop.Emptied side) = tt
    stop_well (stop.Unfetched side error) = reading_well side error
    stop_well stop.NoMemory = tt
quiet_end force rules x report (inr on) quiet = by report.end on.goes_on quiet.cause
  where
    calm : StatusEdited on.k x.k_now → ⊥
    calm edited = unedited_status x.k x.k_now quiet.calm_k (edited_since x.k on.k x.k_now (load_run x.k on.k (Ok on.r.rows) (on.read).load) edited)

    by : (end : JobEnd) → GoesOn rules false false (going on.known_a on.known_b on.r on.k x.k_now on.a x.a_now on.b x.b_now) report end → IsCausedEnd ⊥ ⊥ ⊥ end → EndsWell end
    by Synced f cause = tt
    by (Refused refusal) f cause = tt
    by NoMemory f cause = tt
    by (NotFlushed side error) f cause = absurd (flush_side side _ error (nothing_waits A _ f.plan _ f.end_a f.os f.did_a) (nothing_waits B _ f.plan _ f.end_b f.os f.did_b) ((f.closes).ends).0 cause)
    by (NotCommitted error) f cause = not_committed_well on.k x.k_now _ error calm (((f.closes).ends).2).1 cause
