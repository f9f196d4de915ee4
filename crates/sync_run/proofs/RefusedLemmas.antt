-- A run that is refused only read; rows that weren't committed for their length are those of a job.
use Rattle.std.proofs.Common.{◌≡◌, inl, inr, Bool, List, [], refl, sym, ◌∙◌, subst}
use Rattle.store_model.specs.declared.store.StoreError.{StoreError}
use Rattle.store_model.specs.declared.store.StoreError.TheVariants as store
use Rattle.store_model.specs.Sides.{SideState}
use Rattle.status_keeper.specs.declared.row.Row.{Row}
use Rattle.status_keeper.specs.declared.keeper.KeeperError.{KeeperError}
use Rattle.status_keeper.specs.declared.keeper.KeeperError.TheVariants as keeper
use Rattle.status_keeper.specs.Kept.{KeeperState}
use Rattle.sync_plan.specs.declared.report.Side.{Side}
use Rattle.sync_plan.specs.declared.report.Side.TheVariants.{A, B}
use Rattle.sync_plan.specs.declared.rules.Rules.{Rules}
use Rattle.job_reads.specs.declared.stop.Stop.{Stop}
use Rattle.job_reads.specs.declared.stop.Stop.TheVariants as stop
use Rattle.job_reads.specs.declared.reading.ReadJob.{ReadJob}
use Rattle.job_reads.specs.Readings.{Span, span, IsRead, OnlyReads}
use Rattle.job_writes.specs.Writings.{now_of, sources}
use Rattle.job_writes.proofs.OrderLemmas.{did_tried}
use Rattle.job_rows.specs.RowsAfter.{rows_after}
use Rattle.job_traces.specs.Traces.{Ran}
use Rattle.job_traces.proofs.JobLemmas.{job_of}
use Rattle.sync_plan.specs.declared.report.Refusal.{Refusal}
use Rattle.sync_plan.specs.declared.report.JobEnd.{JobEnd}
use Rattle.sync_plan.specs.declared.report.JobEnd.TheVariants.{Refused, NotCommitted}
use Rattle.sync_plan.specs.declared.report.Report.{Report}
use Rattle.sync_run.specs.Ends.{end_of_reading, end_of_load, end_of_stop, going, Finishes, GoesOn, IsJob}
use Rattle.sync_run.specs.Ready.{ComesTooLong}
use Rattle.sync_run.proofs.RunLemmas.{stop_reads, twinned}

pub refused_reads : (force : Bool) (rules : Rules) (waits_a waits_b : Bool) (x : Span) (report : Report) (refusal : Refusal) → IsJob force rules waits_a waits_b x report → report.end ≡ Refused refusal → OnlyReads x × (report.lines.items ≡ [])
refused_reads force rules waits_a waits_b x report refusal (inl stops) is = (stop_reads force x stops.why stops.stops, stops.lines)
refused_reads force rules waits_a waits_b x report refusal (inr on) is =
    let at : GoesOn rules waits_a waits_b (going on.known_a on.known_b on.r on.k x.k_now on.a x.a_now on.b x.b_now) report (Refused refusal) = subst (λ (end : JobEnd). GoesOn rules waits_a waits_b (going on.known_a on.known_b on.r on.k x.k_now on.a x.a_now on.b x.b_now) report end) is on.goes_on in
    (twinned force rules waits_a waits_b x report on.r on.k on.a on.b on.read on.known_a on.known_b refusal at.0, at.1)

-- ---- rows that are too long

-- a run that stops while it reads has committed nothing
reading_commits : (side : Side) (error : StoreError) (failed : KeeperError) → end_of_reading side error ≡ NotCommitted failed → ⊥
reading_commits side store.Fault failed e = cc
reading_commits side store.Moved failed e = cc
reading_commits side store.TooLong failed e = cc
reading_commits side store.TooMany failed e = cc
reading_commits side store.NotThere failed e = cc
reading_commits side (store.Vanished href) failed e = cc
reading_commits side (store.BadItem href error) failed e = cc
reading_commits side store.NoMemory failed e = cc

load_commits : (error failed : KeeperError) → end_of_load error ≡ NotCommitted failed → ⊥
load_commits keeper.Fault failed e = cc
load_commits keeper.Moved failed e = cc
load_commits (keeper.Damaged n) failed e = cc
load_commits keeper.TooLong failed e = cc
load_commits keeper.NoMemory failed e = cc

stop_commits : (why : Stop) (failed : KeeperError) → end_of_stop why ≡ NotCommitted failed → ⊥
stop_commits (stop.Unloaded error) failed e = load_commits error failed e
stop_commits (stop.Unlisted side error) failed e = reading_commits side error failed e
stop_commits (stop.Emptied side) failed e = cc
stop_commits (stop.Unfetched side error) failed e = reading_commits side error failed e
stop_commits stop.NoMemory failed e = cc

module _ (force : Bool) (rules : Rules) (waits_a waits_b : Bool) (x : Span) (report : Report) (r : ReadJob) (k : KeeperState) (a b : SideState) (read : IsRead force (span x.k k x.a a x.b b) r) (known_a known_b : Bool) (f : Finishes rules waits_a waits_b (going known_a known_b r k x.k_now a x.a_now b x.b_now) report (NotCommitted keeper.TooLong)) where
  abbrev pub made : List Row
  made = rows_after (sources r.a r.b) r.rows.items f.plan (f.os).put.items (f.os).removed.items

  ran : Ran force rules (span x.k k x.a a x.b b) r x.a_now x.b_now made
  ran = record {
    read = read;
    plan = f.plan;
    is_plan = f.is_plan;
    waits_a = waits_a;
    waits_b = waits_b;
    wrote_a = record { end = f.end_a; tried = did_tried waits_a A (sources r.a r.b) f.plan (now_of a []) f.end_a f.os f.did_a; acts = f.acts_a; flush = inr ((f.closes).ends).0 };
    wrote_b = record { end = f.end_b; tried = did_tried waits_b B (sources r.a r.b) f.plan (now_of b []) f.end_b f.os f.did_b; acts = f.acts_b; flush = inr ((f.closes).ends).1 };
    rows = inr (record { os = f.os; end_a = f.end_a; end_b = f.end_b; did_a = f.did_a; did_b = f.did_b; whole = f.whole; flush_a = ((f.closes).ends).0; flush_b = ((f.closes).ends).1; comes = refl });
  }

  too_long : ComesTooLong force rules x
  too_long = record { k = k; a = a; b = b; r = r; read = read; after = made; job = job_of force rules (span x.k k x.a a x.b b) r x.a_now x.b_now made ran; unwritten = ((((f.closes).ends).2).1).0; too_long = ((((f.closes).ends).2).1).1 }

pub comes_too_long : (force : Bool) (rules : Rules) (waits_a waits_b : Bool) (x : Span) (report : Report) → IsJob force rules waits_a waits_b x report → report.end ≡ NotCommitted keeper.TooLong → ComesTooLong force rules x
comes_too_long force rules waits_a waits_b x report (inl stops) is = absurd (stop_commits stops.why keeper.TooLong (sym stops.end ∙ is))
comes_too_long force rules waits_a waits_b x report (inr on) is =
    too_long force rules waits_a waits_b x report on.r on.k on.a on.b on.read on.known_a on.known_b (subst (λ (end : JobEnd). GoesOn rules waits_a waits_b (going on.known_a on.known_b on.r on.k x.k_now on.a x.a_now on.b x.b_now) report end) is on.goes_on)
