-- However a run ends, it only read, or it did a job.
use Rattle.std.proofs.Common.{◌≡◌, ◌⊎◌, inl, inr, Bool, true, false, List, [], Result, Ok, Err, refl, sym, subst}
use Rattle.std.specs.declared.vec.Vec.{Vec}
use Rattle.std.specs.declared.alloc.Global.{Global}
use Rattle.outside.proofs.Runs.{Runs-refl, Runs-weaker}
use Rattle.store_model.specs.declared.store.StoreError.{StoreError}
use Rattle.store_model.specs.declared.store.StoreError.TheVariants as store
use Rattle.store_model.specs.Sides.{SideState, Evolves, IsOutside}
use Rattle.store_model.proofs.Moments.{Evolves-refl}
use Rattle.status_keeper.specs.declared.row.Row.{Row}
use Rattle.status_keeper.specs.declared.keeper.KeeperError.{KeeperError}
use Rattle.status_keeper.specs.declared.keeper.KeeperError.TheVariants as keeper
use Rattle.status_keeper.specs.Kept.{KeeperState, IsEdit, IsMaking}
use Rattle.status_keeper.specs.Kept as status
use Rattle.status_keeper.specs.KeeperCalls.{AfterEdits, AfterPlacing, Commits, CommitAnswer, LoadAnswer, found_at, is_as_found}
use Rattle.status_keeper.proofs.Moving.{edit_is_making, placing_run}
use Rattle.sync_plan.specs.declared.report.Side.{Side}
use Rattle.sync_plan.specs.declared.report.Side.TheVariants.{A, B}
use Rattle.sync_plan.specs.declared.rules.Rules.{Rules}
use Rattle.job_reads.specs.declared.stop.Stop.{Stop}
use Rattle.job_reads.specs.declared.stop.Stop.TheVariants as stop
use Rattle.job_reads.specs.declared.reading.ReadJob.{ReadJob}
use Rattle.job_reads.specs.Readings.{Span, span, IsRead, IsStop, IsLoaded, OnlyReads}
use Rattle.job_reads.proofs.ReadLemmas.{lists_outside, reads_asked, fails_asked, only_reads}
use Rattle.job_writes.specs.Writings.{SideNow, now_of, sources}
use Rattle.job_writes.proofs.OrderLemmas.{did_tried}
use Rattle.job_rows.specs.RowsAfter.{rows_after}
use Rattle.job_traces.specs.Traces.{IsFlushed, AllFlushed, Ran}
use Rattle.job_traces.proofs.JobLemmas.{job_of}
use Rattle.job_traces.proofs.ReadsLemmas.{wrote_reads}
use Rattle.sync_plan.specs.declared.report.Refusal.{Refusal}
use Rattle.sync_plan.specs.declared.report.Refusal.TheVariants.{SameLocation, Status, Storage, StorageEmpty, SameIdent}
use Rattle.sync_plan.specs.declared.report.JobEnd.{JobEnd}
use Rattle.sync_plan.specs.declared.report.JobEnd.TheVariants.{Synced, Refused, NotFlushed, NotCommitted, NoMemory}
use Rattle.sync_plan.specs.declared.report.Report.{Report}
use Rattle.sync_run.specs.Ends.{closing, CommitsBy, FlushFails, NotFlushedOn, Going, going, Finishes, BreaksOff, IsStill, IsTwinned, GoesOn, IsJob, KeepsRows, JobRun}

-- ---- a run that only read

-- a load changes nothing, whatever it answers
load_still : (m t : KeeperState) (result : Result (Vec Row Global) KeeperError) → LoadAnswer m t result → t ≡ m
load_still m t (Ok rows) h = h.0
load_still m t (Err (keeper.Damaged n)) h = h.0
load_still m t (Err keeper.TooLong) h = h.0
load_still m t (Err keeper.Moved) h = absurd h
load_still m t (Err keeper.Fault) h = h
load_still m t (Err keeper.NoMemory) h = h

pub load_run : (s t : KeeperState) (result : Result (Vec Row Global) KeeperError) → AfterEdits s (λ m. LoadAnswer m t result) → status.Evolves IsEdit s t
load_run s t result h = subst (λ (x : KeeperState). status.Evolves IsEdit s x) (sym (load_still h.moment t result h.does)) h.edits

at_rest : (s t : SideState) → t ≡ s → Evolves IsOutside s t
at_rest s t same = subst (λ (x : SideState). Evolves IsOutside s x) (sym same) (Evolves-refl s)

loaded_reads : (x : Span) → IsLoaded x → status.Evolves IsEdit x.k x.k_now
loaded_reads x (rows, loads) = load_run x.k x.k_now (Ok rows) loads

pub stop_reads : (force : Bool) (x : Span) (s : Stop) → IsStop force x s → OnlyReads x
stop_reads force x (stop.Unloaded error) (fails, same_a, same_b) = only_reads x (load_run x.k x.k_now (Err error) fails) (inl (at_rest x.a x.a_now same_a)) (inl (at_rest x.b x.b_now same_b))
stop_reads force x (stop.Unlisted A error) (loaded, fails, same_b) = only_reads x (loaded_reads x loaded) (inl fails.run) (inl (at_rest x.b x.b_now same_b))
stop_reads force x (stop.Unlisted B error) (loaded, (entries, lists), fails) = only_reads x (loaded_reads x loaded) (inl (lists_outside entries x.a x.a_now lists)) (inl fails.run)
stop_reads force x (stop.Emptied side) at = only_reads x (load_run x.k x.k_now (Ok at.rows) at.load) (inl (lists_outside at.entries_a x.a x.a_now at.lists_a)) (inl (lists_outside at.entries_b x.b x.b_now at.lists_b))
stop_reads force x (stop.Unfetched A error) at =
    only_reads x (load_run x.k x.k_now (Ok at.rows) at.load) (inr (at.rows, at.entries_a, at.load, fails_asked A (at.rows).items at.entries_a error x.a x.a_now at.fails)) (inl (lists_outside at.entries_b x.b x.b_now at.lists_b))
stop_reads force x (stop.Unfetched B error) at =
    only_reads x (load_run x.k x.k_now (Ok at.rows) at.load) (inr (at.rows, at.entries_a, at.load, reads_asked A (at.rows).items at.entries_a at.fetched_a x.a x.a_now at.reads_a)) (inr (at.rows, at.entries_b, at.load, fails_asked B (at.rows).items at.entries_b error x.b x.b_now at.fails))
stop_reads force x stop.NoMemory at = at

read_reads : (force : Bool) (x : Span) (r : ReadJob) → IsRead force x r → OnlyReads x
read_reads force x r read =
    only_reads x (load_run x.k x.k_now (Ok r.rows) read.load) (inr (r.rows, read.entries_a, read.load, reads_asked A r.rows.items read.entries_a read.fetched_a x.a x.a_now read.reads_a)) (inr (r.rows, read.entries_b, read.load, reads_asked B r.rows.items read.entries_b read.fetched_b x.b x.b_now read.reads_b))

-- ---- what flushes and a commit leave

pub fail_flushed : (end : SideNow) (exit : SideState) (error : StoreError) → FlushFails end exit error → IsFlushed end exit
fail_flushed end exit store.Moved (left, answer) = inl answer.0
fail_flushed end exit store.Fault (left, answer) = answer
fail_flushed end exit store.TooLong (left, answer) = answer.0
fail_flushed end exit store.TooMany (left, answer) = answer.0
fail_flushed end exit store.NotThere (left, answer) = answer.0
fail_flushed end exit (store.Vanished href) (left, answer) = answer.0
fail_flushed end exit (store.BadItem href error) (left, answer) = answer.0
fail_flushed end exit store.NoMemory (left, answer) = answer.0

pub still_flushed : (end : SideNow) (exit : SideState) → exit ≡ end.state → IsFlushed end exit
still_flushed end exit same = inl (subst (λ (x : SideState). Evolves IsOutside end.state x) (sym same) (Evolves-refl end.state))

still_kept : (k exit : KeeperState) → exit ≡ k → status.Evolves IsMaking k exit
still_kept k exit same = subst (λ (x : KeeperState). status.Evolves IsMaking k x) (sym same) (Runs-refl k)

-- a commit that failed kept the rows, or nothing
fail_committed : (k exit : KeeperState) (before rows : List Row) (error : KeeperError) → CommitAnswer (found_at k.stamp) k exit rows (Err error) → status.Evolves IsMaking k exit ⊎ AfterPlacing (found_at k.stamp) k (Commits (found_at k.stamp) rows exit)
fail_committed k exit before rows keeper.Moved at = inl (subst (λ (x : KeeperState). status.Evolves IsMaking k x) (sym (at.does).1) (placing_run (found_at k.stamp) k (λ m. (is_as_found (found_at k.stamp) m.stamp ≡ false) × (exit ≡ m)) at))
fail_committed k exit before rows keeper.Fault at = at
fail_committed k exit before rows keeper.TooLong at = inl (Runs-weaker edit_is_making at.0)
fail_committed k exit before rows keeper.NoMemory at = inl at
fail_committed k exit before rows (keeper.Damaged n) at = absurd at

-- ---- a run that wrote

module _ (force : Bool) (rules : Rules) (waits_a waits_b : Bool) (x : Span) (report : Report) (r : ReadJob) (k : KeeperState) (a b : SideState) (read : IsRead force (span x.k k x.a a x.b b) r) (known_a known_b : Bool) where
  abbrev pub y : Going
  y = going known_a known_b r k x.k_now a x.a_now b x.b_now

  job_run : (after : List Row) → Ran force rules (span x.k k x.a a x.b b) r x.a_now x.b_now after → KeepsRows k x.k_now r.rows.items after → JobRun force rules x
  job_run after ran keeps = record {
    k = k;
    a = a;
    b = b;
    r = r;
    read = read;
    after = after;
    job = job_of force rules (span x.k k x.a a x.b b) r x.a_now x.b_now after ran;
    keeps = keeps;
    unread_a = wrote_reads ran.waits_a A (sources r.a r.b) ran.plan a x.a_now ran.wrote_a;
    unread_b = wrote_reads ran.waits_b B (sources r.a r.b) ran.plan b x.b_now ran.wrote_b;
  }

  pub broken : BreaksOff rules waits_a waits_b y → JobRun force rules x
  broken off = job_run r.rows.items (record { read = read; plan = off.plan; is_plan = off.is_plan; waits_a = waits_a; waits_b = waits_b; wrote_a = off.wrote_a; wrote_b = off.wrote_b; rows = inl refl }) (inl (refl, off.kept))

  module _ (end : JobEnd) (f : Finishes rules waits_a waits_b y report end) where
    abbrev pub made : List Row
    made = rows_after (sources r.a r.b) r.rows.items f.plan (f.os).put.items (f.os).removed.items

    -- the rows stay
    stays : IsFlushed f.end_a x.a_now → IsFlushed f.end_b x.b_now → status.Evolves IsMaking k x.k_now → JobRun force rules x
    stays flush_a flush_b kept = broken (record {
      plan = f.plan;
      is_plan = f.is_plan;
      wrote_a = record { end = f.end_a; tried = did_tried waits_a A (sources r.a r.b) f.plan (now_of a []) f.end_a f.os f.did_a; acts = f.acts_a; flush = flush_a };
      wrote_b = record { end = f.end_b; tried = did_tried waits_b B (sources r.a r.b) f.plan (now_of b []) f.end_b f.os f.did_b; acts = f.acts_b; flush = flush_b };
      kept = kept;
    })

    -- the rows that all outcomes come to are committed
    comes : AllFlushed f.end_a x.a_now → AllFlushed f.end_b x.b_now → AfterPlacing (found_at k.stamp) k (Commits (found_at k.stamp) made x.k_now) → JobRun force rules x
    comes flush_a flush_b committed = job_run made (record {
      read = read;
      plan = f.plan;
      is_plan = f.is_plan;
      waits_a = waits_a;
      waits_b = waits_b;
      wrote_a = record { end = f.end_a; tried = did_tried waits_a A (sources r.a r.b) f.plan (now_of a []) f.end_a f.os f.did_a; acts = f.acts_a; flush = inr flush_a };
      wrote_b = record { end = f.end_b; tried = did_tried waits_b B (sources r.a r.b) f.plan (now_of b []) f.end_b f.os f.did_b; acts = f.acts_b; flush = inr flush_b };
      rows = inr (record { os = f.os; end_a = f.end_a; end_b = f.end_b; did_a = f.did_a; did_b = f.did_b; whole = f.whole; flush_a = flush_a; flush_b = flush_b; comes = refl });
    }) (inr committed)

    synced : (changed : Bool) → AllFlushed f.end_a x.a_now → AllFlushed f.end_b x.b_now → CommitsBy changed (found_at k.stamp) k x.k_now made Synced → JobRun force rules x
    synced false flush_a flush_b same = stays (inr flush_a) (inr flush_b) (still_kept k x.k_now same)
    synced true flush_a flush_b committed = comes flush_a flush_b committed

    not_committed : (error : KeeperError) → AllFlushed f.end_a x.a_now → AllFlushed f.end_b x.b_now → CommitAnswer (found_at k.stamp) k x.k_now made (Err error) → JobRun force rules x
    not_committed error flush_a flush_b at = elim (fail_committed k x.k_now r.rows.items made error at) [
      | inl kept ↦ stays (inr flush_a) (inr flush_b) kept
      | inr committed ↦ comes flush_a flush_b committed
    ]

    not_flushed : (side : Side) (error : StoreError) → NotFlushedOn side (closing f.end_a x.a_now f.end_b x.b_now k x.k_now) error → x.k_now ≡ k → JobRun force rules x
    not_flushed A error (fails, same) kept = stays (fail_flushed f.end_a x.a_now error fails) (still_flushed f.end_b x.b_now same) (still_kept k x.k_now kept)
    not_flushed B error (flush_a, fails) kept = stays (inr flush_a) (fail_flushed f.end_b x.b_now error fails) (still_kept k x.k_now kept)

  pub finished : (end : JobEnd) → Finishes rules waits_a waits_b y report end → JobRun force rules x
  finished Synced f = let ends = (f.closes).ends in synced Synced f (f.closes).changed ends.0 ends.1 ends.2
  finished (NotCommitted error) f = let ends = (f.closes).ends in not_committed (NotCommitted error) f error ends.0 ends.1 (ends.2).1
  finished (NotFlushed side error) f = let ends = (f.closes).ends in not_flushed (NotFlushed side error) f side error ends.0 ends.1
  finished NoMemory f = let ends = (f.closes).ends in stays NoMemory f ends.flush_a ends.flush_b ends.kept
  finished (Refused refusal) f = absurd (f.closes).ends

  -- a run that did nothing behind its reading
  still : IsStill y → OnlyReads x
  still (same_k, same_a, same_b) =
      subst (λ (u : SideState). OnlyReads (span x.k x.k_now x.a x.a_now x.b u)) (sym same_b)
      (subst (λ (t : SideState). OnlyReads (span x.k x.k_now x.a t x.b b)) (sym same_a)
      (subst (λ (m : KeeperState). OnlyReads (span x.k m x.a a x.b b)) (sym same_k) (read_reads force (span x.k k x.a a x.b b) r read)))

  pub twinned : (refusal : Refusal) → IsTwinned y refusal → OnlyReads x
  twinned (SameIdent side ident first second) (refused, same) = still same
  twinned SameLocation at = absurd at
  twinned (Status error) at = absurd at
  twinned (Storage side error) at = absurd at
  twinned (StorageEmpty side) at = absurd at

  goes : (end : JobEnd) → GoesOn rules waits_a waits_b y report end → OnlyReads x ⊎ JobRun force rules x
  goes (Refused refusal) at = inl (twinned refusal at.0)
  goes NoMemory at = elim at.0 [
    | inl same ↦ inl (still same)
    | inr off ↦ inr (broken off)
  ]
  goes Synced f = inr (finished Synced f)
  goes (NotFlushed side error) f = inr (finished (NotFlushed side error) f)
  goes (NotCommitted error) f = inr (finished (NotCommitted error) f)

pub run_of : (force : Bool) (rules : Rules) (waits_a waits_b : Bool) (x : Span) (report : Report) → IsJob force rules waits_a waits_b x report → OnlyReads x ⊎ JobRun force rules x
run_of force rules waits_a waits_b x report (inl stops) = inl (stop_reads force x stops.why stops.stops)
run_of force rules waits_a waits_b x report (inr on) = goes force rules waits_a waits_b x report on.r on.k on.a on.b on.read on.known_a on.known_b report.end on.goes_on
