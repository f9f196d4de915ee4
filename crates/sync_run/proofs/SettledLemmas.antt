-- Each ident is settled where a run ends in sync.
use Rattle.std.proofs.Common.{◌≡◌, ◌⊎◌, inl, inr, ℕ, Bool, true, false, List, [], ◌∷◌, Option, Some, None, IsSome, option_map, refl, sym, ap, ◌∙◌, subst}
use Rattle.std.specs.List.{AllByRecursion, cons_option}
use Rattle.std.proofs.lemmas.List.Elements.{recursion_from_All}
use Rattle.outside.proofs.Runs.{Runs-refl}
use Rattle.store_model.specs.declared.store.StoreError.{StoreError}
use Rattle.store_model.specs.declared.store.StoreError.TheVariants as store
use Rattle.store_model.specs.Sides.{SideState}
use Rattle.status_keeper.specs.declared.row.Row.{Row}
use Rattle.status_keeper.specs.declared.keeper.KeeperError.{KeeperError}
use Rattle.status_keeper.specs.declared.keeper.KeeperError.TheVariants as keeper
use Rattle.status_keeper.specs.Kept.{KeeperState, IsMaking}
use Rattle.status_keeper.specs.Kept as status
use Rattle.status_keeper.specs.KeeperCalls.{found_at}
use Rattle.status_keeper.specs.Rows.{row_of}
use Rattle.sync_plan.specs.declared.report.Side.{Side}
use Rattle.sync_plan.specs.declared.report.Side.TheVariants.{A, B}
use Rattle.sync_plan.specs.declared.rules.Rules.{Rules}
use Rattle.sync_plan.specs.declared.dues.Step.{Step}
use Rattle.sync_plan.specs.declared.dues.Step.TheVariants as step
use Rattle.sync_plan.specs.declared.seen.Seen.{Seen}
use Rattle.sync_plan.specs.declared.seen.Planned.{Planned}
use Rattle.sync_plan.specs.Plans.{IsNamed, IsPlannedFor, seen_of, versions_of, planned_idents}
use Rattle.sync_plan.specs.Verdicts.{Versions, step_of}
use Rattle.sync_plan.specs.JobSteps.{written}
use Rattle.sync_plan.proofs.Rising.{within_all, within_from_contains}
use Rattle.job_runs.specs.Jobs.{IsMade}
use Rattle.job_reads.specs.declared.stop.Stop.{Stop}
use Rattle.job_reads.specs.declared.stop.Stop.TheVariants as stop
use Rattle.job_reads.specs.declared.reading.ReadJob.{ReadJob}
use Rattle.job_reads.specs.Readings.{Span, span, IsRead, course_of_a, course_of_b}
use Rattle.job_writes.specs.declared.outcome.Outcome.{Outcome}
use Rattle.job_writes.specs.declared.outcome.Outcome.TheVariants as outcome
use Rattle.job_writes.specs.Writings.{now_of, sources, FitsPut, FitsRemoval, failed_after}
use Rattle.job_writes.proofs.OrderLemmas.{did_tried}
use Rattle.job_rows.specs.RowsAfter.{outcome_of, row_after, rows_after, IsUnchanged, IsStepAt}
use Rattle.job_rows.proofs.NextLemmas.{unchanged_at}
use Rattle.job_traces.specs.Traces.{IsUndone, CameTo, Ran}
use Rattle.job_traces.proofs.JobLemmas.{find, step_ends, row_at, none_at, none_before, wrote_a, wrote_b, job_of}
use Rattle.job_traces.proofs.StepRows.{made_still}
use Rattle.job_traces.proofs.RowsMade.{first_at, second_at, fits_at, planned_at}
use Rattle.sync_plan.specs.declared.report.What.{What}
use Rattle.sync_plan.specs.declared.report.What.TheVariants.{Conflict, NotWritten, NotRemoved, Skipped}
use Rattle.sync_plan.specs.declared.report.Line.{Line}
use Rattle.sync_plan.specs.declared.report.JobEnd.{JobEnd}
use Rattle.sync_plan.specs.declared.report.JobEnd.TheVariants.{Synced}
use Rattle.sync_plan.specs.declared.report.Report.{Report}
use Rattle.sync_run.specs.Lines.{what_of, line_for, lines_of}
use Rattle.sync_run.specs.Ends.{end_of_stop, CommitsBy, going, Finishes, GoesOn, IsJob, KeepsRows}
use Rattle.sync_run.specs.Settled.{IsTold, IsLeft, IsSettled, InSync}

-- ---- an outcome that is told has its line

told_later : (ident : List ℕ) (line : Option Line) (rest : List Line) → IsTold ident rest → IsTold ident (cons_option line rest)
told_later ident None rest told = told
told_later ident (Some line) rest told = inr told

told_here : (q : Planned) (what : What) (o : Option What) (rest : List Line) → o ≡ Some what → IsTold (q.ident).now (cons_option (option_map (line_for q) o) rest)
told_here q what None rest is = absurd (let clash : None ≡ Some what = is in cc)
told_here q what (Some told) rest is = inl refl

pub told_at : (p : Planned) (f g : Outcome) (what : What) (ps : List Planned) (fs gs : List Outcome) → IsStepAt p f g ps fs gs → what_of (outcome_of p.step f g) ≡ Some what → IsTold (p.ident).now (lines_of ps fs gs)
told_at p f g what [] fs gs at is = absurd at
told_at p f g what (q ∷ ps) [] gs at is = absurd at
told_at p f g what (q ∷ ps) (y ∷ fs) [] at is = absurd at
told_at p f g what (q ∷ ps) (y ∷ fs) (z ∷ gs) (inl (same, is_f, is_g)) is =
    let here : what_of (outcome_of q.step y z) ≡ Some what = subst (λ (r : Planned). what_of (outcome_of r.step y z) ≡ Some what) same (subst (λ (o : Outcome). what_of (outcome_of p.step o z) ≡ Some what) is_f (subst (λ (o : Outcome). what_of (outcome_of p.step f o) ≡ Some what) is_g is)) in
    subst (λ (r : Planned). IsTold (r.ident).now (lines_of (q ∷ ps) (y ∷ fs) (z ∷ gs))) (sym same) (told_here q what (what_of (outcome_of q.step y z)) (lines_of ps fs gs) here)
told_at p f g what (q ∷ ps) (y ∷ fs) (z ∷ gs) (inr at) is = told_later (p.ident).now (option_map (line_for q) (what_of (outcome_of q.step y z))) (lines_of ps fs gs) (told_at p f g what ps fs gs at is)

-- ---- a step that was left

not_left : {T : Type 0} (o other : Outcome) → (other ≡ outcome.Left → ⊥) → o ≡ other → o ≡ outcome.Left → T
not_left o other differs is left = absurd (differs (sym is ∙ left))

left_step : (st : Step) (f g : Outcome) (φ : Bool) → FitsPut st f → FitsRemoval φ st g → outcome_of st f g ≡ outcome.Left → IsLeft st
left_step step.HandOver f g φ put removal left = tt
left_step (step.Held side) f g φ put removal left = tt
left_step step.Forget f g φ put removal left = not_left f outcome.Gone (λ e. cc) put left
left_step step.Keep f g φ put removal left = not_left f outcome.Kept (λ e. cc) put left
left_step step.Conflict f g φ put removal left = not_left f outcome.Conflict (λ e. cc) put left
left_step (step.CopyTo side) f g φ put removal left = absurd (subst (λ (o : Outcome). FitsPut (step.CopyTo side) o) left put)
left_step (step.WriteOver side) f g φ put removal left = absurd (subst (λ (o : Outcome). FitsPut (step.WriteOver side) o) left put)
left_step (step.RemoveFrom side) f g true put removal left = not_left g outcome.Skipped (λ e. cc) removal left
left_step (step.RemoveFrom side) f g false put removal left = absurd (subst (λ (o : Outcome). FitsRemoval false (step.RemoveFrom side) o) left removal)

-- ---- no stop is in sync

reading_stops : (side : Side) (error : StoreError) → end_of_stop (stop.Unlisted side error) ≡ Synced → ⊥
reading_stops side store.Fault e = cc
reading_stops side store.Moved e = cc
reading_stops side store.TooLong e = cc
reading_stops side store.TooMany e = cc
reading_stops side store.NotThere e = cc
reading_stops side (store.Vanished href) e = cc
reading_stops side (store.BadItem href error) e = cc
reading_stops side store.NoMemory e = cc

load_stops : (error : KeeperError) → end_of_stop (stop.Unloaded error) ≡ Synced → ⊥
load_stops keeper.Fault e = cc
load_stops keeper.Moved e = cc
load_stops (keeper.Damaged n) e = cc
load_stops keeper.TooLong e = cc
load_stops keeper.NoMemory e = cc

stops_not : (why : Stop) → end_of_stop why ≡ Synced → ⊥
stops_not (stop.Unloaded error) e = load_stops error e
stops_not (stop.Unlisted side error) e = reading_stops side error e
stops_not (stop.Emptied side) e = cc
stops_not (stop.Unfetched side error) e = reading_stops side error e
stops_not stop.NoMemory e = cc

-- ---- a run that ended in sync

module _ (force : Bool) (rules : Rules) (waits_a waits_b : Bool) (x : Span) (report : Report) (r : ReadJob) (k : KeeperState) (a b : SideState) (read : IsRead force (span x.k k x.a a x.b b) r) (known_a known_b : Bool) (f : Finishes rules waits_a waits_b (going known_a known_b r k x.k_now a x.a_now b x.b_now) report Synced) where
  abbrev pub read_span : Span
  read_span = span x.k k x.a a x.b b

  abbrev pub made : List Row
  made = rows_after (sources r.a r.b) r.rows.items f.plan (f.os).put.items (f.os).removed.items

  -- as a run that comes to all its rows
  abbrev pub came : CameTo waits_a waits_b (sources r.a r.b) r.rows.items f.plan a x.a_now b x.b_now made
  came = record { os = f.os; end_a = f.end_a; end_b = f.end_b; did_a = f.did_a; did_b = f.did_b; whole = f.whole; flush_a = ((f.closes).ends).0; flush_b = ((f.closes).ends).1; comes = refl }

  abbrev pub ran_to : (after : List Row) → (after ≡ r.rows.items) ⊎ CameTo waits_a waits_b (sources r.a r.b) r.rows.items f.plan a x.a_now b x.b_now after → Ran force rules read_span r x.a_now x.b_now after
  ran_to after rows = record {
    read = read;
    plan = f.plan;
    is_plan = f.is_plan;
    waits_a = waits_a;
    waits_b = waits_b;
    wrote_a = record { end = f.end_a; tried = did_tried waits_a A (sources r.a r.b) f.plan (now_of a []) f.end_a f.os f.did_a; acts = f.acts_a; flush = inr ((f.closes).ends).0 };
    wrote_b = record { end = f.end_b; tried = did_tried waits_b B (sources r.a r.b) f.plan (now_of b []) f.end_b f.os f.did_b; acts = f.acts_b; flush = inr ((f.closes).ends).1 };
    rows = rows;
  }

  abbrev pub ran : Ran force rules read_span r x.a_now x.b_now made
  ran = ran_to made (inr came)

  abbrev pub saw : List ℕ → Versions
  saw ident = versions_of ident r.a.seen.items r.b.seen.items r.rows.items

  abbrev pub Made : List ℕ → Option Row → Type 0
  Made ident after = IsMade (course_of_a read_span r x.a_now) (course_of_b read_span r x.b_now) ident (saw ident) (written (step_of rules (saw ident)) None A (saw ident)) (written (step_of rules (saw ident)) None B (saw ident)) after

  abbrev pub Settled : List ℕ → Option Row → Type 0
  Settled ident after = IsSettled rules (course_of_a read_span r x.a_now) (course_of_b read_span r x.b_now) ident (saw ident) after report.lines.items

  -- ---- a step that was not done is told, or left

  undone : (p : Planned) (first second : Outcome) → IsStepAt p first second f.plan (f.os).put.items (f.os).removed.items → p.step ≡ step_of rules (saw (p.ident).now) → (o : Outcome) → outcome_of p.step first second ≡ o → IsUndone o → (after : Option Row) → Settled (p.ident).now after
  undone p first second at by o is not_done after = by_outcome o is not_done
    where
      told : (what : What) → what_of (outcome_of p.step first second) ≡ Some what → Settled (p.ident).now after
      told what has = inl (subst (λ (l : List Line). IsTold (p.ident).now l) (sym (f.closes).lines) (told_at p first second what f.plan (f.os).put.items (f.os).removed.items at has))

      by_outcome : (o : Outcome) → outcome_of p.step first second ≡ o → IsUndone o → Settled (p.ident).now after
      by_outcome outcome.Conflict is u = told Conflict (ap what_of is)
      by_outcome (outcome.NotWritten side error) is u = told (NotWritten side error) (ap what_of is)
      by_outcome (outcome.NotRemoved side error) is u = told (NotRemoved side error) (ap what_of is)
      by_outcome outcome.Skipped is u = told Skipped (ap what_of is)
      by_outcome outcome.Left is u =
          let put = fits_at (λ failed q. FitsPut q.step) false p first f.plan (f.os).put.items (f.whole).put (first_at p first second f.plan (f.os).put.items (f.os).removed.items at) in
          let removed = fits_at (λ failed q. FitsRemoval failed q.step) (failed_after false (f.os).put.items) p second f.plan (f.os).removed.items (f.whole).removed (second_at p first second f.plan (f.os).put.items (f.os).removed.items at) in
          inr (inl (subst IsLeft by (left_step p.step first second removed.0 put.1 removed.1 is)))
      by_outcome outcome.Kept is u = absurd u
      by_outcome outcome.Gone is u = absurd u
      by_outcome (outcome.Written row) is u = absurd u

  pub by_table : (p : Planned) (first second : Outcome) → IsStepAt p first second f.plan (f.os).put.items (f.os).removed.items → p.step ≡ step_of rules (saw (p.ident).now)
  by_table p first second at = (planned_at (IsPlannedFor r.a.seen.items r.b.seen.items r.rows.items rules) p first f.plan (f.os).put.items (recursion_from_All (IsPlannedFor r.a.seen.items r.b.seen.items r.rows.items rules) f.plan (f.is_plan).each) (first_at p first second f.plan (f.os).put.items (f.os).removed.items at)).by_table

  -- ---- an ident without a step

  module _ (ident : List ℕ) (others : AllByRecursion (λ z. z ≡ ident → ⊥) (planned_idents f.plan)) where
    unnamed : {T : Type 0} → IsNamed ident r.a.seen.items r.b.seen.items r.rows.items → T
    unnamed named = absurd (within_all (λ z. z ≡ ident → ⊥) (planned_idents f.plan) others ident (within_from_contains (planned_idents f.plan) ident ((f.is_plan).whole ident named)) refl)

    version_none : (o : Option Seen) → (IsSome o → ⊥) → option_map (λ (s : Seen). (s.fp).0) o ≡ None
    version_none None h = refl
    version_none (Some s) h = absurd (h refl)

    row_none : (o : Option Row) → (IsSome o → ⊥) → option_map (λ (row : Row). (row.fp).0) o ≡ None
    row_none None h = refl
    row_none (Some row) h = absurd (h refl)

    none_a : (saw ident).a ≡ None
    none_a = version_none (seen_of ident r.a.seen.items) (λ h. unnamed (inl h))

    none_b : (saw ident).b ≡ None
    none_b = version_none (seen_of ident r.b.seen.items) (λ h. unnamed (inr (inl h)))

    none_s : (saw ident).s ≡ None
    none_s = row_none (row_of ident r.rows.items) (λ h. unnamed (inr (inr h)))

    pub forgets : step_of rules (saw ident) ≡ step.Forget
    forgets = λ j. step_of rules (record { a = none_a j; b = none_b j; s = none_s j })

    nothing_made : Made ident None
    nothing_made =
        made_still (course_of_a read_span r x.a_now) (course_of_b read_span r x.b_now) (sources r.a r.b) r.rows.items rules ident None
        (ap (λ (q : Step). written q None A (saw ident)) forgets) (ap (λ (q : Step). written q None B (saw ident)) forgets)
        (wrote_a force rules read_span r x.a_now x.b_now made ran ident) (wrote_b force rules read_span r x.a_now x.b_now made ran ident) none_a none_b (λ row is. absurd (let clash : None ≡ Some row = is in cc))

  -- ---- all idents, by the rows at the end

  module _ (after : List Row) (row_is : (p : Planned) (first second : Outcome) → IsStepAt p first second f.plan (f.os).put.items (f.os).removed.items → row_of (p.ident).now after ≡ row_after (sources r.a r.b) r.rows.items p (outcome_of p.step first second)) (none_is : (ident : List ℕ) → AllByRecursion (λ z. z ≡ ident → ⊥) (planned_idents f.plan) → row_of ident after ≡ None) where
    at_step : (p : Planned) (first second : Outcome) → IsStepAt p first second f.plan (f.os).put.items (f.os).removed.items → Settled (p.ident).now (row_of (p.ident).now after)
    at_step p first second at = elim (step_ends force rules read_span r x.a_now x.b_now made ran came (p.ident).now p first second at) [
      | inl kept ↦ undone p first second at (by_table p first second at) (outcome_of p.step first second) refl kept.0 (row_of (p.ident).now after)
      | inr done ↦ inr (inr (subst (λ (o : Option Row). Made (p.ident).now o) (sym (row_is p first second at)) done))
    ]

    pub settles : (ident : List ℕ) → Settled ident (row_of ident after)
    settles ident = elim (find force rules read_span r x.a_now x.b_now made ran came ident) [
      | inl has ↦ subst (λ (i : List ℕ). Settled i (row_of i after)) has.here (at_step has.p has.f has.g has.at)
      | inr others ↦ inr (inr (subst (λ (o : Option Row). Made ident o) (sym (none_is ident others)) (nothing_made ident others)))
    ]

  -- ---- the whole run

  in_sync : (after : List Row) → ((after ≡ r.rows.items) ⊎ CameTo waits_a waits_b (sources r.a r.b) r.rows.items f.plan a x.a_now b x.b_now after) → KeepsRows k x.k_now r.rows.items after → ((ident : List ℕ) → Settled ident (row_of ident after)) → InSync force rules x report
  in_sync after rows keeps each = record { k = k; a = a; b = b; r = r; read = read; after = after; job = job_of force rules read_span r x.a_now x.b_now after (ran_to after rows); keeps = keeps; each = each }

  by_commit : (changed : Bool) → (changed ≡ false → IsUnchanged (sources r.a r.b) r.rows.items f.plan (f.os).put.items (f.os).removed.items) → CommitsBy changed (found_at k.stamp) k x.k_now made Synced → InSync force rules x report
  by_commit true same committed = in_sync made (inr came) (inr committed) (settles made (λ p first second at. row_at force rules read_span r x.a_now x.b_now made ran came (p.ident).now p first second at) (λ ident others. none_at force rules read_span r x.a_now x.b_now made ran came ident others))
  by_commit false same still = in_sync r.rows.items (inl refl) (inl (refl, subst (λ (t : KeeperState). status.Evolves IsMaking k t) (sym still) (Runs-refl k)))
      (settles r.rows.items (λ p first second at. sym (unchanged_at (sources r.a r.b) r.rows.items p first second f.plan (f.os).put.items (f.os).removed.items (same refl) at)) (λ ident others. none_before force rules read_span r x.a_now x.b_now made ran came ident others (row_of ident r.rows.items) refl))

  pub synced_run : InSync force rules x report
  synced_run = by_commit (f.closes).changed (f.closes).same ((f.closes).ends).2

pub in_sync_of : (force : Bool) (rules : Rules) (waits_a waits_b : Bool) (x : Span) (report : Report) → IsJob force rules waits_a waits_b x report → report.end ≡ Synced → InSync force rules x report
in_sync_of force rules waits_a waits_b x report (inl stops) is = absurd (stops_not stops.why (sym stops.end ∙ is))
in_sync_of force rules waits_a waits_b x report (inr on) is =
    synced_run force rules waits_a waits_b x report on.r on.k on.a on.b on.read on.known_a on.known_b (subst (λ (end : JobEnd). GoesOn rules waits_a waits_b (going on.known_a on.known_b on.r on.k x.k_now on.a x.a_now on.b x.b_now) report end) is on.goes_on)
