-- A run of a ready job that nothing disturbs, and that ends in sync, is clean.
use Rattle.std.specs.List.{AllByRecursion}
use Rattle.std.proofs.Common.{◌≡◌, ◌⊎◌, map, inl, inr, ℕ, Bool, true, false, List, Option, Some, None, option_map, Ok, refl, sym, ap, ◌∙◌, subst}
use Rattle.outside.specs.Runs.{Anything}
use Rattle.outside.proofs.Runs.{Runs-refl, Runs-trans, Runs-weaker, Runs-one}
use Rattle.store_model.specs.Sides.{SideState, Since}
use Rattle.status_keeper.specs.declared.row.Row.{Row}
use Rattle.status_keeper.specs.Kept.{KeeperState, IsMaking}
use Rattle.status_keeper.specs.Kept as status
use Rattle.status_keeper.specs.KeeperCalls.{AfterPlacing, Commits, found_at}
use Rattle.status_keeper.specs.Idents.{IsRising}
use Rattle.status_keeper.specs.Rows.{row_of}
use Rattle.status_keeper.proofs.Moving.{placing_run}
use Rattle.sync_plan.specs.declared.report.Side.{Side}
use Rattle.sync_plan.specs.declared.report.Side.TheVariants.{A, B}
use Rattle.sync_plan.specs.declared.rules.Rules.{Rules}
use Rattle.sync_plan.specs.declared.dues.Step.{Step}
use Rattle.sync_plan.specs.declared.dues.Step.TheVariants as step
use Rattle.sync_plan.specs.declared.seen.Planned.{Planned}
use Rattle.sync_plan.specs.Plans.{planned_idents, versions_of}
use Rattle.sync_plan.specs.Verdicts.{Versions, Due, Unsettled, due_of, step_of}
use Rattle.sync_plan.specs.JobSteps.{written, clean_by, clean_of}
use Rattle.sync_plan.proofs.Facts.{Fits, verdict_fits}
use Rattle.side_views.specs.Views.{view}
use Rattle.job_runs.specs.Courses.{Course, IsCourse}
use Rattle.job_runs.specs.Taken.{Took}
use Rattle.job_runs.specs.Writes.{WroteSome}
use Rattle.job_runs.specs.Jobs.{state_of, version_by, IsHonest, IsUntouchedOn, IsUntouched}
use Rattle.job_runs.proofs.SideLemmas.{some_to, some_stands}
use Rattle.job_reads.specs.declared.reading.ReadJob.{ReadJob}
use Rattle.job_reads.specs.Readings.{Span, span, IsRead, course_of_a, course_of_b}
use Rattle.job_writes.specs.declared.outcome.Outcome.{Outcome}
use Rattle.job_writes.specs.Writings.{Sources, sources, FitsPut, FitsRemoval, failed_after}
use Rattle.job_rows.specs.RowsAfter.{outcome_of, row_after, IsUnchanged, IsStepAt}
use Rattle.job_rows.proofs.NextLemmas.{HasStep, unchanged_at}
use Rattle.job_traces.proofs.JobLemmas as job
use Rattle.job_traces.proofs.RowsMade.{first_at, second_at, fits_at}
use Rattle.sync_plan.specs.declared.report.What.TheVariants.{Conflict}
use Rattle.sync_plan.specs.declared.report.Line.{Line}
use Rattle.sync_plan.specs.declared.report.JobEnd.TheVariants.{Synced}
use Rattle.sync_plan.specs.declared.report.Report.{Report}
use Rattle.sync_run.specs.Lines.{lines_of}
use Rattle.sync_run.specs.Ends.{CommitsBy, going, Finishes, KeepsRows}
use Rattle.sync_run.specs.Quiet.{IsQuiet, AreConflicts, IsDisturbed}
use Rattle.sync_run.specs.Settled.{IsTold, IsLeft, IsSettled}
use Rattle.sync_run.specs.Ready.{IsReady, EndsClean}
use Rattle.sync_run.proofs.CalmLemmas.{calm_kept}
use Rattle.sync_run.proofs.DueLemmas.{made_is_due}
use Rattle.sync_run.proofs.SeenLemmas as seen
use Rattle.sync_run.proofs.SettledLemmas as settled
use Rattle.sync_run.proofs.ToldLemmas.{told_conflict, step_of_told, told_of_step, lines_rise}

-- ---- steps that write nothing and leave the row

abbrev IsIdle : Step → Type 0
IsIdle step.Conflict = Unit {0}
IsIdle step.HandOver = Unit {0}
IsIdle (step.Held side) = Unit {0}
IsIdle step.Forget = ⊥
IsIdle step.Keep = ⊥
IsIdle (step.CopyTo side) = ⊥
IsIdle (step.WriteOver side) = ⊥
IsIdle (step.RemoveFrom side) = ⊥

nothing_written : (st : Step) (side : Side) (v : Versions) → IsIdle st → written st None side v ≡ None
nothing_written step.Conflict side v still = refl
nothing_written step.HandOver side v still = refl
nothing_written (step.Held to) side v still = refl
nothing_written step.Forget side v still = absurd still
nothing_written step.Keep side v still = absurd still
nothing_written (step.CopyTo to) side v still = absurd still
nothing_written (step.WriteOver to) side v still = absurd still
nothing_written (step.RemoveFrom from) side v still = absurd still

row_left : (x : Sources) (rows : List Row) (p : Planned) (st : Step) (f g : Outcome) → IsIdle st → FitsPut st f → row_after x rows p (outcome_of st f g) ≡ row_of (p.ident).now rows
row_left x rows p step.Conflict f g still put = ap (row_after x rows p) put
row_left x rows p step.HandOver f g still put = ap (row_after x rows p) put
row_left x rows p (step.Held to) f g still put = ap (row_after x rows p) put
row_left x rows p step.Forget f g still put = absurd still
row_left x rows p step.Keep f g still put = absurd still
row_left x rows p (step.CopyTo to) f g still put = absurd still
row_left x rows p (step.WriteOver to) f g still put = absurd still
row_left x rows p (step.RemoveFrom from) f g still put = absurd still

left_idle : (st : Step) → IsLeft st → IsIdle st
left_idle step.HandOver left = tt
left_idle (step.Held to) left = tt
left_idle step.Conflict left = tt
left_idle step.Forget left = left
left_idle step.Keep left = left
left_idle (step.CopyTo to) left = left
left_idle (step.WriteOver to) left = left
left_idle (step.RemoveFrom from) left = left

-- what a side holds of an ident that nothing is to be written of
side_still : (ident : List ℕ) (c peer : Course) (quiet : IsUntouchedOn ident c) (course : IsCourse c) (honest : IsHonest c) (saw : Option (List ℕ)) (says : Option (Option (List ℕ))) → Took c ident saw → WroteSome c peer ident saw says → says ≡ None → view c.exit ident ≡ view c.entry ident
side_still ident c peer quiet course honest saw says took wrote none = elim (some_stands ident c peer quiet course honest says (some_to ident c peer quiet course honest saw says took wrote)) [
  | inl same ↦ same
  | inr to ↦ (let clash : None ≡ Some (view c.exit ident) = sym none ∙ to in cc)
]

-- ---- the due of a step

-- a step is a conflict, or left, or of a settled ident
which_step : (st : Step) → (st ≡ step.Conflict) ⊎ IsLeft st ⊎ ((due : Due) (v : Versions) → Fits st due v → due ≡ Unsettled → ⊥)
which_step step.Conflict = inl refl
which_step step.HandOver = inr (inl tt)
which_step (step.Held side) = inr (inl tt)
which_step step.Forget = inr (inr (λ due v fits is. (let clash = sym fits.0 ∙ is in cc)))
which_step step.Keep = inr (inr (λ due v fits is. (let clash = sym fits.1 ∙ is in cc)))
which_step (step.CopyTo side) = inr (inr (λ due v fits is. (let clash = sym fits.1 ∙ is in cc)))
which_step (step.WriteOver side) = inr (inr (λ due v fits is. (let clash = sym fits.1 ∙ is in cc)))
which_step (step.RemoveFrom side) = inr (inr (λ due v fits is. (let clash = sym fits.0 ∙ is in cc)))

-- a clean run leaves a conflict as it is
clean_conflict : (rules : Rules) (v : Versions) → step_of rules v ≡ step.Conflict → clean_of rules None v ≡ v
clean_conflict rules v is =
    let due : due_of rules v ≡ Unsettled = subst (λ (st : Step). Fits st (due_of rules v) v) is (verdict_fits rules v) in
    ap (λ (d : Due). clean_by rules None d (step_of rules v) v) due ∙ ap (λ (st : Step). clean_by rules None Unsettled st v) is

-- ---- the status from its load on

placed_later : (k exit : KeeperState) (rows : List Row) → AfterPlacing (found_at k.stamp) k (Commits (found_at k.stamp) rows exit) → status.Evolves Anything k exit
placed_later k exit rows at =
    let last : status.Evolves Anything at.moment exit = subst (λ (s : KeeperState). status.Evolves Anything at.moment s) (sym (at.does).1) (Runs-one at.moment (status.Committed rows) tt tt) in
    Runs-trans (Runs-weaker (λ e h. tt) (placing_run (found_at k.stamp) k (Commits (found_at k.stamp) rows exit) at)) last

commits_later : (changed : Bool) (k exit : KeeperState) (rows : List Row) → CommitsBy changed (found_at k.stamp) k exit rows Synced → status.Evolves Anything k exit
commits_later false k exit rows same = subst (λ (s : KeeperState). status.Evolves Anything k s) (sym same) (Runs-refl k)
commits_later true k exit rows at = placed_later k exit rows at

-- ---- a run that ended in sync

module _ (force : Bool) (rules : Rules) (waits_a waits_b : Bool) (x : Span) (report : Report) (r : ReadJob) (k : KeeperState) (a b : SideState) (read : IsRead force (span x.k k x.a a x.b b) r) (known_a known_b : Bool) (f : Finishes rules waits_a waits_b (going known_a known_b r k x.k_now a x.a_now b x.b_now) report Synced) (rows : List Row) (ready : IsReady force x rows) (quiet : IsQuiet x report) (calm : IsDisturbed x.k x.k_now → ⊥) (conflicts : AreConflicts report.lines.items) (synced : report.end ≡ Synced) where
  abbrev pub read_span : Span
  read_span = span x.k k x.a a x.b b

  abbrev pub firsts : List Outcome
  firsts = (f.os).put.items

  abbrev pub seconds : List Outcome
  seconds = (f.os).removed.items

  abbrev pub src : Sources
  src = sources r.a r.b

  abbrev pub made : List Row
  made = settled.made force rules waits_a waits_b x report r k a b read known_a known_b f

  later_k : status.Evolves Anything k x.k_now
  later_k = commits_later (f.closes).changed k x.k_now made ((f.closes).ends).2

  later_a : Since a x.a_now
  later_a = (job.course_a force rules read_span r x.a_now x.b_now made (settled.ran force rules waits_a waits_b x report r k a b read known_a known_b f)).later

  later_b : Since b x.b_now
  later_b = (job.course_b force rules read_span r x.a_now x.b_now made (settled.ran force rules waits_a waits_b x report r k a b read known_a known_b f)).later

  abbrev pub side_a : Course
  side_a = course_of_a read_span r x.a_now

  abbrev pub side_b : Course
  side_b = course_of_b read_span r x.b_now

  abbrev pub saw : List ℕ → Versions
  saw ident = versions_of ident r.a.seen.items r.b.seen.items r.rows.items

  abbrev pub had : List ℕ → Versions
  had ident = state_of x.a x.b rows ident

  same_rows : r.rows.items ≡ rows
  same_rows = seen.same_rows force x report rows ready quiet calm r k a b read later_k later_a later_b

  saw_is : (ident : List ℕ) → saw ident ≡ had ident
  saw_is ident = seen.saw_is force x report rows ready quiet calm r k a b read later_k later_a later_b ident

  on_course_a : IsCourse side_a
  on_course_a = seen.course_a force x report rows ready quiet calm r k a b read later_k later_a later_b

  on_course_b : IsCourse side_b
  on_course_b = seen.course_b force x report rows ready quiet calm r k a b read later_k later_a later_b

  honest_a : IsHonest side_a
  honest_a = seen.honest_a force x report rows ready quiet calm r k a b read later_k later_a later_b

  honest_b : IsHonest side_b
  honest_b = seen.honest_b force x report rows ready quiet calm r k a b read later_k later_a later_b

  untouched : (ident : List ℕ) → IsUntouched ident side_a side_b
  untouched ident = seen.untouched force x report rows ready quiet calm r k a b read later_k later_a later_b ident

  took_a : (ident : List ℕ) → Took side_a ident (saw ident).a
  took_a ident = seen.took_a force x report rows ready quiet calm r k a b read later_k later_a later_b ident

  took_b : (ident : List ℕ) → Took side_b ident (saw ident).b
  took_b ident = seen.took_b force x report rows ready quiet calm r k a b read later_k later_a later_b ident

  -- ---- a step and its ident

  find : (ident : List ℕ) → HasStep src r.rows.items rules ident f.plan firsts seconds ⊎ AllByRecursion (λ z. z ≡ ident → ⊥) (planned_idents f.plan)
  find ident = job.find force rules read_span r x.a_now x.b_now made (settled.ran force rules waits_a waits_b x report r k a b read known_a known_b f) (settled.came force rules waits_a waits_b x report r k a b read known_a known_b f) ident

  by_table : (p : Planned) (first second : Outcome) → IsStepAt p first second f.plan firsts seconds → p.step ≡ step_of rules (saw (p.ident).now)
  by_table p first second at = settled.by_table force rules waits_a waits_b x report r k a b read known_a known_b f p first second at

  -- an ident without a step is to be forgotten
  forgets : (ident : List ℕ) → AllByRecursion (λ z. z ≡ ident → ⊥) (planned_idents f.plan) → step_of rules (saw ident) ≡ step.Forget
  forgets ident others = settled.forgets force rules waits_a waits_b x report r k a b read known_a known_b f ident others

  put_fits : (p : Planned) (first second : Outcome) → IsStepAt p first second f.plan firsts seconds → FitsPut p.step first
  put_fits p first second at = (fits_at (λ failed q. FitsPut q.step) false p first f.plan firsts (f.whole).put (first_at p first second f.plan firsts seconds at)).1

  step_is : (ident : List ℕ) (has : HasStep src r.rows.items rules ident f.plan firsts seconds) → (has.p).step ≡ step_of rules (saw ident)
  step_is ident has = by_table has.p has.f has.g has.at ∙ ap (λ (i : List ℕ). step_of rules (saw i)) has.here

  -- ---- the lines

  told_is : (ident : List ℕ) → IsTold ident report.lines.items → step_of rules (had ident) ≡ step.Conflict
  told_is ident told =
      let c = told_conflict ident f.plan firsts seconds (subst AreConflicts (f.closes).lines conflicts) (subst (λ (l : List Line). IsTold ident l) (f.closes).lines told) in
      let removal = fits_at (λ failed q. FitsRemoval failed q.step) (failed_after false firsts) c.p c.g f.plan seconds (f.whole).removed (second_at c.p c.f c.g f.plan firsts seconds c.at) in
      let one : c.p.step ≡ step.Conflict = step_of_told c.p.step c.f c.g removal.0 (put_fits c.p c.f c.g c.at) removal.1 c.is in
      let two : c.p.step ≡ step_of rules (saw ident) = by_table c.p c.f c.g c.at ∙ ap (λ (i : List ℕ). step_of rules (saw i)) c.here in
      ap (λ (v : Versions). step_of rules v) (sym (saw_is ident)) ∙ (sym two ∙ one)

  is_told : (ident : List ℕ) → step_of rules (had ident) ≡ step.Conflict → IsTold ident report.lines.items
  is_told ident is = elim (find ident) [
    | inr others ↦ absurd (let clash : step.Forget ≡ step.Conflict = sym (forgets ident others) ∙ sees in cc)
    | inl has ↦
        let what = told_of_step (has.p).step has.f has.g (put_fits has.p has.f has.g has.at) (step_is ident has ∙ sees) in
        subst (λ (l : List Line). IsTold ident l) (sym (f.closes).lines) (subst (λ (i : List ℕ). IsTold i (lines_of f.plan firsts seconds)) has.here (settled.told_at has.p has.f has.g Conflict f.plan firsts seconds has.at what))
  ]
    where
      sees : step_of rules (saw ident) ≡ step.Conflict
      sees = ap (λ (v : Versions). step_of rules v) (saw_is ident) ∙ is

  rising : IsRising (map (λ (line : Line). line.ident) report.lines.items)
  rising = subst (λ (l : List Line). IsRising (map (λ (line : Line). line.ident) l)) (sym (f.closes).lines) (lines_rise f.plan firsts seconds (f.is_plan).rising)

  -- ---- the rows at the end

  module _ (after : List Row) (keeps : KeepsRows k x.k_now r.rows.items after) (row_is : (p : Planned) (first second : Outcome) → IsStepAt p first second f.plan firsts seconds → row_of (p.ident).now after ≡ row_after src r.rows.items p (outcome_of p.step first second)) (settles : (ident : List ℕ) → IsSettled rules side_a side_b ident (saw ident) (row_of ident after) report.lines.items) where
    kept : (x.k_now).kept ≡ Ok after
    kept = elim keeps [
      | inr at ↦ ap (λ (s : KeeperState). s.kept) (at.does).1
      | inl (same, making) ↦
          let loaded = seen.same_status force x report rows ready quiet calm r k a b read later_k later_a later_b in
          let still = calm_kept (subst (λ (s : KeeperState). IsDisturbed s x.k_now → ⊥) (sym loaded) calm) making in
          still ∙ (ap (λ (s : KeeperState). s.kept) loaded ∙ (ready.kept ∙ ap (λ (l : List Row). Ok l) (sym same_rows ∙ sym same)))
    ]

    row_stays : (ident : List ℕ) → IsIdle (step_of rules (saw ident)) → row_of ident after ≡ row_of ident r.rows.items
    row_stays ident idle = elim (find ident) [
      | inr others ↦ absurd (subst IsIdle (forgets ident others) idle)
      | inl has ↦
          let left = row_left src r.rows.items has.p (has.p).step has.f has.g (subst IsIdle (sym (step_is ident has)) idle) (put_fits has.p has.f has.g has.at) in
          subst (λ (i : List ℕ). row_of i after ≡ row_of i r.rows.items) has.here (row_is has.p has.f has.g has.at ∙ left)
    ]

    -- an ident that nothing is to be written of
    stays : (ident : List ℕ) → IsIdle (step_of rules (saw ident)) → state_of x.a_now x.b_now after ident ≡ had ident
    stays ident idle =
        let ran = settled.ran force rules waits_a waits_b x report r k a b read known_a known_b f in
        let wrote_a = job.wrote_a force rules read_span r x.a_now x.b_now made ran ident in
        let wrote_b = job.wrote_b force rules read_span r x.a_now x.b_now made ran ident in
        let says : Side → Option (Option (List ℕ)) = λ side. written (step_of rules (saw ident)) None side (saw ident) in
        let on_a : view x.a_now ident ≡ view x.a ident = side_still ident side_a side_b (untouched ident).on_a on_course_a honest_a (saw ident).a (says A) (took_a ident) wrote_a (nothing_written (step_of rules (saw ident)) A (saw ident) idle) in
        let on_b : view x.b_now ident ≡ view x.b ident = side_still ident side_b side_a (untouched ident).on_b on_course_b honest_b (saw ident).b (says B) (took_b ident) wrote_b (nothing_written (step_of rules (saw ident)) B (saw ident) idle) in
        let on_s : version_by after ident ≡ version_by rows ident = ap (λ (o : Option Row). option_map (λ (row : Row). (row.fp).0) o) (row_stays ident idle) ∙ ap (λ (l : List Row). version_by l ident) same_rows in
        λ j. record { a = on_a j; b = on_b j; s = on_s j }

    had_saw : (P : Step → Type 0) (ident : List ℕ) → P (step_of rules (had ident)) → P (step_of rules (saw ident))
    had_saw P ident h = subst (λ (v : Versions). P (step_of rules v)) (sym (saw_is ident)) h

    left : (ident : List ℕ) → IsLeft (step_of rules (had ident)) → state_of x.a_now x.b_now after ident ≡ had ident
    left ident is = stays ident (left_idle (step_of rules (saw ident)) (had_saw IsLeft ident is))

    each : (ident : List ℕ) → (IsLeft (step_of rules (had ident)) → ⊥) → state_of x.a_now x.b_now after ident ≡ clean_of rules None (had ident)
    each ident not_left = by (which_step (step_of rules (had ident))) (settles ident)
      where
        by : (step_of rules (had ident) ≡ step.Conflict) ⊎ IsLeft (step_of rules (had ident)) ⊎ ((due : Due) (v : Versions) → Fits (step_of rules (had ident)) due v → due ≡ Unsettled → ⊥) → IsSettled rules side_a side_b ident (saw ident) (row_of ident after) report.lines.items → state_of x.a_now x.b_now after ident ≡ clean_of rules None (had ident)
        by (inl conflict) end = stays ident (had_saw IsIdle ident (subst IsIdle (sym conflict) tt)) ∙ sym (clean_conflict rules (had ident) conflict)
        by (inr (inl is)) end = absurd (not_left is)
        by (inr (inr due)) (inl told) = absurd (not_left_told (told_is ident told))
          where
            not_left_told : step_of rules (had ident) ≡ step.Conflict → ⊥
            not_left_told conflict = due Unsettled (had ident) (subst (λ (st : Step). Fits st Unsettled (had ident)) (sym conflict) refl) refl
        by (inr (inr due)) (inr (inl is)) = absurd (not_left (subst (λ (v : Versions). IsLeft (step_of rules v)) (saw_is ident) is))
        by (inr (inr due)) (inr (inr made_so)) =
            let same = seen.same_state force x report rows ready quiet calm r k a b read later_k later_a later_b ident in
            let settled_due : due_of rules (state_of x.a x.b r.rows.items ident) ≡ Unsettled → ⊥ = λ is. due Unsettled (had ident) (subst (λ (d : Due). Fits (step_of rules (had ident)) d (had ident)) (ap (λ (v : Versions). due_of rules v) (sym same) ∙ is) (verdict_fits rules (had ident))) refl in
            made_is_due rules side_a side_b r.rows.items after ident (saw ident) on_course_a on_course_b honest_a honest_b (took_a ident) (took_b ident) refl (untouched ident) made_so settled_due ∙ ap (λ (v : Versions). clean_of rules None v) same

    pub clean : EndsClean rules x rows report
    clean = record {
      synced = synced;
      conflicts = conflicts;
      rising = rising;
      told = λ ident. (told_is ident, is_told ident);
      after = after;
      kept = kept;
      each = each;
      left = left;
    }

  by_commit : (changed : Bool) → (changed ≡ false → IsUnchanged src r.rows.items f.plan firsts seconds) → CommitsBy changed (found_at k.stamp) k x.k_now made Synced → EndsClean rules x rows report
  by_commit true same committed = clean made (inr committed) row_made (settled.settles force rules waits_a waits_b x report r k a b read known_a known_b f made row_made none_made)
    where
      row_made : (p : Planned) (first second : Outcome) → IsStepAt p first second f.plan firsts seconds → row_of (p.ident).now made ≡ row_after src r.rows.items p (outcome_of p.step first second)
      row_made p first second at = job.row_at force rules read_span r x.a_now x.b_now made (settled.ran force rules waits_a waits_b x report r k a b read known_a known_b f) (settled.came force rules waits_a waits_b x report r k a b read known_a known_b f) (p.ident).now p first second at

      none_made : (ident : List ℕ) → AllByRecursion (λ z. z ≡ ident → ⊥) (planned_idents f.plan) → row_of ident made ≡ None
      none_made ident others = job.none_at force rules read_span r x.a_now x.b_now made (settled.ran force rules waits_a waits_b x report r k a b read known_a known_b f) (settled.came force rules waits_a waits_b x report r k a b read known_a known_b f) ident others
  by_commit false same still = clean r.rows.items (inl (refl, subst (λ (t : KeeperState). status.Evolves IsMaking k t) (sym still) (Runs-refl k))) row_same (settled.settles force rules waits_a waits_b x report r k a b read known_a known_b f r.rows.items row_same none_before)
    where
      row_same : (p : Planned) (first second : Outcome) → IsStepAt p first second f.plan firsts seconds → row_of (p.ident).now r.rows.items ≡ row_after src r.rows.items p (outcome_of p.step first second)
      row_same p first second at = sym (unchanged_at src r.rows.items p first second f.plan firsts seconds (same refl) at)

      none_before : (ident : List ℕ) → AllByRecursion (λ z. z ≡ ident → ⊥) (planned_idents f.plan) → row_of ident r.rows.items ≡ None
      none_before ident others = job.none_before force rules read_span r x.a_now x.b_now made (settled.ran force rules waits_a waits_b x report r k a b read known_a known_b f) (settled.came force rules waits_a waits_b x report r k a b read known_a known_b f) ident others (row_of ident r.rows.items) refl

  pub synced_clean : EndsClean rules x rows report
  synced_clean = by_commit (f.closes).changed (f.closes).same ((f.closes).ends).2
