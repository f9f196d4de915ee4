-- For each step of a plan the row at the end is the one before, or is made.
use Rattle.std.proofs.Common.{◌≡◌, ◌⊎◌, inl, inr, ℕ, Bool, true, false, ◌||◌, List, [], ◌∷◌, Option, Some, None, option_map, refl, sym, ap, ◌∙◌, subst}
use Rattle.std.specs.List.{AllByRecursion}
use Rattle.store_model.specs.Waits.{Flushes}
use Rattle.status_keeper.specs.declared.row.Row.{Row}
use Rattle.status_keeper.specs.Idents.{IsRising}
use Rattle.status_keeper.specs.Rows.{row_of}
use Rattle.sync_plan.specs.declared.report.Side.{Side}
use Rattle.sync_plan.specs.declared.report.Side.TheVariants.{A, B}
use Rattle.sync_plan.specs.declared.rules.Rules.{Rules}
use Rattle.sync_plan.specs.declared.dues.Step.{Step}
use Rattle.sync_plan.specs.declared.dues.Step.TheVariants as step
use Rattle.sync_plan.specs.declared.seen.Seen.{Seen}
use Rattle.sync_plan.specs.declared.seen.Planned.{Planned}
use Rattle.sync_plan.specs.Plans.{seen_of, IsPlaceOf, IsPlannedFor, planned_idents}
use Rattle.sync_plan.specs.Verdicts.{step_of, due_of}
use Rattle.sync_plan.specs.JobSteps.{written}
use Rattle.sync_plan.proofs.Facts.{Fits, verdict_fits}
use Rattle.side_reads.specs.Places.{href_on, etag_on}
use Rattle.side_reads.specs.declared.holding.Holding.{Holding}
use Rattle.job_runs.specs.Courses.{Course}
use Rattle.job_runs.specs.Writes.{WroteSome}
use Rattle.job_writes.specs.declared.outcome.Outcome.{Outcome}
use Rattle.job_writes.specs.declared.outcome.Outcome.TheVariants.{Kept, Gone, Written, Left, Conflict, NotWritten, NotRemoved, Skipped}
use Rattle.job_writes.specs.declared.phases.Outcomes.{Outcomes}
use Rattle.job_writes.specs.Writings.{SideNow, Sources, seen_at, WritesDid, IsWhole, AllFit, FitsPut, FitsRemoval, IsPut, IsRemoval, failed_after, is_failure}
use Rattle.job_rows.specs.RowsAfter.{outcome_of, row_of_both, row_kept, row_after, IsStepAt}
use Rattle.job_traces.specs.Traces.{IsUndone}
use Rattle.job_traces.proofs.WriteLemmas.{IsFresh}
use Rattle.job_traces.proofs.StepLemmas.{Knows, IsPutStep, IsRemovalStep}
use Rattle.job_traces.proofs.MadeLemmas.{IsAt, put_wrote, removal_wrote}
use Rattle.job_traces.proofs.StepRows.{v, says_on, Made, IsPlaceTaken, made_still, made_on_a, made_on_b, row_on_a, row_on_b, place_taken, seen_is}

-- ---- a step and its outcomes

pub first_at : (p : Planned) (f g : Outcome) (ps : List Planned) (fs gs : List Outcome) → IsStepAt p f g ps fs gs → IsAt p f ps fs
first_at p f g [] fs gs at = absurd at
first_at p f g (q ∷ ps) [] gs at = absurd at
first_at p f g (q ∷ ps) (y ∷ fs) [] at = absurd at
first_at p f g (q ∷ ps) (y ∷ fs) (z ∷ gs) (inl (e, is_f, is_g)) = inl (e, is_f)
first_at p f g (q ∷ ps) (y ∷ fs) (z ∷ gs) (inr at) = inr (first_at p f g ps fs gs at)

pub second_at : (p : Planned) (f g : Outcome) (ps : List Planned) (fs gs : List Outcome) → IsStepAt p f g ps fs gs → IsAt p g ps gs
second_at p f g [] fs gs at = absurd at
second_at p f g (q ∷ ps) [] gs at = absurd at
second_at p f g (q ∷ ps) (y ∷ fs) [] at = absurd at
second_at p f g (q ∷ ps) (y ∷ fs) (z ∷ gs) (inl (e, is_f, is_g)) = inl (e, is_g)
second_at p f g (q ∷ ps) (y ∷ fs) (z ∷ gs) (inr at) = inr (second_at p f g ps fs gs at)

pub fits_at : (Fits : Bool → Planned → Outcome → Type 0) (failed : Bool) (p : Planned) (o : Outcome) (ps : List Planned) (os : List Outcome) → AllFit Fits failed ps os → IsAt p o ps os → (φ : Bool) × Fits φ p o
fits_at Fits failed p o [] os fits at = absurd at
fits_at Fits failed p o (q ∷ ps) [] fits at = absurd at
fits_at Fits failed p o (q ∷ ps) (y ∷ os) fits (inl (e, is)) = (failed, subst (λ (r : Planned). Fits failed r o) (sym e) (subst (λ (z : Outcome). Fits failed q z) (sym is) fits.0))
fits_at Fits failed p o (q ∷ ps) (y ∷ os) fits (inr at) = fits_at Fits (failed || is_failure y) p o ps os fits.1 at

pub planned_at : (P : Planned → Type 0) (p : Planned) (o : Outcome) (ps : List Planned) (os : List Outcome) → AllByRecursion P ps → IsAt p o ps os → P p
planned_at P p o [] os all at = absurd at
planned_at P p o (q ∷ ps) [] all at = absurd at
planned_at P p o (q ∷ ps) (y ∷ os) all (inl (e, is)) = subst P (sym e) all.0
planned_at P p o (q ∷ ps) (y ∷ os) all (inr at) = planned_at P p o ps os all.1 at

-- ---- what a listing has of an ident

found_at : (ident version : List ℕ) (held : Holding) (place : Option ℕ) → IsPlaceOf ident held.seen.items place → option_map (λ (s : Seen). (s.fp).0) (seen_of ident held.seen.items) ≡ Some version → (s : Seen) × (seen_at held place ≡ Some s) × (seen_of ident held.seen.items ≡ Some s) × ((s.fp).0 ≡ version)
found_at ident version held None of is = absurd (let clash : None ≡ Some version = sym (ap (option_map (λ (s : Seen). (s.fp).0)) of) ∙ is in cc)
found_at ident version held (Some place) of is =
    let both : Some ((of.item).fp).0 ≡ Some version = sym (ap (option_map (λ (s : Seen). (s.fp).0)) of.is_first) ∙ is in
    (of.item, of.stands, of.is_first, cc)

-- ---- all steps

module _ (a b : Course) (x : Sources) (rows : List Row) (rules : Rules) (waits_a waits_b : Bool) (plan : List Planned) (os : Outcomes) (start_a start_b end_a end_b : SideNow) where
  pub record Ran : Type 0 where
    pub side_a : a.side ≡ A
    pub side_b : b.side ≡ B
    pub knows_a : Knows a b A x rows rules
    pub knows_b : Knows b a B x rows rules
    pub rising : IsRising (planned_idents plan)
    pub planned : AllByRecursion (IsPlannedFor x.a.seen.items x.b.seen.items rows rules) plan
    pub did_a : WritesDid waits_a A x plan start_a end_a os
    pub did_b : WritesDid waits_b B x plan start_b end_b os
    pub fits : IsWhole x plan os
    pub fresh_a : (ident : List ℕ) → IsFresh a b ident start_a
    pub fresh_b : (ident : List ℕ) → IsFresh b a ident start_b
    pub flush_a : Flushes end_a.waiting end_a.state a.exit
    pub flush_b : Flushes end_b.waiting end_b.state b.exit
    pub wrote_a : (ident : List ℕ) → WroteSome a b ident (v a b x rows rules ident).a (says_on a b x rows rules ident A)
    pub wrote_b : (ident : List ℕ) → WroteSome b a ident (v a b x rows rules ident).b (says_on a b x rows rules ident B)

  module _ (ran : Ran) (p : Planned) (f g : Outcome) (at : IsStepAt p f g plan os.put.items os.removed.items) where
    abbrev pub ident : List ℕ
    ident = (p.ident).now

    -- the row is the one before, and the step was not done; or it is made
    abbrev pub RowEnds : Step → Type 0
    RowEnds st = (IsUndone (outcome_of st f g) × (row_after x rows p (outcome_of st f g) ≡ row_of ident rows)) ⊎ Made a b x rows rules ident (row_after x rows p (outcome_of st f g))

    is_planned : IsPlannedFor x.a.seen.items x.b.seen.items rows rules p
    is_planned = planned_at (IsPlannedFor x.a.seen.items x.b.seen.items rows rules) p f plan os.put.items ran.planned (first_at p f g plan os.put.items os.removed.items at)

    step_is : (st : Step) → p.step ≡ st → step_of rules (v a b x rows rules ident) ≡ st
    step_is st is = sym is_planned.by_table ∙ is

    table : (st : Step) → p.step ≡ st → Fits st (due_of rules (v a b x rows rules ident)) (v a b x rows rules ident)
    table st is = subst (λ (q : Step). Fits q (due_of rules (v a b x rows rules ident)) (v a b x rows rules ident)) (step_is st is) (verdict_fits rules (v a b x rows rules ident))

    says : (st : Step) (side : Side) → p.step ≡ st → says_on a b x rows rules ident side ≡ written st None side (v a b x rows rules ident)
    says st side is = ap (λ (q : Step). written q None side (v a b x rows rules ident)) (step_is st is)

    both_kept : (o q : Option Seen) (s t : Seen) → o ≡ Some s → q ≡ Some t → row_kept o q ≡ Some (row_of_both s t)
    both_kept o q s t e g = λ j. row_kept (e j) (g j)

    kept : p.step ≡ step.Keep → f ≡ Kept → RowEnds step.Keep
    kept is is_f =
        let fits = table step.Keep is in
        let here = found_at ident fits.0 x.a p.a is_planned.place_a fits.2 in
        let there = found_at ident fits.0 x.b p.b is_planned.place_b fits.3 in
        let s = here.0 in
        let t = there.0 in
        let is_row : row_after x rows p f ≡ Some (row_of_both s t) = ap (row_after x rows p) is_f ∙ both_kept (seen_at x.a p.a) (seen_at x.b p.b) s t here.1 there.1 in
        inr (subst (λ (o : Option Row). Made a b x rows rules ident o) (sym is_row)
        (made_still a b x rows rules ident (Some (row_of_both s t)) (says step.Keep A is) (says step.Keep B is) (ran.wrote_a ident) (ran.wrote_b ident) (fits.2 ∙ ap Some (sym here.3)) (fits.3 ∙ ap Some (sym here.3))
        (λ r e.
        let one : row_of_both s t ≡ r = cc in
        subst (λ (y : Row). (y.ident ≡ ident) × IsPlaceTaken a ident y × IsPlaceTaken b ident y) one (
          (seen_is ident x.a.seen.items s here.2).1,
          place_taken a ident x.a.seen.items (row_of_both s t) s (ran.knows_a).taken here.2 (ap (λ (d : Side). href_on d (row_of_both s t)) ran.side_a) (ap (λ (d : Side). etag_on d (row_of_both s t)) ran.side_a) refl,
          place_taken b ident x.b.seen.items (row_of_both s t) t (ran.knows_b).taken there.2 (ap (λ (d : Side). href_on d (row_of_both s t)) ran.side_b) (ap (λ (d : Side). etag_on d (row_of_both s t)) ran.side_b) (here.3 ∙ sym there.3),
        ))))

    no_row : {T : Type 0} (o : Option Row) → o ≡ None → (r : Row) → o ≡ Some r → T
    no_row o none r e = absurd (let clash : None ≡ Some r = sym none ∙ e in cc)

    forgotten : p.step ≡ step.Forget → f ≡ Gone → RowEnds step.Forget
    forgotten is is_f =
        let fits = table step.Forget is in
        inr (subst (λ (o : Option Row). Made a b x rows rules ident o) (sym (ap (row_after x rows p) is_f))
        (made_still a b x rows rules ident None (says step.Forget A is) (says step.Forget B is) (ran.wrote_a ident) (ran.wrote_b ident) fits.1 fits.2 (λ r e. no_row None refl r e)))

    -- the row stays
    stays : (st : Step) (o : Outcome) → IsUndone o → outcome_of st f g ≡ o → row_after x rows p o ≡ row_of ident rows → RowEnds st
    stays st o undone is same = inl (subst IsUndone (sym is) undone, ap (row_after x rows p) is ∙ same)

    put_on_a : (row : Row) (st : Step) → p.step ≡ st → (p.step ≡ step.CopyTo A) ⊎ (p.step ≡ step.WriteOver A) → IsPutStep st → written st None A (v a b x rows rules ident) ≡ Some (v a b x rows rules ident).b → written st None B (v a b x rows rules ident) ≡ None → f ≡ Written row → Made a b x rows rules ident (Some row)
    put_on_a row st is kind put is_a none_b is_f =
        row_on_a a b x rows rules ident waits_a ran.knows_a row ran.side_a ran.side_b (says st A is ∙ is_a) (says st B is ∙ none_b) (ran.knows_b).taken
        (put_wrote a b A x rows rules ident waits_a ran.knows_a row plan os.put.items os.removed.items start_a (ran.did_a).between end_a p refl kind (subst IsPutStep (sym (step_is st is)) put) ran.rising ran.planned (ran.did_a).puts (ran.did_a).removals (subst (λ (o : Outcome). IsAt p o plan os.put.items) is_f (first_at p f g plan os.put.items os.removed.items at)) (ran.fresh_a ident) ran.flush_a)
        (ran.wrote_b ident)

    put_on_b : (row : Row) (st : Step) → p.step ≡ st → (p.step ≡ step.CopyTo B) ⊎ (p.step ≡ step.WriteOver B) → IsPutStep st → written st None A (v a b x rows rules ident) ≡ None → written st None B (v a b x rows rules ident) ≡ Some (v a b x rows rules ident).a → f ≡ Written row → Made a b x rows rules ident (Some row)
    put_on_b row st is kind put none_a is_b is_f =
        row_on_b a b x rows rules ident waits_b ran.knows_b row ran.side_a ran.side_b (says st A is ∙ none_a) (says st B is ∙ is_b) (ran.knows_a).taken
        (put_wrote b a B x rows rules ident waits_b ran.knows_b row plan os.put.items os.removed.items start_b (ran.did_b).between end_b p refl kind (subst IsPutStep (sym (step_is st is)) put) ran.rising ran.planned (ran.did_b).puts (ran.did_b).removals (subst (λ (o : Outcome). IsAt p o plan os.put.items) is_f (first_at p f g plan os.put.items os.removed.items at)) (ran.fresh_b ident) ran.flush_b)
        (ran.wrote_a ident)

    -- a step that writes, by its outcome
    by_put : (st : Step) (side : Side) → outcome_of st f g ≡ f → (o : Outcome) → f ≡ o → IsPut side o → ((row : Row) → f ≡ Written row → Made a b x rows rules ident (Some row)) → RowEnds st
    by_put st side is (Written row) is_f fits made = inr (subst (λ (q : Option Row). Made a b x rows rules ident q) (sym (ap (row_after x rows p) (is ∙ is_f))) (made row is_f))
    by_put st side is (NotWritten to error) is_f fits made = stays st (NotWritten to error) tt (is ∙ is_f) refl
    by_put st side is Kept is_f fits made = absurd fits
    by_put st side is Gone is_f fits made = absurd fits
    by_put st side is Left is_f fits made = absurd fits
    by_put st side is Conflict is_f fits made = absurd fits
    by_put st side is (NotRemoved to error) is_f fits made = absurd fits
    by_put st side is Skipped is_f fits made = absurd fits

    removed_on_a : p.step ≡ step.RemoveFrom A → g ≡ Gone → Made a b x rows rules ident None
    removed_on_a is is_g =
        let fits = table (step.RemoveFrom A) is in
        let wrote = removal_wrote a b A x rows rules ident waits_a ran.knows_a plan os.put.items os.removed.items start_a (ran.did_a).between end_a p refl is (subst IsRemovalStep (sym (step_is (step.RemoveFrom A) is)) tt) ran.rising ran.planned (ran.fits).removed (ran.did_a).puts (ran.did_a).removals (subst (λ (o : Outcome). IsAt p o plan os.removed.items) is_g (second_at p f g plan os.put.items os.removed.items at)) (ran.fresh_a ident) ran.flush_a in
        made_on_a a b x rows rules ident None None (says (step.RemoveFrom A) A is) (says (step.RemoveFrom A) B is) wrote (ran.wrote_b ident) refl fits.2 (λ r e. no_row None refl r e)

    removed_on_b : p.step ≡ step.RemoveFrom B → g ≡ Gone → Made a b x rows rules ident None
    removed_on_b is is_g =
        let fits = table (step.RemoveFrom B) is in
        let wrote = removal_wrote b a B x rows rules ident waits_b ran.knows_b plan os.put.items os.removed.items start_b (ran.did_b).between end_b p refl is (subst IsRemovalStep (sym (step_is (step.RemoveFrom B) is)) tt) ran.rising ran.planned (ran.fits).removed (ran.did_b).puts (ran.did_b).removals (subst (λ (o : Outcome). IsAt p o plan os.removed.items) is_g (second_at p f g plan os.put.items os.removed.items at)) (ran.fresh_b ident) ran.flush_b in
        made_on_b a b x rows rules ident None None (says (step.RemoveFrom B) A is) (says (step.RemoveFrom B) B is) (ran.wrote_a ident) wrote fits.2 refl (λ r e. no_row None refl r e)

    by_removal : (side : Side) (o : Outcome) → g ≡ o → IsRemoval side o → (g ≡ Gone → Made a b x rows rules ident None) → RowEnds (step.RemoveFrom side)
    by_removal side Gone is_g fits made = inr (subst (λ (q : Option Row). Made a b x rows rules ident q) (sym (ap (row_after x rows p) is_g)) (made is_g))
    by_removal side (NotRemoved from error) is_g fits made = stays (step.RemoveFrom side) (NotRemoved from error) tt is_g refl
    by_removal side Kept is_g fits made = absurd fits
    by_removal side (Written row) is_g fits made = absurd fits
    by_removal side Left is_g fits made = absurd fits
    by_removal side Conflict is_g fits made = absurd fits
    by_removal side (NotWritten to error) is_g fits made = absurd fits
    by_removal side Skipped is_g fits made = absurd fits

    by_flag : (side : Side) (φ : Bool) → FitsRemoval φ (step.RemoveFrom side) g → (g ≡ Gone → Made a b x rows rules ident None) → RowEnds (step.RemoveFrom side)
    by_flag side true fits made = stays (step.RemoveFrom side) Skipped tt fits refl
    by_flag side false fits made = by_removal side g refl fits made

    by_step : (st : Step) → p.step ≡ st → FitsPut st f → (φ : Bool) → FitsRemoval φ st g → RowEnds st
    by_step step.Keep is fits φ removal = kept is fits
    by_step step.Forget is fits φ removal = forgotten is fits
    by_step step.Conflict is fits φ removal = stays step.Conflict Conflict tt fits refl
    by_step step.HandOver is fits φ removal = stays step.HandOver Left tt fits refl
    by_step (step.Held to) is fits φ removal = stays (step.Held to) Left tt fits refl
    by_step (step.CopyTo A) is fits φ removal = by_put (step.CopyTo A) A refl f refl fits (λ row e. put_on_a row (step.CopyTo A) is (inl is) tt refl refl e)
    by_step (step.CopyTo B) is fits φ removal = by_put (step.CopyTo B) B refl f refl fits (λ row e. put_on_b row (step.CopyTo B) is (inl is) tt refl refl e)
    by_step (step.WriteOver A) is fits φ removal = by_put (step.WriteOver A) A refl f refl fits (λ row e. put_on_a row (step.WriteOver A) is (inr is) tt refl refl e)
    by_step (step.WriteOver B) is fits φ removal = by_put (step.WriteOver B) B refl f refl fits (λ row e. put_on_b row (step.WriteOver B) is (inr is) tt refl refl e)
    by_step (step.RemoveFrom A) is fits φ removal = by_flag A φ removal (removed_on_a is)
    by_step (step.RemoveFrom B) is fits φ removal = by_flag B φ removal (removed_on_b is)

    pub row_ends : RowEnds p.step
    row_ends =
        let put = fits_at (λ failed q. FitsPut q.step) false p f plan os.put.items (ran.fits).put (first_at p f g plan os.put.items os.removed.items at) in
        let removed = fits_at (λ failed q. FitsRemoval failed q.step) (failed_after false os.put.items) p g plan os.removed.items (ran.fits).removed (second_at p f g plan os.put.items os.removed.items at) in
        by_step p.step refl put.1 removed.0 removed.1
