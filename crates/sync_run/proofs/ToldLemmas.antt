-- The lines of a report that are conflicts: their steps, and their order.
use Rattle.std.proofs.Common.{◌≡◌, inl, inr, ℕ, Bool, true, false, List, [], ◌∷◌, map, Option, Some, None, option_map, refl, sym, ap, ◌∙◌, subst}
use Rattle.std.specs.List.{AllByRecursion, cons_option}
use Rattle.status_keeper.specs.Idents.{Precedes, IsRising}
use Rattle.sync_plan.specs.declared.dues.Step.{Step}
use Rattle.sync_plan.specs.declared.dues.Step.TheVariants as step
use Rattle.sync_plan.specs.declared.seen.Planned.{Planned}
use Rattle.sync_plan.specs.Plans.{planned_idents}
use Rattle.job_writes.specs.declared.outcome.Outcome.{Outcome}
use Rattle.job_writes.specs.declared.outcome.Outcome.TheVariants as outcome
use Rattle.job_writes.specs.Writings.{IsPut, IsRemoval, FitsPut, FitsRemoval}
use Rattle.job_rows.specs.RowsAfter.{outcome_of, IsStepAt}
use Rattle.sync_plan.specs.declared.report.What.{What}
use Rattle.sync_plan.specs.declared.report.What.TheVariants.{Conflict}
use Rattle.sync_plan.specs.declared.report.Line.{Line}
use Rattle.sync_run.specs.Lines.{what_of, line_for, lines_of}
use Rattle.sync_run.specs.Quiet.{AreConflicts}
use Rattle.sync_run.specs.Settled.{IsTold}

-- ---- a line that tells a conflict is of a step that is one

-- a step of the ident whose outcome is told as a conflict
pub record IsConflictAt (ident : List ℕ) (ps : List Planned) (fs gs : List Outcome) : Type 0 where
  pub p : Planned
  pub f : Outcome
  pub g : Outcome
  pub at : IsStepAt p f g ps fs gs
  pub here : (p.ident).now ≡ ident
  pub is : what_of (outcome_of p.step f g) ≡ Some Conflict

pub told_conflict : (ident : List ℕ) (ps : List Planned) (fs gs : List Outcome) → AreConflicts (lines_of ps fs gs) → IsTold ident (lines_of ps fs gs) → IsConflictAt ident ps fs gs
told_conflict ident [] fs gs all told = absurd told
told_conflict ident (p ∷ ps) [] gs all told = absurd told
told_conflict ident (p ∷ ps) (f ∷ fs) [] all told = absurd told
told_conflict ident (p ∷ ps) (f ∷ fs) (g ∷ gs) all told = by (λ rest more. told_conflict ident ps fs gs rest more) (what_of (outcome_of p.step f g)) refl all told
  where
    later : IsConflictAt ident ps fs gs → IsConflictAt ident (p ∷ ps) (f ∷ fs) (g ∷ gs)
    later c = record { p = c.p; f = c.f; g = c.g; at = inr c.at; here = c.here; is = c.is }

    by : (AreConflicts (lines_of ps fs gs) → IsTold ident (lines_of ps fs gs) → IsConflictAt ident ps fs gs) → (o : Option What) → what_of (outcome_of p.step f g) ≡ o → AreConflicts (cons_option (option_map (line_for p) o) (lines_of ps fs gs)) → IsTold ident (cons_option (option_map (line_for p) o) (lines_of ps fs gs)) → IsConflictAt ident (p ∷ ps) (f ∷ fs) (g ∷ gs)
    by next None is all told = later (next all told)
    by next (Some what) is all (inl here) = record { p = p; f = f; g = g; at = inl (refl, refl, refl); here = here; is = is ∙ ap Some all.0 }
    by next (Some what) is all (inr rest) = later (next all.1 rest)

told_outcome : (o : Outcome) → what_of o ≡ Some Conflict → o ≡ outcome.Conflict
told_outcome outcome.Conflict is = refl
told_outcome outcome.Kept is = cc
told_outcome outcome.Gone is = cc
told_outcome (outcome.Written row) is = cc
told_outcome outcome.Left is = cc
told_outcome (outcome.NotWritten side error) is = cc
told_outcome (outcome.NotRemoved side error) is = cc
told_outcome outcome.Skipped is = cc

not_conflict : {T : Type 0} (o other : Outcome) → (other ≡ outcome.Conflict → ⊥) → o ≡ other → o ≡ outcome.Conflict → T
not_conflict o other differs is conflict = absurd (differs (sym is ∙ conflict))

conflict_step : (st : Step) (f g : Outcome) (φ : Bool) → FitsPut st f → FitsRemoval φ st g → outcome_of st f g ≡ outcome.Conflict → st ≡ step.Conflict
conflict_step step.Conflict f g φ put removal is = refl
conflict_step step.HandOver f g φ put removal is = not_conflict f outcome.Left (λ e. cc) put is
conflict_step (step.Held side) f g φ put removal is = not_conflict f outcome.Left (λ e. cc) put is
conflict_step step.Forget f g φ put removal is = not_conflict f outcome.Gone (λ e. cc) put is
conflict_step step.Keep f g φ put removal is = not_conflict f outcome.Kept (λ e. cc) put is
conflict_step (step.CopyTo side) f g φ put removal is = absurd (subst (λ (o : Outcome). IsPut side o) is put)
conflict_step (step.WriteOver side) f g φ put removal is = absurd (subst (λ (o : Outcome). IsPut side o) is put)
conflict_step (step.RemoveFrom side) f g true put removal is = not_conflict g outcome.Skipped (λ e. cc) removal is
conflict_step (step.RemoveFrom side) f g false put removal is = absurd (subst (λ (o : Outcome). IsRemoval side o) is removal)

pub step_of_told : (st : Step) (f g : Outcome) (φ : Bool) → FitsPut st f → FitsRemoval φ st g → what_of (outcome_of st f g) ≡ Some Conflict → st ≡ step.Conflict
step_of_told st f g φ put removal told = conflict_step st f g φ put removal (told_outcome (outcome_of st f g) told)

pub told_of_step : (st : Step) (f g : Outcome) → FitsPut st f → st ≡ step.Conflict → what_of (outcome_of st f g) ≡ Some Conflict
told_of_step st f g put is =
    let first : f ≡ outcome.Conflict = subst (λ (q : Step). FitsPut q f) is put in
    ap (λ (q : Step). what_of (outcome_of q f g)) is ∙ ap what_of first

-- ---- the idents of the lines rise as the plan's do

above_lines : (ident : List ℕ) (ps : List Planned) (fs gs : List Outcome) → AllByRecursion (λ y. Precedes ident y) (planned_idents ps) → AllByRecursion (λ y. Precedes ident y) (map (λ (line : Line). line.ident) (lines_of ps fs gs))
above_lines ident [] fs gs all = tt
above_lines ident (p ∷ ps) [] gs all = tt
above_lines ident (p ∷ ps) (f ∷ fs) [] all = tt
above_lines ident (p ∷ ps) (f ∷ fs) (g ∷ gs) all = add (what_of (outcome_of p.step f g)) (above_lines ident ps fs gs all.1)
  where
    add : (o : Option What) → AllByRecursion (λ y. Precedes ident y) (map (λ (line : Line). line.ident) (lines_of ps fs gs)) → AllByRecursion (λ y. Precedes ident y) (map (λ (line : Line). line.ident) (cons_option (option_map (line_for p) o) (lines_of ps fs gs)))
    add None rest = rest
    add (Some what) rest = (all.0, rest)

pub lines_rise : (ps : List Planned) (fs gs : List Outcome) → IsRising (planned_idents ps) → IsRising (map (λ (line : Line). line.ident) (lines_of ps fs gs))
lines_rise [] fs gs up = tt
lines_rise (p ∷ ps) [] gs up = tt
lines_rise (p ∷ ps) (f ∷ fs) [] up = tt
lines_rise (p ∷ ps) (f ∷ fs) (g ∷ gs) up = add (what_of (outcome_of p.step f g)) (above_lines (p.ident).now ps fs gs up.0) (lines_rise ps fs gs up.1)
  where
    add : (o : Option What) → AllByRecursion (λ y. Precedes (p.ident).now y) (map (λ (line : Line). line.ident) (lines_of ps fs gs)) → IsRising (map (λ (line : Line). line.ident) (lines_of ps fs gs)) → IsRising (map (λ (line : Line). line.ident) (cons_option (option_map (line_for p) o) (lines_of ps fs gs)))
    add None above rest = rest
    add (Some what) above rest = (above, rest)
