-- The rows that a run comes to rise, and each is of its step's ident.
use Rattle.std.proofs.Common.{◌≡◌, ◌⊎◌, inl, inr, ℕ, Bool, true, false, cond, ◌||◌, List, [], ◌∷◌, length, Option, Some, None, refl, sym, ◌∙◌, ap, subst, arith}
use Rattle.std.specs.List.{AllByRecursion, cons_option}
use Rattle.std.specs.Str.{bytes_eq}
use Rattle.std.proofs.lemmas.Bool.{false≢true}
use Rattle.std.proofs.lemmas.Slice.Eq.{bytes_eq-Decides}
use Rattle.status_keeper.specs.declared.row.Row.{Row}
use Rattle.status_keeper.specs.Idents.{Precedes, IsRising}
use Rattle.status_keeper.specs.Rows.{row_of, row_idents}
use Rattle.sync_plan.specs.declared.report.Side.{Side}
use Rattle.sync_plan.specs.declared.rules.Rules.{Rules}
use Rattle.sync_plan.specs.declared.dues.Step.{Step}
use Rattle.sync_plan.specs.declared.dues.Step.TheVariants as step
use Rattle.sync_plan.specs.declared.report.Side.TheVariants.{A, B}
use Rattle.sync_plan.specs.declared.seen.Seen.{Seen}
use Rattle.sync_plan.specs.declared.seen.Planned.{Planned}
use Rattle.sync_plan.specs.Merging.{row_ident}
use Rattle.sync_plan.specs.Plans.{IsPlaceOf, IsPlannedFor, planned_idents}
use Rattle.sync_plan.proofs.Rising.{first_cases, row_is_first, precedes_differs}
use Rattle.side_reads.specs.declared.holding.Holding.{Holding}
use Rattle.job_writes.specs.declared.outcome.Outcome.{Outcome}
use Rattle.job_writes.specs.declared.outcome.Outcome.TheVariants.{Kept, Gone, Written, Left, Conflict, NotWritten, NotRemoved, Skipped}
use Rattle.job_writes.specs.Writings.{Sources, seen_at, FitsPut, FitsRemoval, IsRemoval, IsRowOf, IsRowFrom, IsNamedBy, IsNamedFor, AllFit, is_failure}
use Rattle.job_rows.specs.RowsAfter.{outcome_of, row_of_both, row_kept, row_after, rows_after, IsUnchanged, IsStepAt}

seen_named : (ident : List ℕ) (held : Holding) (place : Option ℕ) (s : Seen) → IsPlaceOf ident held.seen.items place → seen_at held place ≡ Some s → s.ident ≡ ident
seen_named ident held None s of e = cc
seen_named ident held (Some place) s of e =
    let both : Some of.item ≡ Some s = sym of.stands ∙ e in
    let one : of.item ≡ s = cc in
    ap (λ (y : Seen). y.ident) (sym one) ∙ of.same_ident

row_named : (ident : List ℕ) (rows : List Row) (row : Row) → row_of ident rows ≡ Some row → row.ident ≡ ident
row_named ident rows row e = elim (first_cases row_ident ident rows) [
  | inl none ↦ absurd (let clash : None ≡ Some row = sym none.0 ∙ (sym (row_is_first ident rows) ∙ e) in cc)
  | inr some ↦
      let both : Some some.0 ≡ Some row = sym some.1 ∙ (sym (row_is_first ident rows) ∙ e) in
      let one : some.0 ≡ row = cc in
      ap row_ident (sym one) ∙ some.3
]

kept_named : (ident : List ℕ) (o q : Option Seen) (row : Row) → ((s : Seen) → o ≡ Some s → s.ident ≡ ident) → row_kept o q ≡ Some row → row.ident ≡ ident
kept_named ident (Some s) (Some t) row named e = let one : row_of_both s t ≡ row = cc in ap (λ (r : Row). r.ident) (sym one) ∙ named s refl
kept_named ident (Some s) None row named e = cc
kept_named ident None q row named e = cc

module _ (x : Sources) (rows : List Row) (rules : Rules) where
  -- what is known of a step and its outcomes
  pub record IsStep (p : Planned) (f g : Outcome) : Type 0 where
    pub planned : IsPlannedFor x.a.seen.items x.b.seen.items rows rules p
    pub put : FitsPut p.step f
    pub named : IsNamedFor x p f
    pub flag : Bool
    pub removal : FitsRemoval flag p.step g

  abbrev pub NextNamed : Planned → Outcome → Type 0
  NextNamed p o = (row : Row) → row_after x rows p o ≡ Some row → row.ident ≡ (p.ident).now

  -- an outcome that is no row of its own
  plain_named : (p : Planned) (o : Outcome) → IsPlannedFor x.a.seen.items x.b.seen.items rows rules p → ((row : Row) → o ≡ Written row → row.ident ≡ (p.ident).now) → NextNamed p o
  plain_named p Kept planned written row e = kept_named (p.ident).now (seen_at x.a p.a) (seen_at x.b p.b) row (λ s is. seen_named (p.ident).now x.a p.a s planned.place_a is) e
  plain_named p Gone planned written row e = cc
  plain_named p (Written made) planned written row e = let one : made ≡ row = cc in ap (λ (r : Row). r.ident) (sym one) ∙ written made refl
  plain_named p Left planned written row e = row_named (p.ident).now rows row e
  plain_named p Conflict planned written row e = row_named (p.ident).now rows row e
  plain_named p (NotWritten at error) planned written row e = row_named (p.ident).now rows row e
  plain_named p (NotRemoved at error) planned written row e = row_named (p.ident).now rows row e
  plain_named p Skipped planned written row e = row_named (p.ident).now rows row e

  row_from : (ident : List ℕ) (held : Holding) (place : Option ℕ) (o : Outcome) (row : Row) → IsPlaceOf ident held.seen.items place → IsRowFrom held place o → o ≡ Written row → row.ident ≡ ident
  row_from ident held place o row of named e = subst (IsRowOf (named.from).ident) e named.of ∙ seen_named ident held place named.from of named.stands

  not_written : {T : Type 0} (o q : Outcome) (row : Row) → o ≡ q → (q ≡ Written row → T) → o ≡ Written row → T
  not_written o q row is f e = f (sym is ∙ e)

  removal_row : {T : Type 0} (φ : Bool) (from : Side) (g : Outcome) (row : Row) → FitsRemoval φ (step.RemoveFrom from) g → g ≡ Written row → T
  removal_row true from g row fits e = absurd (let clash : Skipped ≡ Written row = sym fits ∙ e in cc)
  removal_row false from g row fits e = absurd (subst (IsRemoval from) e fits)

  -- a row of its own is of the step's ident
  written_named : (st : Step) (p : Planned) (f g : Outcome) → IsPlannedFor x.a.seen.items x.b.seen.items rows rules p → FitsPut st f → IsNamedBy st x p f → (φ : Bool) → FitsRemoval φ st g → (row : Row) → outcome_of st f g ≡ Written row → row.ident ≡ (p.ident).now
  written_named (step.CopyTo A) p f g planned fits named φ removal row e = row_from (p.ident).now x.b p.b f row planned.place_b named e
  written_named (step.CopyTo B) p f g planned fits named φ removal row e = row_from (p.ident).now x.a p.a f row planned.place_a named e
  written_named (step.WriteOver A) p f g planned fits named φ removal row e = row_from (p.ident).now x.b p.b f row planned.place_b named e
  written_named (step.WriteOver B) p f g planned fits named φ removal row e = row_from (p.ident).now x.a p.a f row planned.place_a named e
  written_named step.Forget p f g planned fits named φ removal row e = not_written f Gone row fits (λ h. cc) e
  written_named step.Keep p f g planned fits named φ removal row e = not_written f Kept row fits (λ h. cc) e
  written_named (step.RemoveFrom from) p f g planned fits named φ removal row e = removal_row φ from g row removal e
  written_named step.HandOver p f g planned fits named φ removal row e = not_written f Left row fits (λ h. cc) e
  written_named step.Conflict p f g planned fits named φ removal row e = not_written f Conflict row fits (λ h. cc) e
  written_named (step.Held to) p f g planned fits named φ removal row e = not_written f Left row fits (λ h. cc) e

  next_named : (p : Planned) (f g : Outcome) → IsStep p f g → NextNamed p (outcome_of p.step f g)
  next_named p f g is = plain_named p (outcome_of p.step f g) is.planned (written_named p.step p f g is.planned is.put is.named is.flag is.removal)

  -- ---- all steps

  abbrev pub AreSteps : List Planned → List Outcome → List Outcome → Type 0
  AreSteps [] fs gs = Unit {0}
  AreSteps (p ∷ ps) [] gs = Unit {0}
  AreSteps (p ∷ ps) (f ∷ fs) [] = Unit {0}
  AreSteps (p ∷ ps) (f ∷ fs) (g ∷ gs) = IsStep p f g × AreSteps ps fs gs

  pub are_steps : (φ ψ χ : Bool) (ps : List Planned) (fs gs : List Outcome) → AllByRecursion (IsPlannedFor x.a.seen.items x.b.seen.items rows rules) ps → AllFit (λ failed p. FitsPut p.step) φ ps fs → AllFit (λ failed. IsNamedFor x) ψ ps fs → AllFit (λ failed p. FitsRemoval failed p.step) χ ps gs → AreSteps ps fs gs
  are_steps φ ψ χ [] fs gs planned put named removed = tt
  are_steps φ ψ χ (p ∷ ps) [] gs planned put named removed = tt
  are_steps φ ψ χ (p ∷ ps) (f ∷ fs) [] planned put named removed = tt
  are_steps φ ψ χ (p ∷ ps) (f ∷ fs) (g ∷ gs) planned put named removed = (record { planned = planned.0; put = put.0; named = named.0; flag = χ; removal = removed.0 }, are_steps (φ || is_failure f) (ψ || is_failure f) (χ || is_failure g) ps fs gs planned.1 put.1 named.1 removed.1)

  cons_all : (P : List ℕ → Type 0) (o : Option Row) (rest : List Row) → ((row : Row) → o ≡ Some row → P row.ident) → AllByRecursion P (row_idents rest) → AllByRecursion P (row_idents (cons_option o rest))
  cons_all P None rest one all = all
  cons_all P (Some row) rest one all = (one row refl, all)

  -- what precedes the steps precedes their rows
  rows_behind : (i : List ℕ) (ps : List Planned) (fs gs : List Outcome) → AreSteps ps fs gs → AllByRecursion (λ z. Precedes i z) (planned_idents ps) → AllByRecursion (λ z. Precedes i z) (row_idents (rows_after x rows ps fs gs))
  rows_behind i [] fs gs steps later = tt
  rows_behind i (p ∷ ps) [] gs steps later = tt
  rows_behind i (p ∷ ps) (f ∷ fs) [] steps later = tt
  rows_behind i (p ∷ ps) (f ∷ fs) (g ∷ gs) steps later = cons_all (λ z. Precedes i z) (row_after x rows p (outcome_of p.step f g)) (rows_after x rows ps fs gs) (λ row e. subst (λ (z : List ℕ). Precedes i z) (sym (next_named p f g steps.0 row e)) later.0) (rows_behind i ps fs gs steps.1 later.1)

  cons_rising : (o : Option Row) (rest : List Row) → ((row : Row) → o ≡ Some row → AllByRecursion (λ z. Precedes row.ident z) (row_idents rest)) → IsRising (row_idents rest) → IsRising (row_idents (cons_option o rest))
  cons_rising None rest one rising = rising
  cons_rising (Some row) rest one rising = (one row refl, rising)

  pub rows_rise : (ps : List Planned) (fs gs : List Outcome) → AreSteps ps fs gs → IsRising (planned_idents ps) → IsRising (row_idents (rows_after x rows ps fs gs))
  rows_rise [] fs gs steps rising = tt
  rows_rise (p ∷ ps) [] gs steps rising = tt
  rows_rise (p ∷ ps) (f ∷ fs) [] steps rising = tt
  rows_rise (p ∷ ps) (f ∷ fs) (g ∷ gs) steps rising = cons_rising (row_after x rows p (outcome_of p.step f g)) (rows_after x rows ps fs gs) (λ row e. subst (λ (i : List ℕ). AllByRecursion (λ z. Precedes i z) (row_idents (rows_after x rows ps fs gs))) (sym (next_named p f g steps.0 row e)) (rows_behind (p.ident).now ps fs gs steps.1 rising.0)) (rows_rise ps fs gs steps.1 rising.1)

  -- ---- the row of an ident

  none_behind : (ident : List ℕ) (rest : List Row) → AllByRecursion (λ z. Precedes ident z) (row_idents rest) → row_of ident rest ≡ None
  none_behind ident [] all = refl
  none_behind ident (r ∷ rs) all = at (bytes_eq r.ident ident) refl (none_behind ident rs all.1)
    where
      at : (b : Bool) → bytes_eq r.ident ident ≡ b → row_of ident rs ≡ None → cond b (Some r) (row_of ident rs) ≡ None
      at true e rest = absurd (precedes_differs ident r.ident all.0 (sym ((bytes_eq-Decides r.ident ident).0 e)))
      at false e rest = rest

  cons_here : (ident : List ℕ) (o : Option Row) (rest : List Row) → ((row : Row) → o ≡ Some row → row.ident ≡ ident) → row_of ident rest ≡ None → row_of ident (cons_option o rest) ≡ o
  cons_here ident None rest one none = none
  cons_here ident (Some row) rest one none = ap (λ (b : Bool). cond b (Some row) (row_of ident rest)) ((bytes_eq-Decides row.ident ident).1 (one row refl))

  cons_other : (ident : List ℕ) (o : Option Row) (rest : List Row) → ((row : Row) → o ≡ Some row → row.ident ≡ ident → ⊥) → row_of ident (cons_option o rest) ≡ row_of ident rest
  cons_other ident None rest differs = refl
  cons_other ident (Some row) rest differs = at (bytes_eq row.ident ident) refl
    where
      at : (b : Bool) → bytes_eq row.ident ident ≡ b → cond b (Some row) (row_of ident rest) ≡ row_of ident rest
      at true e = absurd (differs row refl ((bytes_eq-Decides row.ident ident).0 e))
      at false e = refl

  later_at : (i : List ℕ) (p : Planned) (f g : Outcome) (ps : List Planned) (fs gs : List Outcome) → AllByRecursion (λ (z : List ℕ). Precedes i z) (planned_idents ps) → IsStepAt p f g ps fs gs → Precedes i (p.ident).now
  later_at i p f g [] fs gs later at = absurd at
  later_at i p f g (q ∷ ps) [] gs later at = absurd at
  later_at i p f g (q ∷ ps) (y ∷ fs) [] later at = absurd at
  later_at i p f g (q ∷ ps) (y ∷ fs) (z ∷ gs) later (inl (same, e, h)) = subst (λ (r : Planned). Precedes i (r.ident).now) (sym same) later.0
  later_at i p f g (q ∷ ps) (y ∷ fs) (z ∷ gs) later (inr at) = later_at i p f g ps fs gs later.1 at

  pub row_of_step : (p : Planned) (f g : Outcome) (ps : List Planned) (fs gs : List Outcome) → AreSteps ps fs gs → IsRising (planned_idents ps) → IsStepAt p f g ps fs gs → row_of (p.ident).now (rows_after x rows ps fs gs) ≡ row_after x rows p (outcome_of p.step f g)
  row_of_step p f g [] fs gs steps rising at = absurd at
  row_of_step p f g (q ∷ ps) [] gs steps rising at = absurd at
  row_of_step p f g (q ∷ ps) (y ∷ fs) [] steps rising at = absurd at
  row_of_step p f g (q ∷ ps) (y ∷ fs) (z ∷ gs) steps rising (inl (same, e, h)) =
      let here = cons_here (q.ident).now (row_after x rows q (outcome_of q.step y z)) (rows_after x rows ps fs gs) (next_named q y z steps.0) (none_behind (q.ident).now (rows_after x rows ps fs gs) (rows_behind (q.ident).now ps fs gs steps.1 rising.0)) in
      subst (λ (r : Planned). row_of (r.ident).now (rows_after x rows (q ∷ ps) (y ∷ fs) (z ∷ gs)) ≡ row_after x rows r (outcome_of r.step f g)) (sym same) (subst (λ (o : Outcome). row_of (q.ident).now (rows_after x rows (q ∷ ps) (y ∷ fs) (z ∷ gs)) ≡ row_after x rows q (outcome_of q.step o g)) (sym e) (subst (λ (o : Outcome). row_of (q.ident).now (rows_after x rows (q ∷ ps) (y ∷ fs) (z ∷ gs)) ≡ row_after x rows q (outcome_of q.step y o)) (sym h) here))
  row_of_step p f g (q ∷ ps) (y ∷ fs) (z ∷ gs) steps rising (inr at) =
      cons_other (p.ident).now (row_after x rows q (outcome_of q.step y z)) (rows_after x rows ps fs gs) (λ row e same. precedes_differs (q.ident).now (p.ident).now (later_at (q.ident).now p f g ps fs gs rising.0 at) (sym (next_named q y z steps.0 row e) ∙ same))
      ∙ row_of_step p f g ps fs gs steps.1 rising.1 at

  -- ---- which idents have a step

  pub record HasStep (ident : List ℕ) (ps : List Planned) (fs gs : List Outcome) : Type 0 where
    pub p : Planned
    pub f : Outcome
    pub g : Outcome
    pub at : IsStepAt p f g ps fs gs
    pub here : (p.ident).now ≡ ident

  pub find_step : (ident : List ℕ) (ps : List Planned) (fs gs : List Outcome) → length fs ≡ length ps → length gs ≡ length ps → HasStep ident ps fs gs ⊎ AllByRecursion (λ z. z ≡ ident → ⊥) (planned_idents ps)
  find_step ident [] fs gs ef eg = inr tt
  find_step ident (p ∷ ps) [] gs ef eg = absurd (omega (arith, ef))
  find_step ident (p ∷ ps) (f ∷ fs) [] ef eg = absurd (omega (arith, eg))
  find_step ident (p ∷ ps) (f ∷ fs) (g ∷ gs) ef eg = at (bytes_eq (p.ident).now ident) refl (find_step ident ps fs gs (omega (arith, ef)) (omega (arith, eg)))
    where
      at : (b : Bool) → bytes_eq (p.ident).now ident ≡ b → HasStep ident ps fs gs ⊎ AllByRecursion (λ z. z ≡ ident → ⊥) (planned_idents ps) → HasStep ident (p ∷ ps) (f ∷ fs) (g ∷ gs) ⊎ AllByRecursion (λ z. z ≡ ident → ⊥) (planned_idents (p ∷ ps))
      at true e rest = inl (record { p = p; f = f; g = g; at = inl (refl, refl, refl); here = (bytes_eq-Decides (p.ident).now ident).0 e })
      at false e (inl later) = inl (record { p = later.p; f = later.f; g = later.g; at = inr later.at; here = later.here })
      at false e (inr none) = inr ((λ same. false≢true (sym e ∙ (bytes_eq-Decides (p.ident).now ident).1 same)), none)

  pub no_row : (ident : List ℕ) (ps : List Planned) (fs gs : List Outcome) → AreSteps ps fs gs → AllByRecursion (λ z. z ≡ ident → ⊥) (planned_idents ps) → row_of ident (rows_after x rows ps fs gs) ≡ None
  no_row ident [] fs gs steps none = refl
  no_row ident (p ∷ ps) [] gs steps none = refl
  no_row ident (p ∷ ps) (f ∷ fs) [] steps none = refl
  no_row ident (p ∷ ps) (f ∷ fs) (g ∷ gs) steps none =
      cons_other ident (row_after x rows p (outcome_of p.step f g)) (rows_after x rows ps fs gs) (λ row e same. none.0 (sym (next_named p f g steps.0 row e) ∙ same))
      ∙ no_row ident ps fs gs steps.1 none.1

pub unchanged_at : (x : Sources) (rows : List Row) (p : Planned) (f g : Outcome) (ps : List Planned) (fs gs : List Outcome) → IsUnchanged x rows ps fs gs → IsStepAt p f g ps fs gs → row_after x rows p (outcome_of p.step f g) ≡ row_of (p.ident).now rows
unchanged_at x rows p f g [] fs gs same at = absurd at
unchanged_at x rows p f g (q ∷ ps) [] gs same at = absurd at
unchanged_at x rows p f g (q ∷ ps) (y ∷ fs) [] same at = absurd at
unchanged_at x rows p f g (q ∷ ps) (y ∷ fs) (z ∷ gs) same (inl (e, is_f, is_g)) =
    subst (λ (r : Planned). row_after x rows r (outcome_of r.step f g) ≡ row_of (r.ident).now rows) (sym e) (subst (λ (o : Outcome). row_after x rows q (outcome_of q.step o g) ≡ row_of (q.ident).now rows) (sym is_f) (subst (λ (o : Outcome). row_after x rows q (outcome_of q.step y o) ≡ row_of (q.ident).now rows) (sym is_g) same.0))
unchanged_at x rows p f g (q ∷ ps) (y ∷ fs) (z ∷ gs) same (inr at) = unchanged_at x rows p f g ps fs gs same.1 at
