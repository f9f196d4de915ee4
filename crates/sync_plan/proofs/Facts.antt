-- What the table's verdict says of the two sides.
use Rattle.std.proofs.Common.{◌≡◌, ℕ, Bool, true, false, cond, List, Option, Some, None, refl, sym, ap, subst}
use Rattle.std.specs.Prelude.{◌||◌}
use Rattle.std.specs.Str.{bytes_eq}
use Rattle.std.proofs.lemmas.Slice.Eq.{bytes_eq-Decides}
use Rattle.sync_plan.specs.declared.report.Side.TheVariants.{A, B}
use Rattle.sync_plan.specs.declared.rules.ConflictRule.{ConflictRule}
use Rattle.sync_plan.specs.declared.rules.ConflictRule.TheVariants.{Null, AWins, BWins, Command}
use Rattle.sync_plan.specs.declared.rules.Rules.{Rules}
use Rattle.sync_plan.specs.declared.dues.Step.{Step}
use Rattle.sync_plan.specs.declared.dues.Step.TheVariants.{Forget, Keep, CopyTo, WriteOver, RemoveFrom, HandOver, Conflict, Held}
use Rattle.sync_plan.specs.Verdicts.{Versions, Due, Gone, At, Unsettled, Verdict, verdict, by_rule, differing, by_sides, table, is_read_only, other_side, hold, due_of, step_of}
use Rattle.sync_plan.specs.JobSteps.{on_side}

abbrev pub versions : Option (List ℕ) → Option (List ℕ) → Option (List ℕ) → Versions
versions a b s = record { a = a; b = b; s = s }

-- the due that a step comes with, by what stands on the sides
abbrev pub Fits : Step → Due → Versions → Type 0
Fits Forget due v = (due ≡ Gone) × (v.a ≡ None) × (v.b ≡ None)
Fits Keep due v = (x : List ℕ) × (due ≡ At x) × (v.a ≡ Some x) × (v.b ≡ Some x)
Fits (CopyTo side) due v = (x : List ℕ) × (due ≡ At x) × (on_side side v ≡ None) × (on_side (other_side side) v ≡ Some x)
Fits (WriteOver side) due v = (x : List ℕ) × (due ≡ At x) × ((y : List ℕ) × (on_side side v ≡ Some y)) × (on_side (other_side side) v ≡ Some x)
Fits (RemoveFrom side) due v = (due ≡ Gone) × ((y : List ℕ) × (on_side side v ≡ Some y)) × (on_side (other_side side) v ≡ None)
Fits HandOver due v = due ≡ Unsettled
Fits Conflict due v = due ≡ Unsettled
Fits (Held side) due v = due ≡ Unsettled

by_rule_fits : (rule : ConflictRule) (v w : List ℕ) (s : Option (List ℕ)) → Fits (by_rule rule v w).step (by_rule rule v w).due (versions (Some v) (Some w) s)
by_rule_fits AWins v w s = (v, refl, (w, refl), refl)
by_rule_fits BWins v w s = (w, refl, (v, refl), refl)
by_rule_fits Command v w s = refl
by_rule_fits Null v w s = refl

differing_fits : (rule : ConflictRule) (v w : List ℕ) (s : Option (List ℕ)) → Fits (differing rule v w s).step (differing rule v w s).due (versions (Some v) (Some w) s)
differing_fits rule v w None = by_rule_fits rule v w None
differing_fits rule v w (Some s) = at (bytes_eq v s) (bytes_eq w s)
  where
    choice : Bool → Bool → Verdict
    choice p q = cond p (verdict (At w) (WriteOver A)) (cond q (verdict (At v) (WriteOver B)) (by_rule rule v w))

    at : (p q : Bool) → Fits (cond p (verdict (At w) (WriteOver A)) (cond q (verdict (At v) (WriteOver B)) (by_rule rule v w))).step (cond p (verdict (At w) (WriteOver A)) (cond q (verdict (At v) (WriteOver B)) (by_rule rule v w))).due (versions (Some v) (Some w) (Some s))
    at true q = (w, refl, (v, refl), refl)
    at false true = (v, refl, (w, refl), refl)
    at false false = by_rule_fits rule v w (Some s)

table_fits : (rule : ConflictRule) (a b s : Option (List ℕ)) → Fits (by_sides rule a b s).step (by_sides rule a b s).due (versions a b s)
table_fits rule None None s = (refl, refl, refl)
table_fits rule (Some v) None None = (v, refl, refl, refl)
table_fits rule (Some v) None (Some s) = at (bytes_eq v s)
  where
    at : (p : Bool) → Fits (cond p (verdict Gone (RemoveFrom A)) (verdict (At v) (CopyTo B))).step (cond p (verdict Gone (RemoveFrom A)) (verdict (At v) (CopyTo B))).due (versions (Some v) None (Some s))
    at true = (refl, (v, refl), refl)
    at false = (v, refl, refl, refl)
table_fits rule None (Some w) None = (w, refl, refl, refl)
table_fits rule None (Some w) (Some s) = at (bytes_eq w s)
  where
    at : (p : Bool) → Fits (cond p (verdict Gone (RemoveFrom B)) (verdict (At w) (CopyTo A))).step (cond p (verdict Gone (RemoveFrom B)) (verdict (At w) (CopyTo A))).due (versions None (Some w) (Some s))
    at true = (refl, (w, refl), refl)
    at false = (w, refl, refl, refl)
table_fits rule (Some v) (Some w) s = at (bytes_eq v w) (bytes_eq-Decides v w).0
  where
    at : (p : Bool) → (p ≡ true → v ≡ w) → Fits (cond p (verdict (At v) Keep) (differing rule v w s)).step (cond p (verdict (At v) Keep) (differing rule v w s)).due (versions (Some v) (Some w) s)
    at true same = (v, refl, refl, ap Some (sym (same refl)))
    at false same = differing_fits rule v w s

hold_fits : (rules : Rules) (due : Due) (step : Step) (v : Versions) → Fits step due v → Fits (hold rules due step).step (hold rules due step).due v
hold_fits rules due Forget v fits = fits
hold_fits rules due Keep v fits = fits
hold_fits rules due (CopyTo side) v fits = at (is_read_only rules side)
  where
    at : (p : Bool) → Fits (cond p (verdict Unsettled (Held side)) (verdict due (CopyTo side))).step (cond p (verdict Unsettled (Held side)) (verdict due (CopyTo side))).due v
    at true = refl
    at false = fits
hold_fits rules due (WriteOver side) v fits = at (is_read_only rules side)
  where
    at : (p : Bool) → Fits (cond p (verdict Unsettled (Held side)) (verdict due (WriteOver side))).step (cond p (verdict Unsettled (Held side)) (verdict due (WriteOver side))).due v
    at true = refl
    at false = fits
hold_fits rules due (RemoveFrom side) v fits = at (is_read_only rules side)
  where
    at : (p : Bool) → Fits (cond p (verdict Unsettled (Held side)) (verdict due (RemoveFrom side))).step (cond p (verdict Unsettled (Held side)) (verdict due (RemoveFrom side))).due v
    at true = refl
    at false = fits
hold_fits rules due HandOver v fits = at (rules.a_read_only || rules.b_read_only)
  where
    at : (p : Bool) → Fits (cond p (verdict Unsettled Conflict) (verdict due HandOver)).step (cond p (verdict Unsettled Conflict) (verdict due HandOver)).due v
    at true = refl
    at false = fits
hold_fits rules due Conflict v fits = fits
hold_fits rules due (Held side) v fits = fits

-- the verdict fits what stands on the sides
pub verdict_fits : (rules : Rules) (v : Versions) → Fits (step_of rules v) (due_of rules v) v
verdict_fits rules v = hold_fits rules (table rules.conflict v).due (table rules.conflict v).step v (table_fits rules.conflict v.a v.b v.s)

-- where both sides hold one version, or neither holds any, the due is that, whatever the row
abbrev pub due_at : Option (List ℕ) → Due
due_at None = Gone
due_at (Some v) = At v

pub settled_due : (rules : Rules) (o s : Option (List ℕ)) → due_of rules (versions o o s) ≡ due_at o
settled_due rules None s = refl
settled_due rules (Some v) s = ap (λ (p : Bool). (hold rules (cond p (verdict (At v) Keep) (differing rules.conflict v v s)).due (cond p (verdict (At v) Keep) (differing rules.conflict v v s)).step).due) ((bytes_eq-Decides v v).1 refl)

-- and the step writes nothing
abbrev pub IsQuiet : Step → Type 0
IsQuiet Forget = Unit {0}
IsQuiet Keep = Unit {0}
IsQuiet (CopyTo side) = ⊥
IsQuiet (WriteOver side) = ⊥
IsQuiet (RemoveFrom side) = ⊥
IsQuiet HandOver = ⊥
IsQuiet Conflict = ⊥
IsQuiet (Held side) = ⊥

pub settled_step : (rules : Rules) (o s : Option (List ℕ)) → IsQuiet (step_of rules (versions o o s))
settled_step rules None s = tt
settled_step rules (Some v) s = subst (λ (p : Bool). IsQuiet (hold rules (cond p (verdict (At v) Keep) (differing rules.conflict v v s)).due (cond p (verdict (At v) Keep) (differing rules.conflict v v s)).step).step) (sym ((bytes_eq-Decides v v).1 refl)) tt
