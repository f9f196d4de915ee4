-- What a step may write over, and that it writes to no read-only side.
use Rattle.std.proofs.Common.{◌≡◌, ◌⊎◌, inl, inr, ℕ, Bool, true, false, cond, List, Option, Some, None, refl, sym, ◌∙◌, ap, subst}
use Rattle.std.specs.Prelude.{◌||◌}
use Rattle.std.specs.Str.{bytes_eq}
use Rattle.std.proofs.lemmas.Bool.{false≢true}
use Rattle.std.proofs.lemmas.Slice.Eq.{bytes_eq-Decides}
use Rattle.sync_plan.specs.declared.report.Side.{Side}
use Rattle.sync_plan.specs.declared.report.Side.TheVariants.{A, B}
use Rattle.sync_plan.specs.declared.rules.ConflictRule.{ConflictRule}
use Rattle.sync_plan.specs.declared.rules.ConflictRule.TheVariants.{Null, AWins, BWins, Command}
use Rattle.sync_plan.specs.declared.rules.Rules.{Rules}
use Rattle.sync_plan.specs.declared.dues.Step.{Step}
use Rattle.sync_plan.specs.declared.dues.Step.TheVariants.{Forget, Keep, CopyTo, WriteOver, RemoveFrom, HandOver, Conflict, Held}
use Rattle.sync_plan.specs.Verdicts.{Versions, Due, Gone, At, Unsettled, verdict, by_rule, differing, by_sides, table, is_read_only, hold, other_side, due_of, step_of, wins, IsNeither, IsOpen}
use Rattle.sync_plan.specs.JobSteps.{on_side, answer_over, written, IsNamed}
use Rattle.sync_plan.proofs.Facts.{versions, Fits, verdict_fits}
use Rattle.sync_plan.proofs.Emptied.{Allows, step_allows}

-- what is removed or written over is the row's, or neither side is at the row's version and the rule names what is written
abbrev Names : ConflictRule → Step → Versions → Type 0
Names rule Forget v = Unit {0}
Names rule Keep v = Unit {0}
Names rule (CopyTo side) v = Unit {0}
Names rule (WriteOver side) v = (on_side side v ≡ v.s) ⊎ ((rule ≡ wins (other_side side)) × IsNeither v)
Names rule (RemoveFrom side) v = on_side side v ≡ v.s
Names rule HandOver v = (rule ≡ Command) × IsNeither v
Names rule Conflict v = Unit {0}
Names rule (Held side) v = Unit {0}

by_rule_names : (rule : ConflictRule) (v w : List ℕ) (s : Option (List ℕ)) → IsNeither (versions (Some v) (Some w) s) → Names rule (by_rule rule v w).step (versions (Some v) (Some w) s)
by_rule_names AWins v w s neither = inr (refl, neither)
by_rule_names BWins v w s neither = inr (refl, neither)
by_rule_names Command v w s neither = (refl, neither)
by_rule_names Null v w s neither = tt

unlike : (x s : List ℕ) → (x ≡ s → false ≡ true) → Some x ≡ Some s → ⊥
unlike x s only same = false≢true (only (let one : x ≡ s = cc in one))

differing_names : (rule : ConflictRule) (v w : List ℕ) (s : Option (List ℕ)) → Names rule (differing rule v w s).step (versions (Some v) (Some w) s)
differing_names rule v w None = by_rule_names rule v w None (record { not_a = λ same. cc; not_b = λ same. cc })
differing_names rule v w (Some s) = at (bytes_eq v s) (bytes_eq w s) (bytes_eq-Decides v s).0 (bytes_eq-Decides w s).0 (bytes_eq-Decides v s).1 (bytes_eq-Decides w s).1
  where
    at : (p q : Bool) → (p ≡ true → v ≡ s) → (q ≡ true → w ≡ s) → (v ≡ s → p ≡ true) → (w ≡ s → q ≡ true) → Names rule (cond p (verdict (At w) (WriteOver A)) (cond q (verdict (At v) (WriteOver B)) (by_rule rule v w))).step (versions (Some v) (Some w) (Some s))
    at true q is_v is_w if_v if_w = inl (ap Some (is_v refl))
    at false true is_v is_w if_v if_w = inl (ap Some (is_w refl))
    at false false is_v is_w if_v if_w = by_rule_names rule v w (Some s) (record { not_a = unlike v s if_v; not_b = unlike w s if_w })

by_sides_names : (rule : ConflictRule) (a b s : Option (List ℕ)) → Names rule (by_sides rule a b s).step (versions a b s)
by_sides_names rule None None s = tt
by_sides_names rule (Some v) None None = tt
by_sides_names rule (Some v) None (Some s) = at (bytes_eq v s) (bytes_eq-Decides v s).0
  where
    at : (p : Bool) → (p ≡ true → v ≡ s) → Names rule (cond p (verdict Gone (RemoveFrom A)) (verdict (At v) (CopyTo B))).step (versions (Some v) None (Some s))
    at true is = ap Some (is refl)
    at false is = tt
by_sides_names rule None (Some w) None = tt
by_sides_names rule None (Some w) (Some s) = at (bytes_eq w s) (bytes_eq-Decides w s).0
  where
    at : (p : Bool) → (p ≡ true → w ≡ s) → Names rule (cond p (verdict Gone (RemoveFrom B)) (verdict (At w) (CopyTo A))).step (versions None (Some w) (Some s))
    at true is = ap Some (is refl)
    at false is = tt
by_sides_names rule (Some v) (Some w) s = at (bytes_eq v w)
  where
    at : (p : Bool) → Names rule (cond p (verdict (At v) Keep) (differing rule v w s)).step (versions (Some v) (Some w) s)
    at true = tt
    at false = differing_names rule v w s

hold_names : (rules : Rules) (due : Due) (step : Step) (v : Versions) → Names rules.conflict step v → Names rules.conflict (hold rules due step).step v
hold_names rules due Forget v names = tt
hold_names rules due Keep v names = tt
hold_names rules due (CopyTo side) v names = at (is_read_only rules side)
  where
    at : (p : Bool) → Names rules.conflict (cond p (verdict Unsettled (Held side)) (verdict due (CopyTo side))).step v
    at true = tt
    at false = tt
hold_names rules due (WriteOver side) v names = at (is_read_only rules side)
  where
    at : (p : Bool) → Names rules.conflict (cond p (verdict Unsettled (Held side)) (verdict due (WriteOver side))).step v
    at true = tt
    at false = names
hold_names rules due (RemoveFrom side) v names = at (is_read_only rules side)
  where
    at : (p : Bool) → Names rules.conflict (cond p (verdict Unsettled (Held side)) (verdict due (RemoveFrom side))).step v
    at true = tt
    at false = names
hold_names rules due HandOver v names = at (rules.a_read_only || rules.b_read_only)
  where
    at : (p : Bool) → Names rules.conflict (cond p (verdict Unsettled Conflict) (verdict due HandOver)).step v
    at true = tt
    at false = names
hold_names rules due Conflict v names = tt
hold_names rules due (Held side) v names = tt

step_names : (rules : Rules) (v : Versions) → Names rules.conflict (step_of rules v) v
step_names rules v = hold_names rules (table rules.conflict v).due (table rules.conflict v).step v (by_sides_names rules.conflict v.a v.b v.s)

-- a step that writes nothing
nothing : {T : Type 0} (to : Option (List ℕ)) → None ≡ Some to → T
nothing to is = absurd (cc)

-- what stands where nothing stands
missing : {T : Type 0} (o : Option (List ℕ)) (version : List ℕ) → o ≡ None → o ≡ Some version → T
missing o version none some = absurd (let clash : None ≡ Some version = sym none ∙ some in cc)

over_named : (rules : Rules) (answer : Option (List ℕ)) (side : Side) (v : Versions) (version : List ℕ) (to : Option (List ℕ)) → on_side side v ≡ Some version → (on_side side v ≡ v.s) ⊎ ((rules.conflict ≡ wins (other_side side)) × IsNeither v) → Some (on_side (other_side side) v) ≡ Some to → IsNamed rules answer side v version to
over_named rules answer side v version to here (inl row) is = inl (sym row ∙ here)
over_named rules answer side v version to here (inr (rule, neither)) is = inr (neither, inl (rule, let one : on_side (other_side side) v ≡ to = cc in sym one))

answer_named : (rules : Rules) (answer own : Option (List ℕ)) (side : Side) (v : Versions) (version : List ℕ) (to : Option (List ℕ)) → own ≡ Some version → (rules.conflict ≡ Command) × IsNeither v → answer_over answer own ≡ Some to → IsNamed rules answer side v version to
answer_named rules None own side v version to here names is = nothing to is
answer_named rules (Some m) None side v version to here names is = missing None version refl here
answer_named rules (Some m) (Some x) side v version to here names is = at (bytes_eq m x) is
  where
    at : (p : Bool) → cond p None (Some (Some m)) ≡ Some to → IsNamed rules (Some m) side v version to
    at true none = nothing to none
    at false one = inr (names.1, inr (names.0, let same : Some m ≡ to = cc in (m, refl, sym same)))

step_named : (rules : Rules) (step : Step) (due : Due) (answer : Option (List ℕ)) (side : Side) (v : Versions) (version : List ℕ) (to : Option (List ℕ)) → Names rules.conflict step v → Fits step due v → on_side side v ≡ Some version → written step answer side v ≡ Some to → IsNamed rules answer side v version to
step_named rules Forget due answer side v version to names fits here is = nothing to is
step_named rules Keep due answer side v version to names fits here is = nothing to is
step_named rules (CopyTo A) due answer A v version to names (x, at_x, none, theirs) here is = missing v.a version none here
step_named rules (CopyTo A) due answer B v version to names fits here is = nothing to is
step_named rules (CopyTo B) due answer A v version to names fits here is = nothing to is
step_named rules (CopyTo B) due answer B v version to names (x, at_x, none, theirs) here is = missing v.b version none here
step_named rules (WriteOver A) due answer A v version to names fits here is = over_named rules answer A v version to here names is
step_named rules (WriteOver A) due answer B v version to names fits here is = nothing to is
step_named rules (WriteOver B) due answer A v version to names fits here is = nothing to is
step_named rules (WriteOver B) due answer B v version to names fits here is = over_named rules answer B v version to here names is
step_named rules (RemoveFrom A) due answer A v version to names fits here is = inl (sym names ∙ here)
step_named rules (RemoveFrom A) due answer B v version to names fits here is = nothing to is
step_named rules (RemoveFrom B) due answer A v version to names fits here is = nothing to is
step_named rules (RemoveFrom B) due answer B v version to names fits here is = inl (sym names ∙ here)
step_named rules HandOver due answer A v version to names fits here is = answer_named rules answer v.a A v version to here names is
step_named rules HandOver due answer B v version to names fits here is = answer_named rules answer v.b B v version to here names is
step_named rules Conflict due answer side v version to names fits here is = nothing to is
step_named rules (Held held) due answer side v version to names fits here is = nothing to is

pub overwrite_named : (rules : Rules) (answer : Option (List ℕ)) (side : Side) (v : Versions) (version : List ℕ) (to : Option (List ℕ)) → on_side side v ≡ Some version → written (step_of rules v) answer side v ≡ Some to → IsNamed rules answer side v version to
overwrite_named rules answer side v version to here is = step_named rules (step_of rules v) (due_of rules v) answer side v version to (step_names rules v) (verdict_fits rules v) here is

pub removal_named : (rules : Rules) (v : Versions) (side : Side) → step_of rules v ≡ RemoveFrom side → (on_side side v ≡ v.s) × (on_side (other_side side) v ≡ None)
removal_named rules v side is =
    let fits : Fits (RemoveFrom side) (due_of rules v) v = subst (λ (s : Step). Fits s (due_of rules v) v) is (verdict_fits rules v) in
    (subst (λ (s : Step). Names rules.conflict s v) is (step_names rules v), fits.2)

-- ---- read-only sides

clash : {T : Type 0} (p : Bool) → p ≡ false → p ≡ true → T
clash p off on = absurd (false≢true (sym off ∙ on))

or_true : (p : Bool) → (p || true) ≡ true
or_true true = refl
or_true false = refl

not_written : (rules : Rules) (step : Step) (answer : Option (List ℕ)) (side : Side) (v : Versions) → Allows rules step → is_read_only rules side ≡ true → written step answer side v ≡ None
not_written rules Forget answer side v allows on = refl
not_written rules Keep answer side v allows on = refl
not_written rules (CopyTo A) answer A v allows on = clash rules.a_read_only allows on
not_written rules (CopyTo A) answer B v allows on = refl
not_written rules (CopyTo B) answer A v allows on = refl
not_written rules (CopyTo B) answer B v allows on = clash rules.b_read_only allows on
not_written rules (WriteOver A) answer A v allows on = clash rules.a_read_only allows on
not_written rules (WriteOver A) answer B v allows on = refl
not_written rules (WriteOver B) answer A v allows on = refl
not_written rules (WriteOver B) answer B v allows on = clash rules.b_read_only allows on
not_written rules (RemoveFrom A) answer A v allows on = clash rules.a_read_only allows on
not_written rules (RemoveFrom A) answer B v allows on = refl
not_written rules (RemoveFrom B) answer A v allows on = refl
not_written rules (RemoveFrom B) answer B v allows on = clash rules.b_read_only allows on
not_written rules HandOver answer A v allows on = clash (rules.a_read_only || rules.b_read_only) allows (ap (λ (p : Bool). p || rules.b_read_only) on)
not_written rules HandOver answer B v allows on = clash (rules.a_read_only || rules.b_read_only) allows (ap (λ (p : Bool). rules.a_read_only || p) on ∙ or_true rules.a_read_only)
not_written rules Conflict answer side v allows on = refl
not_written rules (Held to) answer side v allows on = refl

pub never_written : (rules : Rules) (v : Versions) (answer : Option (List ℕ)) (side : Side) → is_read_only rules side ≡ true → written (step_of rules v) answer side v ≡ None
never_written rules v answer side on = not_written rules (step_of rules v) answer side v (step_allows rules v) on

-- ---- unsettled exactly where the step is open

open_if : (step : Step) (due : Due) (v : Versions) → Fits step due v → due ≡ Unsettled → IsOpen step
open_if Forget due v fits is = absurd (let h = fits.0 in cc)
open_if Keep due v fits is = absurd (let h = fits.1 in cc)
open_if (CopyTo side) due v fits is = absurd (let h = fits.1 in cc)
open_if (WriteOver side) due v fits is = absurd (let h = fits.1 in cc)
open_if (RemoveFrom side) due v fits is = absurd (let h = fits.0 in cc)
open_if HandOver due v fits is = tt
open_if Conflict due v fits is = tt
open_if (Held side) due v fits is = tt

unsettled_if : (step : Step) (due : Due) (v : Versions) → Fits step due v → IsOpen step → due ≡ Unsettled
unsettled_if Forget due v fits open_ = absurd open_
unsettled_if Keep due v fits open_ = absurd open_
unsettled_if (CopyTo side) due v fits open_ = absurd open_
unsettled_if (WriteOver side) due v fits open_ = absurd open_
unsettled_if (RemoveFrom side) due v fits open_ = absurd open_
unsettled_if HandOver due v fits open_ = fits
unsettled_if Conflict due v fits open_ = fits
unsettled_if (Held side) due v fits open_ = fits

pub unsettled_open : (rules : Rules) (v : Versions) → due_of rules v ≡ Unsettled → IsOpen (step_of rules v)
unsettled_open rules v is = open_if (step_of rules v) (due_of rules v) v (verdict_fits rules v) is

pub open_unsettled : (rules : Rules) (v : Versions) → IsOpen (step_of rules v) → due_of rules v ≡ Unsettled
open_unsettled rules v is = unsettled_if (step_of rules v) (due_of rules v) v (verdict_fits rules v) is
