-- A clean run is a run.
use Rattle.std.proofs.Common.{◌≡◌, ◌⊎◌, inl, inr, ℕ, Bool, true, false, cond, List, Option, Some, None, Contains, refl, sym, ◌∙◌, ap, subst}
use Rattle.std.specs.Str.{bytes_eq}
use Rattle.std.proofs.lemmas.Slice.Eq.{bytes_eq-Decides}
use Rattle.sync_plan.specs.declared.report.Side.{Side}
use Rattle.sync_plan.specs.declared.report.Side.TheVariants.{A, B}
use Rattle.sync_plan.specs.declared.rules.Partial.{Partial}
use Rattle.sync_plan.specs.declared.rules.Partial.TheVariants.{Error, Ignore, Revert}
use Rattle.sync_plan.specs.declared.rules.Rules.{Rules}
use Rattle.sync_plan.specs.declared.dues.Step.{Step}
use Rattle.sync_plan.specs.declared.dues.Step.TheVariants.{Forget, Keep, CopyTo, WriteOver, RemoveFrom, HandOver, Conflict, Held}
use Rattle.sync_plan.specs.Verdicts.{Versions, Due, Gone, At, Unsettled, other_side, due_of, step_of, version_of, IsSettled}
use Rattle.sync_plan.specs.JobSteps.{on_side, written, answer_over, SideStep, StatusStep, IsPutOn, CleanStep, clean_by, held_row, answered, unsettled_after}
use Rattle.sync_plan.specs.Stories.{Run, IsRun}
use Rattle.sync_plan.proofs.Facts.{Fits, verdict_fits}

-- each side gets the due, or has it
settled_sides : (step : Step) (due : Due) (answer : Option (List ℕ)) (v : Versions) → Fits step due v → IsSettled due → SideStep step answer A v (version_of due) × SideStep step answer B v (version_of due)
settled_sides Forget due answer v fits settled = let e : version_of due ≡ None = ap version_of fits.0 in (inl (e ∙ sym fits.1), inl (e ∙ sym fits.2))
settled_sides Keep due answer v fits settled = let e : version_of due ≡ Some fits.0 = ap version_of fits.1 in (inl (e ∙ sym fits.2), inl (e ∙ sym fits.3))
settled_sides (CopyTo A) due answer v fits settled = let e : version_of due ≡ Some fits.0 = ap version_of fits.1 in (inr (ap Some (fits.3 ∙ sym e)), inl (e ∙ sym fits.3))
settled_sides (CopyTo B) due answer v fits settled = let e : version_of due ≡ Some fits.0 = ap version_of fits.1 in (inl (e ∙ sym fits.3), inr (ap Some (fits.3 ∙ sym e)))
settled_sides (WriteOver A) due answer v fits settled = let e : version_of due ≡ Some fits.0 = ap version_of fits.1 in (inr (ap Some (fits.3 ∙ sym e)), inl (e ∙ sym fits.3))
settled_sides (WriteOver B) due answer v fits settled = let e : version_of due ≡ Some fits.0 = ap version_of fits.1 in (inl (e ∙ sym fits.3), inr (ap Some (fits.3 ∙ sym e)))
settled_sides (RemoveFrom A) due answer v fits settled = let e : version_of due ≡ None = ap version_of fits.0 in (inr (ap Some (sym e)), inl (e ∙ sym fits.2))
settled_sides (RemoveFrom B) due answer v fits settled = let e : version_of due ≡ None = ap version_of fits.0 in (inl (e ∙ sym fits.2), inr (ap Some (sym e)))
settled_sides HandOver due answer v fits settled = absurd (subst (λ (d : Due). IsSettled d) fits settled)
settled_sides Conflict due answer v fits settled = absurd (subst (λ (d : Due). IsSettled d) fits settled)
settled_sides (Held side) due answer v fits settled = absurd (subst (λ (d : Due). IsSettled d) fits settled)

-- what a step may leave of an ident, whoever wrote
abbrev Leaves : Rules → Step → Option (List ℕ) → Versions → Versions → Type 0
Leaves rules step answer v n = SideStep step answer A v n.a × SideStep step answer B v n.b × StatusStep rules v n

answer_goes : (m : List ℕ) (own : Option (List ℕ)) → (Some m ≡ own) ⊎ (answer_over (Some m) own ≡ Some (Some m))
answer_goes m None = inr refl
answer_goes m (Some v) = at (bytes_eq m v) (bytes_eq-Decides m v).0
  where
    at : (p : Bool) → (p ≡ true → m ≡ v) → (Some m ≡ Some v) ⊎ (cond p None (Some (Some m)) ≡ Some (Some m))
    at true same = inl (ap Some (same refl))
    at false same = inr refl

same_all : (rules : Rules) (step : Step) (answer : Option (List ℕ)) (v : Versions) → Leaves rules step answer v v
same_all rules step answer v = (inl refl, inl refl, inl refl)

held_leaves : (rules : Rules) (partial : Partial) (side : Side) (answer : Option (List ℕ)) (v : Versions) → rules.partial ≡ partial → step_of rules v ≡ Held side → Leaves rules (Held side) answer v (held_row partial side v)
held_leaves rules Error side answer v how is = same_all rules (Held side) answer v
held_leaves rules Ignore side answer v how is = same_all rules (Held side) answer v
held_leaves rules Revert side answer v how is = (inl refl, inl refl, inr (inr (record { moment = v; was_a = inl refl; was_b = inl refl; same_row = refl; side = side; is_held = is; is_revert = how; row = refl })))

answered_leaves : (rules : Rules) (answer : Option (List ℕ)) (v : Versions) → Leaves rules HandOver answer v (answered answer v)
answered_leaves rules None v = same_all rules HandOver None v
answered_leaves rules (Some m) v = (answer_goes m v.a, answer_goes m v.b, inr (inl (refl, refl)))

unsettled_leaves : (rules : Rules) (step : Step) (answer : Option (List ℕ)) (v : Versions) → step_of rules v ≡ step → Leaves rules step answer v (unsettled_after rules answer step v)
unsettled_leaves rules (Held side) answer v is = held_leaves rules rules.partial side answer v refl is
unsettled_leaves rules HandOver answer v is = answered_leaves rules answer v
unsettled_leaves rules Conflict answer v is = same_all rules Conflict answer v
unsettled_leaves rules Forget answer v is = same_all rules Forget answer v
unsettled_leaves rules Keep answer v is = same_all rules Keep answer v
unsettled_leaves rules (CopyTo side) answer v is = same_all rules (CopyTo side) answer v
unsettled_leaves rules (WriteOver side) answer v is = same_all rules (WriteOver side) answer v
unsettled_leaves rules (RemoveFrom side) answer v is = same_all rules (RemoveFrom side) answer v

clean_leaves : (rules : Rules) (answer : Option (List ℕ)) (due : Due) (step : Step) (v : Versions) → Fits step due v → step_of rules v ≡ step → Leaves rules step answer v (clean_by rules answer due step v)
clean_leaves rules answer Gone step v fits is = let s = settled_sides step Gone answer v fits tt in (s.0, s.1, inr (inl (refl, refl)))
clean_leaves rules answer (At x) step v fits is = let s = settled_sides step (At x) answer v fits tt in (s.0, s.1, inr (inl (refl, refl)))
clean_leaves rules answer Unsettled step v fits is = unsettled_leaves rules step answer v is

-- what is to be put on a side is there after a clean run
put_leaves : (rules : Rules) (answer : Option (List ℕ)) (due : Due) (step : Step) (v : Versions) (side : Side) → Fits step due v → IsPutOn side step → on_side side (clean_by rules answer due step v) ≡ on_side (other_side side) v
put_leaves rules answer due step v side fits (inl is) = let f : Fits (CopyTo side) due v = subst (λ (s : Step). Fits s due v) is fits in at side f.0 f.1 f.3
  where
    at : (to : Side) (x : List ℕ) → due ≡ At x → on_side (other_side to) v ≡ Some x → on_side to (clean_by rules answer due step v) ≡ on_side (other_side to) v
    at A x is_due stands = subst (λ (d : Due). on_side A (clean_by rules answer d step v) ≡ v.b) (sym is_due) (sym stands)
    at B x is_due stands = subst (λ (d : Due). on_side B (clean_by rules answer d step v) ≡ v.a) (sym is_due) (sym stands)
put_leaves rules answer due step v side fits (inr is) = let f : Fits (WriteOver side) due v = subst (λ (s : Step). Fits s due v) is fits in at side f.0 f.1 f.3
  where
    at : (to : Side) (x : List ℕ) → due ≡ At x → on_side (other_side to) v ≡ Some x → on_side to (clean_by rules answer due step v) ≡ on_side (other_side to) v
    at A x is_due stands = subst (λ (d : Due). on_side A (clean_by rules answer d step v) ≡ v.b) (sym is_due) (sym stands)
    at B x is_due stands = subst (λ (d : Due). on_side B (clean_by rules answer d step v) ≡ v.a) (sym is_due) (sym stands)

pub clean_job : (rules : Rules) (run : Run) (clean : CleanStep rules run.before run.after) → ((ident : List ℕ) → Contains run.writes_a ident → (to : Option (List ℕ)) × (written (step_of rules (run.before ident)) (clean.answers ident) A (run.before ident) ≡ Some to)) → ((ident : List ℕ) → Contains run.writes_b ident → (to : Option (List ℕ)) × (written (step_of rules (run.before ident)) (clean.answers ident) B (run.before ident) ≡ Some to)) → IsRun rules run
clean_job rules run clean on_a on_b = record {
  each = λ ident untouched.
      let n : Leaves rules (step_of rules (run.before ident)) (clean.answers ident) (run.before ident) (run.after ident) = subst (λ (v : Versions). Leaves rules (step_of rules (run.before ident)) (clean.answers ident) (run.before ident) v) (sym (clean.each ident)) (clean_leaves rules (clean.answers ident) (due_of rules (run.before ident)) (step_of rules (run.before ident)) (run.before ident) (verdict_fits rules (run.before ident)) refl) in
      record { answer = clean.answers ident; side_a = n.0; side_b = n.1; wrote_a = on_a ident; wrote_b = on_b ident; row = n.2 };
  puts_first = λ side gone put quiet_gone removed quiet_put is_put.
      ap (λ (v : Versions). on_side side v) (clean.each put) ∙ put_leaves rules (clean.answers put) (due_of rules (run.before put)) (step_of rules (run.before put)) (run.before put) side (verdict_fits rules (run.before put)) is_put;
}
