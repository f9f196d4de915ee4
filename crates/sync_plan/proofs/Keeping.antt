-- A run keeps what an undisputed ident is due.
use Rattle.std.proofs.Common.{◌≡◌, ◌⊎◌, inl, inr, ℕ, List, [], ◌∷◌, Option, Some, None, Contains, refl, sym, ◌∙◌, ap, subst}
use Rattle.sync_plan.specs.declared.report.Side.{Side}
use Rattle.sync_plan.specs.declared.report.Side.TheVariants.{A, B}
use Rattle.sync_plan.specs.declared.rules.Rules.{Rules}
use Rattle.sync_plan.specs.declared.dues.Step.{Step}
use Rattle.sync_plan.specs.declared.dues.Step.TheVariants.{Forget, Keep, CopyTo, WriteOver, RemoveFrom, HandOver, Conflict, Held}
use Rattle.sync_plan.specs.Verdicts.{Versions, Due, Gone, At, Unsettled, other_side, due_of, step_of, version_of, IsSettled, IsUndisputed}
use Rattle.sync_plan.specs.JobSteps.{on_side, all_at, if_on, written, SideStep, IsWas, StatusStep, IdentStep, CleanStep, clean_by}
use Rattle.sync_plan.specs.Stories.{Run, IsStory}
use Rattle.sync_plan.proofs.Facts.{versions, Fits, verdict_fits, due_at, settled_due, IsQuiet, settled_step}

-- what a settled step writes is what the ident is due; the other side has it already, and is not written
pub record Settles (due : Due) (new other : Option (List ℕ)) (over_there : Option (Option (List ℕ))) : Type 0 where
  pub to : Option (List ℕ)
  pub is_due : due ≡ due_at to
  pub here : new ≡ to
  pub there : other ≡ to
  pub alone : over_there ≡ None

put_settles : (due : Due) (x : List ℕ) (new : Option (List ℕ)) (v : Versions) (to side : Side) → due ≡ At x → on_side (other_side to) v ≡ Some x → if_on to side (Some (on_side (other_side side) v)) ≡ Some new → Settles due new (on_side (other_side side) v) (if_on to (other_side side) (Some (on_side (other_side (other_side side)) v)))
put_settles due x new v A A is stands e = record { to = Some x; is_due = is; here = cc; there = stands; alone = refl }
put_settles due x new v B B is stands e = record { to = Some x; is_due = is; here = cc; there = stands; alone = refl }
put_settles due x new v A B is stands e = absurd (cc)
put_settles due x new v B A is stands e = absurd (cc)

removal_settles : (due : Due) (new : Option (List ℕ)) (v : Versions) (from side : Side) → due ≡ Gone → on_side (other_side from) v ≡ None → if_on from side (Some None) ≡ Some new → Settles due new (on_side (other_side side) v) (if_on from (other_side side) (Some None))
removal_settles due new v A A is stands e = record { to = None; is_due = is; here = cc; there = stands; alone = refl }
removal_settles due new v B B is stands e = record { to = None; is_due = is; here = cc; there = stands; alone = refl }
removal_settles due new v A B is stands e = absurd (cc)
removal_settles due new v B A is stands e = absurd (cc)

no_settled : {T : Type 0} (due : Due) → due ≡ Unsettled → IsSettled due → T
no_settled due is settled = absurd (subst (λ (d : Due). IsSettled d) is settled)

pub written_settles : (step : Step) (due : Due) (answer new : Option (List ℕ)) (side : Side) (v : Versions) → Fits step due v → IsSettled due → written step answer side v ≡ Some new → Settles due new (on_side (other_side side) v) (written step answer (other_side side) v)
written_settles Forget due answer new side v fits settled e = absurd (cc)
written_settles Keep due answer new side v fits settled e = absurd (cc)
written_settles (CopyTo to) due answer new side v fits settled e = put_settles due fits.0 new v to side fits.1 fits.3 e
written_settles (WriteOver to) due answer new side v fits settled e = put_settles due fits.0 new v to side fits.1 fits.3 e
written_settles (RemoveFrom from) due answer new side v fits settled e = removal_settles due new v from side fits.0 fits.2 e
written_settles HandOver due answer new side v fits settled e = no_settled due fits settled
written_settles Conflict due answer new side v fits settled e = no_settled due fits settled
written_settles (Held to) due answer new side v fits settled e = no_settled due fits settled

-- after the writes of an undisputed ident the sides are as before, or both are at its due
abbrev pub Ends : Due → Versions → Option (List ℕ) → Option (List ℕ) → Type 0
Ends due old a b = ((a ≡ old.a) × (b ≡ old.b)) ⊎ ((to : Option (List ℕ)) × (due ≡ due_at to) × (a ≡ to) × (b ≡ to))

pub sides_end : (rules : Rules) (answer : Option (List ℕ)) (old : Versions) (a b : Option (List ℕ)) → IsUndisputed rules old → SideStep (step_of rules old) answer A old a → SideStep (step_of rules old) answer B old b → Ends (due_of rules old) old a b
sides_end rules answer old a b undisputed (inl same_a) (inl same_b) = inl (same_a, same_b)
sides_end rules answer old a b undisputed (inr put) (inl same_b) =
    let e = written_settles (step_of rules old) (due_of rules old) answer a A old (verdict_fits rules old) undisputed put in
    inr (e.to, e.is_due, e.here, same_b ∙ e.there)
sides_end rules answer old a b undisputed (inl same_a) (inr put) =
    let e = written_settles (step_of rules old) (due_of rules old) answer b B old (verdict_fits rules old) undisputed put in
    inr (e.to, e.is_due, same_a ∙ e.there, e.here)
sides_end rules answer old a b undisputed (inr put) (inr also) =
    let e = written_settles (step_of rules old) (due_of rules old) answer a A old (verdict_fits rules old) undisputed put in
    absurd (let clash : None ≡ Some b = sym e.alone ∙ also in cc)

-- with the row as before, the due stays
pub sides_keep : (rules : Rules) (answer : Option (List ℕ)) (old : Versions) (a b : Option (List ℕ)) → IsUndisputed rules old → SideStep (step_of rules old) answer A old a → SideStep (step_of rules old) answer B old b → due_of rules (versions a b old.s) ≡ due_of rules old
sides_keep rules answer old a b undisputed step_a step_b = at (sides_end rules answer old a b undisputed step_a step_b)
  where
    at : Ends (due_of rules old) old a b → due_of rules (versions a b old.s) ≡ due_of rules old
    at (inl (same_a, same_b)) = ap (λ (o : Option (List ℕ)). due_of rules (versions o b old.s)) same_a ∙ ap (λ (o : Option (List ℕ)). due_of rules (versions old.a o old.s)) same_b
    at (inr (to, is, at_a, at_b)) = ap (λ (o : Option (List ℕ)). due_of rules (versions o b old.s)) at_a ∙ (ap (λ (o : Option (List ℕ)). due_of rules (versions to o old.s)) at_b ∙ (settled_due rules to old.s ∙ sym is))

was_step : (rules : Rules) (answer : Option (List ℕ)) (side : Side) (old : Versions) (after was : Option (List ℕ)) → SideStep (step_of rules old) answer side old after → IsWas (on_side side old) after was → SideStep (step_of rules old) answer side old was
was_step rules answer side old after was step (inl before) = inl before
was_step rules answer side old after was step (inr at_end) = subst (λ (o : Option (List ℕ)). SideStep (step_of rules old) answer side old o) (sym at_end) step

held_unsettled : (rules : Rules) (v : Versions) (side : Side) → step_of rules v ≡ Held side → due_of rules v ≡ Unsettled
held_unsettled rules v side is = subst (λ (step : Step). Fits step (due_of rules v) v) is (verdict_fits rules v)

pub ident_keeps : (rules : Rules) (old new : Versions) (Wrote_a Wrote_b : Type 0) → IdentStep rules old new Wrote_a Wrote_b → IsUndisputed rules old → due_of rules new ≡ due_of rules old
ident_keeps rules old new Wrote_a Wrote_b step undisputed = at step.row
  where
    kept : due_of rules (versions new.a new.b old.s) ≡ due_of rules old
    kept = sides_keep rules step.answer old new.a new.b undisputed step.side_a step.side_b

    at_both : (s : Option (List ℕ)) → due_of rules (versions new.a new.b s) ≡ due_of rules (versions new.a new.b s)
    at_both s = refl

    both : (s : Option (List ℕ)) → (new.a ≡ new.s) → (new.b ≡ new.s) → due_of rules (versions new.a new.b s) ≡ due_at new.s
    both s is_a is_b = ap (λ (o : Option (List ℕ)). due_of rules (versions o new.b s)) is_a ∙ (ap (λ (o : Option (List ℕ)). due_of rules (versions new.s o s)) is_b ∙ settled_due rules new.s s)

    at : StatusStep rules old new → due_of rules new ≡ due_of rules old
    at (inl same) = ap (λ (o : Option (List ℕ)). due_of rules (versions new.a new.b o)) same ∙ kept
    at (inr (inl (is_a, is_b))) = both new.s is_a is_b ∙ (sym (both old.s is_a is_b) ∙ kept)
    at (inr (inr held)) =
        let m = held.moment in
        let step_a = was_step rules step.answer A old new.a m.a step.side_a held.was_a in
        let step_b = was_step rules step.answer B old new.b m.b step.side_b held.was_b in
        let same : due_of rules (versions m.a m.b old.s) ≡ due_of rules old = sides_keep rules step.answer old m.a m.b undisputed step_a step_b in
        let here : due_of rules m ≡ due_of rules (versions m.a m.b old.s) = ap (λ (o : Option (List ℕ)). due_of rules (versions m.a m.b o)) held.same_row in
        no_settled (due_of rules old) (sym (here ∙ same) ∙ held_unsettled rules m held.side held.is_held) undisputed

pub undisputed_along : (rules : Rules) (old new : Versions) → due_of rules new ≡ due_of rules old → IsUndisputed rules old → IsUndisputed rules new
undisputed_along rules old new same undisputed = subst (λ (d : Due). IsSettled d) (sym same) undisputed

-- along a list of runs
pub story_keeps : (rules : Rules) (ident : List ℕ) (first : List ℕ → Versions) (runs : List Run) (last : List ℕ → Versions) → IsUndisputed rules (first ident) → IsStory rules ident first runs last → due_of rules (last ident) ≡ due_of rules (first ident)
story_keeps rules ident first [] last undisputed same = ap (λ (v : Versions). due_of rules v) (sym same)
story_keeps rules ident first (run ∷ runs) last undisputed (same, untouched, step, rest) =
    let before : due_of rules (run.before ident) ≡ due_of rules (first ident) = ap (λ (v : Versions). due_of rules v) (sym same) in
    let still = undisputed_along rules (first ident) (run.before ident) before undisputed in
    let over : due_of rules (run.after ident) ≡ due_of rules (run.before ident) = ident_keeps rules (run.before ident) (run.after ident) (Contains run.writes_a ident) (Contains run.writes_b ident) (step.each ident untouched) still in
    let after = undisputed_along rules (run.before ident) (run.after ident) over still in
    story_keeps rules ident run.after runs last after rest ∙ (over ∙ before)

pub clean_settled : (rules : Rules) (answer : Option (List ℕ)) (due : Due) (step : Step) (v : Versions) → IsSettled due → clean_by rules answer due step v ≡ all_at (version_of due)
clean_settled rules answer Gone step v settled = refl
clean_settled rules answer (At version) step v settled = refl
clean_settled rules answer Unsettled step v settled = absurd settled

pub clean_ends : (rules : Rules) (ident : List ℕ) (last after : List ℕ → Versions) → CleanStep rules last after → IsUndisputed rules (last ident) → after ident ≡ all_at (version_of (due_of rules (last ident)))
clean_ends rules ident last after clean undisputed = clean.each ident ∙ clean_settled rules (clean.answers ident) (due_of rules (last ident)) (step_of rules (last ident)) (last ident) undisputed

pub quiet_writes : (step : Step) (answer to : Option (List ℕ)) (side : Side) (v : Versions) → IsQuiet step → written step answer side v ≡ Some to → ⊥
quiet_writes Forget answer to side v quiet e = cc
quiet_writes Keep answer to side v quiet e = cc
quiet_writes (CopyTo x) answer to side v quiet e = quiet
quiet_writes (WriteOver x) answer to side v quiet e = quiet
quiet_writes (RemoveFrom x) answer to side v quiet e = quiet
quiet_writes HandOver answer to side v quiet e = quiet
quiet_writes Conflict answer to side v quiet e = quiet
quiet_writes (Held x) answer to side v quiet e = quiet

pub settled_writes : (rules : Rules) (o : Option (List ℕ)) (v : Versions) → v ≡ all_at o → (answer to : Option (List ℕ)) (side : Side) → written (step_of rules v) answer side v ≡ Some to → ⊥
settled_writes rules o v is answer to side e = quiet_writes (step_of rules v) answer to side v (subst (λ (w : Versions). IsQuiet (step_of rules w)) (sym is) (settled_step rules o o)) e
