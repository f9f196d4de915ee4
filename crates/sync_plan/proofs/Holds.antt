-- What a read-only side holds back.
use Rattle.std.proofs.Common.{◌≡◌, cond, refl, sym, ◌∙◌, subst}
use Rattle.sync_plan.specs.declared.report.Side.{Side}
use Rattle.sync_plan.specs.declared.rules.Rules.{Rules}
use Rattle.sync_plan.specs.declared.dues.Step.{Step}
use Rattle.sync_plan.specs.declared.dues.Step.TheVariants.{CopyTo, WriteOver, RemoveFrom, Held}
use Rattle.sync_plan.specs.declared.table.Verdict as both
use Rattle.sync_plan.specs.Verdicts.{Due, Unsettled, verdict, is_read_only, hold, held, due_in, verdict_in}

-- a step that is held where the side is read-only
abbrev IsHeldOn : Rules → Side → Due → Step → Type 0
IsHeldOn rules side due step = cond (is_read_only rules side) (verdict Unsettled (Held side)) (verdict due step) ≡ hold rules due step

pub copy_held : (rules : Rules) (side : Side) (v r : both.Verdict) → v.step ≡ CopyTo side → verdict_in r ≡ cond (is_read_only rules side) (verdict Unsettled (Held side)) (verdict_in v) → verdict_in r ≡ held rules (verdict_in v)
copy_held rules side v r is e = e ∙ subst (λ (s : Step). IsHeldOn rules side (due_in v.due) s) (sym is) refl

pub write_held : (rules : Rules) (side : Side) (v r : both.Verdict) → v.step ≡ WriteOver side → verdict_in r ≡ cond (is_read_only rules side) (verdict Unsettled (Held side)) (verdict_in v) → verdict_in r ≡ held rules (verdict_in v)
write_held rules side v r is e = e ∙ subst (λ (s : Step). IsHeldOn rules side (due_in v.due) s) (sym is) refl

pub removal_held : (rules : Rules) (side : Side) (v r : both.Verdict) → v.step ≡ RemoveFrom side → verdict_in r ≡ cond (is_read_only rules side) (verdict Unsettled (Held side)) (verdict_in v) → verdict_in r ≡ held rules (verdict_in v)
removal_held rules side v r is e = e ∙ subst (λ (s : Step). IsHeldOn rules side (due_in v.due) s) (sym is) refl
