use Rattle.std.proofs.Common.{inl, inr, ◌∙◌, ap, sym, Option, Some, None, List, ℕ, is_some}
use Rattle.std.specs.Option.{unwrap_or}
use Rattle.hex.specs.Hex.{encode_lower}
use Rattle.item_text.specs.Components.{placed}
use Rattle.item_text.specs.Items.{uid_among}
use Rattle.item_text.specs.Refusals.{refusal_of}
use Rattle.item_text.specs.Seen.{left_behind, count_of}
use Rattle.item_text.proofs.Readings.{refused_early, refused_at_end, refused_by_children, uid_told, version_told, some_lent}
use Rattle.item_text.proofs.item.told_by.Goals as goal

pub returns-in-Err-clause-err : goal.returns-in-Err-clause-err
returns-in-Err-clause-err c = elim c.in-Err.ensures.err [ inl h ↦ inl h | inr h ↦ inr (refused_early (count_of c.args.lines) _ c.in-Err.error h) ]

pub returns-in-Some-clause-err : goal.returns-in-Some-clause-err
returns-in-Some-clause-err c =
    inr (ap (λ (n : ℕ). refusal_of n (left_behind None c.args.lines)) (sym (c.count.ensures c.in-Ok.ensures.all ∙ c.in-Ok.ensures.count))
    ∙ refused_at_end _ _ _ _ _ _ c.in-Ok.ensures.ok c.count.result c.in-Some.error (sym c.end_fault.ensures ∙ c.in-Some.is))

pub returns-in-Ok-Some-clause-err : goal.returns-in-Ok-Some-clause-err
returns-in-Ok-Some-clause-err c =
    inr (ap (λ (n : ℕ). refusal_of n (left_behind None c.args.lines)) (sym (c.count.ensures c.in-Ok.ensures.all ∙ c.in-Ok.ensures.count))
    ∙ refused_by_children _ _ _ _ _ _ c.in-Ok.ensures.ok c.count.result (Some c.in-Ok-Some.error) (sym c.end_fault.ensures ∙ c.in_default.is) (sym c.in-Ok-Some.field-0-is ∙ c.in-Ok-Some.ensures))

pub returns-clause-ok : goal.returns-clause-ok
returns-clause-ok c =
    let uid = uid_told _ _ _ _ _ _ c.in-Ok.ensures.ok in
    let version = c.fingerprint-version.ensures ∙ version_told _ _ _ _ _ _ c.in-Ok.ensures.ok in (
      ap (λ (n : ℕ). refusal_of n (left_behind None c.args.lines)) (sym (c.count.ensures c.in-Ok.ensures.all ∙ c.in-Ok.ensures.count))
          ∙ refused_by_children _ _ _ _ _ _ c.in-Ok.ensures.ok c.count.result None (sym c.end_fault.ensures ∙ c.in_default.is) (sym c.in-Ok-None.field-0-is ∙ c.in-Ok-None.ensures),
      (
        c.in-Ok-ident_of.ensures
            ∙ (ap (λ (u : Option (List ℕ)). unwrap_or u (encode_lower c.fingerprint-version.result.0)) uid ∙ ap (λ (v : List ℕ). unwrap_or (uid_among (placed (left_behind None c.args.lines))) (encode_lower v)) version),
        c.is_some.ensures ∙ (some_lent c.in-Ok.walk.uid ∙ ap is_some uid),
        version,
      ),
    )
