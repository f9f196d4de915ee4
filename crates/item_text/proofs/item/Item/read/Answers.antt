use Rattle.std.proofs.Common.{inl, inr, ◌∙◌, ap, sym, ℕ, Err, arith}
use Rattle.item_text.specs.Items.{item_of_text}
use Rattle.item_text.specs.declared.item.ItemError.{ItemError}
use Rattle.item_text.specs.declared.item.ItemError.TheVariants.{NotUtf8}
use Rattle.item_text.proofs.Readings.{read_text, read_other, read_taken, item_taken}
use Rattle.item_text.proofs.item.Item.read.Goals as goal

pub returns-in-Err-clause-answer : goal.returns-in-Err-clause-answer
returns-in-Err-clause-answer c =
    inr (ap (λ (n : ℕ). Err (NotUtf8 n)) (c.valid_up_to.ensures ∙ c.in-Err.ensures.valid_len) ∙ sym (read_other c.args.text.now (omega arith) c.in-Err.ensures.cases.0))

pub returns-in-Err-told_by_text-clause-answer : goal.returns-in-Err-told_by_text-clause-answer
returns-in-Err-told_by_text-clause-answer c =
    elim c.in-Err-told_by_text.ensures.err [
      | inl h ↦ inl (ap (λ (e : ItemError). Err e) h)
      | inr h ↦ inr (sym (read_text c.args.text.now (omega arith) c.in-Ok.ensures.cases.1 ∙ (ap item_of_text (sym c.in-Ok.ensures.cases.0) ∙ h)))
    ]

pub invariant_of-result : goal.invariant_of-result
invariant_of-result c =
    item_taken c.args.text.now _ _ _ _ _ (omega arith) c.in-Ok.ensures.cases.0 c.in-Ok.ensures.cases.1 c.in-Ok-told_by_text.ensures.ok c.in-Ok-copy_of.ensures

pub returns-clause-answer : goal.returns-clause-answer
returns-clause-answer c =
    inr (sym (read_taken c.args.text.now _ _ _ _ _ (omega arith) c.in-Ok.ensures.cases.0 c.in-Ok.ensures.cases.1 c.in-Ok-told_by_text.ensures.ok c.in-Ok-copy_of.ensures))

pub returns-clause-kept : goal.returns-clause-kept
returns-clause-kept c = (
  c.in-Ok-copy_of.ensures ∙ c.in-Ok.ensures.cases.0,
  item_taken c.args.text.now _ _ _ _ _ (omega arith) c.in-Ok.ensures.cases.0 c.in-Ok.ensures.cases.1 c.in-Ok-told_by_text.ensures.ok c.in-Ok-copy_of.ensures,
)
