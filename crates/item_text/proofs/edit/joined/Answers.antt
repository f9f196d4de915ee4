use Rattle.std.proofs.Common.{◌∙◌, ◌++◌, ap, sym, List, ℕ}
use Rattle.item_text.proofs.EditSteps.{joined_lent, no_mark}
use Rattle.item_text.proofs.edit.joined.Goals as goal

pub returns : goal.returns
returns c =
    c.in_ok-push_str.ensures.bytes
    ∙ (ap (λ (xs : List ℕ). xs ++ c.as_str.result.now) c.in_ok-text.ensures.ok ∙ ap (λ (xs : List ℕ). c.args.mark.now ++ xs) (c.as_str.ensures.value ∙ (c.in_ok-body.ensures.ok ∙ joined_lent c.args.parts.now)))

pub returns-then-is_empty : goal.returns-then-is_empty
returns-then-is_empty c = c.in_ok-body.ensures.ok ∙ (joined_lent c.args.parts.now ∙ no_mark c.args.mark.now _ (sym c.is_empty.ensures ∙ c.if-is_empty.true))
