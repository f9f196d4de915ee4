use Rattle.std.proofs.Common.{inl, inr, ◌∙◌, arith}
use Rattle.item_text.proofs.Readings.{body_short, body_lines, body_count, text_refused, text_taken}
use Rattle.item_text.proofs.item.told_by_text.Goals as goal

pub told_by-requires : goal.told_by-requires
told_by-requires c = omega (arith, c.of.ensures.size, c.requires, body_short c.args.text.now _ c.without_mark.ensures)

pub returns-in-Ok-clause-ok : goal.returns-in-Ok-clause-ok
returns-in-Ok-clause-ok c =
    let told = c.in-Ok.ensures.ok in
    text_taken c.args.text.now _ _ _ _ _ (c.of.ensures.count ∙ body_count c.args.text.now _ c.without_mark.ensures) (c.of.ensures.left ∙ body_lines c.args.text.now _ c.without_mark.ensures) told.0 told.1.0 told.1.1 told.1.2

pub returns-clause-err : goal.returns-clause-err
returns-clause-err c =
    elim c.in-Err.ensures.err [
      | inl h ↦ inl h
      | inr h ↦ inr (text_refused c.args.text.now _ _ c.in-Err.error (c.of.ensures.count ∙ body_count c.args.text.now _ c.without_mark.ensures) (c.of.ensures.left ∙ body_lines c.args.text.now _ c.without_mark.ensures) h)
    ]
