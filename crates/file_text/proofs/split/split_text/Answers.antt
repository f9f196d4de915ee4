use Rattle.std.proofs.Common.{◌≡◌, ◌⊎◌, inl, inr, sym, ◌∙◌, ap, subst, arith, List, Ok, Err, IfOk, IfErr}
use Rattle.item_text.proofs.Readings.{body_short, body_lines, body_count}
use Rattle.item_text.specs.declared.item.ItemError.TheVariants.{NoMemory}
use Rattle.file_text.specs.Parts.{cut}
use Rattle.file_text.specs.Spans.{parts_at}
use Rattle.file_text.specs.declared.marks.Mark.{Mark}
use Rattle.file_text.specs.declared.parts.Level.TheVariants as level
use Rattle.file_text.proofs.Splitting.{Items, file_refused, file_taken}
use Rattle.file_text.proofs.split.split_text.Goals as goal

pub marks_of-requires : goal.marks_of-requires
marks_of-requires c = omega (arith, c.of.ensures.size, c.requires, body_short c.args.text.now _ c.without_mark.ensures)

pub returns-in-Err-clause-err : goal.returns-in-Err-clause-err
returns-in-Err-clause-err c =
    elim c.in-Err.ensures.err [
      | inl h ↦ inl h
      | inr h ↦ inr (file_refused c.args.text.now _ _ (c.of.ensures.count ∙ body_count c.args.text.now _ c.without_mark.ensures) (c.of.ensures.left ∙ body_lines c.args.text.now _ c.without_mark.ensures) c.in-Err.error h)
    ]

pub returns-clause-ok : goal.returns-clause-ok
returns-clause-ok c =
    let told = c.in-Ok.ensures.ok in
    let same =
    file_taken c.args.text.now _ _ (c.of.ensures.count ∙ body_count c.args.text.now _ c.without_mark.ensures) (c.of.ensures.left ∙ body_lines c.args.text.now _ c.without_mark.ensures) c.deref-2.result.now (parts_at c.deref-2.result.now c.deref-3.result.now)
    told.0 (c.deref-2.ensures.value ∙ told.1)
    (ap (parts_at c.deref-2.result.now) c.deref-3.ensures.value
    ∙ (ap (λ (lines : List Mark). parts_at lines c.in-Ok-cut.components.items) (c.deref-2.ensures.value ∙ sym c.deref.ensures.value)
    ∙ (c.in-Ok-cut.ensures ∙ ap (cut level.File) (c.deref.ensures.value ∙ sym c.deref-2.ensures.value)))) in
    subst (λ (r : Items). IfOk c.read_components.result (λ items. r ≡ Ok items.items)) same c.read_components.ensures.ok

pub returns-clause-err : goal.returns-clause-err
returns-clause-err c =
    let told = c.in-Ok.ensures.ok in
    let same =
    file_taken c.args.text.now _ _ (c.of.ensures.count ∙ body_count c.args.text.now _ c.without_mark.ensures) (c.of.ensures.left ∙ body_lines c.args.text.now _ c.without_mark.ensures) c.deref-2.result.now (parts_at c.deref-2.result.now c.deref-3.result.now)
    told.0 (c.deref-2.ensures.value ∙ told.1)
    (ap (parts_at c.deref-2.result.now) c.deref-3.ensures.value
    ∙ (ap (λ (lines : List Mark). parts_at lines c.in-Ok-cut.components.items) (c.deref-2.ensures.value ∙ sym c.deref.ensures.value)
    ∙ (c.in-Ok-cut.ensures ∙ ap (cut level.File) (c.deref.ensures.value ∙ sym c.deref-2.ensures.value)))) in
    subst (λ (r : Items). IfErr c.read_components.result (λ e. (e ≡ NoMemory) ⊎ (r ≡ Err e))) same c.read_components.ensures.err
