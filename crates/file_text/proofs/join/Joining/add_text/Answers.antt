use Rattle.std.proofs.Common.{◌≡◌, ◌⊎◌, inl, inr, Option, Some, None, ◌++◌, ◌∷◌, [], List, ap, ◌∙◌, subst, arith}
use Rattle.item_text.specs.Components.{Before}
use Rattle.item_text.specs.declared.item.ItemError.{ItemError}
use Rattle.item_text.specs.declared.item.ItemError.TheVariants.{NoMemory}
use Rattle.item_text.proofs.Edited.{is_item}
use Rattle.item_text.proofs.Readings.{body_short, body_lines}
use Rattle.file_text.specs.Joining.{IsJoining}
use Rattle.file_text.specs.Joins.{item_marks}
use Rattle.file_text.specs.Marks.{marks_from, refusal_from}
use Rattle.item_text.specs.Seen.{count_of}
use Rattle.file_text.proofs.ItemFiles.{item_fine}
use Rattle.file_text.specs.declared.marks.Mark.{Mark}
use Rattle.file_text.proofs.join.Joining.add_text.Goals as goal

pub marks_of-requires : goal.marks_of-requires
marks_of-requires c = omega (arith, c.of.ensures.size, (is_item _ _ c.requires.1).short, body_short c.args.text.now _ c.without_mark.ensures)

pub returns-clause-ok : goal.returns-clause-ok
unfolding item_marks
returns-clause-ok c = λ items is.
    let told = c.in-Ok.ensures.ok in
    subst (λ (m : List Mark). IsJoining c.add.new.self (items ++ m ∷ [])) (c.deref.ensures.value ∙ (told.1 ∙ ap (marks_from Before) (c.of.ensures.left ∙ body_lines c.args.text.now _ c.without_mark.ensures))) (c.in-Ok-add.ensures items is)

no_refusal : {refusal : Option ItemError} (error : ItemError) → refusal ≡ None → (error ≡ NoMemory) ⊎ (refusal ≡ Some error) → error ≡ NoMemory
no_refusal error none (inl h) = h
no_refusal error none (inr h) = absurd (cc)

pub returns-in-Err-clause-err : goal.returns-in-Err-clause-err
returns-in-Err-clause-err c =
    let all = c.of.ensures.left ∙ body_lines c.args.text.now _ c.without_mark.ensures in
    no_refusal c.in-Err.error (ap (refusal_from (count_of c.of.result) Before) all ∙ item_fine (count_of c.of.result) c.args.text.now c.requires.0 c.requires.1) c.in-Err.ensures.err
