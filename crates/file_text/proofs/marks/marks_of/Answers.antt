use Rattle.std.proofs.Common.{◌≡◌, [], None, inl, inr, sym, ◌∙◌, ap, List, ℕ}
use Rattle.item_text.specs.Components.{Before}
use Rattle.item_text.specs.Lines as spec
use Rattle.file_text.specs.Marks.{fault_of_end}
use Rattle.file_text.specs.Opened.{found_from, place_seen}
use Rattle.item_text.specs.Seen.{left_behind, count_of}
use Rattle.file_text.proofs.Marking.{ended, refused}
use Rattle.file_text.proofs.marks.marks_of.Goals as goal

pub returns-in-Err-clause-err : goal.returns-in-Err-clause-err
returns-in-Err-clause-err c =
    elim c.in-Err.ensures.err [
      | inl h ↦ inl h
      | inr h ↦ inr (refused _ _ Before (count_of c.args.lines) _ _ c.in-Err.error
          (ap (λ (ls : List spec.Line). (found_from c.loop-next.marking (count_of c.args.lines) ls).refusal) (rw c.in-Some.is at c.in-Ok.ensures.line) ∙ h (count_of c.args.lines) _)
          c.loop-next.invariant.0)
    ]

pub returns-in-Some-end_fault-clause-err : goal.returns-in-Some-end_fault-clause-err
returns-in-Some-end_fault-clause-err c =
    let none : left_behind None c.loop-next.lines ≡ [] = rw c.in_default-next.is at c.in-Ok.ensures.line in
    let still = rw c.in_default-next.is at c.in-Ok.ensures.shorter in
    let told = ended _ _ Before (count_of c.args.lines) _ _ none c.loop-next.invariant.0 in
    let number : c.count.result ≡ count_of c.args.lines = c.count.ensures (ap (left_behind None) still ∙ none) ∙ (c.in-Ok.ensures.count ∙ c.loop-next.invariant.2) in
    inr (told.0 ∙ (ap (λ (n : ℕ). fault_of_end n (place_seen c.loop-next.marking.opened)) (sym number) ∙ (sym c.end_fault.ensures ∙ c.in-Some-end_fault.is)))

pub returns-clause-ok : goal.returns-clause-ok
returns-clause-ok c =
    let none : left_behind None c.loop-next.lines ≡ [] = rw c.in_default-next.is at c.in-Ok.ensures.line in
    let still = rw c.in_default-next.is at c.in-Ok.ensures.shorter in
    let told = ended _ _ Before (count_of c.args.lines) _ _ none c.loop-next.invariant.0 in
    let number : c.count.result ≡ count_of c.args.lines = c.count.ensures (ap (left_behind None) still ∙ none) ∙ (c.in-Ok.ensures.count ∙ c.loop-next.invariant.2) in
    (told.0 ∙ (ap (λ (n : ℕ). fault_of_end n (place_seen c.loop-next.marking.opened)) (sym number) ∙ (sym c.end_fault.ensures ∙ c.in-None.is)), told.1)
