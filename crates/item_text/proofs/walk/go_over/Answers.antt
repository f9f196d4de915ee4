use Rattle.std.proofs.Common.{inl, inr, ◌∙◌, ap, sym, List}
use Rattle.item_text.specs.Lines as spec
use Rattle.item_text.specs.Refusals.{first_of}
use Rattle.item_text.specs.Seen.{line_seen}
use Rattle.item_text.specs.Walks.{Found, found_from}
use Rattle.item_text.proofs.Steps.{fault_seen}
use Rattle.item_text.proofs.walk.go_over.Goals as goal

pub returns-in-Err-clause-err : goal.returns-in-Err-clause-err
returns-in-Err-clause-err c =
    elim c.in-Err.ensures.err [
      | inl h ↦ inl h
      | inr h ↦ inr (ap (λ (f : Found). first_of f.faults) (sym c.loop-next.invariant.1)
          ∙ (ap (λ (ls : List spec.Line). first_of (found_from c.loop-next.walk ls).faults) (rw c.in-Some.is at c.in-Ok.ensures.line) ∙ fault_seen (line_seen c.in-Some.line) _ _ _ _ _ _ c.in-Err.error h))
    ]
