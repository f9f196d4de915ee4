use Rattle.std.proofs.Common.{ℕ, List, [], ◌∷◌, ◌++◌, take, drop, ap, ◌∙◌, rules}
use Rattle.file_text.proofs.Writing.{writes_more, writes_end}
use Rattle.file_text.proofs.folds.push_folded.Goals as goal

pub loop-most-preserved : goal.loop-most-preserved
loop-most-preserved c =
    let rest : List ℕ = c.loop-most.rest.now in (
      search rules,
      writes_more _ _ _ _ _ _ _ _ c.loop-most.invariant.1 c.loop-most-test.true
          (c.split_at.ensures.front ∙ ap (λ (n : ℕ). take n rest) c.fitting.ensures.count)
          (c.split_at.ensures.back ∙ ap (λ (n : ℕ). drop n rest) c.fitting.ensures.count)
          (c.in_ok-push_str-2.ensures.bytes ∙ ap (λ (xs : List ℕ). xs ++ (13 ∷ 10 ∷ 32 ∷ [])) c.in_ok-push_str.ensures.bytes),
    )

pub returns : goal.returns
returns c = writes_end _ _ _ _ _ _ _ _ c.loop-most.invariant.1 c.loop-most-test.false c.in_ok-push_str-3.ensures.bytes c.push_str-3.ensures.bytes
