use Rattle.std.proofs.Common.{◌≡◌, ℕ, List, ◌++◌, Result, Ok, Err, OnOk, ap, ◌∙◌}
use Rattle.file_text.specs.Folds.{IsFolded}
use Rattle.file_text.specs.Written.{folded}
use Rattle.file_text.proofs.Folding.{folded_is}
use Rattle.file_text.proofs.written.put_line.Goals as goal

put : {T E : Type 0} (result : Result T E) (line old new bytes : List ℕ) → new ≡ old ++ bytes → OnOk result (IsFolded line bytes) → OnOk result (new ≡ old ++ folded line)
put (Ok done) line old new bytes h is = h ∙ ap (λ (xs : List ℕ). old ++ xs) (folded_is line bytes is)
put (Err error) line old new bytes h is = tt

pub returns : goal.returns
returns c = put c.push_folded.result _ _ _ _ c.push_folded.ensures.1 c.push_folded.ensures.2
