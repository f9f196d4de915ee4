use Rattle.std.proofs.Common.{◌≡◌, ◌⊎◌, inr, sym, ◌∙◌, ap, subst, arith, ℕ, Ok, Err, IfOk, IfErr}
use Rattle.item_text.specs.declared.item.ItemError.TheVariants.{NoMemory, NotUtf8}
use Rattle.file_text.specs.Splits.{split_text}
use Rattle.file_text.proofs.Splitting.{Items, long_file, other_file, text_file}
use Rattle.file_text.proofs.split.split_file.Goals as goal

pub returns-then-text-gt-MAX_FILE-clause-err : goal.returns-then-text-gt-MAX_FILE-clause-err
returns-then-text-gt-MAX_FILE-clause-err c = inr (long_file c.args.text.now (omega arith))

pub returns-in-Err-clause-err : goal.returns-in-Err-clause-err
returns-in-Err-clause-err c = inr (other_file c.args.text.now (omega arith) c.in-Err.ensures.cases.0 ∙ sym (ap (λ (n : ℕ). Err (NotUtf8 n)) (c.valid_up_to.ensures ∙ c.in-Err.ensures.valid_len)))

pub returns-clause-ok : goal.returns-clause-ok
returns-clause-ok c =
    subst (λ (r : Items). IfOk c.split_text.result (λ items. r ≡ Ok items.items)) (ap split_text c.in-Ok.ensures.cases.0 ∙ sym (text_file c.args.text.now (omega arith) c.in-Ok.ensures.cases.1)) c.split_text.ensures.ok

pub returns-clause-err : goal.returns-clause-err
returns-clause-err c =
    subst (λ (r : Items). IfErr c.split_text.result (λ e. (e ≡ NoMemory) ⊎ (r ≡ Err e))) (ap split_text c.in-Ok.ensures.cases.0 ∙ sym (text_file c.args.text.now (omega arith) c.in-Ok.ensures.cases.1)) c.split_text.ensures.err
