use Rattle.std.proofs.Common.{◌≡◌, ℕ, List, Some, sym, subst, ◌∙◌}
use Rattle.store_model.specs.Sides.{KeepsItem}
use Rattle.vdir_store.specs.Vdir.{held_of}
use Rattle.mem_store.proofs.AnswerLemmas.{keeps_item}
use Rattle.mem_store.proofs.calls.put_over.Goals as goal

pub send-requires : goal.send-requires
send-requires c =
    let e : c.as_bytes-bytes.result.now ≡ c.args.item.now.text = c.as_bytes-bytes.ensures.value ∙ c.text.ensures.value in
    subst (λ (b : List ℕ). KeepsItem (Some (held_of b)) (Some b)) (sym e) (keeps_item c.args.item.now c.text.ensures.is_item)

pub returns-clause-changes : goal.returns-clause-changes
returns-clause-changes c =
    let e : c.as_bytes-bytes.result.now ≡ c.args.item.now.text = c.as_bytes-bytes.ensures.value ∙ c.text.ensures.value in
    rw e at c.send.ensures.changes

pub returns-clause-answer : goal.returns-clause-answer
returns-clause-answer c =
    let e : c.as_bytes-bytes.result.now ≡ c.args.item.now.text = c.as_bytes-bytes.ensures.value ∙ c.text.ensures.value in
    rw e at c.send.ensures.answer
