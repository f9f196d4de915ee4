use Rattle.std.proofs.Common.{◌≡◌, ◌∙◌, ap, refl, sym, subst, List, ℕ, Some, cond, true, false}
use Rattle.std.specs.String.{string_bytes}
use Rattle.std.specs.BTreeSet.{contains_text}
use Rattle.std.specs.Str.{bytes_eq}
use Rattle.std.proofs.lemmas.Map.Text.{btree_set_updates_text}
use Rattle.store_model.specs.Names.{file_stem, IsFreeName}
use Rattle.store_model.specs.Sides.{KeepsItem}
use Rattle.vdir_store.specs.Vdir.{held_of}
use Rattle.vdir_store.proofs.TakenLemmas.{names_with, names_without}
use Rattle.mem_store.specs.Memory.{vcf_ending}
use Rattle.mem_store.specs.Desks.{desk_side, waiting_of}
use Rattle.mem_store.proofs.AnswerLemmas.{keeps_item, put_done, put_failed}
use Rattle.mem_store.proofs.calls.put_item.Goals as goal

pub send-requires : goal.send-requires
send-requires c =
    let e : c.as_bytes-bytes.result.now ≡ c.args.item.now.text = c.as_bytes-bytes.ensures.value ∙ c.text.ensures.value in
    subst (λ (b : List ℕ). KeepsItem (Some (held_of b)) (Some b)) (sym e) (keeps_item c.args.item.now c.text.ensures.is_item)

pub returns-in-Ok-clause-answer : goal.returns-in-Ok-clause-answer
returns-in-Ok-clause-answer c =
    let e : c.as_bytes-bytes.result.now ≡ c.args.item.now.text = c.as_bytes-bytes.ensures.value ∙ c.text.ensures.value in
    let item = c.args.item.now in
    let name = string_bytes c.in_ok-name.name in
    let may : List ℕ → Type 0 = λ href. IsFreeName (contains_text c.args.names.now) (file_stem item.ident) vcf_ending href in
    let chosen = rw (c.as_str.ensures, c.in_ok-stem.ensures, c.ident.ensures.value) at c.in_ok-name.ensures in
    put_done c.args.waits may name item (desk_side c.args.desk.now) (desk_side c.send.new.self) (waiting_of c.args.desk.now) (waiting_of c.send.new.self) (record { href = c.of.result; etag = c.in-Ok.etag }) c.in-Ok.etag c.of.ensures refl chosen
    (rw (c.as_str-3.ensures.value, e, c.in-Ok.is) at c.send.ensures.answer)

pub returns-clause-answer : goal.returns-clause-answer
returns-clause-answer c =
    let e : c.as_bytes-bytes.result.now ≡ c.args.item.now.text = c.as_bytes-bytes.ensures.value ∙ c.text.ensures.value in
    let item = c.args.item.now in
    let name = string_bytes c.in_ok-name.name in
    let may : List ℕ → Type 0 = λ href. IsFreeName (contains_text c.args.names.now) (file_stem item.ident) vcf_ending href in
    let chosen = rw (c.as_str.ensures, c.in_ok-stem.ensures, c.ident.ensures.value) at c.in_ok-name.ensures in
    put_failed c.args.waits may name item (desk_side c.args.desk.now) (desk_side c.send.new.self) (waiting_of c.args.desk.now) (waiting_of c.send.new.self) c.in-Err.error chosen
    (rw (c.as_str-3.ensures.value, e, c.in-Err.is) at c.send.ensures.answer)

pub returns-in-Ok-clause-names : goal.returns-in-Ok-clause-names
returns-in-Ok-clause-names c = λ q. let name = string_bytes c.in_ok-name.name in let had = contains_text c.args.names.now in let kept : string_bytes c.in_ok-kept.kept ≡ name = c.in_ok-kept.ensures.ok ∙ c.as_str-2.ensures.value in let put = btree_set_updates_text (string_bytes c.in_ok-kept.kept) c.args.names.now c.insert.new.self _ c.in_ok-insert.ensures.updates q in names_with name c.of.result q (had q) (contains_text c.insert.new.self q) c.of.ensures (put ∙ ap (λ x. cond (bytes_eq x q) true (had q)) kept)

pub returns-clause-names : goal.returns-clause-names
returns-clause-names c = λ q. let name = string_bytes c.in_ok-name.name in let had = contains_text c.args.names.now in let kept : string_bytes c.in_ok-kept.kept ≡ name = c.in_ok-kept.ensures.ok ∙ c.as_str-2.ensures.value in let put = btree_set_updates_text (string_bytes c.in_ok-kept.kept) c.args.names.now c.insert.new.self _ c.in_ok-insert.ensures.updates q in let taken = btree_set_updates_text c.as_str-in-Err.result.now c.insert.new.self c.remove.new.self _ c.remove.ensures.updates q in names_without had name q (contains_text c.insert.new.self q) (contains_text c.remove.new.self q) c.in_ok-name.ensures.free (put ∙ ap (λ x. cond (bytes_eq x q) true (had q)) kept) (taken ∙ ap (λ x. cond (bytes_eq x q) false (contains_text c.insert.new.self q)) c.as_str-in-Err.ensures.value)
