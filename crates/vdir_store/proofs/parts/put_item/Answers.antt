use Rattle.std.proofs.Common.{◌≡◌, ◌∙◌, ap, refl, List, ℕ, cond, true, false}
use Rattle.std.specs.String.{string_bytes}
use Rattle.std.specs.BTreeSet.{contains_text}
use Rattle.std.specs.Str.{bytes_eq}
use Rattle.std.proofs.lemmas.Map.Text.{btree_set_updates_text}
use Rattle.store_model.specs.Names.{file_stem, IsFreeName}
use Rattle.vdir_store.specs.Vdir.{side_of}
use Rattle.vdir_store.proofs.NameLemmas.{chosen_is_item}
use Rattle.vdir_store.proofs.TakenLemmas.{names_with, names_without}
use Rattle.vdir_store.proofs.WriteLemmas.{put_ok, put_err}
use Rattle.vdir_store.proofs.parts.put_item.Goals as goal

pub returns-in-Ok-clause-answer : goal.returns-in-Ok-clause-answer
returns-in-Ok-clause-answer g c speaks told = let s = side_of c.args.ending.now (g.F.Folder.state c.args.folder.now) in let t = side_of c.args.ending.now (g.F.Folder.state c.write.new.folder) in let item = c.args.item.now in let name = string_bytes c.in_ok-name.name in let may : List ℕ → Type 0 = λ href. IsFreeName (contains_text c.args.names.now) (file_stem item.ident) c.args.ending.now href in let chosen = rw (c.as_str.ensures, c.in_ok-stem.ensures, c.ident.ensures.value) at c.in_ok-name.ensures in let written = rw (c.as_str-3.ensures.value, c.in-Ok.is) at c.write.ensures.answer in put_ok may name item s t (record { href = c.of.result; etag = c.in-Ok.etag }) c.in-Ok.etag c.of.ensures refl chosen (written (chosen_is_item _ item.ident c.args.ending.now name c.requires speaks chosen) told)

pub returns-clause-answer : goal.returns-clause-answer
returns-clause-answer g c speaks told = let s = side_of c.args.ending.now (g.F.Folder.state c.args.folder.now) in let t = side_of c.args.ending.now (g.F.Folder.state c.write.new.folder) in let item = c.args.item.now in let name = string_bytes c.in_ok-name.name in let may : List ℕ → Type 0 = λ href. IsFreeName (contains_text c.args.names.now) (file_stem item.ident) c.args.ending.now href in let chosen = rw (c.as_str.ensures, c.in_ok-stem.ensures, c.ident.ensures.value) at c.in_ok-name.ensures in let written = rw (c.as_str-3.ensures.value, c.in-Err.is) at c.write.ensures.answer in put_err may name item s t c.in-Err.error chosen (written (chosen_is_item _ item.ident c.args.ending.now name c.requires speaks chosen) told)

pub returns-in-Ok-clause-names : goal.returns-in-Ok-clause-names
returns-in-Ok-clause-names g c = λ q. let name = string_bytes c.in_ok-name.name in let had = contains_text c.args.names.now in let kept : string_bytes c.in_ok-kept.kept ≡ name = c.in_ok-kept.ensures.ok ∙ c.as_str-2.ensures.value in let put = btree_set_updates_text (string_bytes c.in_ok-kept.kept) c.args.names.now c.insert.new.self _ c.in_ok-insert.ensures.updates q in names_with name c.of.result q (had q) (contains_text c.insert.new.self q) c.of.ensures (put ∙ ap (λ x. cond (bytes_eq x q) true (had q)) kept)

pub returns-clause-names : goal.returns-clause-names
returns-clause-names g c = λ q. let name = string_bytes c.in_ok-name.name in let had = contains_text c.args.names.now in let kept : string_bytes c.in_ok-kept.kept ≡ name = c.in_ok-kept.ensures.ok ∙ c.as_str-2.ensures.value in let put = btree_set_updates_text (string_bytes c.in_ok-kept.kept) c.args.names.now c.insert.new.self _ c.in_ok-insert.ensures.updates q in let taken = btree_set_updates_text c.as_str-in-Err.result.now c.insert.new.self c.remove.new.self _ c.remove.ensures.updates q in names_without had name q (contains_text c.insert.new.self q) (contains_text c.remove.new.self q) c.in_ok-name.ensures.free (put ∙ ap (λ x. cond (bytes_eq x q) true (had q)) kept) (taken ∙ ap (λ x. cond (bytes_eq x q) false (contains_text c.insert.new.self q)) c.as_str-in-Err.ensures.value)
