use Rattle.std.proofs.Common.{ap, ◌∙◌, Ok}
use Rattle.std.proofs.lemmas.Result.{err_from_is_err_and}
use Rattle.outside.specs.Etag.{etag}
use Rattle.vdir_store.proofs.WriteLemmas.{write_done, write_moved, write_failed}
use Rattle.vdir_store.proofs.parts.write.Goals as goal

pub returns-in_err-replace-clause-answer : goal.returns-in_err-replace-clause-answer
returns-in_err-replace-clause-answer g c is told = let p = err_from_is_err_and c.from_residual-in_err-replace.result c.from_residual-in_err-replace.ensures.1 in rw (p.1, p.2) (write_failed c.args.ending.now c.args.name.now c.args.expect c.args.item.now (g.F.Folder.state c.args.folder.now) (g.F.Folder.state c.replace.new.self) c.in_err-replace.field-0.0 is c.text.ensures.is_item (rw (c.as_bytes-bytes.ensures.value, c.text.ensures.value, c.in_err-replace.was) at (c.replace.ensures.answer told)))

pub returns-in-Done-clause-answer : goal.returns-in-Done-clause-answer
returns-in-Done-clause-answer g c is told = let e = c.in_ok-replace.was ∙ ap Ok c.in-Done.is in write_done c.args.ending.now c.args.name.now c.in_ok-etag.etag c.args.expect c.args.item.now (g.F.Folder.state c.args.folder.now) (g.F.Folder.state c.replace.new.self) is c.text.ensures.is_item (c.in_ok-etag.ensures ∙ ap etag (c.as_bytes-bytes.ensures.value ∙ c.text.ensures.value)) (rw (c.as_bytes-bytes.ensures.value, c.text.ensures.value, e) at (c.replace.ensures.answer told))

pub returns-in-Moved-clause-answer : goal.returns-in-Moved-clause-answer
returns-in-Moved-clause-answer g c is told = let e = c.in_ok-replace.was ∙ ap Ok c.in-Moved.is in write_moved c.args.ending.now c.args.name.now c.args.expect c.args.item.now (g.F.Folder.state c.args.folder.now) (g.F.Folder.state c.replace.new.self) is (rw (c.as_bytes-bytes.ensures.value, c.text.ensures.value, e) at (c.replace.ensures.answer told))
