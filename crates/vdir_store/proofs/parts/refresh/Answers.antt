use Rattle.std.proofs.lemmas.Result.{err_from_is_err_and}
use Rattle.vdir_store.specs.Vdir.{side_of}
use Rattle.vdir_store.proofs.CallLemmas.{list_forgets}
use Rattle.vdir_store.proofs.parts.refresh.Goals as goal

pub returns-in_err-entries-clause-answer : goal.returns-in_err-entries-clause-answer
returns-in_err-entries-clause-answer g c told = let p = err_from_is_err_and c.from_residual.result c.from_residual.ensures.1 in rw (p.1, p.2) (c.in_err-entries.ensures.answer told)

pub returns-in_err-names-clause-answer : goal.returns-in_err-names-clause-answer
returns-in_err-names-clause-answer g c told = let p = err_from_is_err_and c.from_residual-in_err-names.result c.from_residual-in_err-names.ensures.1 in rw (p.1, p.2) (list_forgets (side_of c.args.ending.now (g.F.Folder.state c.args.folder.now)) (side_of c.args.ending.now (g.F.Folder.state c.listing.new.folder)) c.in_ok-entries.entries (c.in_ok-entries.ensures.answer told))
