use Rattle.std.proofs.Common.{arith, ap, sym, ◌∙◌, Ok}
use Rattle.vdir_store.proofs.Lifting.{Changes-outside}
use Rattle.vdir_store.proofs.CallLemmas.{list_not_there, list_failed, list_no_memory_later, list_ok, list_too_many, list_too_long}
use Rattle.std.proofs.lemmas.Result.{err_from_is_err_and}
use Rattle.vdir_store.proofs.parts.listing.Goals as goal

pub returns-in_err-files-clause-changes : goal.returns-in_err-files-clause-changes
returns-in_err-files-clause-changes g c = Changes-outside c.args.ending.now c.args.folder.now c.names.new.self c.names.ensures.changes

pub returns-in_default-clause-changes : goal.returns-in_default-clause-changes
returns-in_default-clause-changes g c = Changes-outside c.args.ending.now c.args.folder.now c.names.new.self c.names.ensures.changes

pub returns-in_err-entries-clause-changes : goal.returns-in_err-entries-clause-changes
returns-in_err-entries-clause-changes g c = Changes-outside c.args.ending.now c.args.folder.now c.names.new.self c.names.ensures.changes

pub returns-in_err-files-clause-answer : goal.returns-in_err-files-clause-answer
returns-in_err-files-clause-answer g c told = let p = err_from_is_err_and c.from_residual.result c.from_residual.ensures.1 in rw (p.1, p.2) (list_failed c.args.ending.now (g.F.Folder.state c.args.folder.now) (g.F.Folder.state c.names.new.self) c.in_err-files.field-0.0 (rw c.in_err-files.was at (c.names.ensures.answer told)))

pub returns-in_default-clause-answer : goal.returns-in_default-clause-answer
returns-in_default-clause-answer g c told = let e = c.in_ok-files.was ∙ ap Ok c.in_default.is in list_not_there c.args.ending.now (g.F.Folder.state c.args.folder.now) (g.F.Folder.state c.names.new.self) (rw e at (c.names.ensures.answer told))

pub returns-in_err-entries-clause-answer : goal.returns-in_err-entries-clause-answer
returns-in_err-entries-clause-answer g c told = let p = err_from_is_err_and c.from_residual-in_err-entries.result c.from_residual-in_err-entries.ensures.1 in let e = c.in_ok-files.was ∙ ap Ok c.in-Some.is in rw (p.1, p.2) (list_no_memory_later c.args.ending.now (g.F.Folder.state c.args.folder.now) (g.F.Folder.state c.names.new.self) c.in-Some.files (rw e at (c.names.ensures.answer told)))

pub returns-then-len-gt-MAX_ITEMS-clause-changes : goal.returns-then-len-gt-MAX_ITEMS-clause-changes
returns-then-len-gt-MAX_ITEMS-clause-changes g c = Changes-outside c.args.ending.now c.args.folder.now c.names.new.self c.names.ensures.changes

pub returns-then-not-are_short-clause-changes : goal.returns-then-not-are_short-clause-changes
returns-then-not-are_short-clause-changes g c = Changes-outside c.args.ending.now c.args.folder.now c.names.new.self c.names.ensures.changes

pub returns-clause-changes : goal.returns-clause-changes
returns-clause-changes g c = Changes-outside c.args.ending.now c.args.folder.now c.names.new.self c.names.ensures.changes

pub returns-then-len-gt-MAX_ITEMS-clause-answer : goal.returns-then-len-gt-MAX_ITEMS-clause-answer
returns-then-len-gt-MAX_ITEMS-clause-answer g c told = let e = c.in_ok-files.was ∙ ap Ok c.in-Some.is in list_too_many c.args.ending.now (g.F.Folder.state c.args.folder.now) (g.F.Folder.state c.names.new.self) c.in-Some.files c.in_ok-entries.entries (rw e at (c.names.ensures.answer told)) c.in_ok-entries.ensures (omega (arith, c.in_ok-entries.entries.ok.0))

pub returns-then-not-are_short-clause-answer : goal.returns-then-not-are_short-clause-answer
returns-then-not-are_short-clause-answer g c told = let e = c.in_ok-files.was ∙ ap Ok c.in-Some.is in let short = rw c.as_slice.ensures.value at c.are_short.ensures in list_too_long c.args.ending.now (g.F.Folder.state c.args.folder.now) (g.F.Folder.state c.names.new.self) c.in-Some.files c.in_ok-entries.entries (rw e at (c.names.ensures.answer told)) c.in_ok-entries.ensures (omega (arith, c.in_ok-entries.entries.ok.0)) (sym short ∙ c.if-not-are_short.true)

pub returns-clause-answer : goal.returns-clause-answer
returns-clause-answer g c told = let e = c.in_ok-files.was ∙ ap Ok c.in-Some.is in let short = rw c.as_slice.ensures.value at c.are_short.ensures in list_ok c.args.ending.now (g.F.Folder.state c.args.folder.now) (g.F.Folder.state c.names.new.self) c.in-Some.files c.in_ok-entries.entries (rw e at (c.names.ensures.answer told)) c.in_ok-entries.ensures (omega (arith, c.in_ok-entries.entries.ok.0)) (sym short ∙ c.if-not-are_short.false)
