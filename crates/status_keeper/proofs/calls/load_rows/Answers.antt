use Rattle.std.proofs.Common.{ℕ, List, Ok, Err, ap, ◌∙◌, subst}
use Rattle.status_keeper.specs.declared.keeper.KeeperError.TheVariants.{NoMemory}
use Rattle.status_keeper.specs.Reading.{Gives}
use Rattle.status_keeper.specs.Status.{kept_text}
use Rattle.status_keeper.proofs.Committing.{load_refused, load_none, load_some, found_none}
use Rattle.status_keeper.proofs.calls.load_rows.Goals as goal

pub returns-in-Err-clause-answer : goal.returns-in-Err-clause-answer
returns-in-Err-clause-answer g c told = load_refused (g.F.Folder.state c.args.folder.now) (g.F.Folder.state c.read.new.self) c.in-Err.error c.refusal.result c.refusal.ensures (rw c.in-Err.is at (c.read.ensures.answer told))

pub returns-in-None-clause-answer : goal.returns-in-None-clause-answer
returns-in-None-clause-answer g c told = let e = c.in-Ok.is ∙ ap Ok c.in-None.is in load_none (g.F.Folder.state c.args.folder.now) (g.F.Folder.state c.read.new.self) c.new.result c.new.ensures.items (rw e at (c.read.ensures.answer told))

pub returns-in_default-clause-answer : goal.returns-in_default-clause-answer
returns-in_default-clause-answer g c told = let e = c.in-Ok.is ∙ ap Ok c.in-Some.is in load_some (g.F.Folder.state c.args.folder.now) (g.F.Folder.state c.read.new.self) c.in-Some.bytes (Err NoMemory) (rw e at (c.read.ensures.answer told)) tt

pub returns-in-Ok-read_status-clause-answer : goal.returns-in-Ok-read_status-clause-answer
returns-in-Ok-read_status-clause-answer g c told =
    let e = c.in-Ok.is ∙ ap Ok c.in-Some.is in
    load_some (g.F.Folder.state c.args.folder.now) (g.F.Folder.state c.read.new.self) c.in-Some.bytes (Ok c.in-Ok-read_status.rows) (rw e at (c.read.ensures.answer told)) (subst (λ (x : List ℕ). Gives (kept_text x) (Ok c.in-Ok-read_status.rows)) c.as_slice-in-Some.ensures.value c.in-Ok-read_status.ensures.answer)

pub returns-clause-answer : goal.returns-clause-answer
returns-clause-answer g c told =
    let e = c.in-Ok.is ∙ ap Ok c.in-Some.is in
    load_some (g.F.Folder.state c.args.folder.now) (g.F.Folder.state c.read.new.self) c.in-Some.bytes (Err c.in-Err-read_status.error) (rw e at (c.read.ensures.answer told)) (subst (λ (x : List ℕ). Gives (kept_text x) (Err c.in-Err-read_status.error)) c.as_slice-in-Some.ensures.value c.in-Err-read_status.ensures.answer)

pub returns-in-None-clause-found : goal.returns-in-None-clause-found
returns-in-None-clause-found g c told = let e = c.in-Ok.is ∙ ap Ok c.in-None.is in found_none (g.F.Folder.state c.args.folder.now) (g.F.Folder.state c.read.new.self) (rw e at (c.read.ensures.answer told))
