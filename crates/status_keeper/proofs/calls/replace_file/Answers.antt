use Rattle.std.proofs.Common.{Ok, Err, ap}
use Rattle.status_keeper.proofs.Committing.{replaced}
use Rattle.status_keeper.proofs.calls.replace_file.Goals as goal

pub returns-in-Ok-clause-answer : goal.returns-in-Ok-clause-answer
returns-in-Ok-clause-answer g c told = replaced (g.F.Folder.state c.args.folder.now) (g.F.Folder.state c.replace.new.self) c.args.expect c.args.text.now (Ok c.in-Ok.change) c.moved.result c.moved.ensures (rw c.in-Ok.is at (c.replace.ensures.answer told))

pub returns-in-Err-clause-answer : goal.returns-in-Err-clause-answer
returns-in-Err-clause-answer g c told = replaced (g.F.Folder.state c.args.folder.now) (g.F.Folder.state c.replace.new.self) c.args.expect c.args.text.now (Err c.in-Err.error) (Err c.refusal.result) (ap Err c.refusal.ensures) (rw c.in-Err.is at (c.replace.ensures.answer told))
