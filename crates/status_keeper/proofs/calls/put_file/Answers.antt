use Rattle.status_keeper.proofs.Committing.{put_some, put_none, put_refused}
use Rattle.status_keeper.proofs.calls.put_file.Goals as goal

pub returns-in-Some-clause-answer : goal.returns-in-Some-clause-answer
returns-in-Some-clause-answer g c told = put_some (g.F.Folder.state c.args.folder.now) (g.F.Folder.state c.replace_file.new.folder) c.args.found.now _ c.as_str.result.now c.args.text.now c.replace_file.result c.in-Some.is c.as_str.ensures (c.replace_file.ensures.answer told)

pub returns-in-Ok-clause-answer : goal.returns-in-Ok-clause-answer
returns-in-Ok-clause-answer g c told =
    put_none (g.F.Folder.state c.args.folder.now) (g.F.Folder.state c.make.new.self) (g.F.Folder.state c.replace_file-in-Ok.new.folder) c.args.found.now c.args.text.now c.replace_file-in-Ok.result c.in-None.is (rw c.in-Ok.is at (c.make.ensures.answer told)) (c.replace_file-in-Ok.ensures.answer (c.make.ensures.changes.told told).0)

pub returns-in-Err-clause-answer : goal.returns-in-Err-clause-answer
returns-in-Err-clause-answer g c told = put_refused (g.F.Folder.state c.args.folder.now) (g.F.Folder.state c.make.new.self) c.args.found.now c.args.text.now c.in-Err.error c.refusal.result c.refusal.ensures (c.make.ensures.changes.told told).1 (rw c.in-Err.is at (c.make.ensures.answer told))
