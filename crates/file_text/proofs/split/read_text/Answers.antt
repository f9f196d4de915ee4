use Rattle.file_text.proofs.TextReads.{read_one, read_none}
use Rattle.file_text.proofs.split.read_text.Goals as goal

pub returns-in-Err-clause-err : goal.returns-in-Err-clause-err
returns-in-Err-clause-err c = read_none c.args.items.now.items c.args.text.now _ c.in-Err.error c.as_bytes.ensures.value c.in-Err.ensures.answer

pub returns-clause-ok : goal.returns-clause-ok
returns-clause-ok c = read_one c.args.items.now.items c.push.new.self.items c.args.text.now _ c.in-Ok.item c.as_bytes.ensures.value c.in-Ok.ensures.answer c.in-Ok-push.ensures.items
