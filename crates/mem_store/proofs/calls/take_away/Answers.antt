use Rattle.mem_store.specs.Desks.{desk_side, waiting_of}
use Rattle.mem_store.proofs.AnswerLemmas.{dropped}
use Rattle.mem_store.proofs.calls.take_away.Goals as goal

pub returns-in-Ok-clause-answer : goal.returns-in-Ok-clause-answer
returns-in-Ok-clause-answer c = λ sound. dropped c.args.waits c.args.href.now c.args.tag.now c.in-Ok.field-0 (desk_side c.args.desk.now) (desk_side c.send.new.desk) (waiting_of c.args.desk.now) (waiting_of c.send.new.desk) (rw c.in-Ok.is at (c.send.ensures.answer sound))
