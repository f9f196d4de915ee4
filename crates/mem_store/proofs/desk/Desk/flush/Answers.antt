use Rattle.std.proofs.Common.{ap, ◌∙◌, Ok}
use Rattle.mem_store.proofs.desk.Desk.flush.Goals as goal

pub returns-else-fails-clause-answer : goal.returns-else-fails-clause-answer
returns-else-fails-clause-answer c sound = rw (c.in_ok-let_act.was ∙ ap Ok c.in-Done.is) at (c.let_act.ensures.answer sound)
