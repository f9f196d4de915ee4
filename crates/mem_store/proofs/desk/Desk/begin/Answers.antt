use Rattle.mem_store.specs.Desks.{waiting_of}
use Rattle.mem_store.proofs.desk.Desk.begin.Goals as goal

pub returns-in-Err-clause-changes : goal.returns-in-Err-clause-changes
returns-in-Err-clause-changes c = record { later = c.begin-fate.ensures.later; told = λ sound. (c.edit_before.ensures.draft (waiting_of c.args.self.now) sound, c.edit_before.ensures.edits) }

pub returns-in-Acts-clause-changes : goal.returns-in-Acts-clause-changes
returns-in-Acts-clause-changes c = record { later = c.begin-fate.ensures.later; told = λ sound. (c.edit_before.ensures.draft (waiting_of c.args.self.now) sound, c.edit_before.ensures.edits) }

pub returns-in-Fails-clause-changes : goal.returns-in-Fails-clause-changes
returns-in-Fails-clause-changes c = record { later = c.begin-fate.ensures.later; told = λ sound. (c.edit_before.ensures.draft (waiting_of c.args.self.now) sound, c.edit_before.ensures.edits) }

pub returns-in-ActsAndFails-clause-changes : goal.returns-in-ActsAndFails-clause-changes
returns-in-ActsAndFails-clause-changes c = record { later = c.begin-fate.ensures.later; told = λ sound. (c.edit_before.ensures.draft (waiting_of c.args.self.now) sound, c.edit_before.ensures.edits) }
