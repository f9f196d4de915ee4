use Rattle.std.proofs.Common.{◌∙◌, ap, List, ◌∷◌}
use Rattle.item_text.specs.declared.edit.Change.{Change}
use Rattle.item_text.specs.Edits.{all_changed}
use Rattle.item_text.proofs.EditSteps.{all_next, all_none}
use Rattle.item_text.proofs.edit.next_change.Goals as goal

pub returns-in-Some : goal.returns-in-Some
returns-in-Some c = λ new parts rest. ap (λ (cs : List Change). all_changed new cs (parts ∷ rest)) c.in-Some.ensures.cases.0 ∙ all_next new c.in-Some.change.now c.in-Some.more.now parts rest

pub returns-in-None : goal.returns-in-None
returns-in-None c = λ new parts rest. all_none c.args.changes.now c.in-None.ensures.cases new parts rest
