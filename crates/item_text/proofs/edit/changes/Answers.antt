use Rattle.std.proofs.Common.{◌++◌, ◌∙◌, List, ap, sym, append-nil}
use Rattle.item_text.specs.declared.edit.Change.{Change}
use Rattle.item_text.proofs.EditSteps.{changes_none}
use Rattle.item_text.proofs.edit.changes.Goals as goal

pub returns : goal.returns
returns c =
    sym (append-nil c.loop-role.all.items)
    ∙ (ap (λ (cs : List Change). c.loop-role.all.items ++ cs) (sym (changes_none c.loop-role.seeking c.loop-role.rest.now c.in_default.ensures.cases)) ∙ c.loop-role.invariant)
