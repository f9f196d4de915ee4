use Rattle.std.proofs.Common.{sym, ◌∙◌}
use Rattle.file_text.proofs.TextReads.{components_end}
use Rattle.file_text.proofs.split.read_components.Goals as goal

pub returns-clause-ok : goal.returns-clause-ok
returns-clause-ok c = sym c.loop-component.invariant ∙ components_end c.loop-component.items.items c.args.lines.now c.args.components.now c.loop-component.component-index c.loop-component-test.false
