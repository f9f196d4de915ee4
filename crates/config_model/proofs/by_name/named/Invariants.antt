use Rattle.std.proofs.Common.{take}
use Rattle.config_model.specs.ByName.{IsByName}
use Rattle.config_model.proofs.by_name.named.Given as goal

abbrev pub invariant-loop-section : goal.invariant-loop-section
invariant-loop-section l = IsByName l.by_name (take l.section-index l.sections)
