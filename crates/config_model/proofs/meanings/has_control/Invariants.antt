use Rattle.std.proofs.Common.{◌≡◌, length}
use Rattle.config_model.specs.Meanings as spec
use Rattle.config_model.proofs.meanings.has_control.Given as goal

abbrev pub invariant-loop-left : goal.invariant-loop-left
invariant-loop-left l = spec.has_control l.left ≡ spec.has_control l.fn.text

abbrev pub decreases-loop-left : goal.decreases-loop-left
decreases-loop-left l = length l.left
