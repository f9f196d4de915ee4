use Rattle.std.proofs.Common.{◌≡◌, length}
use Rattle.config_settle.specs.Paths as spec
use Rattle.config_settle.proofs.paths.has_mark.Given as goal

abbrev pub invariant-loop-left : goal.invariant-loop-left
invariant-loop-left l = spec.has_mark l.left ≡ spec.has_mark l.fn.text

abbrev pub decreases-loop-left : goal.decreases-loop-left
decreases-loop-left l = length l.left
