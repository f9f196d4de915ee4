use Rattle.std.proofs.Common.{◌≡◌, length, map}
use Rattle.config_settle.specs.Paths as spec
use Rattle.config_settle.proofs.paths.is_last_marked.Given as goal

abbrev pub invariant-loop-left : goal.invariant-loop-left
invariant-loop-left l = spec.is_last_marked (map (λ s. s.now) l.left) ≡ spec.is_last_marked (map (λ s. s.now) l.fn.segments)

abbrev pub decreases-loop-left : goal.decreases-loop-left
decreases-loop-left l = length l.left
