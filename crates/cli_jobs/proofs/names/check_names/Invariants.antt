use Rattle.std.proofs.Common.{◌≡◌, length}
use Rattle.cli_jobs.specs.Names as spec
use Rattle.cli_jobs.proofs.names.check_names.Given as goal

abbrev pub invariant-loop-left : goal.invariant-loop-left
invariant-loop-left l = spec.first_unknown l.fn.pairs l.left ≡ spec.first_unknown l.fn.pairs l.fn.names

abbrev pub decreases-loop-left : goal.decreases-loop-left
decreases-loop-left l = length l.left
