use Rattle.std.proofs.Common.{◌≡◌, length}
use Rattle.std.specs.Option.{option_copied}
use Rattle.cli_jobs.specs.Unfetched as spec
use Rattle.cli_jobs.proofs.unfetched.check_pairs.Given as goal

abbrev pub invariant-loop-left : goal.invariant-loop-left
invariant-loop-left l = spec.first_unready l.fn.names (option_copied l.fn.home) l.fn.storages l.left ≡ spec.first_unready l.fn.names (option_copied l.fn.home) l.fn.storages l.fn.pairs

abbrev pub decreases-loop-left : goal.decreases-loop-left
decreases-loop-left l = length l.left
