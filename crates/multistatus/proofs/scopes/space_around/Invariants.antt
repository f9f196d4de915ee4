use Rattle.std.proofs.Common.{◌≡◌, ◌≤◌, length, take, reverse}
use Rattle.multistatus.specs.Namespaces.{space_of}
use Rattle.multistatus.specs.Reader.{scope_of}
use Rattle.multistatus.proofs.scopes.space_around.Given as goal

abbrev pub invariant-loop-n : goal.invariant-loop-n
invariant-loop-n l = record {
  within : l.n ≤ length l.levels;
  same : space_of l.prefix (scope_of (reverse (take l.n l.levels))) ≡ space_of l.prefix (scope_of (reverse l.levels));
}

abbrev pub decreases-loop-n : goal.decreases-loop-n
decreases-loop-n l = l.n
