use Rattle.std.proofs.Common.{◌≡◌, length}
use Rattle.multistatus.specs.Props.{left_of}
use Rattle.multistatus.proofs.props.first_left.Given as goal

abbrev pub invariant-propstats : goal.invariant-propstats
invariant-propstats l = left_of l.code l.listed l.propstats ≡ left_of l.fn.code l.fn.listed l.fn.propstats

abbrev pub decreases-propstats : goal.decreases-propstats
decreases-propstats l = length l.propstats
