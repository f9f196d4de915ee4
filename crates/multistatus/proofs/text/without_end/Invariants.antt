use Rattle.std.proofs.Common.{◌≤◌, length}
use Rattle.multistatus.proofs.Fronts.{AllWhiteFrom}
use Rattle.multistatus.proofs.text.without_end.Given as goal

abbrev pub invariant-loop-n : goal.invariant-loop-n
invariant-loop-n l = record { within : l.n ≤ length l.text; white : AllWhiteFrom l.text l.n }

abbrev pub decreases-loop-n : goal.decreases-loop-n
decreases-loop-n l = l.n
