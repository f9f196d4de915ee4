use Rattle.std.proofs.Common.{◌≤◌, ◌-◌, length}
use Rattle.std.specs.Char.{is_ascii_digit}
use Rattle.multistatus.proofs.Fronts.{AllPassBelow}
use Rattle.multistatus.proofs.status.digits_at.Given as goal

abbrev pub invariant-loop-n : goal.invariant-loop-n
invariant-loop-n l = record { within : l.n ≤ length l.text; pass : AllPassBelow is_ascii_digit l.text l.n }

abbrev pub decreases-loop-n : goal.decreases-loop-n
decreases-loop-n l = length l.text - l.n
