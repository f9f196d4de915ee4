use Rattle.std.proofs.Common.{◌≤◌, ◌-◌, length}
use Rattle.multistatus.specs.Tokens.{is_text_byte}
use Rattle.multistatus.proofs.Fronts.{AllPassBelow}
use Rattle.multistatus.proofs.tokens.text_bytes.Given as goal

abbrev pub invariant-loop-n : goal.invariant-loop-n
invariant-loop-n l = record { within : l.n ≤ length l.text; pass : AllPassBelow is_text_byte l.text l.n }

abbrev pub decreases-loop-n : goal.decreases-loop-n
decreases-loop-n l = length l.text - l.n
