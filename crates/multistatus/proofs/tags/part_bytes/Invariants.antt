use Rattle.std.proofs.Common.{◌≤◌, ◌-◌, length}
use Rattle.multistatus.specs.Tags.{is_part_byte}
use Rattle.multistatus.proofs.Fronts.{AllPassBelow}
use Rattle.multistatus.proofs.tags.part_bytes.Given as goal

abbrev pub invariant-loop-n : goal.invariant-loop-n
invariant-loop-n l = record { within : l.n ≤ length l.text; pass : AllPassBelow is_part_byte l.text l.n }

abbrev pub decreases-loop-n : goal.decreases-loop-n
decreases-loop-n l = length l.text - l.n
