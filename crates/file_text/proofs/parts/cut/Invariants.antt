use Rattle.std.proofs.Common.{◌≡◌, ◌≤◌, ◌-◌, ◌++◌, length, drop}
use Rattle.file_text.specs.Parts.{cut}
use Rattle.file_text.specs.Spans.{parts_at}
use Rattle.file_text.proofs.parts.cut.Given as goal

abbrev pub invariant-loop-start : goal.invariant-loop-start
invariant-loop-start l = (l.start ≤ length l.lines) × (parts_at l.lines l.spans.items ++ cut l.level (drop l.start l.lines) ≡ cut l.level l.lines)

abbrev pub decreases-loop-start : goal.decreases-loop-start
decreases-loop-start l = length l.lines - l.start
