use Rattle.std.proofs.Common.{◌≡◌, ◌+◌, drop}
use Rattle.file_text.proofs.Cutting.{following}
use Rattle.file_text.proofs.parts.following.Given as goal

abbrev pub invariant-loop-line : goal.invariant-loop-line
invariant-loop-line l = (l.count ≡ l.line-index) × (following l.level l.lines ≡ l.count + following l.level (drop l.line-index l.lines))
