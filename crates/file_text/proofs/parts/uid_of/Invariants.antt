use Rattle.std.proofs.Common.{◌≡◌, drop}
use Rattle.file_text.specs.Parts as spec
use Rattle.file_text.proofs.parts.uid_of.Given as goal

abbrev pub invariant-loop-line : goal.invariant-loop-line
invariant-loop-line l = spec.uid_of (drop l.line-index l.child) ≡ spec.uid_of l.child
