use Rattle.std.proofs.Common.{◌≡◌, take}
use Rattle.file_text.specs.Parts as spec
use Rattle.file_text.specs.Spans.{parts_at}
use Rattle.file_text.proofs.parts.parts_of.Given as goal

abbrev pub invariant-loop-span : goal.invariant-loop-span
invariant-loop-span l = parts_at l.lines l.found.items ≡ spec.parts_of l.kind (parts_at l.lines (take l.span-index l.spans))
