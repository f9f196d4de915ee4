use Rattle.std.proofs.Common.{◌≡◌, ◌++◌, take, string_bytes}
use Rattle.file_text.specs.Spans.{parts_at}
use Rattle.file_text.specs.Written as spec
use Rattle.file_text.proofs.written.put_parts.Given as goal

abbrev pub invariant-loop-span : goal.invariant-loop-span
invariant-loop-span l = string_bytes l.out ≡ string_bytes l.fn.out ++ spec.all_written (parts_at l.lines (take l.span-index l.spans))
