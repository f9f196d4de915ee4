use Rattle.std.proofs.Common.{List, ◌++◌, take, string_bytes}
use Rattle.file_text.specs.Joining.{AreChildren}
use Rattle.file_text.specs.Spans.{parts_at}
use Rattle.file_text.specs.declared.marks.Mark.{Mark}
use Rattle.file_text.proofs.join.put_children.Given as goal

abbrev pub invariant-loop-span : goal.invariant-loop-span
invariant-loop-span l =
    (all : List (List Mark)) → AreChildren (string_bytes l.fn.out) l.fn.lengths all → AreChildren (string_bytes l.out) l.lengths (all ++ parts_at l.lines (take l.span-index l.spans))
