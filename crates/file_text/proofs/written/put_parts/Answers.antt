use Rattle.std.proofs.Common.{sym, ap, ◌∙◌, append-nil, string_bytes, List, ◌++◌, refl}
use Rattle.file_text.specs.Written.{written, all_written}
use Rattle.file_text.specs.declared.marks.Mark.{Mark}
use Rattle.file_text.proofs.Folding.{parts_more}
use Rattle.file_text.proofs.written.put_parts.Goals as goal

pub loop-span-init : goal.loop-span-init
unfolding all_written
loop-span-init c = sym (append-nil (string_bytes c.args.out.now))

pub loop-span-preserved : goal.loop-span-preserved
loop-span-preserved c =
    parts_more c.args.lines.now c.args.spans.now c.loop-span.span-index _ _ (string_bytes c.args.out.now) (string_bytes c.loop-span.out) (string_bytes c.put_part.new.out) c.loop-span-test.true refl
    (c.in_ok-put_part.ensures ∙ ap (λ (p : List Mark). string_bytes c.loop-span.out ++ written p) c.part_at.ensures) c.loop-span.invariant
