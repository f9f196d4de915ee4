use Rattle.std.proofs.Common.{sym, ap, ◌∙◌, append-nil, string_bytes, List, ℕ, ◌++◌}
use Rattle.file_text.specs.Written.{folded, written}
use Rattle.file_text.specs.declared.marks.Mark.{Mark}
use Rattle.file_text.proofs.Folding.{written_more}
use Rattle.file_text.proofs.written.put_part.Goals as goal

pub loop-line-init : goal.loop-line-init
unfolding written
loop-line-init c = sym (append-nil (string_bytes c.args.out.now))

pub loop-line-preserved : goal.loop-line-preserved
unfolding written
loop-line-preserved c =
    written_more (λ (line : Mark). folded line.text) c.args.part.now c.loop-line.line-index c.line-item.result c.line-item.result (string_bytes c.args.out.now) (string_bytes c.loop-line.out) (string_bytes c.put_line.new.out) c.loop-line-test.true c.line-item.is
    (c.in_ok-put_line.ensures ∙ ap (λ (t : List ℕ). string_bytes c.loop-line.out ++ folded t) c.as_str.ensures) c.loop-line.invariant
