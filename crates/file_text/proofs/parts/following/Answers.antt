use Rattle.std.proofs.Common.{◌+◌, ap, sym, ◌∙◌, ℕ}
use Rattle.file_text.proofs.Cutting.{part_of, counts_more, counts_to, counts_all}
use Rattle.file_text.proofs.parts.following.Goals as goal

pub returns-then-begins-clause-part : goal.returns-then-begins-clause-part
returns-then-begins-clause-part c =
    part_of c.args.level c.args.lines.now c.loop-line.count
    (counts_to c.args.level c.args.lines.now c.loop-line.count c.loop-line.line-index c.line-item.result c.loop-line-test.true c.line-item.is (sym c.begins.ensures ∙ c.if-begins.true) c.loop-line.invariant.1)

pub loop-line-preserved : goal.loop-line-preserved
loop-line-preserved c = (
  ap (λ (n : ℕ). n + 1) c.loop-line.invariant.0,
  counts_more c.args.level c.args.lines.now c.loop-line.count c.loop-line.line-index c.line-item.result c.loop-line-test.true c.line-item.is (sym c.begins.ensures ∙ c.if-begins.false) c.loop-line.invariant.1,
)

pub returns-clause-part : goal.returns-clause-part
returns-clause-part c = part_of c.args.level c.args.lines.now c.loop-line.count (counts_all c.args.level c.args.lines.now c.loop-line.count c.loop-line.line-index c.loop-line-test.false c.loop-line.invariant.1)
