use Rattle.std.proofs.Common.{◌∙◌, ◌+◌, ap, sym, ℕ}
use Rattle.item_text.proofs.EditSteps.{counts_more, counts_to, counts_all, line_of}
use Rattle.item_text.proofs.edit.continuing.Goals as goal

pub returns-then-not-begins_blank-clause-line : goal.returns-then-not-begins_blank-clause-line
returns-then-not-begins_blank-clause-line c =
    line_of c.args.parts.now c.loop-part.count
    (counts_to c.args.parts.now c.loop-part.count c.loop-part.part-index _ _ c.loop-part-test.true c.as_bytes.ensures.value (sym c.begins_blank.ensures ∙ c.if-not-begins_blank.true) c.loop-part.invariant.1)

pub loop-part-preserved : goal.loop-part-preserved
loop-part-preserved c = (
  ap (λ (n : ℕ). n + 1) c.loop-part.invariant.0,
  counts_more c.args.parts.now c.loop-part.count c.loop-part.part-index _ _ c.loop-part-test.true c.as_bytes.ensures.value (sym c.begins_blank.ensures ∙ c.if-not-begins_blank.false) c.loop-part.invariant.1,
)

pub returns-clause-line : goal.returns-clause-line
returns-clause-line c = line_of c.args.parts.now c.loop-part.count (counts_all c.args.parts.now c.loop-part.count c.loop-part.part-index c.loop-part-test.false c.loop-part.invariant.1)
