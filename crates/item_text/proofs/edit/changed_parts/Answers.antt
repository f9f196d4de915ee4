use Rattle.std.proofs.Common.{arith, ◌+◌, []}
use Rattle.std.proofs.lemmas.List.{length-drop}
use Rattle.item_text.proofs.EditSteps.{all_put, line_behind, put_next}
use Rattle.item_text.proofs.edit.changed_parts.Goals as goal

pub loop-start-preserved : goal.loop-start-preserved
loop-start-preserved c = (
  omega (arith, c.continuing.ensures.few, length-drop (c.loop-start.start + 1) c.args.parts.now, c.loop-start-test.true),
  put_next c.args.new.now c.next_change-change.result.0 c.loop-start.left.now c.next_change-change.result.1.now c.args.parts.now c.loop-start.start c.continuing.result (record { ref_ptr = (0, 0); now = [] }) _ _ _ c.loop-start-test.true
      (line_behind c.args.parts.now (c.loop-start.start + 1) c.continuing.result c.continuing.ensures.line) (c.next_change-change.ensures c.args.new.now) c.in_ok-put_line.ensures c.loop-start.invariant.1,
)

pub returns : goal.returns
returns c = all_put c.args.new.now c.loop-start.left.now c.args.parts.now c.loop-start.start _ _ c.loop-start-test.false c.loop-start.invariant.1
