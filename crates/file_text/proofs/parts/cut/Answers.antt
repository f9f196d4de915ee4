use Rattle.std.proofs.Common.{refl, arith, ◌+◌, []}
use Rattle.std.proofs.lemmas.List.{length-drop, take_rest}
use Rattle.file_text.proofs.Cutting.{cut_next, all_cut}
use Rattle.file_text.specs.declared.marks.Role.TheVariants.{Deep}
use Rattle.file_text.proofs.parts.cut.Goals as goal

pub loop-start-preserved : goal.loop-start-preserved
loop-start-preserved c = (
  omega (arith, c.following-count.ensures.few, length-drop (c.loop-start.start + 1) c.args.lines.now, c.loop-start-test.true),
  cut_next c.args.level c.args.lines.now c.loop-start.start c.following-count.result _ c.loop-start.spans.items c.push.new.self.items _ _ (record { text = []; role = Deep }) c.loop-start-test.true (take_rest c.args.lines.now (c.loop-start.start + 1)) c.following-count.ensures.part refl c.in_ok-push.ensures.items
      c.loop-start.invariant.1,
)

pub returns : goal.returns
returns c = all_cut c.args.level c.args.lines.now c.loop-start.start c.loop-start.spans.items _ c.loop-start-test.false c.loop-start.invariant.1
