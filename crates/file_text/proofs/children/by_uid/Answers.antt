use Rattle.std.proofs.Common.{Some, ap, ◌∙◌, refl, List}
use Rattle.std.specs.String.{string_bytes}
use Rattle.file_text.specs.Parts.{uid_of}
use Rattle.file_text.specs.Spans.{children_at}
use Rattle.file_text.specs.declared.marks.Mark.{Mark}
use Rattle.file_text.proofs.ByUid.{added, passed_over}
use Rattle.file_text.proofs.children.by_uid.Goals.{in-Some+in_ok-from_str+in_ok-add, in_default}
use Rattle.file_text.proofs.children.by_uid.Goals as goal

pub loop-child-preserved : goal.loop-child-preserved
loop-child-preserved c = elim c.match-uid_of.branch [
  | in-Some+in_ok-from_str+in_ok-add w ↦ λ q.
      added c.args.lines.now c.args.children.now c.loop-child.child-index _ _ q (string_bytes w.in_ok-from_str.field-0) (children_at c.args.lines.now c.loop-child.map q) (children_at c.args.lines.now c.match-uid_of.map q) c.loop-child-test.true refl
      (ap Some w.in_ok-from_str.ensures.ok ∙ (w.in-Some.ensures ∙ ap (λ (p : List Mark). uid_of p) c.part_at.ensures))
      (ap (λ m. children_at c.args.lines.now m q) w.map-is ∙ w.in_ok-add.ensures c.args.lines.now q)
      (c.loop-child.invariant q)
  | in_default w ↦ λ q.
      passed_over c.args.lines.now c.args.children.now c.loop-child.child-index _ _ q (children_at c.args.lines.now c.match-uid_of.map q) c.loop-child-test.true refl
      (w.in_default.ensures ∙ ap (λ (p : List Mark). uid_of p) c.part_at.ensures)
      (ap (λ m. children_at c.args.lines.now m q) w.map-is ∙ c.loop-child.invariant q)
]
