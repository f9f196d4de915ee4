use Rattle.std.proofs.Common.{List, ◌++◌, map, take, refl, inl, inr, sym, ◌∙◌, ap}
use Rattle.file_text.specs.Parts.{groups}
use Rattle.file_text.specs.Spans.{parts_at}
use Rattle.file_text.specs.Splits.{calendar_text, read_behind}
use Rattle.file_text.specs.declared.marks.Mark.{Mark}
use Rattle.file_text.specs.declared.parts.Span.{Span}
use Rattle.file_text.proofs.Grouping.{all_left, group_next, left_next, groups_end}
use Rattle.file_text.proofs.TextReads.{group_first}
use Rattle.file_text.proofs.split.read_children.Goals as goal

pub loop-child-init : goal.loop-child-init
unfolding groups
loop-child-init c = (all_left c.args.lines.now c.in-Ok.left (parts_at c.args.lines.now c.args.children.now) c.in-Ok.ensures, λ rest. refl)

pub returns-in-Err-clause-err : goal.returns-in-Err-clause-err
returns-in-Err-clause-err c =
    elim c.in-Err.ensures.err [
      | inl h ↦ inl h
      | inr h ↦ inr (λ rest.
          sym (c.loop-child.invariant.1 rest)
          ∙ (group_first c.loop-child.items.items (calendar_text c.args.head.now) _ _ _ _ rest (group_next c.args.lines.now c.args.children.now c.loop-child.child-index _ _ c.loop-child-test.true refl)
          (ap (λ (spans : List Span). parts_at c.args.lines.now spans) c.deref.ensures.value ∙ c.in-Ok-next_group.ensures.group _ _ c.loop-child.invariant.0)
          ∙ h _))
    ]

pub loop-child-preserved : goal.loop-child-preserved
loop-child-preserved c = (
  left_next c.args.lines.now c.args.children.now c.loop-child.child-index _ _ c.loop-child-test.true refl c.next_group.new.by_uid (c.in-Ok-next_group.ensures.left _ _ c.loop-child.invariant.0),
  λ rest.
      sym (group_first c.loop-child.items.items (calendar_text c.args.head.now) _ _ _ _ rest (group_next c.args.lines.now c.args.children.now c.loop-child.child-index _ _ c.loop-child-test.true refl)
      (ap (λ (spans : List Span). parts_at c.args.lines.now spans) c.deref.ensures.value ∙ c.in-Ok-next_group.ensures.group _ _ c.loop-child.invariant.0)
      ∙ c.in_default-read_group.ensures.ok _)
      ∙ c.loop-child.invariant.1 rest,
)

pub returns-clause-ok : goal.returns-clause-ok
returns-clause-ok c = λ rest.
    sym (c.loop-child.invariant.1 rest)
    ∙ ap (λ (gs : List (List (List Mark))). read_behind c.loop-child.items.items (map (calendar_text c.args.head.now) gs ++ rest))
    (groups_end (parts_at c.args.lines.now c.args.children.now) (parts_at c.args.lines.now (take c.loop-child.child-index c.args.children.now)) c.args.lines.now c.args.children.now c.loop-child.child-index c.loop-child-test.false)
