use Rattle.std.proofs.Common.{ap, ◌∙◌, [], ◌∷◌, ◌++◌, List}
use Rattle.file_text.specs.Parts.{uid_of}
use Rattle.file_text.specs.Spans.{part_at, parts_at}
use Rattle.file_text.specs.declared.marks.Mark.{Mark}
use Rattle.file_text.specs.declared.parts.Span.{Span}
use Rattle.file_text.proofs.Grouping.{alone, taken, left_behind_taken, left_behind_alone}
use Rattle.file_text.proofs.children.next_group.Goals as goal

pub returns-in-Some-clause-group : goal.returns-in-Some-clause-group
returns-in-Some-clause-group c = λ all before left.
    taken c.args.lines.now all before (part_at c.args.lines.now c.args.child) c.args.by_uid.now c.in-Some.uid.now _ (c.in-Some.ensures ∙ ap (λ (p : List Mark). uid_of p) c.part_at.ensures) (c.take.ensures.taken c.args.lines.now) left

pub returns-in-Some-clause-left : goal.returns-in-Some-clause-left
returns-in-Some-clause-left c = λ all before left.
    left_behind_taken c.args.lines.now all before (part_at c.args.lines.now c.args.child) c.args.by_uid.now c.take.new.by_uid c.in-Some.uid.now (c.in-Some.ensures ∙ ap (λ (p : List Mark). uid_of p) c.part_at.ensures)
    (c.take.ensures.left c.args.lines.now) left

pub returns-in_ok-push-in-None-clause-group : goal.returns-in_ok-push-in-None-clause-group
returns-in_ok-push-in-None-clause-group c = λ all before left.
    ap (λ (spans : List Span). parts_at c.args.lines.now spans) (c.in_ok-push-in-None.ensures.items ∙ ap (λ (spans : List Span). spans ++ c.args.child ∷ []) c.new-alone.ensures.items)
    ∙ alone c.args.lines.now all before (part_at c.args.lines.now c.args.child) (c.in-None.ensures ∙ ap (λ (p : List Mark). uid_of p) c.part_at.ensures)

pub returns-in_ok-push-in-None-clause-left : goal.returns-in_ok-push-in-None-clause-left
returns-in_ok-push-in-None-clause-left c = λ all before left.
    left_behind_alone c.args.lines.now all before (part_at c.args.lines.now c.args.child) c.args.by_uid.now (c.in-None.ensures ∙ ap (λ (p : List Mark). uid_of p) c.part_at.ensures) left
