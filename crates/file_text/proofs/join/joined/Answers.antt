use Rattle.std.proofs.Common.{◌≡◌, ℕ, ◌≤◌, Some, List, map, length, take, string_bytes, sym, ◌∙◌, ap, subst}
use Rattle.std.proofs.lemmas.List.Elements.{All-more}
use Rattle.item_text.specs.Items.{ItemValue, item_of}
use Rattle.file_text.specs.Joining.{IsJoining}
use Rattle.file_text.specs.Joins.{joined, is_too_long}
use Rattle.file_text.specs.Splits.{split}
use Rattle.file_text.specs.declared.marks.Mark.{Mark}
use Rattle.file_text.proofs.ItemLists.{marks_of, texts_marks}
use Rattle.file_text.proofs.LongJoined.{texts_more, counted_long}
use Rattle.file_text.proofs.join.joined.Goals as goal

pub loop-item-preserved : goal.loop-item-preserved
loop-item-preserved c = (
  subst (λ (ms : List (List Mark)). IsJoining c.add_text.new.self ms) (texts_more c.args.items.now c.loop-item.item-index c.item-item.result c.item-item.result c.text.result.now c.loop-item-test.true c.item-item.is c.text.ensures.value)
      (c.in-Ok.ensures.ok _ c.loop-item.invariant.0),
  All-more (λ (item : ItemValue). item_of item.text ≡ Some item) c.args.items.now c.loop-item.item-index c.item-item.result c.loop-item-test.true c.loop-item.invariant.1
      (subst (λ (item : ItemValue). item_of item.text ≡ Some item) c.item-item.is c.text.ensures.is_item),
)

pub returns-in-Ok-finish-clause-long : goal.returns-in-Ok-finish-clause-long
returns-in-Ok-finish-clause-long c = λ few.
    let items : List ItemValue = take c.loop-item.item-index c.args.items.now in
    let joining : IsJoining c.loop-item.joining (map marks_of items) = subst (λ (ms : List (List Mark)). IsJoining c.loop-item.joining ms) (texts_marks items) c.loop-item.invariant.0 in
    let file : string_bytes c.in-Ok-finish.joined.file ≡ joined (map marks_of items) = c.in-Ok-finish.ensures.file (map marks_of items) joining in
    c.in-Ok-finish.ensures.long (map marks_of items) joining
    ∙ (counted_long c.loop-item.joining items joining c.loop-item.invariant.1 (subst (λ (t : List ℕ). length t ≤ 268435456) file few) ∙ ap (λ (t : List ℕ). is_too_long (split t)) (sym file))
