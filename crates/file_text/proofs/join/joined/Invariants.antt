use Rattle.std.proofs.Common.{◌≡◌, Some, map, take}
use Rattle.std.specs.List.{All}
use Rattle.item_text.specs.Items.{ItemValue, item_of}
use Rattle.file_text.specs.Joining.{IsJoining}
use Rattle.file_text.specs.Joins.{item_marks}
use Rattle.file_text.proofs.join.joined.Given as goal

abbrev pub invariant-loop-item : goal.invariant-loop-item
invariant-loop-item l =
    IsJoining l.joining (map item_marks (map (λ (item : ItemValue). item.text) (take l.item-index l.items)))
    × All (λ (item : ItemValue). item_of item.text ≡ Some item) (take l.item-index l.items)
