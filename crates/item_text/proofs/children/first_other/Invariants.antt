use Rattle.std.proofs.Common.{◌≡◌, map, drop, not}
use Rattle.std.specs.List.{find}
use Rattle.std.specs.Option.{option_map}
use Rattle.item_text.specs.Refusals.{Child, same_uid}
use Rattle.item_text.specs.Walks.{child_seen}
use Rattle.item_text.proofs.children.first_other.Given as goal

abbrev pub invariant-loop-child : goal.invariant-loop-child
invariant-loop-child l =
    find (λ (other : Child). not (same_uid (option_map (λ x. x.now) l.uid) other.uid)) (map child_seen (drop l.child-index l.children))
    ≡ find (λ (other : Child). not (same_uid (option_map (λ x. x.now) l.uid) other.uid)) (map child_seen l.children)
