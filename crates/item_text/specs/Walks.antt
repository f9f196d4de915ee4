-- Walks: what the lines of a text give, and what those behind a place still give.
use Rattle.std.specs.Prelude.{ℕ, List, ◌∷◌, ◌++◌, map, Option, Some, None}
use Rattle.std.specs.Option.{option_map}
use Rattle.std.specs.List.{filter, filter_map, find}
use Rattle.item_text.specs.Lines.{Line}
use Rattle.item_text.specs.Components.{Place, Before, Placed, placed, placed_from, last_place, uid_of}
use Rattle.item_text.specs.NormalForm.{is_kept, written}
use Rattle.item_text.specs.Refusals.{first_of, else_of, fault_of, Mark, mark_of, Child, children_of, children, first_uid, opens_calendar}
use Rattle.item_text.specs.Places.{place_seen}
use Rattle.item_text.specs.declared.item.ItemError.{ItemError}
use Rattle.item_text.specs.declared.children.Child as seen
use Rattle.item_text.specs.declared.children.Children.{Children}
use Rattle.item_text.specs.declared.walk.Walk.{Walk}

-- a child as a reader holds it
abbrev pub child_seen : seen.Child → Child
child_seen child = record { number = child.number; uid = option_map (λ x. x.now) child.uid }

-- the last child so far and those that the marks behind it tell of: the first UID among these is its, if it has none
unfoldable pub last_and_more : Option Child → List Mark → List Child
last_and_more None rest = children_of rest
last_and_more (Some child) rest = record { number = child.number; uid = else_of child.uid (first_uid rest) } ∷ children_of rest

-- the children so far and those that the marks behind them tell of
abbrev pub children_seen : Children → List Mark → List Child
children_seen children rest = map child_seen children.done.items ++ last_and_more (option_map child_seen children.last) rest

-- what lines give: the place behind them, their faults, their first UID, the number of the line that opens a VCALENDAR as the
-- component of the text, its children, and what the normal form keeps, in the order of the lines
pub record Found : Type 0 where
  pub last : Place
  pub faults : List ItemError
  pub uid : Option (List ℕ)
  pub calendar : Option ℕ
  pub children : List Child
  pub kept : List (List ℕ)

unfoldable pub found_in : List Line → Found
found_in all = record {
  last = last_place Before all;
  faults = filter_map fault_of (placed all);
  uid = first_of (filter_map uid_of (placed all));
  calendar = option_map (λ (line : Placed). line.number) (find opens_calendar (placed all));
  children = children (placed all);
  kept = map written (filter is_kept (placed all));
}

-- what the lines behind a place give, together with what stands before them
unfoldable pub found_behind : Place → Option (List ℕ) → Option ℕ → (List Mark → List Child) → List (List ℕ) → List Line → Found
found_behind place uid calendar children kept rest = record {
  last = last_place place rest;
  faults = filter_map fault_of (placed_from place rest);
  uid = else_of uid (first_of (filter_map uid_of (placed_from place rest)));
  calendar = else_of calendar (option_map (λ (line : Placed). line.number) (find opens_calendar (placed_from place rest)));
  children = children (filter_map mark_of (placed_from place rest));
  kept = kept ++ map written (filter is_kept (placed_from place rest));
}

-- what a walk and the lines that it hasn't met give
abbrev pub found_from : Walk → List Line → Found
found_from walk rest =
    found_behind (place_seen walk.stack) (option_map (λ x. x.now) walk.uid) walk.calendar (children_seen walk.children) (map (λ x. x.now) walk.kept.items) rest
