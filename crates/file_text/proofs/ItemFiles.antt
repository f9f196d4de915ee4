-- ItemFiles: the text of an item is a file without a refusal.
use Rattle.std.proofs.Common.{◌≡◌, ℕ, List, [], ◌∷◌, Option, Some, None, refl, ◌∙◌, ap}
use Rattle.std.specs.List.{filter_map, cons_option}
use Rattle.item_text.specs.Lines.{Line, trimmed, logical_lines}
use Rattle.item_text.specs.Components.{Kind, Opens, Closes, Property, Blank, kind_of, Place, Before, Within, Behind, next_place, last_place, placed_at, placed_from, placed}
use Rattle.item_text.specs.Items.{ItemValue, item_of}
use Rattle.item_text.specs.Refusals.{else_of, fault_at, fault_of}
use Rattle.item_text.specs.declared.item.ItemError.{ItemError}
use Rattle.item_text.proofs.Edited.{is_item}
use Rattle.item_text.proofs.Relabelled.{fine_of, last_of}
use Rattle.file_text.specs.Marks.{between, next_in_file, fault_in_file, fault_of_end, refusal_from}

-- a line that has no fault in an item has none in a file, and leads to the same place
pub fine_line : (number : ℕ) (place : Place) (kind : Kind) → fault_at number place kind ≡ None → (fault_in_file number (between place) kind ≡ None) × (next_in_file (between place) kind ≡ between (next_place place kind))
unfolding fault_at fault_in_file next_in_file next_place between
fine_line number Before (Opens name) h = (refl, refl)
fine_line number Before (Closes name) h = cc
fine_line number Before (Property name value) h = cc
fine_line number Before Blank h = (refl, refl)
fine_line number (Within names) kind h = (h, refl)
fine_line number Behind (Opens name) h = cc
fine_line number Behind (Closes name) h = cc
fine_line number Behind (Property name value) h = cc
fine_line number Behind Blank h = (refl, refl)

pub first_none : {X : Type 0} (first : Option X) (rest : List X) → cons_option first rest ≡ [] → (first ≡ None) × (rest ≡ [])
first_none None rest h = (refl, h)
first_none (Some x) rest h = cc

pub none_else : (fault rest : Option ItemError) → fault ≡ None → rest ≡ None → else_of fault rest ≡ None
unfolding else_of
none_else fault rest h k = ap (λ (f : Option ItemError). else_of f rest) h ∙ k

fine_from : (count : ℕ) (place : Place) (lines : List Line) → filter_map fault_of (placed_from place lines) ≡ [] → last_place place lines ≡ Behind → refusal_from count (between place) lines ≡ None
unfolding placed_from placed_at fault_of last_place refusal_from fault_of_end between
fine_from count place [] fine last = ap (λ (p : Place). fault_of_end count (between p)) last
fine_from count place (line ∷ rest) fine last =
    let parts = first_none (fault_at line.number place (kind_of (trimmed line.text))) (filter_map fault_of (placed_from (next_place place (kind_of (trimmed line.text))) rest)) fine in
    let here = fine_line line.number place (kind_of (trimmed line.text)) parts.0 in
    none_else (fault_in_file line.number (between place) (kind_of (trimmed line.text))) (refusal_from count (next_in_file (between place) (kind_of (trimmed line.text))) rest) here.0
    (ap (λ (p : Place). refusal_from count p rest) here.1 ∙ fine_from count (next_place place (kind_of (trimmed line.text))) rest parts.1 last)

pub item_fine : (count : ℕ) (text : List ℕ) (item : ItemValue) → item_of text ≡ Some item → refusal_from count Before (logical_lines text) ≡ None
unfolding between placed
item_fine count text item h =
    let fine = (is_item text item h).fine in
    fine_from count Before (logical_lines text) (fine_of _ (logical_lines text) fine) (last_of _ (logical_lines text) fine)
