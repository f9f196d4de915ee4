-- Opened: what the open components of a file stand for.
use Rattle.std.specs.Prelude.{ℕ, List, ◌++◌, Option}
use Rattle.item_text.specs.Lines.{Line}
use Rattle.item_text.specs.Components.{Place}
use Rattle.item_text.specs.Places as places
use Rattle.item_text.specs.declared.item.ItemError.{ItemError}
use Rattle.file_text.specs.Marks.{between, refusal_from, marks_from}
use Rattle.file_text.specs.declared.opened.Opened.{Opened}
use Rattle.file_text.specs.declared.marks.Mark.{Mark}
use Rattle.file_text.specs.declared.marks.Marking.{Marking}

-- the place of the next line
abbrev pub place_seen : Opened → Place
place_seen opened = between (places.place_seen opened.stack)

-- what the lines of a file of so many physical lines give: its refusal, and the lines that aren't blank with what they are
pub record Found : Type 0 where
  pub refusal : Option ItemError
  pub marks : List Mark

-- what the lines behind a place give, together with the marks before them
unfoldable pub found_behind : List Mark → Place → ℕ → List Line → Found
found_behind marks place count rest = record { refusal = refusal_from count place rest; marks = marks ++ marks_from place rest }

abbrev pub found_from : Marking → ℕ → List Line → Found
found_from marking count rest = found_behind marking.marks.items (place_seen marking.opened) count rest
