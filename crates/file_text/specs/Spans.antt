-- Spans: the parts of lines that places among them tell, and the children of a VCALENDAR as a map by their UID holds them.
use Rattle.std.specs.Prelude.{ℕ, List, [], map, take, drop, Option, Some, None}
use Rattle.std.specs.BTreeMap.{BTreeMap, get_by_text}
use Rattle.std.specs.declared.string.String.{String}
use Rattle.std.specs.declared.vec.Vec.{Vec}
use Rattle.std.specs.declared.alloc.Global.{Global}
use Rattle.file_text.specs.declared.marks.Mark.{Mark}
use Rattle.file_text.specs.declared.parts.Span.{Span}

abbrev pub part_at : List Mark → Span → List Mark
part_at lines span = take span.count (drop span.start lines)

abbrev pub parts_at : List Mark → List Span → List (List Mark)
parts_at lines spans = map (part_at lines) spans

abbrev pub children_in : List Mark → Option (Vec Span Global) → List (List Mark)
children_in lines None = []
children_in lines (Some spans) = parts_at lines spans.items

abbrev pub children_at : List Mark → BTreeMap (String Global) (Vec Span Global) → List ℕ → List (List Mark)
children_at lines by_uid uid = children_in lines (get_by_text by_uid uid)
