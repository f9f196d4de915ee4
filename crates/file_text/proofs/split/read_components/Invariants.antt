use Rattle.std.proofs.Common.{◌≡◌, [], drop}
use Rattle.std.specs.List.{flat_map}
use Rattle.file_text.specs.Spans.{parts_at}
use Rattle.file_text.specs.Splits.{texts_of, read_behind}
use Rattle.file_text.proofs.split.read_components.Given as goal

abbrev pub invariant-loop-component : goal.invariant-loop-component
invariant-loop-component l =
    read_behind l.items.items (flat_map texts_of (parts_at l.lines (drop l.component-index l.components))) ≡ read_behind [] (flat_map texts_of (parts_at l.lines l.components))
