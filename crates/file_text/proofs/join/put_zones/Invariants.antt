use Rattle.std.proofs.Common.{ℕ, List, ◌++◌, map, take, string_bytes}
use Rattle.file_text.specs.Joining.{AreZones}
use Rattle.file_text.specs.Spans.{parts_at}
use Rattle.file_text.specs.Written.{written}
use Rattle.file_text.proofs.join.put_zones.Given as goal

abbrev pub invariant-loop-span : goal.invariant-loop-span
invariant-loop-span l = (all : List (List ℕ)) → AreZones l.fn.seen.keys (string_bytes l.fn.zones) all → AreZones l.seen.keys (string_bytes l.zones) (all ++ map written (parts_at l.lines (take l.span-index l.spans)))
