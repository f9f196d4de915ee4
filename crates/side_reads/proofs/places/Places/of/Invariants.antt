use Rattle.std.proofs.Common.{◌≡◌, ℕ, List, filter, take}
use Rattle.side_reads.specs.Places.{has_href, rows_at}
use Rattle.side_reads.proofs.places.Places.of.Given as goal

abbrev pub invariant-loop-row : goal.invariant-loop-row
invariant-loop-row l = (q : List ℕ) → rows_at l.by_href q ≡ filter (has_href l.fn.side q) (take l.row-index l.rows)
