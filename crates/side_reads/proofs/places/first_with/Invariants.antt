use Rattle.std.proofs.Common.{◌≡◌, map, drop}
use Rattle.std.specs.List.{find}
use Rattle.side_reads.specs.Places.{etag_on, is_text}
use Rattle.side_reads.proofs.places.first_with.Given as goal

abbrev pub invariant-loop-row : goal.invariant-loop-row
invariant-loop-row l = find (λ r. is_text (etag_on l.fn.side r) l.fn.etag) (map (λ r. r.now) (drop l.row-index l.rows)) ≡ find (λ r. is_text (etag_on l.fn.side r) l.fn.etag) (map (λ r. r.now) l.rows)
