-- The order of namespaces: by the digests of long names first, then by the names, so that long names which differ late are
-- told apart by few bytes (this project's own; the digest is SHA-256 of FIPS 180-4).
use Rattle.std.specs.Prelude.{ℕ, List, [], length, nat_lt, if◌then◌else◌}
use Rattle.std.specs.Ordering.{nat_cmp, on, then_cmp}
use Rattle.std.specs.declared.cmp.Ordering.{Ordering}
use Rattle.std.specs.Cmp.Lexicographic.{slice_cmp}
use Rattle.sha2.specs.Sha256.{sha256}

abbrev pub most_short : ℕ
most_short = 64

unfoldable pub mark_of : List ℕ → List ℕ
mark_of name = if nat_lt most_short (length name) then sha256 name else []

abbrev pub space_cmp : List ℕ → List ℕ → Ordering
space_cmp = then_cmp (on mark_of (slice_cmp nat_cmp)) (slice_cmp nat_cmp)
