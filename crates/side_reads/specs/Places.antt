-- The rows of a status by the place of their item on a side: its href and its etag (this project's own).
use Rattle.std.specs.Prelude.{◌≡◌, ℕ, Bool, false, ◌&&◌, List, [], map, filter, Option, Some, None}
use Rattle.std.specs.List.{find}
use Rattle.std.specs.Borrow.{Bor}
use Rattle.std.specs.BTreeMap.{BTreeMap, get_by_text}
use Rattle.std.specs.declared.string.String.{String}
use Rattle.std.specs.declared.vec.Vec.{Vec}
use Rattle.std.specs.declared.alloc.Global.{Global}
use Rattle.std.specs.Str.{bytes_eq}
use Rattle.status_keeper.specs.declared.row.Row.{Row}
use Rattle.sync_plan.specs.declared.report.Side.{Side}
use Rattle.sync_plan.specs.declared.report.Side.TheVariants.{A, B}

abbrev pub href_on : Side → Row → Option (List ℕ)
href_on A r = r.href_a
href_on B r = r.href_b

abbrev pub etag_on : Side → Row → Option (List ℕ)
etag_on A r = r.etag_a
etag_on B r = r.etag_b

abbrev pub is_text : Option (List ℕ) → List ℕ → Bool
is_text None text = false
is_text (Some t) text = bytes_eq t text

-- the row has this href and etag for the side
abbrev pub is_at : Side → List ℕ → List ℕ → Row → Bool
is_at side href etag row = is_text (href_on side row) href && is_text (etag_on side row) etag

-- the first row that has both
abbrev pub row_at : Side → List ℕ → List ℕ → List Row → Option Row
row_at side href etag rows = find (is_at side href etag) rows

-- ---- the same of the code's values

abbrev pub lent_text : Option (Bor (List ℕ)) → Option (List ℕ)
lent_text None = None
lent_text (Some t) = Some t.now

abbrev pub lent_row : Option (Bor Row) → Option Row
lent_row None = None
lent_row (Some r) = Some r.now

abbrev pub has_href : Side → List ℕ → Row → Bool
has_href side href row = is_text (href_on side row) href

-- the rows that a map has at an href
abbrev pub rows_in : Option (Vec (Bor Row) Global) → List Row
rows_in None = []
rows_in (Some rows) = map (λ r. r.now) rows.items

abbrev pub rows_at : BTreeMap (String Global) (Vec (Bor Row) Global) → List ℕ → List Row
rows_at m href = rows_in (get_by_text m href)

-- at each href stand the rows that have it, in their order
abbrev pub IsByHref : Side → List Row → BTreeMap (String Global) (Vec (Bor Row) Global) → Type 0
IsByHref side rows by_href = (href : List ℕ) → rows_at by_href href ≡ filter (has_href side href) rows

-- the rows of a status, seen from a side
pub record PlacesValue : Type 0 where
  pub side : Side
  pub rows : List Row
