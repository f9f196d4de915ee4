-- The rows of a status, by ident (this project's own).
use Rattle.std.specs.Prelude.{ℕ, List, [], ◌∷◌, Option, Some, None, map, if◌then◌else◌}
use Rattle.std.specs.Str.{bytes_eq}
use Rattle.status_keeper.specs.declared.row.Row.{Row}

-- the row of an ident
abbrev pub row_of : List ℕ → List Row → Option Row
row_of ident [] = None
row_of ident (r ∷ rs) = if bytes_eq r.ident ident then Some r else row_of ident rs

abbrev pub row_idents : List Row → List (List ℕ)
row_idents rows = map (λ r. r.ident) rows
