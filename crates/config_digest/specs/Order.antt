-- The keys of a section, in byte order (this project's own). No key that a section may have begins
-- with the whole of another, so `.fetch` behind a name makes no difference.
use Rattle.std.specs.Prelude.{ℕ, Bool, true, false, List, [], ◌∷◌, ◌++◌, position, Option, Some, None}
use Rattle.std.specs.List.{insert}
use Rattle.std.specs.declared.cmp.Ordering.{Ordering}
use Rattle.std.specs.declared.cmp.Ordering.TheVariants.{Less, Equal, Greater}
use Rattle.std.specs.Ordering.{nat_cmp}
use Rattle.std.specs.Cmp.Lexicographic.{slice_cmp}
use Rattle.config_ini.specs.declared.setting.Entry.{Entry}

abbrev pub is_less : Ordering → Bool
is_less Less = true
is_less Equal = false
is_less Greater = false

abbrev pub is_before : Entry → Entry → Bool
is_before e o = is_less (slice_cmp nat_cmp e.key.name o.key.name)

abbrev pub placed_at : Option ℕ → Entry → List Entry → List Entry
placed_at None e sorted = sorted ++ e ∷ []
placed_at (Some k) e sorted = insert sorted k e

-- put before the first that it stands before, or else behind all
abbrev pub placed : Entry → List Entry → List Entry
placed e sorted = placed_at (position (λ o. is_before e o) sorted) e sorted

unfoldable pub in_order_onto : List Entry → List Entry → List Entry
in_order_onto sorted [] = sorted
in_order_onto sorted (e ∷ rest) = in_order_onto (placed e sorted) rest

abbrev pub in_order : List Entry → List Entry
in_order entries = in_order_onto [] entries
