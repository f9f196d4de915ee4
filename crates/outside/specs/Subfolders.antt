-- The names of a folder's subfolders: in byte order, each of them once.
use Rattle.std.specs.Prelude.{◌≡◌, ◌≤◌, ℕ, List, [], ◌∷◌, length, refl}
use Rattle.std.proofs.Common.{arith}
use Rattle.std.specs.Ordering.{nat_cmp}
use Rattle.std.specs.Cmp.Lexicographic.{slice_cmp}
use Rattle.std.specs.List.{Contains}
use Rattle.std.specs.List.Sorted.{IsStrictlySortedBy}

-- the given names in byte order, each of them once, and no other
pub record IsInByteOrder (given ordered : List (List ℕ)) : Type 0 where
  pub rising : IsStrictlySortedBy (slice_cmp nat_cmp) ordered
  pub all_kept : (name : List ℕ) → Contains given name → Contains ordered name
  pub all_given : (name : List ℕ) → Contains ordered name → Contains given name
  pub no_more : length ordered ≤ length given

pub no_names : (names : List (List ℕ)) → length names ≡ 0 → names ≡ []
no_names [] e = refl
no_names (n ∷ ns) e = absurd (omega arith)
