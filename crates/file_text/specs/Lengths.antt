-- Lengths: how many bytes the items have that a joined file is split into.
use Rattle.std.specs.Prelude.{ℕ, ◌≡◌, Bool, nat_lt, List, length}
use Rattle.std.specs.BTreeMap.{BTreeMap, get_by_text}
use Rattle.std.specs.List.{filter, list_any}
use Rattle.std.specs.Option.{unwrap_or}
use Rattle.std.specs.declared.string.String.{String}
use Rattle.std.specs.declared.alloc.Global.{Global}
use Rattle.file_text.specs.Parts.{uid_of, has_uid, together}
use Rattle.file_text.specs.Written.{all_written}
use Rattle.file_text.specs.declared.lengths.Lengths.{Lengths}
use Rattle.file_text.specs.declared.marks.Mark.{Mark}

-- the bytes that a map has for a UID
abbrev pub sum_at : BTreeMap (String Global) ℕ → List ℕ → ℕ
sum_at by_uid uid = unwrap_or (get_by_text by_uid uid) 0

-- a map has the bytes that the children of each UID have together, as they are written
pub record AreSums (by_uid : BTreeMap (String Global) ℕ) (all : List (List Mark)) : Type 0 where
  pub each : (uid : List ℕ) → sum_at by_uid uid ≡ length (all_written (filter (has_uid uid) all))

-- whether these parts have more than n bytes, as they are written
abbrev pub is_longer : ℕ → List (List Mark) → Bool
is_longer n parts = nat_lt n (length (all_written parts))

-- whether the children of one item have more than n bytes
abbrev pub is_any_longer : ℕ → List (List Mark) → List (List Mark) → Bool
is_any_longer n all some = list_any (λ child. is_longer n (together all child (uid_of child))) some

-- the lengths are those of these children
pub record AreLengths (lengths : Lengths) (all : List (List Mark)) : Type 0 where
  pub sums : AreSums lengths.by_uid all
  pub longest : (n : ℕ) → nat_lt n lengths.longest ≡ is_any_longer n all all
