-- Joining: what is written of the items so far.
use Rattle.std.specs.Prelude.{ℕ, ◌≡◌, Bool, true, false, nat_lt, List, [], ◌∷◌, length, string_bytes}
use Rattle.std.specs.List.{flat_map, list_any}
use Rattle.std.specs.Ordering.{nat_cmp}
use Rattle.std.specs.Cmp.Lexicographic.{slice_cmp}
use Rattle.std.specs.BTreeMap.{is_at}
use Rattle.std.specs.Str.{bytes_eq}
use Rattle.file_text.specs.Joins.{calendars, others, first_head, zones_of, all_zones, children_in}
use Rattle.file_text.specs.Lengths.{AreLengths}
use Rattle.file_text.specs.Written.{written, all_written}
use Rattle.file_text.specs.declared.lengths.Lengths.{Lengths}
use Rattle.file_text.specs.declared.marks.Mark.{Mark}
use Rattle.file_text.specs.declared.join.Joining.{Joining}

-- whether a text stands in a set
abbrev pub has : List (List ℕ) → List ℕ → Bool
has keys q = list_any (is_at (slice_cmp nat_cmp q)) keys

-- the set has these time zones, and each is written once
pub record AreZones (keys : List (List ℕ)) (bytes : List ℕ) (zones : List (List ℕ)) : Type 0 where
  pub each : (q : List ℕ) → has keys q ≡ list_any (bytes_eq q) zones
  pub are : bytes ≡ all_zones zones

abbrev pub is_some_list : List (List Mark) → Bool
is_some_list [] = false
is_some_list (item ∷ rest) = true

-- what is written of these children, with their lengths
pub record AreChildren (bytes : List ℕ) (lengths : Lengths) (all : List (List Mark)) : Type 0 where
  pub are : bytes ≡ all_written all
  pub counted : AreLengths lengths all

-- what is written of these items
pub record IsJoining (joining : Joining) (items : List (List Mark)) : Type 0 where
  pub begun : joining.begun ≡ is_some_list (calendars items)
  pub head : string_bytes joining.head ≡ first_head (calendars items)
  pub zones : AreZones joining.seen.keys (string_bytes joining.zones) (flat_map zones_of (calendars items))
  pub children : AreChildren (string_bytes joining.children) joining.lengths (flat_map children_in (calendars items))
  pub longest_other : (n : ℕ) → nat_lt n joining.longest_other ≡ list_any (λ item. nat_lt n (length (written item))) (others items)
  pub others : string_bytes joining.others ≡ all_written (others items)
