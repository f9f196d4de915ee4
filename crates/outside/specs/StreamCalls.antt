-- What the calls of a source and of a sink may do, where they tell their bytes (this project's own).
use Rattle.std.specs.Prelude.{◌≡◌, ℕ, ◌<◌, ◌≤◌, ◌+◌, ◌-◌, min, IsOk, Bool, false, ◌&&◌, nat_lt, nat_le, List, [], ◌++◌, take, length, Option, Some, None, Result, Ok, Err}
use Rattle.outside.specs.Plans.{Course, IsQuiet}
use Rattle.outside.specs.declared.streams.SourceFault.{SourceFault}
use Rattle.outside.specs.declared.streams.SinkFault.{SinkFault}

-- from what was left to what is left, by a piece as it was and as it is. 0 bytes into a piece with room: the end
abbrev pub ReadAnswer : List ℕ → List ℕ → List ℕ → List ℕ → Result ℕ SourceFault → Type 0
ReadAnswer old new before after (Ok n) = (old ≡ take n after ++ new) × (n ≡ 0 → 0 < length before → old ≡ [])
ReadAnswer old new before after (Err fault) = (lost : List ℕ) × (old ≡ lost ++ new)

-- a front of the bytes was added
pub record AddsFront (old new bytes : List ℕ) : Type 0 where
  pub front : List ℕ
  pub rest : List ℕ
  pub is_front : bytes ≡ front ++ rest
  pub adds : new ≡ old ++ front

abbrev pub WriteAnswer : List ℕ → List ℕ → List ℕ → Result ℕ SinkFault → Type 0
WriteAnswer old new piece (Ok n) = new ≡ old ++ take n piece
WriteAnswer old new piece (Err fault) = AddsFront old new piece

abbrev pub WriteAllAnswer : List ℕ → List ℕ → List ℕ → Result (Unit {0}) SinkFault → Type 0
WriteAllAnswer old new bytes (Ok done) = new ≡ old ++ bytes
WriteAllAnswer old new bytes (Err fault) = AddsFront old new bytes

-- a sink that tells its room has none left for the first byte of a piece
abbrev pub is_full : Option ℕ → List ℕ → List ℕ → Bool
is_full None held piece = false
is_full (Some room) held piece = nat_le room (length held) && nat_lt 0 (length piece)

-- of a piece a sink that tells its room takes as much as fits
abbrev pub TakesFitting : Option ℕ → List ℕ → List ℕ → Result ℕ SinkFault → Type 0
TakesFitting None held piece result = Unit {0}
TakesFitting (Some room) held piece (Ok n) = n ≡ min (length piece) (room - length held)
TakesFitting (Some room) held piece (Err fault) = Unit {0}

-- these bytes fit into a sink that tells its room
abbrev pub HasRoom : Option ℕ → List ℕ → List ℕ → Type 0
HasRoom None held bytes = ⊥
HasRoom (Some room) held bytes = length held + length bytes ≤ room

-- all is written, no fault is counted, and none is to come
pub record GoesWell (before now : ℕ) (course : Option Course) (result : Result (Unit {0}) SinkFault) : Type 0 where
  pub is_ok : IsOk result
  pub counts : now ≡ before
  pub quiet : IsQuiet course
