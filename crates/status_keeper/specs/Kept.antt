-- What a keeper keeps, and what happens to it (this project's own).
use Rattle.std.specs.Prelude.{◌≡◌, ℕ, List, [], ◌∷◌, ◌++◌, Ok}
use Rattle.outside.specs.Etag.{etag}
use Rattle.outside.specs.Runs.{Runs, ChangesBy}
use Rattle.status_keeper.specs.declared.row.Row.{Row}
use Rattle.status_keeper.specs.Status.{Kept, text_of}

-- what stands in a keeper's place, as a commit tells it from what was loaded: the place is gone, it is there with no status,
-- or a status with this etag stands there
pub data Stamp : Type 0 where
  Gone : Stamp
  Empty : Stamp
  Tagged : List ℕ → Stamp

-- what happens to a status
pub data KeeperEvent : Type 0 where
  -- an edit from outside left this
  Edited : Kept → Stamp → KeeperEvent
  -- the place came or went by an edit from outside, with no status
  Toggled : KeeperEvent
  -- the keeper made its place
  Made : KeeperEvent
  -- the keeper wrote these rows
  Committed : List Row → KeeperEvent
  -- an own write that is no commit left this; no call allows it
  Spoiled : Kept → Stamp → KeeperEvent

pub record KeeperState : Type 0 where
  pub kept : Kept
  pub stamp : Stamp
  -- all that has happened, the first of it first
  pub trail : List KeeperEvent
  -- what the keeper changed of its device beside the status, by name; no event adds to it, so a call changes nothing but the status
  pub beside : List (List ℕ)

abbrev pub kept_after : Kept → KeeperEvent → Kept
kept_after k (Edited kept stamp) = kept
kept_after k Toggled = k
kept_after k Made = k
kept_after k (Committed rows) = Ok rows
kept_after k (Spoiled kept stamp) = kept

-- a place comes and goes without a status
abbrev pub toggled : Stamp → Stamp
toggled Gone = Empty
toggled Empty = Gone
toggled (Tagged tag) = Tagged tag

abbrev pub made : Stamp → Stamp
made Gone = Empty
made Empty = Empty
made (Tagged tag) = Tagged tag

abbrev pub stamp_after : Stamp → KeeperEvent → Stamp
stamp_after s (Edited kept stamp) = stamp
stamp_after s Toggled = toggled s
stamp_after s Made = made s
stamp_after s (Committed rows) = Tagged (etag (text_of rows))
stamp_after s (Spoiled kept stamp) = stamp

-- what an event changes; it stands in the trail
abbrev pub happens : KeeperState → KeeperEvent → KeeperState
happens s e = record { kept = kept_after s.kept e; stamp = stamp_after s.stamp e; trail = s.trail ++ e ∷ []; beside = s.beside }

abbrev pub IsTrueEvent : KeeperState → KeeperEvent → Type 0
IsTrueEvent s e = Unit {0}

-- t is s after some events, each of them of this kind
abbrev pub Evolves : (KeeperEvent → Type 0) → KeeperState → KeeperState → Type 0
Evolves Kind s t = Runs happens IsTrueEvent Kind s t

-- an edit from outside
abbrev pub IsEdit : KeeperEvent → Type 0
IsEdit (Edited kept stamp) = Unit {0}
IsEdit Toggled = Unit {0}
IsEdit Made = ⊥
IsEdit (Committed rows) = ⊥
IsEdit (Spoiled kept stamp) = ⊥

-- edits from outside, and the making of the place
abbrev pub IsMaking : KeeperEvent → Type 0
IsMaking (Edited kept stamp) = Unit {0}
IsMaking Toggled = Unit {0}
IsMaking Made = Unit {0}
IsMaking (Committed rows) = ⊥
IsMaking (Spoiled kept stamp) = ⊥

-- edits from outside, the making of the place, and own commits of these rows
abbrev pub IsCommitOf : List Row → KeeperEvent → Type 0
IsCommitOf rows (Edited kept stamp) = Unit {0}
IsCommitOf rows Toggled = Unit {0}
IsCommitOf rows Made = Unit {0}
IsCommitOf rows (Committed committed) = committed ≡ rows
IsCommitOf rows (Spoiled kept stamp) = ⊥

-- a keeper changed by events of this kind alone, where it tells its state; its count of faults doesn't fall
abbrev pub Changes : {X : Type 0} → (X → ℕ) → (X → Type 0) → (X → KeeperState) → (KeeperEvent → Type 0) → X → X → Type 0
Changes count tells state Kind old new = ChangesBy happens IsTrueEvent count tells state Kind old new
