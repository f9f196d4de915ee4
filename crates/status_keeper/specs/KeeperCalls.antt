-- What the calls of a keeper may do (this project's own).
use Rattle.std.specs.Prelude.{◌≡◌, ◌<◌, ◌⊎◌, ℕ, Bool, true, false, List, length, Option, Some, None, Result, Ok, Err}
use Rattle.std.specs.Str.{bytes_eq}
use Rattle.std.specs.declared.vec.Vec.{Vec}
use Rattle.std.specs.declared.alloc.Global.{Global}
use Rattle.outside.specs.Etag.{etag}
use Rattle.status_keeper.specs.declared.row.Row.{Row}
use Rattle.status_keeper.specs.declared.keeper.KeeperError.{KeeperError}
use Rattle.status_keeper.specs.declared.keeper.KeeperError.TheVariants.{Fault, Moved, Damaged, TooLong, NoMemory}
use Rattle.status_keeper.specs.Kept.{Stamp, Gone, Empty, Tagged, KeeperEvent, KeeperState, Made, Committed, happens, Evolves, IsEdit, IsMaking}
use Rattle.status_keeper.specs.Status.{max_status, text_of}

-- first edits from outside, and then what the call does
pub record AfterEdits (s : KeeperState) (Does : KeeperState → Type 0) : Type 0 where
  pub moment : KeeperState
  pub edits : Evolves IsEdit s moment
  pub does : Does moment

-- from s to t an edit from outside came, and nothing else happened but such edits and the making of the place
pub record WasEdited (s t : KeeperState) : Type 0 where
  pub event : KeeperEvent
  pub is_edit : IsEdit event
  pub moment : KeeperState
  pub from : Evolves IsMaking s moment
  pub until : Evolves IsMaking (happens moment event) t

abbrev pub LoadAnswer : KeeperState → KeeperState → Result (Vec Row Global) KeeperError → Type 0
LoadAnswer m t (Ok rows) = (t ≡ m) × (m.kept ≡ Ok rows.items)
LoadAnswer m t (Err (Damaged k)) = (t ≡ m) × (m.kept ≡ Err (Damaged k))
LoadAnswer m t (Err TooLong) = (t ≡ m) × (m.kept ≡ Err TooLong)
LoadAnswer m t (Err Moved) = ⊥
LoadAnswer m t (Err Fault) = t ≡ m
LoadAnswer m t (Err NoMemory) = t ≡ m

-- what a load finds: the etag of what stands, or that nothing stands
abbrev pub found_at : Stamp → Option (List ℕ)
found_at Gone = None
found_at Empty = None
found_at (Tagged tag) = Some tag

-- whether what stands is what was found: of the same etag; or nothing, and the place there to be written to
abbrev pub is_as_found : Option (List ℕ) → Stamp → Bool
is_as_found None Gone = false
is_as_found None Empty = true
is_as_found None (Tagged tag) = false
is_as_found (Some found) Gone = false
is_as_found (Some found) Empty = false
is_as_found (Some found) (Tagged tag) = bytes_eq tag found

abbrev pub made_where : Stamp → KeeperState → KeeperState
made_where Gone s = happens s Made
made_where Empty s = s
made_where (Tagged tag) s = s

-- the place is there, where none was found in it
abbrev pub placed : Option (List ℕ) → KeeperState → KeeperState
placed None s = made_where s.stamp s
placed (Some found) s = s

-- edits from outside, the making of the place where no status was found, edits again, and then what the call does
pub record AfterPlacing (found : Option (List ℕ)) (s : KeeperState) (Does : KeeperState → Type 0) : Type 0 where
  pub asked : KeeperState
  pub edits : Evolves IsEdit s asked
  pub moment : KeeperState
  pub later : Evolves IsEdit (placed found asked) moment
  pub does : Does moment

-- what stood at the moment of writing was what was found, and the rows are kept
abbrev pub Commits : Option (List ℕ) → List Row → KeeperState → KeeperState → Type 0
Commits found rows t m = (is_as_found found m.stamp ≡ true) × (t ≡ happens m (Committed rows))

-- a commit acts whole or not at all: it keeps the rows exactly where what stands at the moment of writing is what was found, and answers
-- `Moved` exactly elsewhere. Only rows whose text passes the limit are too long
abbrev pub CommitAnswer : Option (List ℕ) → KeeperState → KeeperState → List Row → Result (Unit {0}) KeeperError → Type 0
CommitAnswer found s t rows (Ok u) = AfterPlacing found s (Commits found rows t)
CommitAnswer found s t rows (Err Moved) = AfterPlacing found s (λ m. (is_as_found found m.stamp ≡ false) × (t ≡ m))
CommitAnswer found s t rows (Err Fault) = Evolves IsMaking s t ⊎ AfterPlacing found s (Commits found rows t)
CommitAnswer found s t rows (Err TooLong) = Evolves IsEdit s t × (max_status < length (text_of rows))
CommitAnswer found s t rows (Err NoMemory) = Evolves IsMaking s t
CommitAnswer found s t rows (Err (Damaged k)) = ⊥

-- what a keeper goes by after a commit: the etag of what it committed where it answered Ok, after a fault this or what it went by before,
-- and what it went by before after any other error
abbrev pub FoundAfter : Option (List ℕ) → Option (List ℕ) → List Row → Result (Unit {0}) KeeperError → Type 0
FoundAfter before now rows (Ok u) = now ≡ Some (etag (text_of rows))
FoundAfter before now rows (Err Fault) = (now ≡ before) ⊎ (now ≡ Some (etag (text_of rows)))
FoundAfter before now rows (Err Moved) = now ≡ before
FoundAfter before now rows (Err TooLong) = now ≡ before
FoundAfter before now rows (Err NoMemory) = now ≡ before
FoundAfter before now rows (Err (Damaged k)) = now ≡ before

-- an error and its cause: a Fault comes only where the count rose
abbrev pub KeeperCause : Type 0 → KeeperError → Type 0
KeeperCause rose Fault = rose
KeeperCause rose Moved = Unit {0}
KeeperCause rose (Damaged k) = Unit {0}
KeeperCause rose TooLong = Unit {0}
KeeperCause rose NoMemory = Unit {0}

-- a load never answers `Moved`
abbrev pub IsOfLoad : KeeperError → Type 0
IsOfLoad Fault = Unit {0}
IsOfLoad Moved = ⊥
IsOfLoad (Damaged k) = Unit {0}
IsOfLoad TooLong = Unit {0}
IsOfLoad NoMemory = Unit {0}

-- a commit never answers `Damaged`
abbrev pub IsOfCommit : KeeperError → Type 0
IsOfCommit Fault = Unit {0}
IsOfCommit Moved = Unit {0}
IsOfCommit (Damaged k) = ⊥
IsOfCommit TooLong = Unit {0}
IsOfCommit NoMemory = Unit {0}
