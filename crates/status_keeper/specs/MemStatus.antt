-- A status in memory (this project's own).
use Rattle.std.specs.Prelude.{◌≡◌, ◌⊎◌, ℕ, List, [], map, Option, Some, Result, Ok, Err}
use Rattle.std.specs.declared.vec.Vec.{Vec}
use Rattle.std.specs.declared.alloc.Global.{Global}
use Rattle.outside.specs.Etag.{etag}
use Rattle.status_keeper.specs.declared.row.Row.{Row}
use Rattle.status_keeper.specs.declared.keeper.KeeperError.{KeeperError}
use Rattle.status_keeper.specs.declared.keeper.KeeperError.TheVariants.{Fault, Moved, Damaged, TooLong, NoMemory}
use Rattle.status_keeper.specs.declared.mem_keeper.MemKeeper.{MemKeeper}
use Rattle.status_keeper.specs.Kept.{Tagged, KeeperEvent, Committed, KeeperState}
use Rattle.status_keeper.specs.Status.{text_of}

-- what was committed, as events
abbrev pub commits_of : List (Vec Row Global) → List KeeperEvent
commits_of past = map (λ rows. Committed rows.items) past

-- what a load finds: the etag that a file of these rows would have
abbrev pub found_of : List Row → Option (List ℕ)
found_of rows = Some (etag (text_of rows))

abbrev pub state_with : List Row → List KeeperEvent → KeeperState
state_with rows trail = record { kept = Ok rows; stamp = Tagged (etag (text_of rows)); trail = trail; beside = [] }

-- the status that a `MemKeeper` stands for
abbrev pub mem_state : MemKeeper → KeeperState
mem_state k = state_with k.rows.items (commits_of k.past.items)

-- no error but a fault and want of memory
abbrev pub IsOfMemory : KeeperError → Type 0
IsOfMemory Fault = Unit {0}
IsOfMemory Moved = ⊥
IsOfMemory (Damaged k) = ⊥
IsOfMemory TooLong = ⊥
IsOfMemory NoMemory = Unit {0}

-- a load gives the rows themselves, and changes nothing
abbrev pub GivesRows : KeeperState → KeeperState → Result (Vec Row Global) KeeperError → Type 0
GivesRows s t (Ok rows) = (t ≡ s) × (s.kept ≡ Ok rows.items)
GivesRows s t (Err e) = (t ≡ s) × IsOfMemory e

-- a commit keeps the rows themselves
abbrev pub KeepsRows : KeeperState → KeeperState → List Row → Result (Unit {0}) KeeperError → Type 0
KeepsRows s t rows (Ok u) = t.kept ≡ Ok rows
KeepsRows s t rows (Err Fault) = (t ≡ s) ⊎ (t.kept ≡ Ok rows)
KeepsRows s t rows (Err Moved) = ⊥
KeepsRows s t rows (Err (Damaged k)) = ⊥
KeepsRows s t rows (Err TooLong) = ⊥
KeepsRows s t rows (Err NoMemory) = t ≡ s
