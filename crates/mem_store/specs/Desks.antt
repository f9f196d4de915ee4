-- What waits in a store in memory, and the draft that it makes (this project's own).
use Rattle.std.specs.Prelude.{ℕ, List, map, Option, Some, None}
use Rattle.store_model.specs.Sides.{Content, SideState}
use Rattle.store_model.specs.Waits.{Change, ActAll}
use Rattle.mem_store.specs.Memory.{side_of, bare}
use Rattle.mem_store.specs.declared.shelf.Shelf.{Shelf}
use Rattle.mem_store.specs.declared.desk.Pending.{Pending}
use Rattle.mem_store.specs.declared.desk.Desk.{Desk}

abbrev pub pending_change : Pending → Change
pending_change p = record { href = p.href; expected = p.expected; sent = p.sent }

abbrev pub waiting_of : Desk → List Change
waiting_of d = map pending_change d.waiting.items

-- a draft is what the content comes to once all that waits has acted
abbrev pub IsDraft : List Change → Content → Option Shelf → Type 0
IsDraft w c None = Unit {0}
IsDraft w c (Some draft) = ActAll w (bare c) (side_of draft)

abbrev pub desk_side : Desk → SideState
desk_side d = side_of d.shelf

abbrev pub count_of : Desk → ℕ
count_of d = d.planned.faults.count

abbrev pub IsSound : Desk → Type 0
IsSound d = IsDraft (waiting_of d) (desk_side d).content d.draft
