-- A listing's items with their places, in the listing's order and in byte order of idents (what the functions of a plan say to each other).
use Rattle.std.specs.Prelude.{◌≡◌, ◌<◌, ◌-◌, ℕ, List, Some, Contains, All, map, length, slice_get}
use Rattle.std.specs.List.{slice_index_or}
use Rattle.std.specs.Ordering.{nat_cmp, on, then_cmp}
use Rattle.std.specs.Cmp.Lexicographic.{slice_cmp}
use Rattle.std.specs.declared.cmp.Ordering.{Ordering}
use Rattle.status_keeper.specs.Idents.{Precedes, IsRising}
use Rattle.sync_plan.specs.declared.report.Side.{Side}
use Rattle.sync_plan.specs.declared.placing.Placed.{Placed}
use Rattle.sync_plan.specs.declared.seen.Seen.{Seen}
use Rattle.sync_plan.specs.declared.seen.PlanError.{PlanError}
use Rattle.sync_plan.specs.declared.seen.PlanError.TheVariants.{SameIdent, NoMemory}

abbrev pub ident_in : Placed → List ℕ
ident_in e = e.ident.now

abbrev pub place_in : Placed → ℕ
place_in e = e.found.place

abbrev pub placed_idents : List Placed → List (List ℕ)
placed_idents placed = map ident_in placed

-- the order of idents, and of one ident that of places
abbrev pub placed_cmp : Placed → Placed → Ordering
placed_cmp = then_cmp (on ident_in (slice_cmp nat_cmp)) (on place_in nat_cmp)

-- the entry has the ident and version of the item at its place
pub record IsEntryOf (list : List Seen) (e : Placed) : Type 0 where
  pub item : Seen
  pub stands : slice_get list (place_in e) ≡ Some item
  pub same_ident : item.ident ≡ ident_in e
  pub same_version : (item.fp).0 ≡ (e.found.fp).0

-- one entry for each item, in the listing's order
pub record IsIndex (list : List Seen) (placed : List Placed) : Type 0 where
  pub each : All (IsEntryOf list) placed
  pub in_order : (k : ℕ) (d : Placed) → k < length placed → place_in (slice_index_or placed k d) ≡ k
  pub same_length : length placed ≡ length list

-- one entry for each item, of which no two have one ident, in byte order of idents
pub record IsIndexInOrder (list : List Seen) (placed : List Placed) : Type 0 where
  pub each : All (IsEntryOf list) placed
  pub rising : IsRising (placed_idents placed)
  pub whole : (k : ℕ) → k < length list → (e : Placed) × Contains placed e × (place_in e ≡ k)

-- the ident at this place isn't above the one before
abbrev pub IsNotRisingAt : List Placed → ℕ → Type 0
IsNotRisingAt placed i = (d : Placed) → Precedes (ident_in (slice_index_or placed (i - 1) d)) (ident_in (slice_index_or placed i d)) → ⊥

-- a refusal that names two items, or want of memory
abbrev pub NamesTwins : Side → Seen → Seen → PlanError → Type 0
NamesTwins side x y (SameIdent at ident first second) = (at ≡ side) × (ident ≡ x.ident) × (first ≡ x.href) × (second ≡ y.href)
NamesTwins side x y NoMemory = Unit {0}
