-- What a run has read of its sides when it ends (this project's own).
use Rattle.std.specs.Prelude.{◌≡◌, ◌⊎◌, ℕ, List, ◌++◌, map, Ok}
use Rattle.std.specs.List.{AllByRecursion}
use Rattle.std.specs.declared.vec.Vec.{Vec}
use Rattle.std.specs.declared.alloc.Global.{Global}
use Rattle.store_model.specs.declared.store.Entry.{Entry}
use Rattle.store_model.specs.Sides.{SideState, Evolves, Since, IsOutside}
use Rattle.store_model.specs.StoreCalls.{IsListing}
use Rattle.store_model.specs.Waits.{In}
use Rattle.status_keeper.specs.declared.row.Row.{Row}
use Rattle.status_keeper.specs.Kept.{KeeperState}
use Rattle.status_keeper.specs.Kept as status
use Rattle.sync_plan.specs.declared.report.Side.{Side}
use Rattle.sync_plan.specs.declared.report.Side.TheVariants.{A, B}
use Rattle.side_reads.specs.Holdings.{asked}
use Rattle.job_reads.specs.Readings.{Span, Loads}
use Rattle.sync_run.specs.Ends.{IsKeeping}

-- the side was listed between s and t, and these are the hrefs of all its entries whose place no row has, in the listing's order
pub record AreAsked (side : Side) (rows : List Row) (s t : SideState) (hrefs : List (List ℕ)) : Type 0 where
  pub listed : SideState
  pub entries : Vec Entry Global
  pub from : Evolves IsOutside s listed
  pub is_listing : IsListing (Ok entries) listed
  pub until : Since listed t
  pub all : hrefs ≡ asked side rows entries.items

-- from s to t nothing else was read but at some of them
pub record ReadSome (side : Side) (rows : List Row) (s t : SideState) : Type 0 where
  pub new : List (List ℕ × List ℕ)
  pub reads : t.reads ≡ s.reads ++ new
  pub hrefs : List (List ℕ)
  pub are : AreAsked side rows s t hrefs
  pub each : AllByRecursion (λ (r : List ℕ × List ℕ). In r.0 hrefs) new

-- from s to t each of them was read once, in their order, and nothing else
pub record ReadEach (side : Side) (rows : List Row) (s t : SideState) : Type 0 where
  pub new : List (List ℕ × List ℕ)
  pub reads : t.reads ≡ s.reads ++ new
  pub are : AreAsked side rows s t (map (λ (r : List ℕ × List ℕ). r.0) new)

-- the status was loaded with these rows, after edits from outside, and no own write but of rows came until its exit
pub record WasLoaded (k exit : KeeperState) (rows : Vec Row Global) : Type 0 where
  pub now : KeeperState
  pub load : Loads k now rows
  pub until : status.Evolves IsKeeping now exit

-- the status was loaded, and of each side nothing was read, or only at entries whose place no row has
pub record ReadsNoMore (x : Span) : Type 0 where
  pub rows : Vec Row Global
  pub loaded : WasLoaded x.k x.k_now rows
  pub a : ((x.a_now).reads ≡ (x.a).reads) ⊎ ReadSome A rows.items x.a x.a_now
  pub b : ((x.b_now).reads ≡ (x.b).reads) ⊎ ReadSome B rows.items x.b x.b_now

-- of no side anything was read, or that alone
abbrev pub ReadsAsked : Span → Type 0
ReadsAsked x = (((x.a_now).reads ≡ (x.a).reads) × ((x.b_now).reads ≡ (x.b).reads)) ⊎ ReadsNoMore x

-- the status was loaded, and of both sides all entries were read whose place no row has
pub record ReadsAll (x : Span) : Type 0 where
  pub rows : Vec Row Global
  pub loaded : WasLoaded x.k x.k_now rows
  pub a : ReadEach A rows.items x.a x.a_now
  pub b : ReadEach B rows.items x.b x.b_now
