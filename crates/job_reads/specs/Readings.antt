-- What a run of one job reads before it writes, in which order, and why it stops there (this project's own).
use Rattle.std.specs.Prelude.{◌≡◌, ◌⊎◌, ℕ, Bool, true, false, List, [], ◌∷◌, ◌++◌, map, Option, Some, None, Result, Ok, Err}
use Rattle.std.specs.List.{AllByRecursion}
use Rattle.std.specs.declared.vec.Vec.{Vec}
use Rattle.std.specs.declared.alloc.Global.{Global}
use Rattle.item_text.specs.Items.{ItemValue, item_of}
use Rattle.store_model.specs.declared.store.Entry.{Entry}
use Rattle.store_model.specs.declared.store.Fetched.{Fetched}
use Rattle.store_model.specs.declared.store.StoreError.{StoreError}
use Rattle.store_model.specs.declared.store.StoreError.TheVariants as store
use Rattle.store_model.specs.Sides.{Content, SideState, Evolves, Sometime, WasRead, HoldsText, IsOutside, IsNoWrite}
use Rattle.store_model.specs.StoreCalls.{IsListing, WasFetched, HasFault, IsGetOf, GetAnswer, read_of}
use Rattle.status_keeper.specs.declared.row.Row.{Row}
use Rattle.status_keeper.specs.declared.keeper.KeeperError.{KeeperError}
use Rattle.status_keeper.specs.Kept.{KeeperState, IsEdit}
use Rattle.status_keeper.specs.Kept as status
use Rattle.status_keeper.specs.KeeperCalls.{AfterEdits, LoadAnswer}
use Rattle.sync_plan.specs.declared.report.Side.{Side}
use Rattle.sync_plan.specs.declared.report.Side.TheVariants.{A, B}
use Rattle.sync_plan.specs.declared.seen.Seen.{Seen}
use Rattle.side_reads.specs.declared.holding.Holding.{Holding}
use Rattle.side_reads.specs.Holdings.{asked, AreTaken}
use Rattle.job_runs.specs.Courses.{Course}
use Rattle.job_reads.specs.declared.stop.Stop.{Stop}
use Rattle.job_reads.specs.declared.stop.Stop.TheVariants.{Unloaded, Unlisted, Emptied, Unfetched, NoMemory}
use Rattle.job_reads.specs.declared.reading.ReadJob.{ReadJob}

-- ---- one side

-- it was listed, and nothing but edits from outside came beside
pub record Lists (entries : Vec Entry Global) (s t : SideState) : Type 0 where
  pub listed : SideState
  pub from : Evolves IsOutside s listed
  pub is_listing : IsListing (Ok entries) listed
  pub until : Evolves IsOutside listed t

-- its listing answered the error
pub record ListFails (error : StoreError) (s t : SideState) : Type 0 where
  pub run : Evolves IsOutside s t
  pub answered : Sometime (IsListing (Err error)) s t

-- it was listed, and then nothing was read but at hrefs of entries whose place no row has
pub record GetsAsked (side : Side) (rows : List Row) (entries : Vec Entry Global) (s t : SideState) : Type 0 where
  pub listed : SideState
  pub from : Evolves IsOutside s listed
  pub is_listing : IsListing (Ok entries) listed
  pub gets : Evolves (IsGetOf (asked side rows entries.items)) listed t

-- it was listed, then the items whose place no row has were fetched, and nothing else was read
pub record Reads (side : Side) (rows : List Row) (entries : Vec Entry Global) (fetched : Vec Fetched Global) (s t : SideState) : Type 0 where
  pub listed : SideState
  pub from : Evolves IsOutside s listed
  pub is_listing : IsListing (Ok entries) listed
  pub until : Evolves IsNoWrite listed t
  pub gets : Evolves (IsGetOf (asked side rows entries.items)) listed t
  pub asks : map (λ f. f.href) fetched.items ≡ asked side rows entries.items
  pub each : AllByRecursion (WasFetched listed t) fetched.items
  pub reads : t.reads ≡ s.reads ++ map read_of fetched.items

-- the first of these hrefs that has a fault has this one, at a moment since the listing
pub record StopsFetching (listed t : SideState) (hrefs : List (List ℕ)) (error : StoreError) : Type 0 where
  pub given : List Fetched
  pub href : List ℕ
  pub rest : List (List ℕ)
  pub asks : hrefs ≡ map (λ f. f.href) given ++ href ∷ rest
  pub each : AllByRecursion (WasFetched listed t) given
  pub fault : Sometime (HasFault href error) listed t

abbrev pub FetchAnswers : SideState → SideState → List (List ℕ) → StoreError → Type 0
FetchAnswers listed t hrefs store.NoMemory = Unit {0}
FetchAnswers listed t hrefs error = StopsFetching listed t hrefs error

-- it was listed, and the fetch of the items whose place no row has answered the error; nothing else was read
pub record FetchFails (side : Side) (rows : List Row) (entries : Vec Entry Global) (error : StoreError) (s t : SideState) : Type 0 where
  pub listed : SideState
  pub from : Evolves IsOutside s listed
  pub is_listing : IsListing (Ok entries) listed
  pub until : Evolves IsNoWrite listed t
  pub gets : Evolves (IsGetOf (asked side rows entries.items)) listed t
  pub answers : FetchAnswers listed t (asked side rows entries.items) error

-- ---- the status

abbrev pub Loads : KeeperState → KeeperState → Vec Row Global → Type 0
Loads k now rows = AfterEdits k (λ m. LoadAnswer m now (Ok rows))

abbrev pub LoadFails : KeeperState → KeeperState → KeeperError → Type 0
LoadFails k now error = AfterEdits k (λ m. LoadAnswer m now (Err error))

-- ---- a side that came to be empty

abbrev pub empty_beside : List Entry → List Entry → Option Side
empty_beside [] [] = None
empty_beside [] (e ∷ es) = Some A
empty_beside (e ∷ es) [] = Some B
empty_beside (d ∷ ds) (e ∷ es) = None

-- where the status has a row: the side that has no entry, where the other has one
abbrev pub emptied_side : Bool → List Row → List Entry → List Entry → Option Side
emptied_side true rows a b = None
emptied_side false [] a b = None
emptied_side false (row ∷ rows) a b = empty_beside a b

-- ---- the whole reading

-- the status and both sides before and after
pub record Span : Type 0 where
  pub k : KeeperState
  pub k_now : KeeperState
  pub a : SideState
  pub a_now : SideState
  pub b : SideState
  pub b_now : SideState

abbrev pub span : KeeperState → KeeperState → SideState → SideState → SideState → SideState → Span
span k k_now a a_now b b_now = record { k = k; k_now = k_now; a = a; a_now = a_now; b = b; b_now = b_now }

pub record IsRead (force : Bool) (x : Span) (r : ReadJob) : Type 0 where
  pub load : Loads x.k x.k_now r.rows
  pub entries_a : Vec Entry Global
  pub entries_b : Vec Entry Global
  pub full : emptied_side force r.rows.items entries_a.items entries_b.items ≡ None
  pub fetched_a : Vec Fetched Global
  pub fetched_b : Vec Fetched Global
  pub reads_a : Reads A r.rows.items entries_a fetched_a x.a x.a_now
  pub reads_b : Reads B r.rows.items entries_b fetched_b x.b x.b_now
  pub taken_a : AreTaken A r.rows.items fetched_a.items entries_a.items r.a.seen.items r.a.items.items
  pub taken_b : AreTaken B r.rows.items fetched_b.items entries_b.items r.b.seen.items r.b.items.items

-- ---- what a run so knows of a side

-- the item's text was read on the side, and stood there while the run read
pub record IsReadText (c : Course) (seen : Seen) (item : ItemValue) : Type 0 where
  pub is_item : item_of item.text ≡ Some item
  pub same_ident : item.ident ≡ seen.ident
  pub same_version : item.version ≡ (seen.fp).0
  pub stood : Sometime (HoldsText item.text) c.entry c.read
  pub was_read : WasRead c.entry c.read item.text

-- each side's course, when it will have come to its exit
abbrev pub course_of_a : Span → ReadJob → SideState → Course
course_of_a x r exit = record { side = A; rows = r.rows.items; entry = x.a; read = x.a_now; exit = exit }

abbrev pub course_of_b : Span → ReadJob → SideState → Course
course_of_b x r exit = record { side = B; rows = r.rows.items; entry = x.b; read = x.b_now; exit = exit }

-- ---- why it stops: what comes later in the order of the calls wasn't asked

abbrev pub IsLoaded : Span → Type 0
IsLoaded x = (rows : Vec Row Global) × Loads x.k x.k_now rows

abbrev pub IsUnlisted : Side → Span → StoreError → Type 0
IsUnlisted A x error = IsLoaded x × ListFails error x.a x.a_now × (x.b_now ≡ x.b)
IsUnlisted B x error = IsLoaded x × ((entries : Vec Entry Global) × Lists entries x.a x.a_now) × ListFails error x.b x.b_now

pub record IsEmptied (force : Bool) (x : Span) (side : Side) : Type 0 where
  pub rows : Vec Row Global
  pub load : Loads x.k x.k_now rows
  pub entries_a : Vec Entry Global
  pub entries_b : Vec Entry Global
  pub lists_a : Lists entries_a x.a x.a_now
  pub lists_b : Lists entries_b x.b x.b_now
  pub emptied : emptied_side force rows.items entries_a.items entries_b.items ≡ Some side

pub record IsUnfetchedOfA (force : Bool) (x : Span) (error : StoreError) : Type 0 where
  pub rows : Vec Row Global
  pub load : Loads x.k x.k_now rows
  pub entries_a : Vec Entry Global
  pub entries_b : Vec Entry Global
  pub full : emptied_side force rows.items entries_a.items entries_b.items ≡ None
  pub fails : FetchFails A rows.items entries_a error x.a x.a_now
  pub lists_b : Lists entries_b x.b x.b_now

pub record IsUnfetchedOfB (force : Bool) (x : Span) (error : StoreError) : Type 0 where
  pub rows : Vec Row Global
  pub load : Loads x.k x.k_now rows
  pub entries_a : Vec Entry Global
  pub entries_b : Vec Entry Global
  pub full : emptied_side force rows.items entries_a.items entries_b.items ≡ None
  pub fetched_a : Vec Fetched Global
  pub reads_a : Reads A rows.items entries_a fetched_a x.a x.a_now
  pub fails : FetchFails B rows.items entries_b error x.b x.b_now

abbrev pub IsUnfetched : Bool → Side → Span → StoreError → Type 0
IsUnfetched force A x error = IsUnfetchedOfA force x error
IsUnfetched force B x error = IsUnfetchedOfB force x error

-- nothing of the side was read; or the status was loaded, the side listed, and then only entries were read whose place no row has
abbrev pub IsReadWithin : Side → KeeperState → KeeperState → SideState → SideState → Type 0
IsReadWithin side k now s t = Evolves IsOutside s t ⊎ ((rows : Vec Row Global) × (entries : Vec Entry Global) × Loads k now rows × GetsAsked side rows.items entries s t)

-- nothing was written, and of each side nothing else was read
pub record OnlyReads (x : Span) : Type 0 where
  pub keeper : status.Evolves IsEdit x.k x.k_now
  pub a : Evolves IsNoWrite x.a x.a_now
  pub b : Evolves IsNoWrite x.b x.b_now
  pub within_a : IsReadWithin A x.k x.k_now x.a x.a_now
  pub within_b : IsReadWithin B x.k x.k_now x.b x.b_now

abbrev pub IsStop : Bool → Span → Stop → Type 0
IsStop force x (Unloaded error) = LoadFails x.k x.k_now error × (x.a_now ≡ x.a) × (x.b_now ≡ x.b)
IsStop force x (Unlisted side error) = IsUnlisted side x error
IsStop force x (Emptied side) = IsEmptied force x side
IsStop force x (Unfetched side error) = IsUnfetched force side x error
IsStop force x NoMemory = OnlyReads x

-- ---- the causes of its errors, also of devices that don't tell

abbrev pub AtSide : {X : Type 0} → Side → (X → Type 0) → (X → Type 0) → X → Type 0
AtSide A a b x = a x
AtSide B a b x = b x

abbrev pub IsCausedStop : (StoreError → Type 0) → (StoreError → Type 0) → (KeeperError → Type 0) → Stop → Type 0
IsCausedStop a b k (Unloaded error) = k error
IsCausedStop a b k (Unlisted side error) = AtSide side a b error
IsCausedStop a b k (Emptied side) = Unit {0}
IsCausedStop a b k (Unfetched side error) = AtSide side a b error
IsCausedStop a b k NoMemory = Unit {0}

-- ---- what the functions of this crate say to each other

-- a fetch of one side ended so
abbrev pub IsFetchStop : Side → (StoreError → Type 0) → Stop → Type 0
IsFetchStop side Cause (Unfetched at error) = (at ≡ side) × Cause error
IsFetchStop side Cause NoMemory = Unit {0}
IsFetchStop side Cause (Unloaded error) = ⊥
IsFetchStop side Cause (Unlisted at error) = ⊥
IsFetchStop side Cause (Emptied at) = ⊥

abbrev pub HoldAnswer : (Content → Type 0) → Side → List Row → Vec Entry Global → SideState → SideState → Result Holding Stop → Type 0
HoldAnswer recalls side rows entries m t (Ok h) = (fetched : Vec Fetched Global) × GetAnswer recalls m t (asked side rows entries.items) (Ok fetched) × AreTaken side rows fetched.items entries.items h.seen.items h.items.items
HoldAnswer recalls side rows entries m t (Err stop) = IsFetchStop side (λ error. GetAnswer recalls m t (asked side rows entries.items) (Err error)) stop
