-- What a run writes for the steps of its plan, in their order (this project's own).
use Rattle.std.specs.Prelude.{◌≡◌, ◌⊎◌, ℕ, Bool, true, false, ◌||◌, List, [], ◌∷◌, ◌++◌, Option, Some, None, Result, Ok, Err, slice_get}
use Rattle.std.specs.Borrow.{Bor}
use Rattle.std.specs.List.{AllByRecursion}
use Rattle.std.specs.Option.{option_and_then}
use Rattle.std.specs.declared.alloc.AllocError.{AllocError}
use Rattle.std.specs.declared.alloc.Global.{Global}
use Rattle.std.specs.declared.vec.Vec.{Vec}
use Rattle.item_text.specs.Items.{ItemValue}
use Rattle.store_model.specs.declared.store.StoreError.{StoreError}
use Rattle.store_model.specs.declared.store.StoreError.TheVariants as store
use Rattle.store_model.specs.Sides.{SideState, Evolves, IsOutside}
use Rattle.store_model.specs.Waits.{Change, Acts, Sent, new_at, over_at, gone_at}
use Rattle.store_model.specs.StoreCalls.{StoreCause, Unsent}
use Rattle.status_keeper.specs.declared.row.Row.{Row}
use Rattle.sync_plan.specs.declared.report.Side.{Side}
use Rattle.sync_plan.specs.declared.report.Side.TheVariants.{A, B}
use Rattle.sync_plan.specs.declared.dues.Step.{Step}
use Rattle.sync_plan.specs.declared.dues.Step.TheVariants as step
use Rattle.sync_plan.specs.declared.seen.Seen.{Seen}
use Rattle.sync_plan.specs.declared.seen.Planned.{Planned}
use Rattle.sync_plan.specs.Verdicts.{other_side}
use Rattle.side_reads.specs.declared.holding.Holding.{Holding}
use Rattle.job_writes.specs.declared.outcome.Outcome.{Outcome}
use Rattle.job_writes.specs.declared.phases.Outcomes.{Outcomes}
use Rattle.job_writes.specs.declared.outcome.Outcome.TheVariants.{Kept, Gone, Written, Left, Conflict, NotWritten, NotRemoved, Skipped}

-- ---- places of a listing

abbrev pub seen_at : Holding → Option ℕ → Option Seen
seen_at held None = None
seen_at held (Some place) = slice_get held.seen.items place

abbrev pub text_at : Holding → Option ℕ → Option ItemValue
text_at held None = None
text_at held (Some place) = option_and_then (λ o. o) (slice_get held.items.items place)

abbrev pub lent_seen : Option (Bor Seen) → Option Seen
lent_seen None = None
lent_seen (Some s) = Some s.now

-- the item at the place is this one, and its text was fetched
pub record IsSourceAt (held : Holding) (place : Option ℕ) (from : Seen) (item : ItemValue) : Type 0 where
  pub seen : seen_at held place ≡ Some from
  pub text : text_at held place ≡ Some item

-- the row of an item that was written to the side, beside what it was written from
abbrev pub row_beside : Side → Seen → List ℕ → Option (List ℕ) → Row
row_beside A from href etag = record { ident = from.ident; fp = from.fp; href_a = Some href; etag_a = etag; href_b = Some from.href; etag_b = Some from.etag }
row_beside B from href etag = record { ident = from.ident; fp = from.fp; href_a = Some from.href; etag_a = Some from.etag; href_b = Some href; etag_b = etag }

-- ---- one call

-- a side, with the changes that wait there
pub record SideNow : Type 0 where
  pub state : SideState
  pub waiting : List Change

abbrev pub now_of : SideState → List Change → SideNow
now_of state waiting = record { state = state; waiting = waiting }

-- a change was sent, and acted or waits; the etag is of what it left
abbrev pub IsSent : Bool → Change → Option (List ℕ) → SideNow → SideNow → Type 0
IsSent waits c etag s t = Sent waits c etag s.state s.waiting t.state t.waiting

-- its call answered the error
abbrev pub IsUnsent : Change → StoreError → SideNow → SideNow → Type 0
IsUnsent c error s t = Unsent c s.state s.waiting t.state t.waiting error

-- nothing happened but edits from outside
abbrev pub IsUntouched : SideNow → SideNow → Type 0
IsUntouched s t = Evolves IsOutside s.state t.state × (t.waiting ≡ s.waiting)

-- an error that may come before anything is sent
abbrev pub IsEarly : StoreError → Type 0
IsEarly store.Fault = Unit {0}
IsEarly store.NoMemory = Unit {0}
IsEarly store.Moved = ⊥
IsEarly store.TooLong = ⊥
IsEarly store.TooMany = ⊥
IsEarly store.NotThere = ⊥
IsEarly (store.Vanished href) = ⊥
IsEarly (store.BadItem href error) = ⊥

-- the call that was to store a new item answered the error
abbrev pub NewFails : List ℕ → StoreError → SideNow → SideNow → Type 0
NewFails text error s t = (IsUntouched s t × IsEarly error) ⊎ ((href : List ℕ) × IsUnsent (new_at href text) error s t)

-- whatever a call answered: the change acted whole or not at all, or it waits
abbrev pub Sends : Change → SideNow → SideNow → Type 0
Sends c s t = ((Evolves IsOutside s.state t.state ⊎ Acts c s.state t.state) × (t.waiting ≡ s.waiting)) ⊎ (Evolves IsOutside s.state t.state × (t.waiting ≡ s.waiting ++ c ∷ []))

-- ---- a call for one step (what the functions of this crate say to each other)

-- an item was to be copied to the side
abbrev pub CopyAnswer : Bool → Side → Seen → ItemValue → SideNow → SideNow → Result Outcome AllocError → Type 0
CopyAnswer waits side from item s t (Ok (Written row)) = (href : List ℕ) × (etag : Option (List ℕ)) × (row ≡ row_beside side from href etag) × IsSent waits (new_at href item.text) etag s t
CopyAnswer waits side from item s t (Ok (NotWritten at error)) = (at ≡ side) × NewFails item.text error s t
CopyAnswer waits side from item s t (Ok Kept) = ⊥
CopyAnswer waits side from item s t (Ok Gone) = ⊥
CopyAnswer waits side from item s t (Ok Left) = ⊥
CopyAnswer waits side from item s t (Ok Conflict) = ⊥
CopyAnswer waits side from item s t (Ok (NotRemoved at error)) = ⊥
CopyAnswer waits side from item s t (Ok Skipped) = ⊥
CopyAnswer waits side from item s t (Err e) = (href : List ℕ) × Sends (new_at href item.text) s t

-- an item was to be written over another
abbrev pub OverAnswer : Bool → Side → Seen → Seen → ItemValue → SideNow → SideNow → Result Outcome AllocError → Type 0
OverAnswer waits side over from item s t (Ok (Written row)) = (etag : Option (List ℕ)) × (row ≡ row_beside side from over.href etag) × IsSent waits (over_at over.href over.etag item.text) etag s t
OverAnswer waits side over from item s t (Ok (NotWritten at error)) = (at ≡ side) × IsUnsent (over_at over.href over.etag item.text) error s t
OverAnswer waits side over from item s t (Ok Kept) = ⊥
OverAnswer waits side over from item s t (Ok Gone) = ⊥
OverAnswer waits side over from item s t (Ok Left) = ⊥
OverAnswer waits side over from item s t (Ok Conflict) = ⊥
OverAnswer waits side over from item s t (Ok (NotRemoved at error)) = ⊥
OverAnswer waits side over from item s t (Ok Skipped) = ⊥
OverAnswer waits side over from item s t (Err e) = Sends (over_at over.href over.etag item.text) s t

-- an item was to be removed
abbrev pub RemovalAnswer : Bool → Side → Seen → SideNow → SideNow → Result Outcome AllocError → Type 0
RemovalAnswer waits side over s t (Ok Gone) = IsSent waits (gone_at over.href over.etag) None s t
RemovalAnswer waits side over s t (Ok (NotRemoved at error)) = (at ≡ side) × IsUnsent (gone_at over.href over.etag) error s t
RemovalAnswer waits side over s t (Ok Kept) = ⊥
RemovalAnswer waits side over s t (Ok (Written row)) = ⊥
RemovalAnswer waits side over s t (Ok Left) = ⊥
RemovalAnswer waits side over s t (Ok Conflict) = ⊥
RemovalAnswer waits side over s t (Ok (NotWritten at error)) = ⊥
RemovalAnswer waits side over s t (Ok Skipped) = ⊥
RemovalAnswer waits side over s t (Err e) = Sends (gone_at over.href over.etag) s t

-- an error that a line may tell: a fault where the count rose, and never want of memory
abbrev pub IsToldError : Type 0 → StoreError → Type 0
IsToldError rose store.NoMemory = ⊥
IsToldError rose error = StoreCause rose error

-- the error of an outcome, of this side, has its cause
abbrev pub IsCausedOn : Side → Type 0 → Outcome → Type 0
IsCausedOn side rose (NotWritten at error) = (at ≡ side) × IsToldError rose error
IsCausedOn side rose (NotRemoved at error) = (at ≡ side) × IsToldError rose error
IsCausedOn side rose Kept = Unit {0}
IsCausedOn side rose Gone = Unit {0}
IsCausedOn side rose (Written row) = Unit {0}
IsCausedOn side rose Left = Unit {0}
IsCausedOn side rose Conflict = Unit {0}
IsCausedOn side rose Skipped = Unit {0}

abbrev pub AtSide : Side → Type 0 → Type 0 → Type 0
AtSide A a b = a
AtSide B a b = b

-- the error of an outcome has its cause on its side
abbrev pub IsCausedOutcome : Type 0 → Type 0 → Outcome → Type 0
IsCausedOutcome a b (NotWritten at error) = IsToldError (AtSide at a b) error
IsCausedOutcome a b (NotRemoved at error) = IsToldError (AtSide at a b) error
IsCausedOutcome a b Kept = Unit {0}
IsCausedOutcome a b Gone = Unit {0}
IsCausedOutcome a b (Written row) = Unit {0}
IsCausedOutcome a b Left = Unit {0}
IsCausedOutcome a b Conflict = Unit {0}
IsCausedOutcome a b Skipped = Unit {0}

-- ---- a step on the side that it writes to

-- the item at the other side's place was copied, with this outcome
pub record CopyDid (waits : Bool) (side : Side) (other : Holding) (place : Option ℕ) (s t : SideNow) (o : Outcome) : Type 0 where
  pub from : Seen
  pub item : ItemValue
  pub source : IsSourceAt other place from item
  pub answer : CopyAnswer waits side from item s t (Ok o)

-- or the run ended there: nothing was done, or the item was sent
pub record CopySent (other : Holding) (place : Option ℕ) (s t : SideNow) : Type 0 where
  pub from : Seen
  pub item : ItemValue
  pub source : IsSourceAt other place from item
  pub href : List ℕ
  pub sends : Sends (new_at href item.text) s t

abbrev pub CopyStep : Bool → Side → Holding → Option ℕ → SideNow → SideNow → Result Outcome AllocError → Type 0
CopyStep waits side other place s t (Ok o) = CopyDid waits side other place s t o
CopyStep waits side other place s t (Err e) = (t ≡ s) ⊎ CopySent other place s t

-- the item at the other side's place was written over the one at this side's place
pub record OverDid (waits : Bool) (side : Side) (own : Holding) (own_place : Option ℕ) (other : Holding) (place : Option ℕ) (s t : SideNow) (o : Outcome) : Type 0 where
  pub over : Seen
  pub stands : seen_at own own_place ≡ Some over
  pub from : Seen
  pub item : ItemValue
  pub source : IsSourceAt other place from item
  pub answer : OverAnswer waits side over from item s t (Ok o)

pub record OverSent (own : Holding) (own_place : Option ℕ) (other : Holding) (place : Option ℕ) (s t : SideNow) : Type 0 where
  pub over : Seen
  pub stands : seen_at own own_place ≡ Some over
  pub from : Seen
  pub item : ItemValue
  pub source : IsSourceAt other place from item
  pub sends : Sends (over_at over.href over.etag item.text) s t

abbrev pub OverStep : Bool → Side → Holding → Option ℕ → Holding → Option ℕ → SideNow → SideNow → Result Outcome AllocError → Type 0
OverStep waits side own own_place other place s t (Ok o) = OverDid waits side own own_place other place s t o
OverStep waits side own own_place other place s t (Err e) = (t ≡ s) ⊎ OverSent own own_place other place s t

-- the item at this side's place was removed
pub record RemovalDid (waits : Bool) (side : Side) (own : Holding) (own_place : Option ℕ) (s t : SideNow) (o : Outcome) : Type 0 where
  pub over : Seen
  pub stands : seen_at own own_place ≡ Some over
  pub answer : RemovalAnswer waits side over s t (Ok o)

pub record RemovalSent (own : Holding) (own_place : Option ℕ) (s t : SideNow) : Type 0 where
  pub over : Seen
  pub stands : seen_at own own_place ≡ Some over
  pub sends : Sends (gone_at over.href over.etag) s t

abbrev pub RemovalStep : Bool → Side → Holding → Option ℕ → SideNow → SideNow → Result Outcome AllocError → Type 0
RemovalStep waits side own own_place s t (Ok o) = RemovalDid waits side own own_place s t o
RemovalStep waits side own own_place s t (Err e) = (t ≡ s) ⊎ RemovalSent own own_place s t

-- ---- the steps but removals

-- what the run took both sides to hold
pub record Sources : Type 0 where
  pub a : Holding
  pub b : Holding

abbrev pub sources : Holding → Holding → Sources
sources a b = record { a = a; b = b }

abbrev pub held_on : Side → Sources → Holding
held_on A x = x.a
held_on B x = x.b

abbrev pub place_on : Side → Planned → Option ℕ
place_on A p = p.a
place_on B p = p.b

abbrev pub IfOn : Side → Side → Type 0 → Type 0 → Type 0
IfOn A A Here Else = Here
IfOn A B Here Else = Else
IfOn B A Here Else = Else
IfOn B B Here Else = Here

-- what a step did on a side, with this outcome
abbrev pub PutBy : Step → Bool → Side → Sources → Planned → SideNow → SideNow → Outcome → Type 0
PutBy (step.CopyTo to) waits side x p s t o = IfOn to side (CopyDid waits side (held_on (other_side side) x) (place_on (other_side side) p) s t o) (t ≡ s)
PutBy (step.WriteOver to) waits side x p s t o = IfOn to side (OverDid waits side (held_on side x) (place_on side p) (held_on (other_side side) x) (place_on (other_side side) p) s t o) (t ≡ s)
PutBy step.Forget waits side x p s t o = t ≡ s
PutBy step.Keep waits side x p s t o = t ≡ s
PutBy (step.RemoveFrom from) waits side x p s t o = t ≡ s
PutBy step.HandOver waits side x p s t o = t ≡ s
PutBy step.Conflict waits side x p s t o = t ≡ s
PutBy (step.Held to) waits side x p s t o = t ≡ s

abbrev pub PutDid : Bool → Side → Sources → Planned → SideNow → SideNow → Outcome → Type 0
PutDid waits side x p s t o = PutBy p.step waits side x p s t o

-- and where the run ended there
abbrev pub PutSentBy : Step → Side → Sources → Planned → SideNow → SideNow → Type 0
PutSentBy (step.CopyTo to) side x p s t = IfOn to side (CopySent (held_on (other_side side) x) (place_on (other_side side) p) s t) ⊥
PutSentBy (step.WriteOver to) side x p s t = IfOn to side (OverSent (held_on side x) (place_on side p) (held_on (other_side side) x) (place_on (other_side side) p) s t) ⊥
PutSentBy step.Forget side x p s t = ⊥
PutSentBy step.Keep side x p s t = ⊥
PutSentBy (step.RemoveFrom from) side x p s t = ⊥
PutSentBy step.HandOver side x p s t = ⊥
PutSentBy step.Conflict side x p s t = ⊥
PutSentBy (step.Held to) side x p s t = ⊥

-- nothing was done on the side, or what the step says was sent there
abbrev pub PutTried : Side → Sources → Planned → SideNow → SideNow → Type 0
PutTried side x p s t = (t ≡ s) ⊎ PutSentBy p.step side x p s t

abbrev pub PutStep : Bool → Side → Sources → Planned → SideNow → SideNow → Result Outcome AllocError → Type 0
PutStep waits side x p s t (Ok o) = PutDid waits side x p s t o
PutStep waits side x p s t (Err e) = PutTried side x p s t

-- which outcomes a step may have
abbrev pub IsPut : Side → Outcome → Type 0
IsPut side (Written row) = Unit {0}
IsPut side (NotWritten at error) = at ≡ side
IsPut side Kept = ⊥
IsPut side Gone = ⊥
IsPut side Left = ⊥
IsPut side Conflict = ⊥
IsPut side (NotRemoved at error) = ⊥
IsPut side Skipped = ⊥

abbrev pub FitsPut : Step → Outcome → Type 0
FitsPut (step.CopyTo to) o = IsPut to o
FitsPut (step.WriteOver to) o = IsPut to o
FitsPut step.Forget o = o ≡ Gone
FitsPut step.Keep o = o ≡ Kept
FitsPut (step.RemoveFrom from) o = o ≡ Left
FitsPut step.HandOver o = o ≡ Left
FitsPut step.Conflict o = o ≡ Conflict
FitsPut (step.Held to) o = o ≡ Left

abbrev pub IsRemoval : Side → Outcome → Type 0
IsRemoval side Gone = Unit {0}
IsRemoval side (NotRemoved at error) = at ≡ side
IsRemoval side Kept = ⊥
IsRemoval side (Written row) = ⊥
IsRemoval side Left = ⊥
IsRemoval side Conflict = ⊥
IsRemoval side (NotWritten at error) = ⊥
IsRemoval side Skipped = ⊥

-- the row of an item that was written is of the ident of what it was written from
abbrev pub IsRowOf : List ℕ → Outcome → Type 0
IsRowOf ident (Written row) = row.ident ≡ ident
IsRowOf ident (NotWritten at error) = Unit {0}
IsRowOf ident Kept = Unit {0}
IsRowOf ident Gone = Unit {0}
IsRowOf ident Left = Unit {0}
IsRowOf ident Conflict = Unit {0}
IsRowOf ident (NotRemoved at error) = Unit {0}
IsRowOf ident Skipped = Unit {0}

pub record IsRowFrom (other : Holding) (place : Option ℕ) (o : Outcome) : Type 0 where
  pub from : Seen
  pub stands : seen_at other place ≡ Some from
  pub of : IsRowOf from.ident o

abbrev pub IsNamedBy : Step → Sources → Planned → Outcome → Type 0
IsNamedBy (step.CopyTo to) x p o = IsRowFrom (held_on (other_side to) x) (place_on (other_side to) p) o
IsNamedBy (step.WriteOver to) x p o = IsRowFrom (held_on (other_side to) x) (place_on (other_side to) p) o
IsNamedBy step.Forget x p o = Unit {0}
IsNamedBy step.Keep x p o = Unit {0}
IsNamedBy (step.RemoveFrom from) x p o = Unit {0}
IsNamedBy step.HandOver x p o = Unit {0}
IsNamedBy step.Conflict x p o = Unit {0}
IsNamedBy (step.Held to) x p o = Unit {0}

abbrev pub IsNamedFor : Sources → Planned → Outcome → Type 0
IsNamedFor x p o = IsNamedBy p.step x p o

-- ---- the removals

-- a write that wasn't Ok
abbrev pub is_failure : Outcome → Bool
is_failure (NotWritten at error) = true
is_failure (NotRemoved at error) = true
is_failure Kept = false
is_failure Gone = false
is_failure (Written row) = false
is_failure Left = false
is_failure Conflict = false
is_failure Skipped = false

-- what a removal did on a side: after a write that wasn't Ok none is sent any more
abbrev pub RemovalBy : Step → Bool → Bool → Side → Sources → Planned → SideNow → SideNow → Outcome → Type 0
RemovalBy (step.RemoveFrom from) true waits side x p s t o = t ≡ s
RemovalBy (step.RemoveFrom from) false waits side x p s t o = IfOn from side (RemovalDid waits side (held_on side x) (place_on side p) s t o) (t ≡ s)
RemovalBy (step.CopyTo to) failed waits side x p s t o = t ≡ s
RemovalBy (step.WriteOver to) failed waits side x p s t o = t ≡ s
RemovalBy step.Forget failed waits side x p s t o = t ≡ s
RemovalBy step.Keep failed waits side x p s t o = t ≡ s
RemovalBy step.HandOver failed waits side x p s t o = t ≡ s
RemovalBy step.Conflict failed waits side x p s t o = t ≡ s
RemovalBy (step.Held to) failed waits side x p s t o = t ≡ s

abbrev pub RemovalDone : Bool → Side → Sources → Bool → Planned → SideNow → SideNow → Outcome → Type 0
RemovalDone waits side x failed p s t o = RemovalBy p.step failed waits side x p s t o

abbrev pub RemovalSentBy : Step → Side → Sources → Planned → SideNow → SideNow → Type 0
RemovalSentBy (step.RemoveFrom from) side x p s t = IfOn from side (RemovalSent (held_on side x) (place_on side p) s t) ⊥
RemovalSentBy (step.CopyTo to) side x p s t = ⊥
RemovalSentBy (step.WriteOver to) side x p s t = ⊥
RemovalSentBy step.Forget side x p s t = ⊥
RemovalSentBy step.Keep side x p s t = ⊥
RemovalSentBy step.HandOver side x p s t = ⊥
RemovalSentBy step.Conflict side x p s t = ⊥
RemovalSentBy (step.Held to) side x p s t = ⊥

-- nothing was done on the side, or what the step says was sent there, none before it having failed
abbrev pub RemovalTried : Side → Sources → Bool → Planned → SideNow → SideNow → Type 0
RemovalTried side x failed p s t = (t ≡ s) ⊎ ((failed ≡ false) × RemovalSentBy p.step side x p s t)

abbrev pub RemovalTurn : Bool → Side → Sources → Bool → Planned → SideNow → SideNow → Result Outcome AllocError → Type 0
RemovalTurn waits side x failed p s t (Ok o) = RemovalDone waits side x failed p s t o
RemovalTurn waits side x failed p s t (Err e) = RemovalTried side x failed p s t

abbrev pub FitsRemoval : Bool → Step → Outcome → Type 0
FitsRemoval true (step.RemoveFrom from) o = o ≡ Skipped
FitsRemoval false (step.RemoveFrom from) o = IsRemoval from o
FitsRemoval failed (step.CopyTo to) o = o ≡ Left
FitsRemoval failed (step.WriteOver to) o = o ≡ Left
FitsRemoval failed step.Forget o = o ≡ Left
FitsRemoval failed step.Keep o = o ≡ Left
FitsRemoval failed step.HandOver o = o ≡ Left
FitsRemoval failed step.Conflict o = o ≡ Left
FitsRemoval failed (step.Held to) o = o ≡ Left

-- ---- all steps of a plan, one after another

-- each did its part on the side; the flag says whether one before it has failed
abbrev pub InOrder : (Bool → Planned → SideNow → SideNow → Outcome → Type 0) → Bool → List Planned → List Outcome → SideNow → SideNow → Type 0
InOrder Did failed [] [] s t = t ≡ s
InOrder Did failed (p ∷ ps) (o ∷ os) s t = (m : SideNow) × Did failed p s m o × InOrder Did (failed || is_failure o) ps os m t
InOrder Did failed [] (o ∷ os) s t = ⊥
InOrder Did failed (p ∷ ps) [] s t = ⊥

-- each did its part on the side, or nothing
abbrev pub AllTried : (Planned → SideNow → SideNow → Type 0) → List Planned → SideNow → SideNow → Type 0
AllTried Tried [] s t = t ≡ s
AllTried Tried (p ∷ ps) s t = (m : SideNow) × Tried p s m × AllTried Tried ps m t

-- each step has an outcome that it may have
abbrev pub AllFit : (Bool → Planned → Outcome → Type 0) → Bool → List Planned → List Outcome → Type 0
AllFit Fits failed [] [] = Unit {0}
AllFit Fits failed (p ∷ ps) (o ∷ os) = Fits failed p o × AllFit Fits (failed || is_failure o) ps os
AllFit Fits failed [] (o ∷ os) = ⊥
AllFit Fits failed (p ∷ ps) [] = ⊥

abbrev pub PutsAnswer : Bool → Side → Sources → List Planned → SideNow → SideNow → Result (Vec Outcome Global) AllocError → Type 0
PutsAnswer waits side x ps s t (Ok os) = InOrder (λ failed. PutDid waits side x) false ps os.items s t
PutsAnswer waits side x ps s t (Err e) = AllTried (PutTried side x) ps s t

abbrev pub RemovalsAnswer : Bool → Side → Sources → Bool → List Planned → SideNow → SideNow → Result (Vec Outcome Global) AllocError → Type 0
RemovalsAnswer waits side x failed ps s t (Ok os) = InOrder (RemovalDone waits side x) failed ps os.items s t
RemovalsAnswer waits side x failed ps s t (Err e) = AllTried (RemovalTried side x failed) ps s t

-- whether one of them has failed, or one before them
abbrev pub failed_after : Bool → List Outcome → Bool
failed_after failed [] = failed
failed_after failed (o ∷ os) = failed_after (failed || is_failure o) os

-- ---- both phases

-- what was done on a side: first the steps but removals, then the removals
pub record WritesDid (waits : Bool) (side : Side) (x : Sources) (ps : List Planned) (s t : SideNow) (os : Outcomes) : Type 0 where
  pub between : SideNow
  pub puts : InOrder (λ failed. PutDid waits side x) false ps os.put.items s between
  pub removals : InOrder (RemovalDone waits side x) (failed_after false os.put.items) ps os.removed.items between t

-- and where the run ended among the removals: all other steps have their outcomes
pub record RemovalsTried (waits : Bool) (side : Side) (x : Sources) (ps : List Planned) (s t : SideNow) : Type 0 where
  pub between : SideNow
  pub put : List Outcome
  pub puts : InOrder (λ failed. PutDid waits side x) false ps put s between
  pub removals : AllTried (RemovalTried side x (failed_after false put)) ps between t

-- and where it ended anywhere: among the other steps no removal was sent
abbrev pub WritesTried : Bool → Side → Sources → List Planned → SideNow → SideNow → Type 0
WritesTried waits side x ps s t = AllTried (PutTried side x) ps s t ⊎ RemovalsTried waits side x ps s t

abbrev pub WritesAnswer : Bool → Side → Sources → List Planned → SideNow → SideNow → Result Outcomes AllocError → Type 0
WritesAnswer waits side x ps s t (Ok os) = WritesDid waits side x ps s t os
WritesAnswer waits side x ps s t (Err e) = WritesTried waits side x ps s t

-- each step has its outcomes
pub record IsWhole (x : Sources) (ps : List Planned) (os : Outcomes) : Type 0 where
  pub named : AllFit (λ failed. IsNamedFor x) false ps os.put.items
  pub put : AllFit (λ failed p. FitsPut p.step) false ps os.put.items
  pub removed : AllFit (λ failed p. FitsRemoval failed p.step) (failed_after false os.put.items) ps os.removed.items

-- each error has its cause
pub record AreCaused (a b : Type 0) (os : Outcomes) : Type 0 where
  pub put : AllByRecursion (IsCausedOutcome a b) os.put.items
  pub removed : AllByRecursion (IsCausedOutcome a b) os.removed.items
