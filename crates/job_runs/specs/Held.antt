-- What a row at exit says of both sides, whatever edits from outside came (this project's own).
use Rattle.std.specs.Prelude.{◌≡◌, ◌⊎◌, ℕ, List, Option, Some, None}
use Rattle.std.specs.FinMap as fin
use Rattle.item_text.specs.Items.{ItemValue, item_of}
use Rattle.status_keeper.specs.declared.row.Row.{Row}
use Rattle.store_model.specs.declared.event.Held.{Held}
use Rattle.store_model.specs.Sides.{SideState, Sometime, Lacks}
use Rattle.side_views.specs.Views.{view, HoldsVersion}
use Rattle.side_reads.specs.Places.{href_on, etag_on}
use Rattle.sync_plan.specs.declared.rules.Rules.{Rules}
use Rattle.sync_plan.specs.Verdicts.{Versions}
use Rattle.job_runs.specs.Courses.{Course}
use Rattle.job_runs.specs.Taken.{Saw}
use Rattle.job_runs.specs.Writes.{IsEtagOf}
use Rattle.job_runs.specs.Jobs.{version_by, IsRowOfHeld, IsUntouchedOn}

-- an item of this ident and version stands there, under the etag where there is one
pub record StandsAt (ident version href : List ℕ) (etag : Option (List ℕ)) (m : SideState) : Type 0 where
  pub held : Held
  pub here : fin.get m.content href ≡ Some held
  pub same_etag : IsEtagOf etag (Some held)
  pub item : ItemValue
  pub is_item : item_of held.text ≡ Some item
  pub same_ident : item.ident ≡ ident
  pub same_version : item.version ≡ version

-- the row's href and etag for the side are vouched: at a moment of the run an item of the row's version stood there so
pub record IsVouched (c : Course) (ident : List ℕ) (row : Row) : Type 0 where
  pub href : List ℕ
  pub same_href : href_on c.side row ≡ Some href
  pub stood : Sometime (StandsAt ident (row.fp).0 href (etag_on c.side row)) c.entry c.exit

-- the side held the row's version at a moment of the run, and where no edit from outside touches the ident it holds it at exit
pub record HeldOn (c : Course) (ident : List ℕ) (row : Row) : Type 0 where
  pub held : Sometime (HoldsVersion ident (row.fp).0) c.entry c.exit
  pub ends : IsUntouchedOn ident c → view c.exit ident ≡ Some (row.fp).0
  pub place : IsVouched c ident row

pub record IsHeldRow (a b : Course) (ident : List ℕ) (row : Row) : Type 0 where
  pub same_ident : row.ident ≡ ident
  pub on_a : HeldOn a ident row
  pub on_b : HeldOn b ident row

-- the side lacked the ident at a moment of the run, and where no edit from outside touches the ident it lacks it at exit
pub record GoneOn (c : Course) (ident : List ℕ) : Type 0 where
  pub lacked : Sometime (Lacks ident c.entry) c.entry c.exit
  pub ends : IsUntouchedOn ident c → view c.exit ident ≡ None

pub record IsGoneRow (a b : Course) (ident : List ℕ) : Type 0 where
  pub on_a : GoneOn a ident
  pub on_b : GoneOn b ident

-- what the row of an ident becomes that is held back, by what the run saw of it on both sides and in its row
pub record IsHeldBackRow (rules : Rules) (a b : Course) (before : List Row) (ident : List ℕ) (new : Option Row) : Type 0 where
  pub saw : Versions
  pub saw_a : Saw a ident saw.a
  pub saw_b : Saw b ident saw.b
  pub saw_row : saw.s ≡ version_by before ident
  pub row : IsRowOfHeld rules saw new

-- the row of an ident at exit: the one at entry, or one that both sides held, or none where both lacked the ident, or that of an ident that is held back
abbrev pub IsByStep : Rules → Course → Course → List Row → List ℕ → Option Row → Option Row → Type 0
IsByStep rules a b before ident old new = (new ≡ old) ⊎ ((row : Row) × (new ≡ Some row) × IsHeldRow a b ident row) ⊎ ((new ≡ None) × IsGoneRow a b ident) ⊎ IsHeldBackRow rules a b before ident new
