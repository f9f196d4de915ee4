-- What a run writes on a side for each ident (this project's own).
use Rattle.std.specs.Prelude.{◌≡◌, ◌⊎◌, ℕ, List, Option, Some, None}
use Rattle.status_keeper.specs.declared.row.Row.{Row}
use Rattle.store_model.specs.declared.event.Held.{Held}
use Rattle.store_model.specs.declared.event.StoreEvent.{StoreEvent}
use Rattle.store_model.specs.declared.event.StoreEvent.TheVariants.{Edited, Toggled, Wrote, Read}
use Rattle.store_model.specs.Sides.{SideState, happens, IsTrueEvent, Evolves, Sometime, WasRead, HoldsText, IsTextOf}
use Rattle.side_views.specs.Views.{IsPut}
use Rattle.job_runs.specs.Courses.{Course}
use Rattle.side_reads.specs.Places.{href_on, etag_on}
use Rattle.job_runs.specs.Taken.{IsTaken, IsOverTaken, IsAlone}

abbrev pub IsNewOf : List ℕ → Option Held → Type 0
IsNewOf ident None = Unit {0}
IsNewOf ident (Some held) = IsTextOf ident held.text

-- an own write is for another ident
abbrev pub IsForOthers : Course → List ℕ → StoreEvent → Type 0
IsForOthers c ident (Wrote href old new sent) = (other : List ℕ) × (other ≡ ident → ⊥) × ((saw : Option (List ℕ)) × IsOverTaken c other href saw old) × IsNewOf other new
IsForOthers c ident (Edited href old new) = Unit {0}
IsForOthers c ident Toggled = Unit {0}
IsForOthers c ident (Read href text) = Unit {0}

-- what was sent is, byte for byte, the other side's text of the ident, which this run read there
abbrev pub IsSource : Course → List ℕ → Option (List ℕ) → Type 0
IsSource other ident None = Unit {0}
IsSource other ident (Some text) = IsTextOf ident text × Sometime (HoldsText text) other.entry other.read × WasRead other.entry other.read text

-- one own write is for the ident: over what the run took the side to hold, and found at no other href, it puts this version, or nothing; each other own write is for another ident
pub record WroteFor (c other : Course) (ident : List ℕ) (saw to : Option (List ℕ)) : Type 0 where
  pub moment : SideState
  pub href : List ℕ
  pub old : Option Held
  pub new : Option Held
  pub sent : Option (List ℕ)
  pub before : Evolves (IsForOthers c ident) c.read moment
  pub is_true : IsTrueEvent moment (Wrote href old new sent)
  pub over : IsOverTaken c ident href saw old
  pub alone : IsAlone c ident href saw
  pub put : IsPut ident to new
  pub source : IsSource other ident sent
  pub after : Evolves (IsForOthers c ident) (happens moment (Wrote href old new sent)) c.exit

-- the run wrote all that the step says on this side: nothing, or this
abbrev pub WroteAll : Course → Course → List ℕ → Option (List ℕ) → Option (Option (List ℕ)) → Type 0
WroteAll c other ident saw None = Evolves (IsForOthers c ident) c.read c.exit
WroteAll c other ident saw (Some to) = WroteFor c other ident saw to

-- it wrote nothing, or all
abbrev pub WroteSome : Course → Course → List ℕ → Option (List ℕ) → Option (Option (List ℕ)) → Type 0
WroteSome c other ident saw o = Evolves (IsForOthers c ident) c.read c.exit ⊎ WroteAll c other ident saw o

-- what the side has come to
abbrev pub after_all : Option (Option (List ℕ)) → Option (List ℕ) → Option (List ℕ)
after_all None own = own
after_all (Some to) own = to

-- the etag is that of what was written, where the store told one
abbrev pub IsEtagOf : Option (List ℕ) → Option Held → Type 0
IsEtagOf None new = Unit {0}
IsEtagOf (Some etag) None = ⊥
IsEtagOf (Some etag) (Some held) = etag ≡ held.etag

-- a row's href and etag for a side: those of the entry that was taken for this version, or of the write
abbrev pub IsPlace : (c other : Course) (ident : List ℕ) (row : Row) (saw : Option (List ℕ)) (o : Option (Option (List ℕ))) → WroteAll c other ident saw o → Type 0
IsPlace c other ident row saw None all = (href : List ℕ) × (etag : List ℕ) × (href_on c.side row ≡ Some href) × (etag_on c.side row ≡ Some etag) × IsTaken c ident (row.fp).0 href etag
IsPlace c other ident row saw (Some to) wrote = (href_on c.side row ≡ Some wrote.href) × IsEtagOf (etag_on c.side row) wrote.new
