-- What a run takes a side to hold: by what it fetched, and by rows for entries that it didn't fetch (this project's own).
use Rattle.std.specs.Prelude.{◌≡◌, ◌⊎◌, ℕ, List, Option, Some, None}
use Rattle.std.specs.FinMap as fin
use Rattle.item_text.specs.Items.{ItemValue, item_of}
use Rattle.store_model.specs.declared.event.Held.{Held}
use Rattle.store_model.specs.Sides.{SideState, Evolves, Since, Sometime, Lacks, IsNoWrite}
use Rattle.side_views.specs.Views.{HoldsVersion}
use Rattle.job_runs.specs.Courses.{Course, IsRowAt}

-- an item of this ident and version stands there, under this etag
pub record StandsAs (ident version href etag : List ℕ) (m : SideState) : Type 0 where
  pub held : Held
  pub here : fin.get m.content href ≡ Some held
  pub same_etag : held.etag ≡ etag
  pub item : ItemValue
  pub is_item : item_of held.text ≡ Some item
  pub same_ident : item.ident ≡ ident
  pub same_version : item.version ≡ version

pub record HasEtag (href etag : List ℕ) (m : SideState) : Type 0 where
  pub held : Held
  pub here : fin.get m.content href ≡ Some held
  pub same_etag : held.etag ≡ etag

-- an entry that was listed is of this ident and version: its text was so when it was fetched, or a row says so
abbrev pub IsTaken : Course → List ℕ → List ℕ → List ℕ → List ℕ → Type 0
IsTaken c ident version href etag = Sometime (StandsAs ident version href etag) c.entry c.read ⊎ (Sometime (HasEtag href etag) c.entry c.read × IsRowAt c ident version href etag)

-- a text of another ident stands there
pub record StandsOther (ident href : List ℕ) (m : SideState) : Type 0 where
  pub held : Held
  pub here : fin.get m.content href ≡ Some held
  pub item : ItemValue
  pub is_item : item_of held.text ≡ Some item
  pub other : item.ident ≡ ident → ⊥

-- none of the entries that were listed is of the ident: each was fetched and is of another, or a row says that it is of another
pub record FoundNone (c : Course) (ident : List ℕ) : Type 0 where
  pub listed : SideState
  pub from : Since c.entry listed
  pub until : Evolves IsNoWrite listed c.read
  pub each : (href : List ℕ) (held : Held) → fin.get listed.content href ≡ Some held → Sometime (StandsOther ident href) listed c.read ⊎ ((other : List ℕ) × (version : List ℕ) × (other ≡ ident → ⊥) × IsRowAt c other version href held.etag)

-- of the entries that were listed none but the one at this href is of the ident: each other was fetched and is of another, or a row says that it is of another
pub record FoundAlone (c : Course) (ident href : List ℕ) : Type 0 where
  pub listed : SideState
  pub from : Since c.entry listed
  pub until : Evolves IsNoWrite listed c.read
  pub each : (q : List ℕ) (held : Held) → fin.get listed.content q ≡ Some held → (q ≡ href) ⊎ Sometime (StandsOther ident q) listed c.read ⊎ ((other : List ℕ) × (version : List ℕ) × (other ≡ ident → ⊥) × IsRowAt c other version q held.etag)

-- what the run took the side to hold of the ident: nothing, or a version
abbrev pub Took : Course → List ℕ → Option (List ℕ) → Type 0
Took c ident None = FoundNone c ident
Took c ident (Some version) = (href : List ℕ) × (etag : List ℕ) × IsTaken c ident version href etag

-- what a write was sent over: nothing, where the run took the side to lack the ident, or what it took, by its etag
abbrev pub IsOverTaken : Course → List ℕ → List ℕ → Option (List ℕ) → Option Held → Type 0
IsOverTaken c ident href None old = old ≡ None
IsOverTaken c ident href (Some version) old = (held : Held) × (old ≡ Some held) × IsTaken c ident version href held.etag

-- the same where rows are true: the version stood there, or the side lacked the ident
abbrev pub Saw : Course → List ℕ → Option (List ℕ) → Type 0
Saw c ident None = Lacks ident c.entry c.read
Saw c ident (Some version) = Sometime (HoldsVersion ident version) c.entry c.read

abbrev pub IsOverSeen : Course → List ℕ → List ℕ → Option (List ℕ) → Option Held → Type 0
IsOverSeen c ident href None old = old ≡ None
IsOverSeen c ident href (Some version) old = (held : Held) × (old ≡ Some held) × Sometime (StandsAs ident version href held.etag) c.entry c.read

-- what a write was sent over, where it is something, was found at this href alone
abbrev pub IsAlone : Course → List ℕ → List ℕ → Option (List ℕ) → Type 0
IsAlone c ident href None = Unit {0}
IsAlone c ident href (Some version) = FoundAlone c ident href
