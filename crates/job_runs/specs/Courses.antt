-- One side's course through a run, and what the rows of the status say of it (this project's own).
use Rattle.std.specs.Prelude.{◌≡◌, ℕ, List, Some}
use Rattle.std.specs.FinMap as fin
use Rattle.item_text.specs.Items.{ItemValue, item_of}
use Rattle.status_keeper.specs.declared.row.Row.{Row}
use Rattle.store_model.specs.declared.event.Held.{Held}
use Rattle.store_model.specs.Sides.{SideState, Evolves, Since, IsNoWrite}
use Rattle.side_reads.specs.Places.{href_on, etag_on}
use Rattle.sync_plan.specs.declared.report.Side.{Side}
use Rattle.sync_plan.specs.Merging.{Within}

-- a side at entry, when all was read, and at exit, with the rows that the run loaded
pub record Course : Type 0 where
  pub side : Side
  pub rows : List Row
  pub entry : SideState
  pub read : SideState
  pub exit : SideState

-- nothing is written while the run reads
pub record IsCourse (c : Course) : Type 0 where
  pub reads : Evolves IsNoWrite c.entry c.read
  pub later : Since c.read c.exit

-- one of the rows is of this ident and version, and has this href and etag for the side
pub record IsRowAt (c : Course) (ident version href etag : List ℕ) : Type 0 where
  pub row : Row
  pub is_in : Within row c.rows
  pub same_ident : row.ident ≡ ident
  pub same_version : (row.fp).0 ≡ version
  pub same_href : href_on c.side row ≡ Some href
  pub same_etag : etag_on c.side row ≡ Some etag

-- the rows are true of the side: whatever it holds in this run at a row's href under its etag is of the row's ident and version
pub record AreTrueRows (c : Course) : Type 0 where
  pub each : (ident version href etag : List ℕ) (m : SideState) (held : Held) → IsRowAt c ident version href etag → Since c.entry m → Since m c.exit → fin.get m.content href ≡ Some held → held.etag ≡ etag → (item : ItemValue) × (item_of held.text ≡ Some item) × (item.ident ≡ ident) × (item.version ≡ version)
