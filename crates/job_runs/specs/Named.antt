-- What a run may write over, and what it may send (this project's own).
use Rattle.std.specs.Prelude.{◌≡◌, ℕ, List, Option}
use Rattle.item_text.specs.Items.{ItemValue}
use Rattle.status_keeper.specs.declared.row.Row.{Row}
use Rattle.store_model.specs.declared.event.Held.{Held}
use Rattle.store_model.specs.declared.event.StoreEvent.TheVariants.{Wrote}
use Rattle.store_model.specs.Sides.{SideState, happens, IsTrueEvent, Since}
use Rattle.sync_plan.specs.declared.report.Side.{Side}
use Rattle.sync_plan.specs.declared.rules.Rules.{Rules}
use Rattle.sync_plan.specs.Verdicts.{Versions}
use Rattle.sync_plan.specs.JobSteps.{IsNamed}
use Rattle.side_views.specs.Views.{IsPut}
use Rattle.job_runs.specs.Courses.{Course}
use Rattle.job_runs.specs.Taken.{Saw}
use Rattle.job_runs.specs.Jobs.{version_by}

-- an own write of a run: what stood at the href, what it put there, and the text that it sent
pub record OwnEvent (c : Course) (href : List ℕ) (old new : Option Held) (sent : Option (List ℕ)) : Type 0 where
  pub moment : SideState
  pub from : Since c.entry moment
  pub is_true : IsTrueEvent moment (Wrote href old new sent)
  pub until : Since (happens moment (Wrote href old new sent)) c.exit

-- what was written over this item of a side is named by what the run saw of its ident on both sides and in its row
pub record IsNamedWrite (rules : Rules) (a b : Course) (before : List Row) (side : Side) (item : ItemValue) (new : Option Held) : Type 0 where
  pub saw : Versions
  pub saw_a : Saw a item.ident saw.a
  pub saw_b : Saw b item.ident saw.b
  pub saw_row : saw.s ≡ version_by before item.ident
  pub answer : Option (List ℕ)
  pub to : Option (List ℕ)
  pub put : IsPut item.ident to new
  pub named : IsNamed rules answer side saw item.version to
