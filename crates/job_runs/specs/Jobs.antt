-- One run of one job, whatever faults and edits from outside it meets (this project's own). It has no premises: honest etags and true rows are premises of the laws over it.
use Rattle.std.specs.Prelude.{◌≡◌, ◌⊎◌, ℕ, List, Option, Some, None, option_map}
use Rattle.status_keeper.specs.declared.row.Row.{Row}
use Rattle.status_keeper.specs.Rows.{row_of}
use Rattle.store_model.specs.declared.event.Held.{Held}
use Rattle.store_model.specs.declared.event.StoreEvent.TheVariants.{Wrote}
use Rattle.store_model.specs.Sides.{SideState, happens, IsTrueEvent, Evolves, Since, IsUntouching, IsNotOf}
use Rattle.store_model.specs.Waits.{HasHonestEtags}
use Rattle.sync_plan.specs.declared.report.Side.{Side}
use Rattle.sync_plan.specs.declared.report.Side.TheVariants.{A, B}
use Rattle.sync_plan.specs.declared.rules.Rules.{Rules}
use Rattle.sync_plan.specs.declared.rules.Partial.TheVariants.{Revert}
use Rattle.sync_plan.specs.declared.dues.Step.TheVariants.{Held as HeldStep}
use Rattle.sync_plan.specs.Verdicts.{Versions, other_side, step_of}
use Rattle.sync_plan.specs.JobSteps.{on_side, written, IsPutOn}
use Rattle.side_views.specs.Views.{view, IsProperAt}
use Rattle.job_runs.specs.Courses.{Course, IsCourse, AreTrueRows}
use Rattle.side_reads.specs.Places.{href_on, etag_on}
use Rattle.job_runs.specs.Taken.{Took}
use Rattle.job_runs.specs.Writes.{WroteFor, WroteAll, WroteSome, after_all, IsPlace}

-- the version that the rows have of an ident
abbrev pub version_by : List Row → List ℕ → Option (List ℕ)
version_by rows ident = option_map (λ r. (r.fp).0) (row_of ident rows)

abbrev pub course_at : Side → Course → Course → Course
course_at A a b = a
course_at B a b = b

-- the row at exit, where the run has written all that the step says on both sides: a row of what both have come to, or none where both have come to lack the ident
pub record IsMade (a b : Course) (ident : List ℕ) (saw : Versions) (on_a on_b : Option (Option (List ℕ))) (after : Option Row) : Type 0 where
  pub all_a : WroteAll a b ident saw.a on_a
  pub all_b : WroteAll b a ident saw.b on_b
  pub came_a : after_all on_a saw.a ≡ option_map (λ r. (r.fp).0) after
  pub came_b : after_all on_b saw.b ≡ option_map (λ r. (r.fp).0) after
  -- its hrefs and etags
  pub places : (row : Row) → after ≡ Some row → (row.ident ≡ ident) × IsPlace a b ident row saw.a on_a all_a × IsPlace b a ident row saw.b on_b all_b

-- the row at exit of an ident that is held back: what the side has that may be written, and nothing of the other
pub record IsRowOfHeld (rules : Rules) (saw : Versions) (after : Option Row) : Type 0 where
  pub side : Side
  pub is_held : step_of rules saw ≡ HeldStep side
  pub is_revert : rules.partial ≡ Revert
  pub version : option_map (λ r. (r.fp).0) after ≡ on_side (other_side side) saw
  pub nothing : (row : Row) → after ≡ Some row → (href_on side row ≡ None) × (etag_on side row ≡ None)

-- one ident in a run
pub record IdentRun (rules : Rules) (a b : Course) (ident : List ℕ) (before after : Option Row) : Type 0 where
  -- what the run took both sides and the row to have
  pub saw : Versions
  pub saw_row : saw.s ≡ option_map (λ r. (r.fp).0) before
  pub took_a : Took a ident saw.a
  pub took_b : Took b ident saw.b
  -- what the command answered for the ident, if it did
  pub answer : Option (List ℕ)
  pub writes_a : WroteSome a b ident saw.a (written (step_of rules saw) answer A saw)
  pub writes_b : WroteSome b a ident saw.b (written (step_of rules saw) answer B saw)
  pub row : (after ≡ before) ⊎ IsMade a b ident saw (written (step_of rules saw) answer A saw) (written (step_of rules saw) answer B saw) after ⊎ IsRowOfHeld rules saw after

-- a run of all idents
pub record JobOf (rules : Rules) (a b : Course) (before after : List Row) : Type 0 where
  pub course_a : IsCourse a
  pub course_b : IsCourse b
  pub each : (ident : List ℕ) → IdentRun rules a b ident (row_of ident before) (row_of ident after)
  -- where a removal acted on a side, all that was to be put there was put there
  pub puts_first : (side : Side) (gone put : List ℕ) → WroteFor (course_at side a b) (course_at (other_side side) a b) gone (on_side side (each gone).saw) None → IsPutOn side (step_of rules (each put).saw) → WroteAll (course_at side a b) (course_at (other_side side) a b) put (on_side side (each put).saw) (written (step_of rules (each put).saw) (each put).answer side (each put).saw)

-- ---- what the laws speak of

-- the versions of all idents
abbrev pub state_of : SideState → SideState → List Row → List ℕ → Versions
state_of a b rows ident = record { a = view a ident; b = view b ident; s = version_by rows ident }

-- etags tell texts apart, and rows are true
pub record IsHonest (c : Course) : Type 0 where
  pub etags : HasHonestEtags c.entry c.exit
  pub rows : AreTrueRows c

-- no edit from outside touches the ident, which stands at most once on the side
pub record IsUntouchedOn (ident : List ℕ) (c : Course) : Type 0 where
  pub proper : IsProperAt ident c.entry
  pub quiet : Evolves (IsUntouching ident) c.entry c.exit

pub record IsUntouched (ident : List ℕ) (a b : Course) : Type 0 where
  pub on_a : IsUntouchedOn ident a
  pub on_b : IsUntouchedOn ident b

-- an own write of the ident, or over it
pub record OwnWrite (ident : List ℕ) (c : Course) : Type 0 where
  pub moment : SideState
  pub href : List ℕ
  pub old : Option Held
  pub new : Option Held
  pub sent : Option (List ℕ)
  pub from : Since c.entry moment
  pub is_true : IsTrueEvent moment (Wrote href old new sent)
  pub until : Since (happens moment (Wrote href old new sent)) c.exit
  pub is_of : ¬ (IsNotOf ident old × IsNotOf ident new)
