-- What a run that did a job promises of what it wrote over, of what it sent, and of what each ident is due (this project's own).
use Rattle.std.specs.Prelude.{◌≡◌, ◌⊎◌, ℕ, Bool, List, Option, Some}
use Rattle.item_text.specs.Items.{ItemValue, item_of}
use Rattle.status_keeper.specs.declared.row.Row.{Row}
use Rattle.status_keeper.specs.Rows.{row_of}
use Rattle.store_model.specs.declared.event.Held.{Held}
use Rattle.sync_plan.specs.declared.report.Side.TheVariants.{A, B}
use Rattle.sync_plan.specs.declared.rules.Rules.{Rules}
use Rattle.sync_plan.specs.Verdicts.{IsUndisputed, due_of}
use Rattle.sync_plan.specs.JobSteps.{JobStep}
use Rattle.job_runs.specs.Courses.{Course}
use Rattle.job_runs.specs.Writes.{IsSource}
use Rattle.job_runs.specs.Jobs.{state_of, IsHonest, IsUntouched, OwnWrite}
use Rattle.job_runs.specs.Held.{IsByStep}
use Rattle.job_runs.specs.Named.{OwnEvent, IsNamedWrite}
use Rattle.job_reads.specs.Readings.{Span, span, OnlyReads, course_of_a, course_of_b}
use Rattle.sync_run.specs.Ends.{JobRun}

-- an ident that is undisputed at entry is so at exit, and due the same
pub record KeepsDue (rules : Rules) (a b : Course) (before after : List Row) (ident : List ℕ) : Type 0 where
  pub undisputed : IsUndisputed rules (state_of a.exit b.exit after ident)
  pub same : due_of rules (state_of a.exit b.exit after ident) ≡ due_of rules (state_of a.entry b.entry before ident)

pub record Keeps (rules : Rules) (a b : Course) (before after : List Row) : Type 0 where
  -- each own write over an item is of the version that the status held at entry, or the conflict rule names what is written
  pub named_a : (href : List ℕ) (held : Held) (new : Option Held) (sent : Option (List ℕ)) (item : ItemValue) → OwnEvent a href (Some held) new sent → item_of held.text ≡ Some item → IsNamedWrite rules a b before A item new
  pub named_b : (href : List ℕ) (held : Held) (new : Option Held) (sent : Option (List ℕ)) (item : ItemValue) → OwnEvent b href (Some held) new sent → item_of held.text ≡ Some item → IsNamedWrite rules a b before B item new
  -- each text that was sent is, byte for byte, one that the run read on the other side
  pub source_a : (href : List ℕ) (old new : Option Held) (text : List ℕ) → OwnEvent a href old new (Some text) → (ident : List ℕ) × IsSource b ident (Some text)
  pub source_b : (href : List ℕ) (old new : Option Held) (text : List ℕ) → OwnEvent b href old new (Some text) → (ident : List ℕ) × IsSource a ident (Some text)
  -- what may become of each ident that no edit from outside touches
  pub step : JobStep rules (λ ident. IsUntouched ident a b) (state_of a.entry b.entry before) (state_of a.exit b.exit after) (λ ident. OwnWrite ident a) (λ ident. OwnWrite ident b)
  -- its row is the one at entry, or of what both sides held or lacked in this run
  pub rows : (ident : List ℕ) → IsByStep rules a b before ident (row_of ident before) (row_of ident after)
  pub due : (ident : List ℕ) → IsUntouched ident a b → IsUndisputed rules (state_of a.entry b.entry before ident) → KeepsDue rules a b before after ident

-- a run that did a job keeps all this, where etags tell texts apart and rows are true
pub record KeepsPromise (force : Bool) (rules : Rules) (x : Span) : Type 0 where
  pub run : JobRun force rules x
  pub keeps : IsHonest (course_of_a (span x.k run.k x.a run.a x.b run.b) run.r x.a_now) → IsHonest (course_of_b (span x.k run.k x.a run.a x.b run.b) run.r x.b_now) →
      Keeps rules (course_of_a (span x.k run.k x.a run.a x.b run.b) run.r x.a_now) (course_of_b (span x.k run.k x.a run.a x.b run.b) run.r x.b_now) ((run.r).rows.items) run.after

-- a run only read, or it keeps its promise
abbrev pub IsPromised : Bool → Rules → Span → Type 0
IsPromised force rules x = OnlyReads x ⊎ KeepsPromise force rules x
