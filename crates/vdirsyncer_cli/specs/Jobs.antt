-- What one job does to its three places (this project's own).
use Rattle.std.specs.Prelude.{◌≡◌, ◌≢◌, ◌⊎◌, ℕ, false, List, []}
use Rattle.outside.specs.Causes.{Rose}
use Rattle.outside.specs.Files.{FolderState}
use Rattle.outfits.specs.Places.{Place, place_by, IsSame, StayTold}
use Rattle.store_model.specs.Sides.{WasEdited}
use Rattle.vdir_store.specs.Names.{SpeaksOf}
use Rattle.vdir_store.specs.Vdir.{side_of}
use Rattle.status_keeper.specs.FileStatus.{state_of}
use Rattle.sync_plan.specs.declared.report.Report.{Report}
use Rattle.sync_plan.specs.declared.report.Refusal.TheVariants.{SameLocation}
use Rattle.sync_plan.specs.declared.report.JobEnd.TheVariants.{Refused}
use Rattle.job_reads.specs.Readings.{Span, span}
use Rattle.sync_run.specs.declared.job.SyncOrder.{SyncOrder}
use Rattle.sync_run.specs.Quiet.{IsDisturbed}
use Rattle.sync_run.specs.Whole.{Counts, counts, WholeRun}
use Rattle.vdirsyncer_cli.specs.declared.job.Job.{Job}
use Rattle.vdirsyncer_cli.specs.Places.{Places, place_at}
use Rattle.vdirsyncer_cli.specs.SamePlace.{IsSamePlace}
use Rattle.vdirsyncer_cli.specs.declared.opened.Opened.{Opened}

-- three places, as they stand
pub record Three : Type 0 where
  pub a : Place
  pub b : Place
  pub s : Place

-- their counts of faults, at entry and at exit
abbrev pub counts_of : Three → Three → Counts
counts_of old new = counts (old.a).faults (new.a).faults (old.b).faults (new.b).faults (old.s).faults (new.s).faults

-- two folders as sides, by the endings of their items' files, and one as a status
abbrev pub span_of : List ℕ → List ℕ → Three → Three → Span
span_of ending_a ending_b old new =
    span (state_of (old.s).state) (state_of (new.s).state) (side_of ending_a (old.a).state) (side_of ending_a (new.a).state) (side_of ending_b (old.b).state) (side_of ending_b (new.b).state)

-- contracts don't speak of an ending that itself ends with `.tmp`
abbrev pub TellsSide : List ℕ → Type 0 → Type 0
TellsSide ending tells = SpeaksOf ending × tells

-- one run of a job over three places, and whether each tells its state at entry and at exit
abbrev pub PlacesRun : SyncOrder → List ℕ → List ℕ → Three → Three → Type 0 → Type 0 → Type 0 → Type 0 → Type 0 → Type 0 → Report → Type 0
PlacesRun order ending_a ending_b old new tells_a tells_a' tells_b tells_b' tells_s tells_s' report =
    WholeRun order false false (counts_of old new) (TellsSide ending_a tells_a) (TellsSide ending_a tells_a') (TellsSide ending_b tells_b) (TellsSide ending_b tells_b') tells_s tells_s' (span_of ending_a ending_b old new) report

-- what contracts speak of: endings that don't end with `.tmp`, and places that tell their state
pub record IsTold (tells : List ℕ → Type 0) (job : Job) : Type 0 where
  pub speaks_a : SpeaksOf job.ending_a
  pub speaks_b : SpeaksOf job.ending_b
  pub tells_a : tells job.a
  pub tells_b : tells job.b
  pub tells_s : tells job.status

-- the places of a job, and its sides and its status in them
abbrev pub three_of : Places → Job → Three
three_of places job = record { a = place_at places job.a; b = place_at places job.b; s = place_at places job.status }

abbrev pub span_in : Places → Places → Job → Span
span_in old new job = span_of job.ending_a job.ending_b (three_of old job) (three_of new job)

-- no count of faults rose, and no edit from outside came
pub record IsQuietJob (old new : Places) (job : Job) : Type 0 where
  pub still_a : Rose (place_at old job.a).faults (place_at new job.a).faults → ⊥
  pub still_b : Rose (place_at old job.b).faults (place_at new job.b).faults → ⊥
  pub still_s : Rose (place_at old job.status).faults (place_at new job.status).faults → ⊥
  pub calm_a : WasEdited (span_in old new job).a (span_in old new job).a_now → ⊥
  pub calm_b : WasEdited (span_in old new job).b (span_in old new job).b_now → ⊥
  pub calm_s : IsDisturbed (span_in old new job).k (span_in old new job).k_now → ⊥

-- a job ran over its three places, which differ, and touched no other
pub record Ran (old new : Places) (tells tells' : List ℕ → Type 0) (job : Job) (report : Report) : Type 0 where
  pub apart : IsSamePlace job.a job.b job.status → ⊥
  pub step : PlacesRun job.order job.ending_a job.ending_b (three_of old job) (three_of new job) (tells job.a) (tells' job.a) (tells job.b) (tells' job.b) (tells job.status) (tells' job.status) report
  pub others : (q : List ℕ) → q ≢ job.a → q ≢ job.b → q ≢ job.status → new q ≡ old q
  pub others_tell : (q : List ℕ) → q ≢ job.a → q ≢ job.b → q ≢ job.status → tells q → tells' q

-- a job was refused before any of its places was opened, since two of them are the same
pub record RefusedSame (old new : Places) (tells tells' : List ℕ → Type 0) (job : Job) (report : Report) : Type 0 where
  pub same : IsSamePlace job.a job.b job.status
  pub end : report.end ≡ Refused SameLocation
  pub lines : report.lines.items ≡ []
  pub places : IsSame old new
  pub tells_still : StayTold tells tells'

abbrev pub JobAt : Places → Places → (List ℕ → Type 0) → (List ℕ → Type 0) → Job → Report → Type 0
JobAt old new tells tells' job report = Ran old new tells tells' job report ⊎ RefusedSame old new tells tells' job report

-- the places of three folders
abbrev pub places_of : {D : Type 0} → (D → ℕ) → (D → FolderState) → Opened D → Three
places_of count state d = record { a = place_by count state d.a; b = place_by count state d.b; s = place_by count state d.status }

-- one run of a job over its three folders, which are handed back
abbrev pub OverFolders : {D : Type 0} → SyncOrder → (D → ℕ) → (D → Type 0) → (D → FolderState) → List ℕ → List ℕ → Opened D → Opened D → Report → Type 0
OverFolders order count tells state ending_a ending_b d e report =
    PlacesRun order ending_a ending_b (places_of count state d) (places_of count state e) (tells d.a) (tells e.a) (tells d.b) (tells e.b) (tells d.status) (tells e.status) report
