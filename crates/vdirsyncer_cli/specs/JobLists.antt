-- Jobs one after another: what they do to the places, and what is printed of them (this project's own).
use Rattle.std.specs.Prelude.{◌≡◌, ◌≢◌, ℕ, Bool, true, false, List, [], ◌∷◌, ◌++◌, length}
use Rattle.outfits.specs.Places.{IsSame, StayTold}
use Rattle.vdir_store.specs.Names.{is_ending}
use Rattle.sync_plan.specs.Verdicts.{IsWritable}
use Rattle.sync_plan.specs.declared.report.Report.{Report}
use Rattle.cli_jobs.specs.declared.job.SyncJob.{SyncJob}
use Rattle.cli_text.specs.Texts.{report_text}
use Rattle.vdirsyncer_cli.specs.declared.printing.Cut.{Cut}
use Rattle.vdirsyncer_cli.specs.declared.printing.Cut.TheVariants.{Whole, WriteFault, Starved}
use Rattle.vdirsyncer_cli.specs.declared.jobs.Progress.{Progress}
use Rattle.vdirsyncer_cli.specs.declared.job.Job.{Job}
use Rattle.vdirsyncer_cli.specs.Places.{Places}
use Rattle.vdirsyncer_cli.specs.Printing.{Prints}
use Rattle.vdirsyncer_cli.specs.Jobs.{JobAt}

-- the job that is run, by whether a side that came to be empty is taken as it is
abbrev pub job_to_run : Bool → SyncJob → Job
job_to_run force_delete j = record { a = j.a; b = j.b; status = j.status; ending_a = j.ending_a; ending_b = j.ending_b; order = record { rules = j.rules; force_delete = force_delete } }

-- what a run takes of a job: endings of files, and two sides that may be written
pub record MayRun (job : SyncJob) : Type 0 where
  pub of_a : is_ending job.ending_a ≡ true
  pub of_b : is_ending job.ending_b ≡ true
  pub writable : IsWritable job.rules

-- each job ran over the places as the one before it left them; a want of memory outside a job leaves it and those behind it undone
abbrev pub JobsRun : {O : Type 0} → (O → Places) → (O → List ℕ → Type 0) → Bool → O → O → List SyncJob → List Report → Type 0
JobsRun places tells force old new jobs [] = IsSame (places old) (places new) × StayTold (tells old) (tells new)
JobsRun places tells force old new [] (report ∷ reports) = ⊥
JobsRun places tells force old new (job ∷ jobs) (report ∷ reports) =
    (mid : _) × JobAt (places old) (places mid) (tells old) (tells mid) (job_to_run force job) report × JobsRun places tells force mid new jobs reports

-- the texts of the reports, in the order of their jobs
abbrev pub texts_of : List SyncJob → List Report → List ℕ
texts_of jobs [] = []
texts_of [] (report ∷ reports) = []
texts_of (job ∷ jobs) (report ∷ reports) = report_text job.pair report ++ texts_of jobs reports

-- a text is printed behind others: nothing more after a write fault, nor after memory ran out
abbrev pub PrintsOn : {S : Type 0} → (S → ℕ) → (S → Type 0) → (S → List ℕ) → S → S → List ℕ → Cut → Cut → Type 0
PrintsOn count tells held old new text Whole cut = Prints count tells held old new text cut
PrintsOn count tells held old new text WriteFault cut = (new ≡ old) × (cut ≡ WriteFault)
PrintsOn count tells held old new text Starved cut = (new ≡ old) × (cut ≡ Starved)

-- one job more ran, and its report stands and is printed behind the others
pub record RunsNext {O : Type 0} (places : O → Places) (tells : O → List ℕ → Type 0) (force : Bool) (old new : O) (job : SyncJob) (PrintsMore : List ℕ → Cut → Cut → Type 0) (before after : Progress) : Type 0 where
  pub report : Report
  pub ran : JobAt (places old) (places new) (tells old) (tells new) (job_to_run force job) report
  pub reports : after.reports.items ≡ before.reports.items ++ report ∷ []
  pub printed : PrintsMore (report_text job.pair report) before.cut after.cut

-- nothing was run or printed
pub record RunsNone {O S : Type 0} (places : O → Places) (tells : O → List ℕ → Type 0) (old new : O) (out out' : S) (before after : Progress) : Type 0 where
  pub same : IsSame (places old) (places new)
  pub stay_told : StayTold (tells old) (tells new)
  pub silent : out' ≡ out
  pub reports : after.reports.items ≡ before.reports.items
  pub cut : after.cut ≡ before.cut

-- the jobs ran, all of them unless memory ran out outside a job, and their reports were printed
pub record RanJobs {O : Type 0} (places : O → Places) (tells : O → List ℕ → Type 0) (force : Bool) (old new : O) (jobs : List SyncJob) (PrintsOut : List ℕ → Cut → Type 0) (done : Progress) : Type 0 where
  pub ran : JobsRun places tells force old new jobs done.reports.items
  pub printed : PrintsOut (texts_of jobs done.reports.items) done.cut
  pub all : done.is_starved ≡ false → length done.reports.items ≡ length jobs
  pub spoke : done.is_starved ≡ false → done.cut ≢ Starved
