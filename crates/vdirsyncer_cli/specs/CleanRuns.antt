-- What a run of the program promises of its jobs, and when it is undisturbed over jobs that are ready, and what it then leaves (this project's own).
use Rattle.std.specs.Prelude.{◌≡◌, ◌≢◌, ◌≤◌, ◌⊎◌, ℕ, Bool, true, false, List, [], ◌∷◌, length, Some, Result, Ok, Err}
use Rattle.std.specs.List.{AllByRecursion}
use Rattle.std.specs.FinMap as fin
use Rattle.outside.specs.Causes.{Rose}
use Rattle.outside.specs.Files.{Evolves}
use Rattle.outside.specs.declared.folder.FolderEvent.{FolderEvent}
use Rattle.outside.specs.declared.folder.FolderEvent.TheVariants as folder_event
use Rattle.status_keeper.specs.declared.row.Row.{Row}
use Rattle.status_keeper.specs.declared.keeper.KeeperError.TheVariants.{TooLong}
use Rattle.sync_plan.specs.declared.report.Report.{Report}
use Rattle.sync_plan.specs.declared.report.JobEnd.TheVariants.{NotCommitted}
use Rattle.sync_run.specs.Promise.{IsPromised}
use Rattle.sync_run.specs.Ready.{IsReady, EndsClean}
use Rattle.outfits.specs.Children.{Children}
use Rattle.config_model.specs.Reading.{config_of}
use Rattle.config_model.specs.declared.config.Config.{Config}
use Rattle.cli_jobs.specs.declared.job.SyncJob.{SyncJob}
use Rattle.cli_jobs.specs.declared.refusal.Refusal.{Refusal}
use Rattle.cli_jobs.specs.Answers.{lifted}
use Rattle.cli_jobs.specs.Jobs.{chosen_jobs}
use Rattle.cli_jobs.specs.Unfetched.{has_fetches}
use Rattle.config_fetch.specs.Filling.{World, IsStill, world}
use Rattle.vdirsyncer_cli.specs.declared.asked.Asked.{Asked}
use Rattle.vdirsyncer_cli.specs.declared.asked.Wanted.{Wanted}
use Rattle.vdirsyncer_cli.specs.declared.printing.Cut.{Cut}
use Rattle.vdirsyncer_cli.specs.declared.job.Job.{Job}
use Rattle.vdirsyncer_cli.specs.ConfigRead.{config_limit}
use Rattle.vdirsyncer_cli.specs.Jobs.{IsTold, IsQuietJob, span_in}
use Rattle.vdirsyncer_cli.specs.Places.{Places, place_at}
use Rattle.vdirsyncer_cli.specs.JobLists.{job_to_run, JobsRun}
use Rattle.vdirsyncer_cli.specs.Settling.{Filling, SettlesConfig, jobs_in}
use Rattle.vdirsyncer_cli.specs.Runs.{Ended, Did, WordsRun}
use Rattle.vdirsyncer_cli.specs.Runs.Ended.{WrongWords, HelpAsked, WordsRefused, FileRefused, ConfigRefused, OutOfMemory, JobsEnded, JobsStarved}
use Rattle.vdirsyncer_cli.specs.SamePlace.{IsSamePlace}
use Rattle.vdirsyncer_cli.specs.Files.{folder_of, name_of}

-- a job over three places that differ, and that tell their states, keeps the promise of a run
abbrev pub KeepsPromise : Places → Places → (List ℕ → Type 0) → Job → Type 0
KeepsPromise old new tells job = (IsSamePlace job.a job.b job.status → ⊥) → IsTold tells job → IsPromised (job.order).force_delete (job.order).rules (span_in old new job)

-- each of the jobs keeps it
abbrev pub AllKept : {O : Type 0} (places : O → Places) (tells : O → List ℕ → Type 0) (force : Bool) (old new : O) (jobs : List SyncJob) (reports : List Report) → JobsRun places tells force old new jobs reports → Type 0
AllKept places tells force old new jobs [] ran = Unit {0}
AllKept places tells force old new [] (report ∷ reports) ran = Unit {0}
AllKept places tells force old new (job ∷ jobs) (report ∷ reports) ran =
    KeepsPromise (places old) (places ran.0) (tells old) (job_to_run force job) × AllKept places tells force ran.0 new jobs reports ran.2

-- the jobs of the run keep it
abbrev pub IsKept : {O I E : Type 0} (places : O → Places) (tells : O → List ℕ → Type 0) (children : O → Children) (tells_child : O → Type 0) (Fills : Filling (World O I E)) (old settled : World O I E) (new : O) (what : Asked) (ended : Ended) → Did places tells children tells_child Fills old settled new what ended → Type 0
IsKept places tells children tells_child Fills old settled new what WrongWords did = Unit {0}
IsKept places tells children tells_child Fills old settled new what HelpAsked did = Unit {0}
IsKept places tells children tells_child Fills old settled new what (WordsRefused line) did = Unit {0}
IsKept places tells children tells_child Fills old settled new what (FileRefused wanted e) did = Unit {0}
IsKept places tells children tells_child Fills old settled new what (ConfigRefused wanted r) did = Unit {0}
IsKept places tells children tells_child Fills old settled new what OutOfMemory did = Unit {0}
IsKept places tells children tells_child Fills old settled new what (JobsEnded wanted jobs reports) did = AllKept places tells wanted.force_delete settled.outfit new jobs reports (did.0).ran
IsKept places tells children tells_child Fills old settled new what (JobsStarved wanted jobs reports) did = AllKept places tells wanted.force_delete settled.outfit new jobs reports did.ran

-- no edit from outside
abbrev pub IsInside : FolderEvent → Type 0
IsInside (folder_event.Edited name old new) = ⊥
IsInside folder_event.Toggled = ⊥
IsInside (folder_event.Wrote name old new) = Unit {0}
IsInside (folder_event.Read name bytes) = Unit {0}
IsInside folder_event.Made = Unit {0}

-- the file of the configuration stands there, and nothing disturbs its reading, which ends at these places
pub record IsQuietReading (old now : Places) (tells : List ℕ → Type 0) (wanted : Wanted) : Type 0 where
  pub told : tells (folder_of wanted.file)
  pub still : Rose (place_at old (folder_of wanted.file)).faults (place_at now (folder_of wanted.file)).faults → ⊥
  pub unedited : Evolves IsInside (place_at old (folder_of wanted.file)).state (place_at now (folder_of wanted.file)).state
  pub bytes : List ℕ
  pub stands : fin.get ((place_at old (folder_of wanted.file)).state).files (name_of wanted.file) ≡ Some bytes
  pub fits : length bytes ≤ config_limit

-- a configuration comes to jobs: as it stands, where it has no texts to fetch; else with those that were fetched, each of which is a value
abbrev pub GivesBy : Bool → Wanted → Config → Result Config Refusal → Type 0
GivesBy false wanted config filled = (jobs : List SyncJob) × (chosen_jobs wanted.names wanted.home config ≡ Ok jobs)
GivesBy true wanted config filled = (jobs : List SyncJob) × (jobs_in wanted filled ≡ Ok jobs)

-- the bytes are a configuration that comes to jobs
abbrev pub GivesJobs : {W : Type 0} (IsStill : W → W → Type 0) (Fills : Filling W) (wanted : Wanted) (s t : W) (config : Result Config Refusal) (answer : Result (List SyncJob) Refusal) → SettlesConfig IsStill Fills wanted s t config answer → Type 0
GivesJobs IsStill Fills wanted s t (Err r) answer settles = ⊥
GivesJobs IsStill Fills wanted s t (Ok config) answer settles = GivesBy (has_fetches wanted.names config) wanted config settles.0

-- a job over three places that differ is ready, its run is quiet, and the text of its rows is within the limit of a status
pub record IsCleanJob (old new : Places) (tells : List ℕ → Type 0) (job : Job) (report : Report) : Type 0 where
  pub apart : IsSamePlace job.a job.b job.status → ⊥
  pub told : IsTold tells job
  pub rows : List Row
  pub ready : IsReady (job.order).force_delete (span_in old new job) rows
  pub quiet : IsQuietJob old new job
  pub rows_fit : report.end ≢ NotCommitted TooLong

-- each of the jobs is so
abbrev pub AreCleanJobs : {O : Type 0} (places : O → Places) (tells : O → List ℕ → Type 0) (force : Bool) (old new : O) (jobs : List SyncJob) (reports : List Report) → JobsRun places tells force old new jobs reports → Type 0
AreCleanJobs places tells force old new jobs [] ran = Unit {0}
AreCleanJobs places tells force old new [] (report ∷ reports) ran = Unit {0}
AreCleanJobs places tells force old new (job ∷ jobs) (report ∷ reports) ran =
    IsCleanJob (places old) (places ran.0) (tells old) (job_to_run force job) report × AreCleanJobs places tells force ran.0 new jobs reports ran.2

-- valid words, a configuration that comes to jobs, and those ready, all of them undisturbed
abbrev pub IsUndisturbed : {O I E : Type 0} (places : O → Places) (tells : O → List ℕ → Type 0) (children : O → Children) (tells_child : O → Type 0) (Fills : Filling (World O I E)) (old settled : World O I E) (new : O) (what : Asked) (ended : Ended) → Did places tells children tells_child Fills old settled new what ended → Type 0
IsUndisturbed places tells children tells_child Fills old settled new what WrongWords did = ⊥
IsUndisturbed places tells children tells_child Fills old settled new what HelpAsked did = ⊥
IsUndisturbed places tells children tells_child Fills old settled new what (WordsRefused line) did = ⊥
IsUndisturbed places tells children tells_child Fills old settled new what (FileRefused wanted e) did = IsQuietReading (places old.outfit) (places new) (tells old.outfit) wanted
IsUndisturbed places tells children tells_child Fills old settled new what (ConfigRefused wanted r) did = IsQuietReading (places old.outfit) (places new) (tells old.outfit) wanted × GivesJobs (IsStill children) Fills wanted (world (did.0).read old.input old.err) settled (lifted (config_of (did.0).bytes)) (Err r) (did.0).settles
IsUndisturbed places tells children tells_child Fills old settled new what OutOfMemory did = Unit {0}
IsUndisturbed places tells children tells_child Fills old settled new what (JobsEnded wanted jobs reports) did =
    IsQuietReading (places old.outfit) (places settled.outfit) (tells old.outfit) wanted × AreCleanJobs places tells wanted.force_delete settled.outfit new jobs reports (did.0).ran
IsUndisturbed places tells children tells_child Fills old settled new what (JobsStarved wanted jobs reports) did = Unit {0}

-- no report has a line
abbrev pub AreLineless : List Report → Type 0
AreLineless reports = AllByRecursion (λ report. report.lines.items ≡ []) reports

-- the status of a run is 0, and it prints nothing, where its jobs have no lines; else it is 1
abbrev pub AnswersBy : List Report → ℕ → Type 0 → Type 0
AnswersBy reports result AreSilent = (AreLineless reports × (result ≡ 0) × AreSilent) ⊎ ((AreLineless reports → ⊥) × (result ≡ 1))

-- a job is clean: in sync, its lines exactly the conflicts that no rule settles, both sides and the rows at what each other ident is due
abbrev pub LeavesJob : Places → Places → Job → Report → Type 0
LeavesJob old new job report = (rows : List Row) × (((span_in old new job).k).kept ≡ Ok rows) × EndsClean (job.order).rules (span_in old new job) rows report

abbrev pub LeaveJobs : {O : Type 0} (places : O → Places) (tells : O → List ℕ → Type 0) (force : Bool) (old new : O) (jobs : List SyncJob) (reports : List Report) → JobsRun places tells force old new jobs reports → Type 0
LeaveJobs places tells force old new jobs [] ran = Unit {0}
LeaveJobs places tells force old new [] (report ∷ reports) ran = Unit {0}
LeaveJobs places tells force old new (job ∷ jobs) (report ∷ reports) ran =
    LeavesJob (places old) (places ran.0) (job_to_run force job) report × LeaveJobs places tells force ran.0 new jobs reports ran.2

-- the jobs that the configuration comes to ran, each once, and each is clean
abbrev pub LeavesClean : {O I E : Type 0} (places : O → Places) (tells : O → List ℕ → Type 0) (children : O → Children) (tells_child : O → Type 0) (Fills : Filling (World O I E)) (old settled : World O I E) (new : O) (what : Asked) (ended : Ended) → Did places tells children tells_child Fills old settled new what ended → ℕ → Type 0 → Type 0
LeavesClean places tells children tells_child Fills old settled new what WrongWords did result AreSilent = ⊥
LeavesClean places tells children tells_child Fills old settled new what HelpAsked did result AreSilent = ⊥
LeavesClean places tells children tells_child Fills old settled new what (WordsRefused line) did result AreSilent = ⊥
LeavesClean places tells children tells_child Fills old settled new what (FileRefused wanted e) did result AreSilent = ⊥
LeavesClean places tells children tells_child Fills old settled new what (ConfigRefused wanted r) did result AreSilent = ⊥
LeavesClean places tells children tells_child Fills old settled new what OutOfMemory did result AreSilent = ⊥
LeavesClean places tells children tells_child Fills old settled new what (JobsEnded wanted jobs reports) did result AreSilent =
    AnswersBy reports result AreSilent × LeaveJobs places tells wanted.force_delete settled.outfit new jobs reports (did.0).ran
LeavesClean places tells children tells_child Fills old settled new what (JobsStarved wanted jobs reports) did result AreSilent = ⊥

-- one run of the program: each job keeps the promise; and where the run is undisturbed and the sinks are still behind the fetches, it leaves each job clean, or it answers 3
pub record PromisedRun {O I E : Type 0} (places : O → Places) (tells : O → List ℕ → Type 0) (children : O → Children) (tells_child : O → Type 0) (Fills : Filling (World O I E)) (old : World O I E) (new : O) (input : I) (what : Asked) (PrintsOut : List ℕ → Cut → Type 0) (PrintsErr : E → List ℕ → Cut → Type 0) (AreStill AreSilent : E → Type 0) (result : ℕ) : Type 0 where
  pub run : WordsRun places tells children tells_child Fills old new input what PrintsOut PrintsErr result
  pub kept : IsKept places tells children tells_child Fills old run.settled new what run.ended run.did
  pub complete : AreStill (run.settled).err → IsUndisturbed places tells children tells_child Fills old run.settled new what run.ended run.did → (result ≡ 3) ⊎ LeavesClean places tells children tells_child Fills old run.settled new what run.ended run.did result (AreSilent (run.settled).err)

-- no count of the sinks rose
abbrev pub SinkIsStill : {S : Type 0} → (S → ℕ) → S → S → Type 0
SinkIsStill count old new = Rose (count old) (count new) → ⊥

-- nothing was written to a sink that tells what it holds
abbrev pub SinkIsSilent : {S : Type 0} → (S → Type 0) → (S → List ℕ) → S → S → Type 0
SinkIsSilent tells held old new = tells old → held new ≡ held old
