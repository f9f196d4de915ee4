-- The jobs of a configuration may be run: their endings are those that a store of a folder takes, and both their sides may be written.
use Rattle.std.proofs.Common.{◌&&◌, ℕ, List, [], ◌∷◌, Bool, Option, Result, Ok, Err, ap}
use Rattle.std.specs.Prelude.{IfOk}
use Rattle.std.specs.List.{AllByRecursion}
use Rattle.cli_jobs.specs.declared.job.SyncJob.{SyncJob}
use Rattle.cli_jobs.proofs.Folders.{IsRunnable, chosen_jobs_ok}
use Rattle.cli_jobs.specs.Answers.{Comes}
use Rattle.cli_jobs.specs.Jobs.{chosen_jobs}
use Rattle.cli_words.specs.declared.words.Name.{Name}
use Rattle.vdirsyncer_cli.specs.JobLists.{MayRun}
use Rattle.config_model.specs.declared.config.Config.{Config}
use Rattle.cli_jobs.specs.declared.refusal.Refusal.{Refusal}
use Rattle.vdirsyncer_cli.proofs.EndingLaws.{store_takes}

may_run : (job : SyncJob) → IsRunnable job → MayRun job
may_run job is = record { of_a = store_takes job.ending_a is.of_a; of_b = store_takes job.ending_b is.of_b; writable = ap (λ (b : Bool). b && (job.rules).b_read_only) is.writes_a }

all_may_run : (jobs : List SyncJob) → AllByRecursion IsRunnable jobs → AllByRecursion MayRun jobs
all_may_run [] all = tt
all_may_run (job ∷ jobs) all = (may_run job all.0, all_may_run jobs all.1)

pub chosen_may_run : (names : List Name) (home : Option (List ℕ)) (config : Config) (answer : Result (List SyncJob) Refusal) → Comes (chosen_jobs names home config) answer → IfOk answer (AllByRecursion MayRun)
chosen_may_run names home config (Ok jobs) comes = all_may_run jobs (chosen_jobs_ok names home config jobs comes)
chosen_may_run names home config (Err r) comes = tt
