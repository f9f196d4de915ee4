-- What the bytes of a configuration come to: its texts are fetched, and then its jobs are taken (this project's own).
use Rattle.std.specs.Prelude.{◌≡◌, ◌≢◌, ◌⊎◌, ℕ, List, Option, Result, Ok, Err}
use Rattle.cli_words.specs.declared.words.Name.{Name}
use Rattle.config_model.specs.Reading.{config_of}
use Rattle.config_model.specs.declared.config.Config.{Config}
use Rattle.cli_jobs.specs.declared.job.SyncJob.{SyncJob}
use Rattle.cli_jobs.specs.declared.refusal.Refusal.{Refusal}
use Rattle.cli_jobs.specs.declared.refusal.Refusal.TheVariants.{NoMemory}
use Rattle.cli_jobs.specs.Answers.{lifted, ◌>>=◌}
use Rattle.cli_jobs.specs.Jobs.{chosen_jobs}
use Rattle.vdirsyncer_cli.specs.declared.asked.Wanted.{Wanted}

-- how a configuration comes to have all its texts, from a state to a state
abbrev pub Filling : Type 0 → Type 1
Filling W = List Name → Option (List ℕ) → W → W → Config → Result Config Refusal → Type 0

abbrev pub jobs_in : Wanted → Result Config Refusal → Result (List SyncJob) Refusal
jobs_in wanted filled = filled >>= λ config. chosen_jobs wanted.names wanted.home config

abbrev pub SettlesConfig : {W : Type 0} → (W → W → Type 0) → Filling W → Wanted → W → W → Result Config Refusal → Result (List SyncJob) Refusal → Type 0
SettlesConfig IsStill Fills wanted s t (Err r) answer = IsStill s t × (answer ≡ Err r)
SettlesConfig IsStill Fills wanted s t (Ok config) answer = (filled : Result Config Refusal) × Fills wanted.names wanted.home s t config filled × (answer ≡ jobs_in wanted filled)

-- the bytes come to jobs, or to the first refusal
abbrev pub Settles : {W : Type 0} → (W → W → Type 0) → Filling W → Wanted → List ℕ → W → W → Result (List SyncJob) Refusal → Type 0
Settles IsStill Fills wanted bytes s t answer = SettlesConfig IsStill Fills wanted s t (lifted (config_of bytes)) answer

abbrev pub TriesConfig : {W : Type 0} → (W → W → Type 0) → Filling W → Wanted → W → W → Result Config Refusal → Type 0
TriesConfig IsStill Fills wanted s t (Err r) = IsStill s t
TriesConfig IsStill Fills wanted s t (Ok config) = IsStill s t ⊎ ((filled : Result Config Refusal) × Fills wanted.names wanted.home s t config filled)

-- what was done where memory ran out on the way
abbrev pub Tries : {W : Type 0} → (W → W → Type 0) → Filling W → Wanted → List ℕ → W → W → Type 0
Tries IsStill Fills wanted bytes s t = TriesConfig IsStill Fills wanted s t (lifted (config_of bytes))

-- the bytes come to jobs, or to the first refusal; and where memory ran out on the way, no more than that was done
pub record SettlesOrTries {W : Type 0} (IsStill : W → W → Type 0) (Fills : Filling W) (wanted : Wanted) (bytes : List ℕ) (s t : W) (answer : Result (List SyncJob) Refusal) : Type 0 where
  pub settles : answer ≢ Err NoMemory → Settles IsStill Fills wanted bytes s t answer
  pub tries : Tries IsStill Fills wanted bytes s t
