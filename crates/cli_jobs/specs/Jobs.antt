-- The jobs that a configuration comes to, by the names of the words and the home (this project's own).
use Rattle.std.specs.Prelude.{ℕ, false, List, [], ◌∷◌, ◌++◌, codes, if◌then◌else◌, Option, Some, None, Result, Ok, Err}
use Rattle.std.specs.List.{find, cons_option}
use Rattle.std.specs.Str.{bytes_eq}
use Rattle.cli_words.specs.declared.words.Name.{Name}
use Rattle.config_ini.specs.declared.error.ConfigError.TheVariants.{NoStorage}
use Rattle.config_model.specs.declared.config.Config.{Config}
use Rattle.config_model.specs.declared.config.PairConf.{PairConf}
use Rattle.config_model.specs.declared.config.StorageConf.{StorageConf}
use Rattle.config_settle.specs.Paths.{normalised}
use Rattle.config_settle.specs.Settling.{settled_of, status_of}
use Rattle.config_settle.specs.Texts.{are_texts}
use Rattle.config_settle.specs.declared.settled.Settled.{Settled}
use Rattle.config_settle.specs.declared.settled.Settled.TheVariants.{Vdir, Single, Dav}
use Rattle.cli_jobs.specs.declared.job.SyncJob.{SyncJob}
use Rattle.cli_jobs.specs.declared.job.Vdir.{Vdir as Folder}
use Rattle.cli_jobs.specs.declared.refusal.Refusal.{Refusal}
use Rattle.cli_jobs.specs.declared.refusal.Refusal.TheVariants.{Unusable, NotBuilt}
use Rattle.cli_jobs.specs.Answers.{lifted, ◌>>=◌, unless_found}
use Rattle.cli_jobs.specs.Names.{first_unknown, is_chosen}
use Rattle.cli_jobs.specs.Rules.{rules_of}
use Rattle.cli_jobs.specs.Built.{unbuilt_pair, unbuilt_storage, fetched_key, storage_section}

-- where the status of a pair is kept: STATUS/PAIR/.null
unfoldable pub status_place : List ℕ → List ℕ → List ℕ
status_place status pair = normalised (status ++ codes "/" ++ pair ++ codes "/.null")

abbrev pub storage_by : List ℕ → List ℕ → Option StorageConf → Result StorageConf Refusal
storage_by pair name None = Err (Unusable (NoStorage pair name))
storage_by pair name (Some storage) = Ok storage

-- the storage of this name
unfoldable pub storage_at : List StorageConf → List ℕ → List ℕ → Result StorageConf Refusal
storage_at storages pair name = storage_by pair name (find (λ s. bytes_eq s.name name) storages)

-- what a storage's texts come to, where none of them is left to fetch
unfoldable pub settled_texts : Option (List ℕ) → StorageConf → Result (Option Settled) Refusal
settled_texts home storage = if are_texts storage.params then (lifted (settled_of storage home false) >>= λ settled. Ok (Some settled)) else Ok None

-- folders alone are built
abbrev pub folder_by : List ℕ → Settled → Result Folder Refusal
folder_by section (Vdir path ending post pre) = Ok (record { path = path; ending = ending })
folder_by section (Single path) = Err (NotBuilt section (codes "type"))
folder_by section (Dav kind host port path username password agent) = Err (NotBuilt section (codes "type"))

-- a storage's folder: texts that are fetched aren't built
abbrev pub folder_in : StorageConf → Option Settled → Result Folder Refusal
folder_in storage None = Err (NotBuilt (storage_section storage.name) (fetched_key storage.params))
folder_in storage (Some settled) = folder_by (storage_section storage.name) settled

abbrev pub job_over : List ℕ → PairConf → Folder → Folder → SyncJob
job_over status pair a b = record { pair = pair.name; a = a.path; b = b.path; status = status_place status pair.name; ending_a = a.ending; ending_b = b.ending; rules = rules_of pair }

-- the job of a pair over two storages: of each its texts come first, and then what isn't built
unfoldable pub built_job : Option (List ℕ) → List ℕ → PairConf → StorageConf → StorageConf → Result SyncJob Refusal
built_job home status pair a b =
    unless_found (unbuilt_pair pair)
    (settled_texts home a >>= λ texts_a. settled_texts home b >>= λ texts_b.
    unless_found (unbuilt_storage a) (unless_found (unbuilt_storage b)
    (folder_in a texts_a >>= λ folder_a. folder_in b texts_b >>= λ folder_b. Ok (job_over status pair folder_a folder_b))))

unfoldable pub pair_job : Option (List ℕ) → List StorageConf → List ℕ → PairConf → Result SyncJob Refusal
pair_job home storages status pair =
    storage_at storages pair.name pair.a >>= λ a. storage_at storages pair.name pair.b >>= λ b. built_job home status pair a b

-- the job of a pair, where the names choose it
unfoldable pub job_if : List Name → Option (List ℕ) → List StorageConf → List ℕ → PairConf → Result (Option SyncJob) Refusal
job_if names home storages status pair = if is_chosen names pair then (pair_job home storages status pair >>= λ job. Ok (Some job)) else Ok None

-- the jobs of the pairs that the names choose, in the order of the pairs
unfoldable pub jobs_over : List Name → Option (List ℕ) → List StorageConf → List ℕ → List PairConf → Result (List SyncJob) Refusal
jobs_over names home storages status [] = Ok []
jobs_over names home storages status (pair ∷ pairs) =
    job_if names home storages status pair >>= λ job. jobs_over names home storages status pairs >>= λ jobs. Ok (cons_option job jobs)

-- the names are looked at behind the status path, and behind them what isn't built
unfoldable pub chosen_jobs : List Name → Option (List ℕ) → Config → Result (List SyncJob) Refusal
chosen_jobs names home config =
    lifted (status_of config.status_path home) >>= λ status.
    unless_found (first_unknown config.pairs names)
    (jobs_over names home config.storages status config.pairs)
