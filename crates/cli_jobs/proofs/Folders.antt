-- What a run takes of a job is so: its endings are endings that files may have, both its sides may be written, and no command decides conflicts.
use Rattle.std.proofs.Common.{◌≡◌, ℕ, List, [], ◌∷◌, Bool, true, false, if◌then◌else◌, Option, Some, None, Result, Ok, Err, refl, ap, subst}
use Rattle.cli_words.specs.declared.words.Name.{Name}
use Rattle.config_ini.specs.declared.error.ConfigError.{ConfigError}
use Rattle.config_model.specs.declared.config.Config.{Config}
use Rattle.config_model.specs.declared.config.PairConf.{PairConf}
use Rattle.config_model.specs.declared.config.StorageConf.{StorageConf}
use Rattle.config_settle.specs.declared.settled.Settled.{Settled}
use Rattle.config_settle.specs.declared.settled.Settled.TheVariants.{Vdir, Single, Dav}
use Rattle.config_settle.specs.Texts.{are_texts, is_ending}
use Rattle.config_settle.specs.Settling.{settled_of, status_of}
use Rattle.cli_jobs.specs.declared.job.SyncJob.{SyncJob}
use Rattle.cli_jobs.specs.declared.job.Vdir.{Vdir as Folder}
use Rattle.cli_jobs.specs.declared.refusal.Refusal.{Refusal}
use Rattle.cli_jobs.specs.Answers.{lifted, ◌>>=◌, unless_found}
use Rattle.cli_jobs.specs.Built.{unbuilt_if, has_collections, is_command, unbuilt_pair, unbuilt_storage, storage_section}
use Rattle.cli_jobs.specs.Rules.{conflict_of}
use Rattle.cli_jobs.specs.Names.{first_unknown, is_chosen, pair_section}
use Rattle.cli_jobs.specs.declared.refusal.Refusal.TheVariants.{NotBuilt}
use Rattle.config_model.specs.declared.rules.ConflictRule.{ConflictRule as WrittenRule}
use Rattle.config_model.specs.declared.rules.ConflictRule.TheVariants as written
use Rattle.sync_plan.specs.declared.rules.ConflictRule.TheVariants.{Null, AWins, BWins, Command}
use Rattle.std.specs.Prelude.{codes}
use Rattle.std.specs.List.{AllByRecursion, cons_option}
use Rattle.std.specs.Option.{option_or}
use Rattle.cli_jobs.specs.Jobs.{storage_at, settled_texts, folder_by, folder_in, job_over, built_job, pair_job, job_if, jobs_over, chosen_jobs}
use Rattle.cli_jobs.proofs.Settled.{IsFolderEnding, settled_ok}

bind_ok : {A B : Type 0} (x : Result A Refusal) (f : A → Result B Refusal) (b : B) → (x >>= f) ≡ Ok b → (a : A) × (x ≡ Ok a) × (f a ≡ Ok b)
bind_ok (Ok a) f b e = (a, refl, e)
bind_ok (Err r) f b e = absurd (let clash : Err r ≡ Ok b = e in cc)

unless_ok : {A : Type 0} (o : Option Refusal) (x : Result A Refusal) (a : A) → unless_found o x ≡ Ok a → x ≡ Ok a
unless_ok None x a e = e
unless_ok (Some r) x a e = absurd (let clash : Err r ≡ Ok a = e in cc)

lifted_ok : {A : Type 0} (x : Result A ConfigError) (a : A) → lifted x ≡ Ok a → x ≡ Ok a
lifted_ok (Ok b) a e = let same : b ≡ a = cc in ap Ok same
lifted_ok (Err r) a e = absurd (cc)

folder_by_ok : (section : List ℕ) (settled : Settled) (folder : Folder) → IsFolderEnding settled → folder_by section settled ≡ Ok folder → is_ending folder.ending ≡ true
folder_by_ok section (Vdir path ends post pre) folder is e =
    let whole : Folder = record { path = path; ending = ends } in
    let same : whole ≡ folder = cc in
    subst (λ (f : Folder). is_ending f.ending ≡ true) same is
folder_by_ok section (Single path) folder is e = absurd (cc)
folder_by_ok section (Dav kind host port path username password agent) folder is e = absurd (cc)

texts_by : (is : Bool) (x : Result Settled Refusal) (settled : Settled) → (if is then (x >>= λ s. Ok (Some s)) else Ok None) ≡ Ok (Some settled) → x ≡ Ok settled
texts_by true (Ok s) settled e = let same : s ≡ settled = cc in ap Ok same
texts_by true (Err r) settled e = absurd (let clash : Err r ≡ Ok (Some settled) = e in cc)
texts_by false x settled e = absurd (let clash : Ok None ≡ Ok (Some settled) = e in cc)

texts_ok : (home : Option (List ℕ)) (storage : StorageConf) (settled : Settled) → settled_texts home storage ≡ Ok (Some settled) → IsFolderEnding settled
unfolding settled_texts
texts_ok home storage settled e =
    settled_ok storage home false settled (lifted_ok (settled_of storage home false) settled (texts_by (are_texts storage.params) (lifted (settled_of storage home false)) settled e))

folder_ok : (home : Option (List ℕ)) (storage : StorageConf) (texts : Option Settled) (folder : Folder) → settled_texts home storage ≡ Ok texts → folder_in storage texts ≡ Ok folder → is_ending folder.ending ≡ true
folder_ok home storage None folder e found = absurd (cc)
folder_ok home storage (Some settled) folder e found = folder_by_ok (storage_section storage.name) settled folder (texts_ok home storage settled e) found

-- what a run takes of a job
pub record IsRunnable (job : SyncJob) : Type 0 where
  pub of_a : is_ending job.ending_a ≡ true
  pub of_b : is_ending job.ending_b ≡ true
  pub writes_a : (job.rules).a_read_only ≡ false
  pub writes_b : (job.rules).b_read_only ≡ false
  pub no_command : (job.rules).conflict ≡ Command → ⊥

none_found : {A : Type 0} (o : Option Refusal) (x : Result A Refusal) (a : A) → unless_found o x ≡ Ok a → o ≡ None
none_found None x a e = refl
none_found (Some r) x a e = absurd (let clash : Err r ≡ Ok a = e in cc)

second_none : (o p : Option Refusal) → option_or o p ≡ None → p ≡ None
second_none None p e = e
second_none (Some r) p e = absurd (let clash : Some r ≡ None = e in cc)

not_so : (is : Bool) (section key : List ℕ) → unbuilt_if is section key ≡ None → is ≡ false
not_so false section key e = refl
not_so true section key e = absurd (let clash : Some (NotBuilt section key) ≡ None = e in cc)

not_by_command : (rule : WrittenRule) → is_command rule ≡ false → conflict_of rule ≡ Command → ⊥
not_by_command written.Null e is = let clash : Null ≡ Command = is in cc
not_by_command written.AWins e is = let clash : AWins ≡ Command = is in cc
not_by_command written.BWins e is = let clash : BWins ≡ Command = is in cc
not_by_command written.Command e is = let clash : true ≡ false = e in cc

built_rule : (pair : PairConf) → unbuilt_pair pair ≡ None → conflict_of pair.conflict ≡ Command → ⊥
unfolding unbuilt_pair
built_rule pair e =
    not_by_command pair.conflict (not_so (is_command pair.conflict) (pair_section pair.name) (codes "conflict_resolution")
    (second_none (unbuilt_if (has_collections pair.collections) (pair_section pair.name) (codes "collections")) (unbuilt_if (is_command pair.conflict) (pair_section pair.name) (codes "conflict_resolution")) e))

folders_ok : (home : Option (List ℕ)) (status : List ℕ) (pair : PairConf) (a b : StorageConf) (texts_a texts_b : Option Settled) (job : SyncJob) → (conflict_of pair.conflict ≡ Command → ⊥) → settled_texts home a ≡ Ok texts_a → settled_texts home b ≡ Ok texts_b →
    (folder_in a texts_a >>= λ folder_a. folder_in b texts_b >>= λ folder_b. Ok (job_over status pair folder_a folder_b)) ≡ Ok job → IsRunnable job
folders_ok home status pair a b texts_a texts_b job no_command of_a of_b e =
    let folder_a = bind_ok (folder_in a texts_a) (λ folder_a. folder_in b texts_b >>= λ folder_b. Ok (job_over status pair folder_a folder_b)) job e in
    let folder_b = bind_ok (folder_in b texts_b) (λ folder_b. Ok (job_over status pair folder_a.0 folder_b)) job folder_a.2 in
    let same : Ok (job_over status pair folder_a.0 folder_b.0) ≡ Ok job = folder_b.2 in
    let one : job_over status pair folder_a.0 folder_b.0 ≡ job = cc in
    subst (λ (j : SyncJob). IsRunnable j) one (record { of_a = folder_ok home a texts_a folder_a.0 of_a folder_a.1; of_b = folder_ok home b texts_b folder_b.0 of_b folder_b.1; writes_a = refl; writes_b = refl; no_command = no_command })

built_job_ok : (home : Option (List ℕ)) (status : List ℕ) (pair : PairConf) (a b : StorageConf) (job : SyncJob) → built_job home status pair a b ≡ Ok job → IsRunnable job
unfolding built_job
built_job_ok home status pair a b job e =
    let folders = λ (texts_a texts_b : Option Settled). folder_in a texts_a >>= λ folder_a. folder_in b texts_b >>= λ folder_b. Ok (job_over status pair folder_a folder_b) in
    let built = λ (texts_a texts_b : Option Settled). unless_found (unbuilt_storage a) (unless_found (unbuilt_storage b) (folders texts_a texts_b)) in
    let first = unless_ok (unbuilt_pair pair) (settled_texts home a >>= λ texts_a. settled_texts home b >>= λ texts_b. built texts_a texts_b) job e in
    let of_a = bind_ok (settled_texts home a) (λ texts_a. settled_texts home b >>= λ texts_b. built texts_a texts_b) job first in
    let of_b = bind_ok (settled_texts home b) (λ texts_b. built of_a.0 texts_b) job of_a.2 in
    let last = unless_ok (unbuilt_storage b) (folders of_a.0 of_b.0) job (unless_ok (unbuilt_storage a) (unless_found (unbuilt_storage b) (folders of_a.0 of_b.0)) job of_b.2) in
    folders_ok home status pair a b of_a.0 of_b.0 job (built_rule pair (none_found (unbuilt_pair pair) (settled_texts home a >>= λ texts_a. settled_texts home b >>= λ texts_b. built texts_a texts_b) job e)) of_a.1 of_b.1 last

pair_job_ok : (home : Option (List ℕ)) (storages : List StorageConf) (status : List ℕ) (pair : PairConf) (job : SyncJob) → pair_job home storages status pair ≡ Ok job → IsRunnable job
unfolding pair_job
pair_job_ok home storages status pair job e =
    let a = bind_ok (storage_at storages pair.name pair.a) (λ a. storage_at storages pair.name pair.b >>= λ b. built_job home status pair a b) job e in
    let b = bind_ok (storage_at storages pair.name pair.b) (λ b. built_job home status pair a.0 b) job a.2 in
    built_job_ok home status pair a.0 b.0 job b.2

job_if_ok : (names : List Name) (home : Option (List ℕ)) (storages : List StorageConf) (status : List ℕ) (pair : PairConf) (job : SyncJob) → job_if names home storages status pair ≡ Ok (Some job) → IsRunnable job
unfolding job_if
job_if_ok names home storages status pair job e = by (is_chosen names pair) e
  where
    by : (chosen : Bool) → (if chosen then (pair_job home storages status pair >>= λ j. Ok (Some j)) else Ok None) ≡ Ok (Some job) → IsRunnable job
    by true e =
        let found = bind_ok (pair_job home storages status pair) (λ j. Ok (Some j)) (Some job) e in
        let same : Ok (Some found.0) ≡ Ok (Some job) = found.2 in
        let one : found.0 ≡ job = cc in
        subst (λ (j : SyncJob). IsRunnable j) one (pair_job_ok home storages status pair found.0 found.1)
    by false e = absurd (let clash : Ok None ≡ Ok (Some job) = e in cc)

more_runnable : (names : List Name) (home : Option (List ℕ)) (storages : List StorageConf) (status : List ℕ) (pair : PairConf) (job : Option SyncJob) (jobs : List SyncJob) → job_if names home storages status pair ≡ Ok job → AllByRecursion IsRunnable jobs → AllByRecursion IsRunnable (cons_option job jobs)
more_runnable names home storages status pair None jobs e all = all
more_runnable names home storages status pair (Some job) jobs e all = (job_if_ok names home storages status pair job e, all)

jobs_over_ok : (names : List Name) (home : Option (List ℕ)) (storages : List StorageConf) (status : List ℕ) (pairs : List PairConf) (jobs : List SyncJob) → jobs_over names home storages status pairs ≡ Ok jobs → AllByRecursion IsRunnable jobs
unfolding jobs_over
jobs_over_ok names home storages status [] jobs e = let same : [] ≡ jobs = cc in subst (λ (js : List SyncJob). AllByRecursion IsRunnable js) same tt
jobs_over_ok names home storages status (pair ∷ pairs) jobs e =
    let first = bind_ok (job_if names home storages status pair) (λ job. jobs_over names home storages status pairs >>= λ js. Ok (cons_option job js)) jobs e in
    let rest = bind_ok (jobs_over names home storages status pairs) (λ js. Ok (cons_option first.0 js)) jobs first.2 in
    let same : Ok (cons_option first.0 rest.0) ≡ Ok jobs = rest.2 in
    let one : cons_option first.0 rest.0 ≡ jobs = cc in
    subst (λ (js : List SyncJob). AllByRecursion IsRunnable js) one (more_runnable names home storages status pair first.0 rest.0 first.1 (jobs_over_ok names home storages status pairs rest.0 rest.1))

pub chosen_jobs_ok : (names : List Name) (home : Option (List ℕ)) (config : Config) (jobs : List SyncJob) → chosen_jobs names home config ≡ Ok jobs → AllByRecursion IsRunnable jobs
unfolding chosen_jobs
chosen_jobs_ok names home config jobs e =
    let status = bind_ok (lifted (status_of config.status_path home)) (λ status. unless_found (first_unknown config.pairs names) (jobs_over names home config.storages status config.pairs)) jobs e in
    jobs_over_ok names home config.storages status.0 config.pairs jobs (unless_ok (first_unknown config.pairs names) (jobs_over names home config.storages status.0 config.pairs) jobs status.2)
