-- The jobs of pairs, one pair after another.
use Rattle.std.proofs.Common.{◌≡◌, ℕ, ◌+◌, ◌<◌, ◌≤◌, List, [], ◌∷◌, ◌++◌, length, drop, get_or, Option, Some, None, Result, Ok, Err, refl, sym, ◌∙◌, ap, append-nil, append_assoc}
use Rattle.std.proofs.Math.ListN.{drop_of_length-le}
use Rattle.std.specs.List.{cons_option}
use Rattle.config_model.proofs.Rests.{rest_is}
use Rattle.cli_words.specs.declared.words.Name.{Name}
use Rattle.config_model.specs.declared.config.PairConf.{PairConf}
use Rattle.config_model.specs.declared.config.StorageConf.{StorageConf}
use Rattle.cli_jobs.specs.declared.job.SyncJob.{SyncJob}
use Rattle.cli_jobs.specs.declared.refusal.Refusal.{Refusal}
use Rattle.cli_jobs.specs.Answers.{◌>>=◌}
use Rattle.cli_jobs.specs.Jobs.{job_if, jobs_over}

abbrev pub Jobs : Type 0
Jobs = Result (List SyncJob) Refusal

-- jobs behind others
abbrev pub behind : List SyncJob → Jobs → Jobs
behind jobs more = more >>= λ rest. Ok (jobs ++ rest)

one_more : (jobs rest : List SyncJob) (job : Option SyncJob) → jobs ++ cons_option job rest ≡ (jobs ++ cons_option job []) ++ rest
one_more jobs rest None = ap (λ (l : List SyncJob). l ++ rest) (sym (append-nil jobs))
one_more jobs rest (Some job) = sym (append_assoc jobs (job ∷ []) rest)

behind_more : (x : Jobs) (jobs more : List SyncJob) (job : Option SyncJob) → more ≡ jobs ++ cons_option job [] → behind jobs (x >>= λ js. Ok (cons_option job js)) ≡ behind more x
behind_more (Ok rest) jobs more job same = ap Ok (one_more jobs rest job ∙ ap (λ (l : List SyncJob). l ++ rest) (sym same))
behind_more (Err r) jobs more job same = refl

module _ (names : List Name) (home : Option (List ℕ)) (storages : List StorageConf) (status : List ℕ) (pairs : List PairConf) where
  abbrev over : List PairConf → Jobs
  over ps = jobs_over names home storages status ps

  -- these jobs stand before those of the pairs from this place on
  abbrev pub ComesTo : ℕ → List SyncJob → Type 0
  ComesTo i jobs = over pairs ≡ behind jobs (over (drop i pairs))

  at_pair : (i : ℕ) (pair : PairConf) (jobs : List SyncJob) (found : Result (Option SyncJob) Refusal) → i < length pairs → pair ≡ get_or pairs i pair → job_if names home storages status pair ≡ found → ComesTo i jobs → over pairs ≡ behind jobs (found >>= λ job. over (drop (i + 1) pairs) >>= λ js. Ok (cons_option job js))
  unfolding jobs_over
  at_pair i pair jobs found within at is so_far =
      so_far
      ∙ (ap (λ (ps : List PairConf). behind jobs (over ps)) (rest_is pairs i pair within at)
      ∙ ap (λ (x : Result (Option SyncJob) Refusal). behind jobs (x >>= λ job. over (drop (i + 1) pairs) >>= λ js. Ok (cons_option job js))) is)

  -- a pair's job joins those before it
  pub turn : (i : ℕ) (pair : PairConf) (jobs more : List SyncJob) (job : Option SyncJob) → i < length pairs → pair ≡ get_or pairs i pair → job_if names home storages status pair ≡ Ok job → more ≡ jobs ++ cons_option job [] → ComesTo i jobs → ComesTo (i + 1) more
  turn i pair jobs more job within at is same so_far = at_pair i pair jobs (Ok job) within at is so_far ∙ behind_more (over (drop (i + 1) pairs)) jobs more job same

  -- a pair is refused
  pub refused : (i : ℕ) (pair : PairConf) (jobs : List SyncJob) (r : Refusal) → i < length pairs → pair ≡ get_or pairs i pair → job_if names home storages status pair ≡ Err r → ComesTo i jobs → over pairs ≡ Err r
  refused i pair jobs r within at is so_far = at_pair i pair jobs (Err r) within at is so_far

  -- all pairs were looked at
  pub whole : (i : ℕ) (jobs : List SyncJob) → length pairs ≤ i → ComesTo i jobs → over pairs ≡ Ok jobs
  unfolding jobs_over
  whole i jobs past so_far = so_far ∙ (ap (λ (ps : List PairConf). behind jobs (over ps)) (drop_of_length-le pairs past) ∙ ap Ok (append-nil jobs))

  -- none was looked at yet
  pub start : (jobs : List SyncJob) → jobs ≡ [] → ComesTo 0 jobs
  start jobs none = by (over pairs) ∙ ap (λ (js : List SyncJob). behind js (over pairs)) (sym none)
    where
      by : (x : Jobs) → x ≡ behind [] x
      by (Ok js) = refl
      by (Err r) = refl
