-- What a configuration comes to by each of its readings.
use Rattle.std.proofs.Common.{◌≡◌, ◌≢◌, inl, inr, ℕ, Bool, true, false, List, Result, Ok, Err, refl, sym, ap, subst}
use Rattle.outfits.specs.Children.{Child, Children}
use Rattle.config_model.specs.Reading.{config_of}
use Rattle.config_model.specs.declared.config.Config.{Config}
use Rattle.cli_jobs.specs.declared.job.SyncJob.{SyncJob}
use Rattle.cli_jobs.specs.declared.refusal.Refusal.{Refusal}
use Rattle.cli_jobs.specs.declared.refusal.Refusal.TheVariants.{NoMemory}
use Rattle.cli_jobs.specs.Answers.{Comes, lifted}
use Rattle.cli_jobs.specs.Jobs.{chosen_jobs}
use Rattle.cli_jobs.specs.Unfetched.{has_fetches, unready}
use Rattle.config_fetch.specs.Fetches.{Devices, Fetches}
use Rattle.config_fetch.specs.Filling.{Fills, FillsIf, FetchedOrNot}
use Rattle.vdirsyncer_cli.specs.declared.asked.Wanted.{Wanted}
use Rattle.vdirsyncer_cli.specs.Settling.{Filling, SettlesConfig, TriesConfig, Tries, SettlesOrTries}
use Rattle.vdirsyncer_cli.proofs.CleanLaws.{KeepsPlain}

-- a configuration without texts to fetch stays as it is
pub keeps_plain : {O C I E : Type 0} (children : O → Children) (tells_child : O → Type 0) (child_of : C → Child) (child_tells : C → Type 0) (Does : Fetches (Devices C I E)) → KeepsPlain (Fills children tells_child child_of child_tells Does)
keeps_plain {O} {C} {I} {E} children tells_child child_of child_tells Does names home s t config filled plain fills =
    by (has_fetches names config) plain fills
  where
    by : (has : Bool) → has ≡ false → FillsIf children tells_child child_of child_tells Does names (unready names home config) has s t config filled → filled ≡ Ok config
    by true is fills = absurd (let clash : true ≡ false = is in cc)
    by false is fills = fills.1

abbrev told : Refusal → Result (List SyncJob) Refusal
told r = Err r

not_starved : (r : Refusal) → told r ≢ told NoMemory → r ≢ NoMemory
not_starved r h is = h (ap told is)

module _ {W : Type 0} (IsStill : W → W → Type 0) (Fills : Filling W) (wanted : Wanted) (bytes : List ℕ) (s t : W) where
  -- nothing was done
  still_tries : IsStill s t → Tries IsStill Fills wanted bytes s t
  still_tries still = by (lifted (config_of bytes))
    where
      by : (config : Result Config Refusal) → TriesConfig IsStill Fills wanted s t config
      by (Ok config) = inl still
      by (Err r) = still

  -- the bytes are no configuration, or memory ran out while they were read
  pub unread : (r : Refusal) → Comes (lifted (config_of bytes)) (Err r) → IsStill s t → SettlesOrTries IsStill Fills wanted bytes s t (Err r)
  unread r comes still =
      record { settles = λ not_memory. subst (λ (c : Result Config Refusal). SettlesConfig IsStill Fills wanted s t c (Err r)) (sym (comes (not_starved r not_memory))) (still, refl); tries = still_tries still }

  filled_so : (config : Config) (filled : Result Config Refusal) → lifted (config_of bytes) ≡ Ok config → Fills wanted.names wanted.home s t config filled → Tries IsStill Fills wanted bytes s t
  filled_so config filled is fills = subst (λ (c : Result Config Refusal). TriesConfig IsStill Fills wanted s t c) (sym is) (inr (filled, fills))

  -- a text couldn't be fetched, or memory ran out on the way
  pub unfilled : (config : Config) (r : Refusal) → lifted (config_of bytes) ≡ Ok config → FetchedOrNot IsStill (Fills wanted.names wanted.home) s t config (Err r) → SettlesOrTries IsStill Fills wanted bytes s t (Err r)
  unfilled config r is (inl fills) =
      record { settles = λ not_memory. subst (λ (c : Result Config Refusal). SettlesConfig IsStill Fills wanted s t c (Err r)) (sym is) (Err r, fills, refl); tries = filled_so config (Err r) is fills }
  unfilled config r is (inr starved) = record { settles = λ not_memory. absurd (not_memory (ap told starved.0)); tries = still_tries starved.1 }

  -- its texts stand, and it comes to jobs or to a refusal
  pub settled : (config filled : Config) (answer : Result (List SyncJob) Refusal) → lifted (config_of bytes) ≡ Ok config → Fills wanted.names wanted.home s t config (Ok filled) → Comes (chosen_jobs wanted.names wanted.home filled) answer → SettlesOrTries IsStill Fills wanted bytes s t answer
  settled config filled answer is fills comes =
      record { settles = λ not_memory. subst (λ (c : Result Config Refusal). SettlesConfig IsStill Fills wanted s t c answer) (sym is) (Ok filled, fills, by answer comes not_memory); tries = filled_so config (Ok filled) is fills }
    where
      by : (answer : Result (List SyncJob) Refusal) → Comes (chosen_jobs wanted.names wanted.home filled) answer → answer ≢ Err NoMemory → answer ≡ chosen_jobs wanted.names wanted.home filled
      by (Ok jobs) comes not_memory = sym comes
      by (Err r) comes not_memory = sym (comes (not_starved r not_memory))
