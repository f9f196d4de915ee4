-- How texts are fetched: what a step comes to.
use Rattle.std.proofs.Common.{inl, inr, ℕ, List, Err}
use Rattle.child_cmd.specs.declared.fetch_error.FetchError.{FetchError}
use Rattle.cli_jobs.specs.declared.refusal.Refusal.{Refusal}
use Rattle.config_fetch.specs.Fetches.{Fetches, Told, TextStep}

-- a text that couldn't be fetched is told, or memory ran out
pub told_or_starved : {W : Type 0} (Does : Fetches W) (section key : List ℕ) (words : List (List ℕ)) (s t : W) (error : FetchError) (r : Refusal) → Does words s t (Err error) → Told section key error r → TextStep Does section key words s t (Err r)
told_or_starved Does section key words s t error r did (inl e) = inr (record { is = e; did = inr (Err error, did) })
told_or_starved Does section key words s t error r did (inr told) = inl (record { error = error; fetched = did; not_memory = told.0; told = told.1 })
