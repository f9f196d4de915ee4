-- What a step may answer: what it must, or that memory ran out (this project's own).
use Rattle.std.specs.Prelude.{◌≡◌, ◌≢◌, ◌⊎◌, Option, Some, None, Result, Ok, Err}
use Rattle.config_ini.specs.declared.error.ConfigError.{ConfigError}
use Rattle.config_ini.specs.declared.error.ConfigError.TheVariants as error
use Rattle.cli_jobs.specs.declared.refusal.Refusal.{Refusal}
use Rattle.cli_jobs.specs.declared.refusal.Refusal.TheVariants.{Unusable, NoMemory}

abbrev pub Comes : {A : Type 0} → Result A Refusal → Result A Refusal → Type 0
Comes must (Ok a) = must ≡ Ok a
Comes must (Err r) = r ≢ NoMemory → must ≡ Err r

-- the same of a refusal that may be found
abbrev pub Finds : {A : Type 0} → Option Refusal → Result A Refusal → Type 0
Finds must (Ok a) = must ≡ None
Finds must (Err r) = r ≢ NoMemory → must ≡ Some r

-- what a reader of the configuration answers, as an answer of the whole
abbrev pub lifted : {A : Type 0} → Result A ConfigError → Result A Refusal
lifted (Ok a) = Ok a
lifted (Err e) = Err (Unusable e)

-- want of memory stays what it is, and any other error makes the configuration unusable
abbrev pub IsLifted : ConfigError → Refusal → Type 0
IsLifted e r = (r ≡ NoMemory) ⊎ ((e ≢ error.NoMemory) × (r ≡ Unusable e))

infixl 10 ◌>>=◌
abbrev pub ◌>>=◌ : {A B : Type 0} → Result A Refusal → (A → Result B Refusal) → Result B Refusal
(Ok a) >>= f = f a
(Err r) >>= f = Err r

-- unless something was found to refuse
abbrev pub unless_found : {A : Type 0} → Option Refusal → Result A Refusal → Result A Refusal
unless_found None answer = answer
unless_found (Some r) answer = Err r
