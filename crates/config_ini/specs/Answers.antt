-- What a step of the reader may answer: what it must, or that memory ran out (this project's own).
use Rattle.std.specs.Prelude.{◌≡◌, ◌≢◌, Result, Ok, Err}
use Rattle.config_ini.specs.declared.error.ConfigError.{ConfigError}
use Rattle.config_ini.specs.declared.error.ConfigError.TheVariants.{NoMemory}

abbrev pub Gives : {A : Type 0} → Result A ConfigError → Result A ConfigError → Type 0
Gives must (Ok a) = must ≡ Ok a
Gives must (Err e) = e ≢ NoMemory → must ≡ Err e

infixl 10 ◌>>=◌
abbrev pub ◌>>=◌ : {A B : Type 0} → Result A ConfigError → (A → Result B ConfigError) → Result B ConfigError
(Ok a) >>= f = f a
(Err e) >>= f = Err e
