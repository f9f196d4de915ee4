-- Steps that may be refused, one after another.
use Rattle.std.proofs.Common.{◌≡◌, ◌≢◌, sym, ◌∙◌, ap}
use Rattle.std.specs.Prelude.{Result, Ok, Err}
use Rattle.std.specs.Result.{IsErrAnd}
use Rattle.config_ini.specs.declared.error.ConfigError.{ConfigError}
use Rattle.config_ini.specs.declared.error.ConfigError.TheVariants.{NoMemory}
use Rattle.config_ini.specs.Answers.{Gives}

-- a refusal is handed on
pub refused : {A : Type 0} (must found : Result A ConfigError) (e : ConfigError) → IsErrAnd found (λ x. x ≡ e) → (e ≢ NoMemory → must ≡ Err e) → Gives must found
refused must (Ok a) e is h = absurd is
refused {A} must (Err x) e is h = λ other. h (λ none. other (is ∙ none)) ∙ ap (λ (y : ConfigError). let r : Result A ConfigError = Err y in r) (sym is)
