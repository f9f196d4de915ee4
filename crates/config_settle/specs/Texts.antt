-- The texts of a storage, and which of them are refused (this project's own).
use Rattle.std.specs.Prelude.{ℕ, ◌==◌, Bool, true, false, not, ◌&&◌, nat_lt, nat_eq, if◌then◌else◌, List, [], length, codes, Option, Some, None, unwrap_or, Result, Ok, Err}
use Rattle.std.specs.List.{find, list_all, list_any, starts_with}
use Rattle.std.specs.Str.{bytes_eq}
use Rattle.config_ini.specs.declared.error.ConfigError.{ConfigError}
use Rattle.config_ini.specs.declared.error.ConfigError.TheVariants.{BadText}
use Rattle.config_model.specs.declared.config.Param.{Param}
use Rattle.config_model.specs.declared.config.ParamValue.{ParamValue}
use Rattle.config_model.specs.declared.config.ParamValue.TheVariants.{Text, Fetch}
use Rattle.config_model.specs.Meanings.{has_control}

abbrev pub text_of : ParamValue → Option (List ℕ)
text_of (Text text) = Some text
text_of (Fetch words) = None

abbrev pub is_text : ParamValue → Bool
is_text (Text text) = true
is_text (Fetch words) = false

-- nothing is left to fetch
abbrev pub are_texts : List Param → Bool
are_texts params = list_all (λ p. is_text p.value) params

abbrev pub text_by : Option Param → Option (List ℕ)
text_by None = None
text_by (Some param) = text_of param.value

abbrev pub param_at : List ℕ → List Param → Option Param
param_at key params = find (λ p. bytes_eq p.key key) params

-- the text of a key
unfoldable pub text_at : List ℕ → List Param → Option (List ℕ)
text_at key params = text_by (param_at key params)

-- a key that isn't there stands for no letters
abbrev pub text_or_none : List ℕ → List Param → List ℕ
text_or_none key params = unwrap_or (text_at key params) []

abbrev pub bad_text : List ℕ → List ℕ → ConfigError
bad_text section key = BadText section key

-- a text without control characters
abbrev pub plain : List ℕ → List ℕ → List ℕ → Result (List ℕ) ConfigError
plain section key text = if has_control text then Err (bad_text section key) else Ok text

abbrev pub plain_by : List ℕ → List ℕ → Option (List ℕ) → Result (Option (List ℕ)) ConfigError
plain_by section key None = Ok None
plain_by section key (Some text) = if has_control text then Err (bad_text section key) else Ok (Some text)

abbrev pub is_word_or_none : List ℕ → Option (List ℕ) → Bool
is_word_or_none word None = true
is_word_or_none word (Some text) = bytes_eq text word

-- the one text that the key may have, where it is there
abbrev pub only : List ℕ → List ℕ → List ℕ → Option (List ℕ) → Option ConfigError
only section key word text = if is_word_or_none word text then None else Some (bad_text section key)

abbrev pub has_slash : List ℕ → Bool
has_slash text = list_any (λ b. b == 47) text

-- how the names of files may end: a dot and more, no slash, no control character, and not as files that are being written
abbrev pub is_ending : List ℕ → Bool
is_ending text = starts_with nat_eq text (codes ".") && (nat_lt 1 (length text) && (not (has_slash text) && (not (has_control text) && not (bytes_eq text (codes ".tmp")))))

abbrev pub ending : List ℕ → List ℕ → List ℕ → Result (List ℕ) ConfigError
ending section key text = if is_ending text then Ok text else Err (bad_text section key)
