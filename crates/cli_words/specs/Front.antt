-- The global options: what may stand in front of the command (this project's own).
use Rattle.std.specs.Prelude.{◌||◌, ℕ, List, [], ◌∷◌, if◌then◌else◌, codes, Option, Some, None, option_map}
use Rattle.std.specs.Str.{bytes_eq}
use Rattle.cli_words.specs.Options.{value_of, is_level}

-- the value of an option that the words begin with, in the next word or behind `=`, and the words behind it
abbrev pub valued : List ℕ → List ℕ → List (List ℕ) → Option (List ℕ × List (List ℕ))
valued short long [] = None
valued short long (word ∷ []) = option_map (λ (value : List ℕ). (value, [])) (value_of long word)
valued short long (word ∷ next ∷ rest) =
    if bytes_eq word short || bytes_eq word long then Some (next, rest)
    else option_map (λ (value : List ℕ). (value, next ∷ rest)) (value_of long word)

-- `-c FILE`, `--config FILE` or `--config=FILE`
abbrev pub config_option : List (List ℕ) → Option (List ℕ × List (List ℕ))
config_option words = valued (codes "-c") (codes "--config") words

-- `-v LEVEL`, `--verbosity LEVEL` or `--verbosity=LEVEL`, whatever stands as LEVEL
abbrev pub level_option : List (List ℕ) → Option (List ℕ × List (List ℕ))
level_option words = valued (codes "-v") (codes "--verbosity") words

abbrev pub behind_found_level : List (List ℕ) → Option (List ℕ × List (List ℕ)) → List (List ℕ)
behind_found_level words None = words
behind_found_level words (Some found) = if is_level found.0 then found.1 else words

-- the words behind a level, where they begin with one
unfoldable pub behind_level : List (List ℕ) → List (List ℕ)
behind_level words = behind_found_level words (level_option words)

-- the file of the configuration, where one is named, and the words from the command on
pub record FrontValue : Type 0 where
  pub config : Option (List ℕ)
  pub words : List (List ℕ)

-- no configuration stood before the level
abbrev pub front_behind : List (List ℕ) → Option (List ℕ × List (List ℕ)) → FrontValue
front_behind words None = record { config = None; words = words }
front_behind words (Some found) = record { config = Some found.0; words = found.1 }

abbrev pub front_from : List (List ℕ) → Option (List ℕ × List (List ℕ)) → FrontValue
front_from words None = front_behind (behind_level words) (config_option (behind_level words))
front_from words (Some found) = record { config = Some found.0; words = behind_level found.1 }

-- a configuration and a level, each at most once, in any order; an option that stands again is read as the command, and there is none of its name
abbrev pub front_of : List (List ℕ) → FrontValue
front_of words = front_from words (config_option words)
