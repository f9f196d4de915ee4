-- The sections of a configuration, with their keys and values (this project's own).
use Rattle.std.specs.Prelude.{ℕ, List, [], ◌∷◌, ◌++◌, length, nat_lt, Option, Some, None, Result, Ok, Err, if◌then◌else◌}
use Rattle.std.specs.Str.{is_utf8}
use Rattle.config_ini.specs.declared.error.ConfigError.{ConfigError}
use Rattle.config_ini.specs.declared.error.ConfigError.TheVariants.{TooLong, NotUtf8, BadLine}
use Rattle.config_ini.specs.declared.kinds.Logical.{Logical}
use Rattle.config_ini.specs.declared.kinds.Logical.TheVariants as logical
use Rattle.config_ini.specs.declared.sections.Section.{Section}
use Rattle.config_ini.specs.Answers.{◌>>=◌}
use Rattle.config_ini.specs.Logical.{logical_lines}
use Rattle.config_ini.specs.Flaws.{flaw_of}
use Rattle.config_ini.specs.Settings.{entry_of}

-- the section at hand, if there is one, and the later ones
abbrev pub and_then : Option Section → List Section → List Section
and_then None later = later
and_then (Some section) later = section ∷ later

-- The sections of these lines, of which the first keys go on with the section at hand.
-- The first key whose value isn't JSON is refused.
unfoldable pub sections_from : Option Section → List Logical → Result (List Section) ConfigError
sections_from at [] = Ok (and_then at [])
sections_from at (logical.Bad n ∷ rest) = Err (BadLine n)
sections_from at (logical.Section n title ∷ rest) = sections_from (Some (record { title = title; entries = [] })) rest >>= λ later. Ok (and_then at later)
sections_from None (logical.Key written ∷ rest) = Err (BadLine written.number)
sections_from (Some section) (logical.Key written ∷ rest) = entry_of written >>= λ entry. sections_from (Some (record { title = section.title; entries = section.entries ++ entry ∷ [] })) rest

abbrev pub sections_of : List Logical → Result (List Section) ConfigError
sections_of lines = sections_from None lines

abbrev pub unless_flawed : Option ConfigError → Result (List Section) ConfigError → Result (List Section) ConfigError
unless_flawed None sections = sections
unless_flawed (Some flaw) sections = Err flaw

-- of a text within the limit: a flaw comes before any value that isn't JSON
abbrev pub sections_in : List ℕ → Result (List Section) ConfigError
sections_in text = unless_flawed (flaw_of (logical_lines text)) (sections_of (logical_lines text))

-- the longest configuration, 1 MiB
abbrev pub max_config : ℕ
max_config = 1048576

unfoldable pub sections_read : List ℕ → Result (List Section) ConfigError
sections_read bytes = if nat_lt max_config (length bytes) then Err TooLong else if is_utf8 bytes then sections_in bytes else Err NotUtf8
