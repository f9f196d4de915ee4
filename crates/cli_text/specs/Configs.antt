-- What is printed of a configuration that can't be used (this project's own).
use Rattle.std.specs.Prelude.{ℕ, List, ◌++◌, codes}
use Rattle.std.specs.Fmt.{decimal}
use Rattle.config_ini.specs.declared.error.ConfigError.{ConfigError}
use Rattle.config_ini.specs.declared.error.ConfigError.TheVariants as error
use Rattle.cli_text.specs.Quoting.{in_quotes}

-- config: REASON, ended by a line feed
unfoldable pub config_line : List ℕ → List ℕ
config_line reason = codes "config: " ++ reason ++ codes "\n"

-- [SECTION] KEY, and what is so of it
unfoldable pub of_key : List ℕ → List ℕ → List ℕ → List ℕ
of_key section key said = codes "[" ++ section ++ codes "] " ++ key ++ codes " " ++ said

-- one line for each refusal
abbrev pub config_text : ConfigError → List ℕ
config_text error.TooLong = config_line (codes "too long")
config_text error.NotUtf8 = config_line (codes "not UTF-8")
config_text (error.BadLine line) = config_line (codes "bad line " ++ decimal line)
config_text (error.Twice section key) = config_line (of_key section key (codes "stands twice"))
config_text (error.BadValue line) = config_line (codes "bad value at line " ++ decimal line)
config_text (error.Unknown section key) = config_line (of_key section key (codes "is unknown"))
config_text (error.Missing section key) = config_line (of_key section key (codes "is missing"))
config_text (error.NoStorage pair name) = config_line (codes "pair " ++ pair ++ codes " names no storage " ++ in_quotes name)
config_text (error.BadText section key) = config_line (of_key section key (codes "has a bad value"))
config_text (error.NoHome section key) = config_line (of_key section key (codes "needs a home"))
config_text (error.BadUrl section) = config_line (of_key section (codes "url") (codes "is bad"))
config_text (error.NeedsTls section) = config_line (of_key section (codes "url") (codes "needs TLS"))
config_text error.NoMemory = codes "out of memory\n"
