-- Repeats: what a set of the texts seen stands for.
use Rattle.std.specs.Prelude.{ℕ, List, Option}
use Rattle.std.specs.List.{list_any}
use Rattle.std.specs.Ordering.{nat_cmp}
use Rattle.std.specs.Cmp.Lexicographic.{slice_cmp}
use Rattle.std.specs.BTreeMap.{is_at}
use Rattle.config_ini.specs.declared.error.ConfigError.{ConfigError}
use Rattle.config_ini.specs.declared.kinds.Logical.{Logical}
use Rattle.config_ini.specs.declared.flaws.Seen.{Seen}
use Rattle.config_ini.specs.Flaws.{Before, first_flaw}

-- whether a text stands in a set
abbrev pub has : List (List ℕ) → Before
has keys = λ q. list_any (is_at (slice_cmp nat_cmp q)) keys

-- the first flaw of the lines to come
abbrev pub flaw_left : Seen → List Logical → Option ConfigError
flaw_left seen rest = first_flaw (has seen.sections.keys) seen.at (has seen.keys.keys) rest
