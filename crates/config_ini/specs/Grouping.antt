-- Grouping: what the sections so far and the lines to come stand for.
use Rattle.std.specs.Prelude.{List, ◌++◌, Result, Ok}
use Rattle.config_ini.specs.declared.error.ConfigError.{ConfigError}
use Rattle.config_ini.specs.declared.kinds.Logical.{Logical}
use Rattle.config_ini.specs.declared.sections.Section.{Section}
use Rattle.config_ini.specs.declared.sections.Grouped.{Grouped}
use Rattle.config_ini.specs.Answers.{◌>>=◌}
use Rattle.config_ini.specs.Sections.{sections_from}

abbrev pub left_of : Grouped → List Logical → Result (List Section) ConfigError
left_of grouped rest = sections_from grouped.at rest >>= λ later. Ok (grouped.done ++ later)
