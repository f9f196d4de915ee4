-- The first line of a configuration that is bad, or that repeats a section or a key (this project's own).
use Rattle.std.specs.Prelude.{ℕ, Bool, true, false, if◌then◌else◌, List, [], ◌∷◌, ◌++◌, codes, Option, Some, None}
use Rattle.std.specs.Str.{bytes_eq}
use Rattle.config_ini.specs.declared.error.ConfigError.{ConfigError}
use Rattle.config_ini.specs.declared.error.ConfigError.TheVariants.{BadLine, Twice}
use Rattle.config_ini.specs.declared.kinds.SectionKind.{SectionKind}
use Rattle.config_ini.specs.declared.kinds.SectionKind.TheVariants.{General, Pair, Storage}
use Rattle.config_ini.specs.declared.kinds.Title.{Title}
use Rattle.config_ini.specs.declared.kinds.Logical.{Logical}
use Rattle.config_ini.specs.declared.kinds.Logical.TheVariants as logical

abbrev pub name_by : SectionKind → List ℕ → List ℕ
name_by General name = codes "general"
name_by Pair name = codes "pair " ++ name
name_by Storage name = codes "storage " ++ name

-- how a section is named
abbrev pub section_name : Title → List ℕ
section_name title = name_by title.kind title.name

-- which texts stood before
abbrev pub Before : Type 0
Before = List ℕ → Bool

abbrev pub none_before : Before
none_before text = false

abbrev pub also : List ℕ → Before → Before
also text before = λ q. if bytes_eq text q then true else before q

-- The first flaw of these lines, behind lines with these sections, of which the last is `at` with these keys.
-- `K` and `K.fetch` are one key.
unfoldable pub first_flaw : Before → Option (List ℕ) → Before → List Logical → Option ConfigError
first_flaw sections at keys [] = None
first_flaw sections at keys (logical.Bad n ∷ rest) = Some (BadLine n)
first_flaw sections at keys (logical.Section n title ∷ rest) =
    if sections (section_name title) then Some (Twice (section_name title) [])
    else first_flaw (also (section_name title) sections) (Some (section_name title)) none_before rest
first_flaw sections None keys (logical.Key written ∷ rest) = Some (BadLine written.number)
first_flaw sections (Some section) keys (logical.Key written ∷ rest) =
    if keys written.key.name then Some (Twice section written.key.name)
    else first_flaw sections (Some section) (also written.key.name keys) rest

abbrev pub flaw_of : List Logical → Option ConfigError
flaw_of lines = first_flaw none_before None none_before lines
