-- A whole configuration: what its sections say, and what is refused (this project's own).
use Rattle.std.specs.Prelude.{ℕ, Bool, if◌then◌else◌, List, [], ◌∷◌, ◌++◌, codes, Option, Some, None, Result, Ok, Err}
use Rattle.std.specs.List.{list_any}
use Rattle.std.specs.Option.{option_or}
use Rattle.std.specs.Str.{bytes_eq}
use Rattle.config_ini.specs.declared.error.ConfigError.{ConfigError}
use Rattle.config_ini.specs.declared.error.ConfigError.TheVariants.{Missing, NoStorage}
use Rattle.config_ini.specs.declared.kinds.SectionKind.{SectionKind}
use Rattle.config_ini.specs.declared.kinds.SectionKind.TheVariants.{General, Pair, Storage}
use Rattle.config_ini.specs.declared.sections.Section.{Section}
use Rattle.config_ini.specs.declared.setting.Entry.{Entry}
use Rattle.config_ini.specs.Answers.{◌>>=◌}
use Rattle.config_ini.specs.Flaws.{section_name}
use Rattle.config_ini.specs.Sections.{sections_read}
use Rattle.config_model.specs.declared.fields.Place.TheVariants as place
use Rattle.config_model.specs.declared.config.Config.{Config}
use Rattle.config_model.specs.declared.config.PairConf.{PairConf}
use Rattle.config_model.specs.declared.config.StorageConf.{StorageConf}
use Rattle.config_model.specs.declared.reading.Parts.{Parts}
use Rattle.config_model.specs.Meanings.{text_in}
use Rattle.config_model.specs.Keys.{refused_in, unless_refused, needed}
use Rattle.config_model.specs.Pairs.{pair_of}
use Rattle.config_model.specs.Storages.{storage_of}

-- ---- what each section says, in a configuration of these sections

unfoldable pub general_of : List ℕ → List Entry → Result (List ℕ) ConfigError
general_of section entries = unless_refused (refused_in section place.General entries) (needed text_in section (codes "status_path") entries)

abbrev pub no_parts : Parts
no_parts = record { status_path = None; pairs = []; storages = [] }

abbrev pub joined : Parts → Parts → Parts
joined p q = record { status_path = option_or p.status_path q.status_path; pairs = p.pairs ++ q.pairs; storages = p.storages ++ q.storages }

abbrev pub with_path : List ℕ → Parts
with_path path = record { status_path = Some path; pairs = []; storages = [] }

abbrev pub with_pair : PairConf → Parts
with_pair pair = record { status_path = None; pairs = pair ∷ []; storages = [] }

abbrev pub with_storage : StorageConf → Parts
with_storage storage = record { status_path = None; pairs = []; storages = storage ∷ [] }

abbrev pub part_by : List Section → SectionKind → List ℕ → List ℕ → List Entry → Result Parts ConfigError
part_by sections General section name entries = general_of section entries >>= λ path. Ok (with_path path)
part_by sections Pair section name entries = pair_of sections section name entries >>= λ pair. Ok (with_pair pair)
part_by sections Storage section name entries = storage_of section name entries >>= λ storage. Ok (with_storage storage)

unfoldable pub part_of : List Section → Section → Result Parts ConfigError
part_of sections section = part_by sections section.title.kind (section_name section.title) section.title.name section.entries

-- what some of the sections say; the first that is refused is told
unfoldable pub parts_of : List Section → List Section → Result Parts ConfigError
parts_of sections [] = Ok no_parts
parts_of sections (section ∷ rest) = part_of sections section >>= λ part. parts_of sections rest >>= λ later. Ok (joined part later)

-- ---- the whole

abbrev pub is_storage : List StorageConf → List ℕ → Bool
is_storage storages name = list_any (λ s. bytes_eq s.name name) storages

abbrev pub no_storage : PairConf → List ℕ → ConfigError
no_storage pair name = NoStorage pair.name name

-- a storage that the pair names and that isn't there, a before b
abbrev pub lacking : (List ℕ → Bool) → PairConf → Option ConfigError
lacking is_there pair =
    if is_there pair.a then (if is_there pair.b then None else Some (no_storage pair pair.b))
    else Some (no_storage pair pair.a)

unfoldable pub first_lacking : (List ℕ → Bool) → List PairConf → Option ConfigError
first_lacking is_there [] = None
first_lacking is_there (pair ∷ rest) = option_or (lacking is_there pair) (first_lacking is_there rest)

abbrev pub whole_by : Option (List ℕ) → List PairConf → List StorageConf → Result Config ConfigError
whole_by None pairs storages = Err (Missing (codes "general") (codes "status_path"))
whole_by (Some path) pairs storages = unless_refused (first_lacking (is_storage storages) pairs) (Ok (record { status_path = path; pairs = pairs; storages = storages }))

unfoldable pub whole : Parts → Result Config ConfigError
whole parts = whole_by parts.status_path parts.pairs parts.storages

-- the configuration that a list of bytes is, or why it is none
unfoldable pub config_of : List ℕ → Result Config ConfigError
config_of bytes = sections_read bytes >>= λ sections. parts_of sections sections >>= whole
