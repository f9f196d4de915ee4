-- The keys of one section: what is refused of them, and what their values are (this project's own).
use Rattle.std.specs.Prelude.{ℕ, Bool, true, not, ◌&&◌, if◌then◌else◌, List, ◌++◌, codes, Option, Some, None, option_map, Result, Ok, Err}
use Rattle.std.specs.Option.{is_some, option_or}
use Rattle.std.specs.List.{find}
use Rattle.std.specs.Str.{bytes_eq}
use Rattle.config_ini.specs.declared.error.ConfigError.{ConfigError}
use Rattle.config_ini.specs.declared.error.ConfigError.TheVariants.{Unknown, BadValue, Missing}
use Rattle.config_ini.specs.declared.kinds.Key.{Key}
use Rattle.config_ini.specs.declared.setting.Setting.{Setting}
use Rattle.config_ini.specs.declared.setting.Entry.{Entry}
use Rattle.config_model.specs.declared.fields.Field.{Field}
use Rattle.config_model.specs.declared.fields.Field.TheVariants as field
use Rattle.config_model.specs.declared.fields.Place.{Place}
use Rattle.config_model.specs.Fields.{field_of}
use Rattle.config_model.specs.Meanings.{text_in, truth_in, kind_in, collections_in, conflict_in, partial_in, metadata_in, fetch_in}

-- ---- the first key that is refused

-- a key as it is written, in lower case
abbrev pub written_name : Key → List ℕ
written_name key = if key.is_fetched then key.name ++ codes ".fetch" else key.name

abbrev pub is_known : Place → Entry → Bool
is_known place entry = is_some (field_of place entry.key)

abbrev pub unknown_in : List ℕ → Place → List Entry → Option ConfigError
unknown_in section place entries = option_map (λ e. Unknown section (written_name e.key)) (find (λ e. not (is_known place e)) entries)

-- whether a value that isn't fetched is one that the key may have
abbrev pub may_be : Field → Setting → Bool
may_be field.Collections value = is_some (collections_in value)
may_be field.ConflictResolution value = is_some (conflict_in value)
may_be field.PartialSync value = is_some (partial_in value)
may_be field.Metadata value = is_some (metadata_in value)
may_be field.Type value = is_some (kind_in value)
may_be field.ReadOnly value = is_some (truth_in value)
may_be _ value = is_some (text_in value)

abbrev pub may_have : Option Field → Bool → Setting → Bool
may_have None is_fetched value = true
may_have (Some f) is_fetched value = if is_fetched then is_some (fetch_in value) else may_be f value

abbrev pub is_allowed : Place → Entry → Bool
is_allowed place entry = may_have (field_of place entry.key) entry.key.is_fetched entry.value

abbrev pub bad_in : Place → List Entry → Option ConfigError
bad_in place entries = option_map (λ e. BadValue e.number) (find (λ e. not (is_allowed place e)) entries)

-- the first key that is unknown, or else the first whose value isn't allowed
unfoldable pub refused_in : List ℕ → Place → List Entry → Option ConfigError
refused_in section place entries = option_or (unknown_in section place entries) (bad_in place entries)

abbrev pub unless_refused : {A : Type 0} → Option ConfigError → Result A ConfigError → Result A ConfigError
unless_refused None found = found
unless_refused (Some refusal) found = Err refusal

-- ---- values

-- the key of this name, written without `.fetch`
abbrev pub plain_at : List ℕ → List Entry → Option Entry
plain_at name entries = find (λ e. bytes_eq e.key.name name && not e.key.is_fetched) entries

-- the key of this name, however it is written
abbrev pub key_at : List ℕ → List Entry → Option Entry
key_at name entries = find (λ e. bytes_eq e.key.name name) entries

abbrev pub allowed : {A : Type 0} → ℕ → Option A → Result A ConfigError
allowed n None = Err (BadValue n)
allowed n (Some value) = Ok value

abbrev pub missing : List ℕ → List ℕ → ConfigError
missing section name = Missing section name

abbrev pub needed_by : {A : Type 0} → (Setting → Option A) → List ℕ → List ℕ → Option Entry → Result A ConfigError
needed_by meaning section name None = Err (missing section name)
needed_by meaning section name (Some entry) = allowed entry.number (meaning entry.value)

-- the value of a key that the section must have
unfoldable pub needed : {A : Type 0} → (Setting → Option A) → List ℕ → List ℕ → List Entry → Result A ConfigError
needed meaning section name entries = needed_by meaning section name (plain_at name entries)

abbrev pub optional_by : {A : Type 0} → (Setting → Option A) → A → Option Entry → Result A ConfigError
optional_by meaning none None = Ok none
optional_by meaning none (Some entry) = allowed entry.number (meaning entry.value)

-- the value of a key that the section may have, or what stands for it
unfoldable pub optional : {A : Type 0} → (Setting → Option A) → A → List ℕ → List Entry → Result A ConfigError
optional meaning none name entries = optional_by meaning none (plain_at name entries)
