-- A section of a storage (this project's own).
use Rattle.std.specs.Prelude.{ℕ, Bool, false, List, [], ◌∷◌, ◌++◌, codes, Option, Some, None, option_map, if◌then◌else◌, Result, Ok, Err}
use Rattle.config_ini.specs.declared.error.ConfigError.{ConfigError}
use Rattle.config_ini.specs.declared.setting.Setting.{Setting}
use Rattle.config_ini.specs.declared.setting.Entry.{Entry}
use Rattle.config_ini.specs.Answers.{◌>>=◌}
use Rattle.config_model.specs.declared.storage_kind.StorageKind.{StorageKind}
use Rattle.config_model.specs.declared.storage_kind.StorageKind.TheVariants.{Filesystem, Singlefile, Caldav, Carddav}
use Rattle.config_model.specs.declared.fields.Place.TheVariants as place
use Rattle.config_model.specs.declared.config.Param.{Param}
use Rattle.config_model.specs.declared.config.ParamValue.{ParamValue}
use Rattle.config_model.specs.declared.config.ParamValue.TheVariants.{Text, Fetch}
use Rattle.config_model.specs.declared.config.StorageConf.{StorageConf}
use Rattle.config_model.specs.Meanings.{text_in, truth_in, kind_in, fetch_in}
use Rattle.config_model.specs.Keys.{refused_in, unless_refused, needed, optional, key_at, allowed, missing}

abbrev pub fetched : Setting → Option ParamValue
fetched value = option_map (λ words. Fetch words) (fetch_in value)

abbrev pub written : Setting → Option ParamValue
written value = option_map (λ text. Text text) (text_in value)

-- a text, or how it is fetched
abbrev pub value_in : Bool → Setting → Option ParamValue
value_in is_fetched value = if is_fetched then fetched value else written value

abbrev pub param_of : List ℕ → Entry → Result (List Param) ConfigError
param_of name entry = allowed entry.number (value_in entry.key.is_fetched entry.value) >>= λ value. Ok (record { key = name; value = value } ∷ [])

abbrev pub needed_param_by : List ℕ → List ℕ → Option Entry → Result (List Param) ConfigError
needed_param_by section name None = Err (missing section name)
needed_param_by section name (Some entry) = param_of name entry

abbrev pub optional_param_by : List ℕ → Option Entry → Result (List Param) ConfigError
optional_param_by name None = Ok []
optional_param_by name (Some entry) = param_of name entry

-- the parameter of a key that the storage must have
unfoldable pub needed_param : List ℕ → List ℕ → List Entry → Result (List Param) ConfigError
needed_param section name entries = needed_param_by section name (key_at name entries)

-- the parameter of a key that the storage may have
unfoldable pub optional_param : List ℕ → List Entry → Result (List Param) ConfigError
optional_param name entries = optional_param_by name (key_at name entries)

unfoldable pub vdir_params : List ℕ → List Entry → Result (List Param) ConfigError
vdir_params section entries = do
  path ← needed_param section (codes "path") entries
  ending ← needed_param section (codes "fileext") entries
  encoding ← optional_param (codes "encoding") entries
  post ← optional_param (codes "post_hook") entries
  pre ← optional_param (codes "pre_deletion_hook") entries
  Ok (path ++ ending ++ encoding ++ post ++ pre)

unfoldable pub single_params : List ℕ → List Entry → Result (List Param) ConfigError
single_params section entries = do
  path ← needed_param section (codes "path") entries
  encoding ← optional_param (codes "encoding") entries
  Ok (path ++ encoding)

unfoldable pub dav_params : List ℕ → List Entry → Result (List Param) ConfigError
dav_params section entries = do
  url ← needed_param section (codes "url") entries
  username ← optional_param (codes "username") entries
  password ← optional_param (codes "password") entries
  agent ← optional_param (codes "useragent") entries
  auth ← optional_param (codes "auth") entries
  Ok (url ++ username ++ password ++ agent ++ auth)

-- the texts of a storage, in the order of the keys of its kind
abbrev pub params_of : StorageKind → List ℕ → List Entry → Result (List Param) ConfigError
params_of Filesystem section entries = vdir_params section entries
params_of Singlefile section entries = single_params section entries
params_of Caldav section entries = dav_params section entries
params_of Carddav section entries = dav_params section entries

unfoldable pub storage_values : StorageKind → List ℕ → List ℕ → List Entry → Result StorageConf ConfigError
storage_values kind section name entries = do
  read_only ← optional truth_in false (codes "read_only") entries
  params ← params_of kind section entries
  Ok (record { name = name; kind = kind; read_only = read_only; params = params })

-- The kind tells which keys there are, so it is looked at first.
unfoldable pub storage_of : List ℕ → List ℕ → List Entry → Result StorageConf ConfigError
storage_of section name entries = do
  kind ← needed kind_in section (codes "type") entries
  unless_refused (refused_in section (place.Storage kind) entries) (storage_values kind section name entries)
