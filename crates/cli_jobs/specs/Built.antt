-- What a configuration may say and isn't built yet (this project's own).
use Rattle.std.specs.Prelude.{ℕ, Bool, true, false, not, List, [], ◌++◌, codes, if◌then◌else◌, Option, Some, None}
use Rattle.std.specs.List.{find, list_any}
use Rattle.std.specs.Option.{option_or}
use Rattle.std.specs.Str.{bytes_eq}
use Rattle.config_model.specs.declared.config.PairConf.{PairConf}
use Rattle.config_model.specs.declared.config.StorageConf.{StorageConf}
use Rattle.config_model.specs.declared.config.Param.{Param}
use Rattle.config_model.specs.declared.rules.ConflictRule.{ConflictRule}
use Rattle.config_model.specs.declared.rules.ConflictRule.TheVariants.{Null, AWins, BWins, Command}
use Rattle.config_model.specs.declared.storage_kind.StorageKind.{StorageKind}
use Rattle.config_model.specs.declared.storage_kind.StorageKind.TheVariants.{Filesystem, Singlefile, Caldav, Carddav}
use Rattle.config_model.specs.declared.wanted.Wanted.{Wanted}
use Rattle.config_settle.specs.Texts.{is_text}
use Rattle.cli_jobs.specs.declared.refusal.Refusal.{Refusal}
use Rattle.cli_jobs.specs.declared.refusal.Refusal.TheVariants.{NotBuilt}
use Rattle.cli_jobs.specs.Names.{pair_section}

-- refuses a key where something is so
abbrev pub unbuilt_if : Bool → List ℕ → List ℕ → Option Refusal
unbuilt_if is section key = if is then Some (NotBuilt section key) else None

abbrev pub has_collections : Option (List Wanted) → Bool
has_collections None = false
has_collections (Some wanted) = true

abbrev pub is_command : ConflictRule → Bool
is_command Null = false
is_command AWins = false
is_command BWins = false
is_command Command = true

-- kept collections, then a command that decides conflicts
unfoldable pub unbuilt_pair : PairConf → Option Refusal
unbuilt_pair pair =
    option_or (unbuilt_if (has_collections pair.collections) (pair_section pair.name) (codes "collections"))
    (unbuilt_if (is_command pair.conflict) (pair_section pair.name) (codes "conflict_resolution"))

abbrev pub storage_section : List ℕ → List ℕ
storage_section name = codes "storage " ++ name

abbrev pub is_other_kind : StorageKind → Bool
is_other_kind Filesystem = false
is_other_kind Singlefile = true
is_other_kind Caldav = true
is_other_kind Carddav = true

abbrev pub has_key : List ℕ → List Param → Bool
has_key key params = list_any (λ p. bytes_eq p.key key) params

abbrev pub unbuilt_key : List ℕ → List ℕ → List Param → Option Refusal
unbuilt_key section key params = unbuilt_if (has_key key params) section key

abbrev pub unbuilt_in : List ℕ → StorageKind → Bool → List Param → Option Refusal
unbuilt_in section kind read_only params =
    option_or (unbuilt_if (is_other_kind kind) section (codes "type"))
    (option_or (unbuilt_if read_only section (codes "read_only"))
    (option_or (unbuilt_key section (codes "post_hook") params)
    (unbuilt_key section (codes "pre_deletion_hook") params)))

-- another type than a folder, then a storage that is read-only, then hooks
unfoldable pub unbuilt_storage : StorageConf → Option Refusal
unbuilt_storage storage = unbuilt_in (storage_section storage.name) storage.kind storage.read_only storage.params

abbrev pub fetched_by : Option Param → List ℕ
fetched_by None = []
fetched_by (Some param) = param.key ++ codes ".fetch"

-- the first key whose text is fetched
abbrev pub fetched_key : List Param → List ℕ
fetched_key params = fetched_by (find (λ p. not (is_text p.value)) params)
