-- A section of a pair (this project's own).
use Rattle.std.specs.Prelude.{ℕ, Bool, false, List, [], codes, Option, Some, None, Result, Ok}
use Rattle.std.specs.List.{find}
use Rattle.std.specs.Str.{bytes_eq}
use Rattle.config_ini.specs.declared.error.ConfigError.{ConfigError}
use Rattle.config_ini.specs.declared.kinds.SectionKind.{SectionKind}
use Rattle.config_ini.specs.declared.kinds.SectionKind.TheVariants.{General, Pair, Storage}
use Rattle.config_ini.specs.declared.sections.Section.{Section}
use Rattle.config_ini.specs.declared.setting.Entry.{Entry}
use Rattle.config_digest.specs.Written.{digest_of}
use Rattle.config_ini.specs.Answers.{◌>>=◌}
use Rattle.config_model.specs.declared.fields.Place.TheVariants as place
use Rattle.config_model.specs.declared.config.PairConf.{PairConf}
use Rattle.config_model.specs.declared.rules.Partial.TheVariants.{Revert}
use Rattle.config_model.specs.Meanings.{text_in, collections_in, conflict_in, no_rule, partial_in, metadata_in, no_metadata}
use Rattle.config_model.specs.Keys.{refused_in, unless_refused, needed, optional}

-- ---- the digest

abbrev pub is_storage_by : SectionKind → Bool → Bool
is_storage_by General same = false
is_storage_by Pair same = false
is_storage_by Storage same = same

abbrev pub is_storage_of : List ℕ → Section → Bool
is_storage_of name section = is_storage_by section.title.kind (bytes_eq section.title.name name)

abbrev pub entries_of : Option Section → List Entry
entries_of None = []
entries_of (Some section) = section.entries

-- the keys and values of the storage of this name
unfoldable pub storage_at : List Section → List ℕ → List Entry
storage_at sections name = entries_of (find (λ s. is_storage_of name s) sections)

-- of a pair's keys and values and those of its storages, as they are written
abbrev pub pair_digest : List Section → List Entry → List ℕ → List ℕ → List ℕ
pair_digest sections entries a b = digest_of entries (storage_at sections a) (storage_at sections b)

-- ---- a pair, in a configuration of these sections

unfoldable pub pair_values : List Section → List ℕ → List ℕ → List Entry → Result PairConf ConfigError
pair_values sections section name entries = do
  a ← needed text_in section (codes "a") entries
  b ← needed text_in section (codes "b") entries
  collections ← needed collections_in section (codes "collections") entries
  conflict ← optional conflict_in no_rule (codes "conflict_resolution") entries
  partial ← optional partial_in Revert (codes "partial_sync") entries
  metadata ← optional metadata_in no_metadata (codes "metadata") entries
  Ok (record { name = name; a = a; b = b; collections = collections; conflict = conflict.rule; command = conflict.command; partial = partial; metadata = metadata; digest = pair_digest sections entries a b })

unfoldable pub pair_of : List Section → List ℕ → List ℕ → List Entry → Result PairConf ConfigError
pair_of sections section name entries = unless_refused (refused_in section place.Pair entries) (pair_values sections section name entries)
