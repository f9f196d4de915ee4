-- The keys of each section (this project's own).
use Rattle.std.specs.Prelude.{ℕ, Bool, true, false, not, ◌&&◌, if◌then◌else◌, List, codes, Option, Some, None}
use Rattle.std.specs.Str.{bytes_eq}
use Rattle.config_model.specs.declared.storage_kind.StorageKind.{StorageKind}
use Rattle.config_model.specs.declared.storage_kind.StorageKind.TheVariants.{Filesystem, Singlefile, Caldav, Carddav}
use Rattle.config_ini.specs.declared.kinds.Key.{Key}
use Rattle.config_model.specs.declared.fields.Field.{Field}
use Rattle.config_model.specs.declared.fields.Field.TheVariants as field
use Rattle.config_model.specs.declared.fields.Place.{Place}
use Rattle.config_model.specs.declared.fields.Place.TheVariants as place

abbrev pub general_field : List ℕ → Option Field
general_field name = if bytes_eq name (codes "status_path") then Some field.StatusPath else None

abbrev pub pair_field : List ℕ → Option Field
pair_field name =
    if bytes_eq name (codes "a") then Some field.A
    else if bytes_eq name (codes "b") then Some field.B
    else if bytes_eq name (codes "collections") then Some field.Collections
    else if bytes_eq name (codes "conflict_resolution") then Some field.ConflictResolution
    else if bytes_eq name (codes "partial_sync") then Some field.PartialSync
    else if bytes_eq name (codes "metadata") then Some field.Metadata
    else None

abbrev pub single_field : List ℕ → Option Field
single_field name =
    if bytes_eq name (codes "path") then Some field.Path
    else if bytes_eq name (codes "encoding") then Some field.Encoding
    else None

abbrev pub vdir_field : List ℕ → Option Field
vdir_field name =
    if bytes_eq name (codes "path") then Some field.Path
    else if bytes_eq name (codes "fileext") then Some field.Fileext
    else if bytes_eq name (codes "encoding") then Some field.Encoding
    else if bytes_eq name (codes "post_hook") then Some field.PostHook
    else if bytes_eq name (codes "pre_deletion_hook") then Some field.PreDeletionHook
    else None

abbrev pub dav_field : List ℕ → Option Field
dav_field name =
    if bytes_eq name (codes "url") then Some field.Url
    else if bytes_eq name (codes "username") then Some field.Username
    else if bytes_eq name (codes "password") then Some field.Password
    else if bytes_eq name (codes "useragent") then Some field.Useragent
    else if bytes_eq name (codes "auth") then Some field.Auth
    else None

abbrev pub own_field : StorageKind → List ℕ → Option Field
own_field Filesystem name = vdir_field name
own_field Singlefile name = single_field name
own_field Caldav name = dav_field name
own_field Carddav name = dav_field name

abbrev pub storage_field : StorageKind → List ℕ → Option Field
storage_field kind name =
    if bytes_eq name (codes "type") then Some field.Type
    else if bytes_eq name (codes "read_only") then Some field.ReadOnly
    else own_field kind name

abbrev pub field_in : Place → List ℕ → Option Field
field_in place.General name = general_field name
field_in place.Pair name = pair_field name
field_in (place.Storage kind) name = storage_field kind name

-- the texts of a storage, which may be fetched
abbrev pub may_be_fetched : Field → Bool
may_be_fetched field.Path = true
may_be_fetched field.Fileext = true
may_be_fetched field.Encoding = true
may_be_fetched field.PostHook = true
may_be_fetched field.PreDeletionHook = true
may_be_fetched field.Url = true
may_be_fetched field.Username = true
may_be_fetched field.Password = true
may_be_fetched field.Useragent = true
may_be_fetched field.Auth = true
may_be_fetched _ = false

abbrev pub unless_fetched : Bool → Option Field → Option Field
unless_fetched is_fetched None = None
unless_fetched is_fetched (Some f) = if is_fetched && not (may_be_fetched f) then None else Some f

-- what a key means in a section, if the section may have it
unfoldable pub field_of : Place → Key → Option Field
field_of place key = unless_fetched key.is_fetched (field_in place key.name)
