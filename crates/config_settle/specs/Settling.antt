-- What a storage's parameters and the status path come to (this project's own).
use Rattle.std.specs.Prelude.{ℕ, Bool, false, List, ◌++◌, codes, Option, unwrap_or, Result, Ok}
use Rattle.config_ini.specs.declared.error.ConfigError.{ConfigError}
use Rattle.config_ini.specs.Answers.{◌>>=◌}
use Rattle.config_model.specs.declared.config.StorageConf.{StorageConf}
use Rattle.config_model.specs.declared.config.Param.{Param}
use Rattle.config_model.specs.declared.storage_kind.StorageKind.{StorageKind}
use Rattle.config_model.specs.declared.storage_kind.StorageKind.TheVariants.{Filesystem, Singlefile, Caldav, Carddav}
use Rattle.config_model.specs.Keys.{unless_refused}
use Rattle.config_settle.specs.declared.settled.Settled.{Settled}
use Rattle.config_settle.specs.declared.settled.Settled.TheVariants.{Vdir, Single, Dav}
use Rattle.config_settle.specs.Texts.{text_at, text_or_none, plain_by, only, ending}
use Rattle.config_settle.specs.Paths.{path_of, program_of}
use Rattle.config_settle.specs.Links.{link_of}

-- `encoding` may be `utf-8` alone, and `auth` `basic`
abbrev pub bad_encoding : List ℕ → List Param → Option ConfigError
bad_encoding section params = only section (codes "encoding") (codes "utf-8") (text_at (codes "encoding") params)

abbrev pub bad_auth : List ℕ → List Param → Option ConfigError
bad_auth section params = only section (codes "auth") (codes "basic") (text_at (codes "auth") params)

unfoldable pub hooks_of : List ℕ → List ℕ → List ℕ → Option (List ℕ) → List Param → Result Settled ConfigError
hooks_of path ending section home params = do
  post ← program_of section (codes "post_hook") home (text_at (codes "post_hook") params)
  pre ← program_of section (codes "pre_deletion_hook") home (text_at (codes "pre_deletion_hook") params)
  Ok (Vdir path ending post pre)

unfoldable pub vdir_of : List ℕ → Option (List ℕ) → List Param → Result Settled ConfigError
vdir_of section home params = do
  path ← path_of false section (codes "path") home (text_or_none (codes "path") params)
  ends ← ending section (codes "fileext") (text_or_none (codes "fileext") params)
  unless_refused (bad_encoding section params) (hooks_of path ends section home params)

unfoldable pub single_of : Bool → List ℕ → Option (List ℕ) → List Param → Result Settled ConfigError
single_of collected section home params = do
  path ← path_of collected section (codes "path") home (text_or_none (codes "path") params)
  unless_refused (bad_encoding section params) (Ok (Single path))

-- the name that the program gives itself where the configuration gives none
abbrev pub own_agent : List ℕ
own_agent = codes "vdirsyncer"

unfoldable pub dav_of : StorageKind → List ℕ → List Param → Result Settled ConfigError
dav_of kind section params = do
  link ← link_of section (text_or_none (codes "url") params)
  username ← plain_by section (codes "username") (text_at (codes "username") params)
  password ← plain_by section (codes "password") (text_at (codes "password") params)
  agent ← plain_by section (codes "useragent") (text_at (codes "useragent") params)
  unless_refused (bad_auth section params) (Ok (Dav kind link.host link.port link.path username password (unwrap_or agent own_agent)))

abbrev pub settled_by : StorageKind → Bool → List ℕ → Option (List ℕ) → List Param → Result Settled ConfigError
settled_by Filesystem collected section home params = vdir_of section home params
settled_by Singlefile collected section home params = single_of collected section home params
settled_by Caldav collected section home params = dav_of Caldav section params
settled_by Carddav collected section home params = dav_of Carddav section params

-- what a storage comes to: its keys are looked at in the order of the keys of its kind
unfoldable pub settled_of : StorageConf → Option (List ℕ) → Bool → Result Settled ConfigError
settled_of storage home collected = settled_by storage.kind collected (codes "storage " ++ storage.name) home storage.params

-- where the status is kept
unfoldable pub status_of : List ℕ → Option (List ℕ) → Result (List ℕ) ConfigError
status_of path home = path_of false (codes "general") (codes "status_path") home path
