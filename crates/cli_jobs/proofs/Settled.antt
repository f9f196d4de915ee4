-- A storage that comes to a folder has an ending that files may have.
use Rattle.std.proofs.Common.{◌≡◌, ℕ, List, Bool, true, false, Option, Some, None, Result, Ok, Err, ◌++◌, if◌then◌else◌, refl, sym, ◌∙◌, ap, subst}
use Rattle.config_ini.specs.declared.error.ConfigError.{ConfigError}
use Rattle.config_ini.specs.Answers.{◌>>=◌}
use Rattle.config_model.specs.declared.config.StorageConf.{StorageConf}
use Rattle.config_model.specs.declared.config.Param.{Param}
use Rattle.config_model.specs.declared.storage_kind.StorageKind.{StorageKind}
use Rattle.config_model.specs.declared.storage_kind.StorageKind.TheVariants.{Filesystem, Singlefile, Caldav, Carddav}
use Rattle.config_model.specs.Keys.{unless_refused}
use Rattle.config_settle.specs.declared.settled.Settled.{Settled}
use Rattle.config_settle.specs.declared.settled.Settled.TheVariants.{Vdir, Single, Dav}
use Rattle.std.specs.Prelude.{codes, unwrap_or}
use Rattle.config_settle.specs.Links.{link_of}
use Rattle.config_settle.specs.Paths.{path_of, program_of}
use Rattle.config_settle.specs.Texts.{is_ending, ending, bad_text, text_at, text_or_none, plain_by}
use Rattle.config_settle.specs.Settling.{bad_encoding, bad_auth, own_agent, hooks_of, vdir_of, single_of, dav_of, settled_by, settled_of}

bind_ok : {A B : Type 0} (x : Result A ConfigError) (f : A → Result B ConfigError) (b : B) → (x >>= f) ≡ Ok b → (a : A) × (x ≡ Ok a) × (f a ≡ Ok b)
bind_ok (Ok a) f b e = (a, refl, e)
bind_ok (Err r) f b e = absurd (let clash : Err r ≡ Ok b = e in cc)

unless_ok : {A : Type 0} (o : Option ConfigError) (x : Result A ConfigError) (a : A) → unless_refused o x ≡ Ok a → x ≡ Ok a
unless_ok None x a e = e
unless_ok (Some r) x a e = absurd (let clash : Err r ≡ Ok a = e in cc)

abbrev pub IsFolderEnding : Settled → Type 0
IsFolderEnding (Vdir path ends post pre) = is_ending ends ≡ true
IsFolderEnding (Single path) = Unit {0}
IsFolderEnding (Dav kind host port path username password agent) = Unit {0}

ending_by : (section key text ends : List ℕ) (b : Bool) → is_ending text ≡ b → (if b then Ok text else Err (bad_text section key)) ≡ Ok ends → is_ending ends ≡ true
ending_by section key text ends true is e = let same : text ≡ ends = cc in ap is_ending (sym same) ∙ is
ending_by section key text ends false is e = absurd (let clash : Err (bad_text section key) ≡ Ok ends = e in cc)

ending_ok : (section key text ends : List ℕ) → ending section key text ≡ Ok ends → is_ending ends ≡ true
ending_ok section key text ends e = ending_by section key text ends (is_ending text) refl e

hooks_by : (path ends : List ℕ) (settled : Settled) → is_ending ends ≡ true → (x y : Result (Option (List ℕ)) ConfigError) → (x >>= λ post. y >>= λ pre. Ok (Vdir path ends post pre)) ≡ Ok settled → IsFolderEnding settled
hooks_by path ends settled is (Err r) y e = absurd (let clash : Err r ≡ Ok settled = e in cc)
hooks_by path ends settled is (Ok post) (Err r) e = absurd (let clash : Err r ≡ Ok settled = e in cc)
hooks_by path ends settled is (Ok post) (Ok pre) e = let same : Vdir path ends post pre ≡ settled = cc in subst (λ (s : Settled). IsFolderEnding s) same is

hooks_ok : (path ends section : List ℕ) (home : Option (List ℕ)) (params : List Param) (settled : Settled) → is_ending ends ≡ true → hooks_of path ends section home params ≡ Ok settled → IsFolderEnding settled
unfolding hooks_of
hooks_ok path ends section home params settled is e =
    hooks_by path ends settled is (program_of section (codes "post_hook") home (text_at (codes "post_hook") params)) (program_of section (codes "pre_deletion_hook") home (text_at (codes "pre_deletion_hook") params)) e

vdir_by : (section : List ℕ) (home : Option (List ℕ)) (params : List Param) (settled : Settled) (text : List ℕ) (x : Result (List ℕ) ConfigError) →
    (x >>= λ path. ending section (codes "fileext") text >>= λ ends. unless_refused (bad_encoding section params) (hooks_of path ends section home params)) ≡ Ok settled → IsFolderEnding settled
vdir_by section home params settled text (Err r) e = absurd (let clash : Err r ≡ Ok settled = e in cc)
vdir_by section home params settled text (Ok path) e =
    let ends = bind_ok (ending section (codes "fileext") text) (λ ends. unless_refused (bad_encoding section params) (hooks_of path ends section home params)) settled e in
    hooks_ok path ends.0 section home params settled (ending_ok section (codes "fileext") text ends.0 ends.1) (unless_ok (bad_encoding section params) (hooks_of path ends.0 section home params) settled ends.2)

vdir_ok : (section : List ℕ) (home : Option (List ℕ)) (params : List Param) (settled : Settled) → vdir_of section home params ≡ Ok settled → IsFolderEnding settled
unfolding vdir_of
vdir_ok section home params settled e = vdir_by section home params settled (text_or_none (codes "fileext") params) (path_of false section (codes "path") home (text_or_none (codes "path") params)) e

single_by : (settled : Settled) (o : Option ConfigError) (x : Result (List ℕ) ConfigError) → (x >>= λ path. unless_refused o (Ok (Single path))) ≡ Ok settled → IsFolderEnding settled
single_by settled o (Err r) e = absurd (let clash : Err r ≡ Ok settled = e in cc)
single_by settled (Some r) (Ok path) e = absurd (let clash : Err r ≡ Ok settled = e in cc)
single_by settled None (Ok path) e = let same : Single path ≡ settled = cc in subst (λ (s : Settled). IsFolderEnding s) same tt

single_ok : (collected : Bool) (section : List ℕ) (home : Option (List ℕ)) (params : List Param) (settled : Settled) → single_of collected section home params ≡ Ok settled → IsFolderEnding settled
unfolding single_of
single_ok collected section home params settled e = single_by settled (bad_encoding section params) (path_of collected section (codes "path") home (text_or_none (codes "path") params)) e

dav_by : {L : Type 0} (x : Result L ConfigError) (host : L → List ℕ) (port : L → ℕ) (path : L → List ℕ) (kind : StorageKind) (settled : Settled) (o : Option ConfigError) (y z w : Result (Option (List ℕ)) ConfigError) →
    (x >>= λ link. y >>= λ username. z >>= λ password. w >>= λ agent. unless_refused o (Ok (Dav kind (host link) (port link) (path link) username password (unwrap_or agent own_agent)))) ≡ Ok settled → IsFolderEnding settled
dav_by (Err r) host port path kind settled o y z w e = absurd (let clash : Err r ≡ Ok settled = e in cc)
dav_by (Ok link) host port path kind settled o (Err r) z w e = absurd (let clash : Err r ≡ Ok settled = e in cc)
dav_by (Ok link) host port path kind settled o (Ok username) (Err r) w e = absurd (let clash : Err r ≡ Ok settled = e in cc)
dav_by (Ok link) host port path kind settled o (Ok username) (Ok password) (Err r) e = absurd (let clash : Err r ≡ Ok settled = e in cc)
dav_by (Ok link) host port path kind settled (Some r) (Ok username) (Ok password) (Ok agent) e = absurd (let clash : Err r ≡ Ok settled = e in cc)
dav_by (Ok link) host port path kind settled None (Ok username) (Ok password) (Ok agent) e =
    let same : Dav kind (host link) (port link) (path link) username password (unwrap_or agent own_agent) ≡ settled = cc in subst (λ (s : Settled). IsFolderEnding s) same tt

dav_ok : (kind : StorageKind) (section : List ℕ) (params : List Param) (settled : Settled) → dav_of kind section params ≡ Ok settled → IsFolderEnding settled
unfolding dav_of
dav_ok kind section params settled e =
    dav_by (link_of section (text_or_none (codes "url") params)) (λ l. l.host) (λ l. l.port) (λ l. l.path) kind settled (bad_auth section params) (plain_by section (codes "username") (text_at (codes "username") params)) (plain_by section (codes "password") (text_at (codes "password") params)) (plain_by section (codes "useragent") (text_at (codes "useragent") params)) e

settled_by_ok : (kind : StorageKind) (collected : Bool) (section : List ℕ) (home : Option (List ℕ)) (params : List Param) (settled : Settled) → settled_by kind collected section home params ≡ Ok settled → IsFolderEnding settled
settled_by_ok Filesystem collected section home params settled e = vdir_ok section home params settled e
settled_by_ok Singlefile collected section home params settled e = single_ok collected section home params settled e
settled_by_ok Caldav collected section home params settled e = dav_ok Caldav section params settled e
settled_by_ok Carddav collected section home params settled e = dav_ok Carddav section params settled e

pub settled_ok : (storage : StorageConf) (home : Option (List ℕ)) (collected : Bool) (settled : Settled) → settled_of storage home collected ≡ Ok settled → IsFolderEnding settled
unfolding settled_of
settled_ok storage home collected settled e = settled_by_ok storage.kind collected (codes "storage " ++ storage.name) home storage.params settled e
