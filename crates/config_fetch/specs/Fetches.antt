-- How the texts of a configuration are fetched, one after another, and put in their places (this project's own).
use Rattle.std.specs.Prelude.{◌≡◌, ◌≢◌, ◌≤◌, ◌⊎◌, ℕ, Bool, true, false, List, ◌++◌, codes, Result, Ok, Err, IfErr}
use Rattle.outside.specs.Causes.{Rose}
use Rattle.children.specs.Children.{ChildState}
use Rattle.child_cmd.specs.declared.fetch_error.FetchError.{FetchError}
use Rattle.child_cmd.specs.declared.fetch_error.FetchError.TheVariants as fetch_error
use Rattle.child_cmd.specs.Fetching.{ChildAnswer, InputAnswer, ErrAnswer, FetchCause, Untouched}
use Rattle.child_cmd.specs.Ways.{is_fetch, way_of}
use Rattle.cli_words.specs.declared.words.Name.{Name}
use Rattle.config_model.specs.declared.config.Config.{Config}
use Rattle.config_model.specs.declared.config.PairConf.{PairConf}
use Rattle.config_model.specs.declared.config.StorageConf.{StorageConf}
use Rattle.config_model.specs.declared.config.Param.{Param}
use Rattle.config_model.specs.declared.config.ParamValue.{ParamValue}
use Rattle.config_model.specs.declared.config.ParamValue.TheVariants.{Text, Fetch}
use Rattle.cli_jobs.specs.declared.refusal.Refusal.{Refusal}
use Rattle.cli_jobs.specs.declared.refusal.Refusal.TheVariants.{NotFetched, NotBuilt, NoMemory}
use Rattle.cli_jobs.specs.Built.{storage_section}
use Rattle.cli_jobs.specs.Unfetched.{is_to_fetch}
use Rattle.config_fetch.specs.Walks.{Walk}

-- the devices of a fetch: a child, the input, and where prompts are written
pub record Devices (C I E : Type 0) : Type 0 where
  pub child : C
  pub input : I
  pub err : E

abbrev pub devices : {C I E : Type 0} → C → I → E → Devices C I E
devices child input err = record { child = child; input = input; err = err }

-- one text was fetched by these words, or couldn't be
pub record FetchedBy {C I E : Type 0} (ran : C → ℕ) (child_tells : C → Type 0) (state : C → ChildState) (read : I → ℕ) (input_tells : I → Type 0) (left : I → List ℕ) (wrote : E → ℕ) (err_tells : E → Type 0) (held : E → List ℕ) (words : List (List ℕ)) (s t : Devices C I E) (answer : Result (List ℕ) FetchError) : Type 0 where
  pub later_child : ran s.child ≤ ran t.child
  pub later_input : read s.input ≤ read t.input
  pub later_err : wrote s.err ≤ wrote t.err
  pub cause : IfErr answer (FetchCause (way_of words) (Rose (ran s.child) (ran t.child)) (Rose (read s.input) (read t.input)) (Rose (wrote s.err) (wrote t.err)))
  pub others : Untouched (way_of words) s.child t.child s.input t.input s.err t.err
  pub program : child_tells s.child → child_tells t.child × ChildAnswer (way_of words) (state s.child) (state t.child) answer
  pub line : input_tells s.input → input_tells t.input × InputAnswer (way_of words) (left s.input) (left t.input) answer
  pub prompt : err_tells s.err → err_tells t.err × ErrAnswer (way_of words) (held s.err) (held t.err) answer

-- what a fetch by these words is
abbrev pub Fetches : Type 0 → Type 1
Fetches W = List (List ℕ) → W → W → Result (List ℕ) FetchError → Type 0

-- a text by its key
abbrev pub as_text : List ℕ → List ℕ → Param
as_text key value = record { key = key; value = Text value }

-- an error is told with its section and key, or memory runs out
abbrev pub Told : List ℕ → List ℕ → FetchError → Refusal → Type 0
Told section key error r = (r ≡ NoMemory) ⊎ ((error ≢ fetch_error.NoMemory) × (r ≡ NotFetched section key error))

-- why a text couldn't be fetched is told with its section and key
pub record StopsAt {W : Type 0} (Does : Fetches W) (section key : List ℕ) (words : List (List ℕ)) (s t : W) (r : Refusal) : Type 0 where
  pub error : FetchError
  pub fetched : Does words s t (Err error)
  pub not_memory : error ≢ fetch_error.NoMemory
  pub told : r ≡ NotFetched section key error

-- memory ran out: the text was fetched, or nothing was done
pub record Starves {W : Type 0} (Does : Fetches W) (words : List (List ℕ)) (s t : W) (r : Refusal) : Type 0 where
  pub is : r ≡ NoMemory
  pub did : (t ≡ s) ⊎ ((answer : Result (List ℕ) FetchError) × Does words s t answer)

abbrev pub TextStep : {W : Type 0} → Fetches W → List ℕ → List ℕ → List (List ℕ) → W → W → Result (List ℕ) Refusal → Type 0
TextStep Does section key words s t (Ok value) = Does words s t (Ok value)
TextStep Does section key words s t (Err r) = StopsAt Does section key words s t r ⊎ Starves Does words s t r

-- words that are no fetch, which no configuration has, aren't run
abbrev pub FetchedIf : {W : Type 0} → Fetches W → List ℕ → List ℕ → List (List ℕ) → Bool → W → W → Result Param Refusal → Type 0
FetchedIf Does section key words true s t (Ok param) = (value : List ℕ) × TextStep Does section key words s t (Ok value) × (param ≡ as_text key value)
FetchedIf Does section key words true s t (Err r) = TextStep Does section key words s t (Err r)
FetchedIf Does section key words false s t (Ok param) = ⊥
FetchedIf Does section key words false s t (Err r) = (t ≡ s) × ((r ≡ NotBuilt section (key ++ codes ".fetch")) ⊎ (r ≡ NoMemory))

-- a text stays as it is, and another is fetched
abbrev pub ValueStep : {W : Type 0} → Fetches W → List ℕ → List ℕ → ParamValue → W → W → Result Param Refusal → Type 0
ValueStep Does section key (Text text) s t (Ok param) = (t ≡ s) × (param ≡ as_text key text)
ValueStep Does section key (Text text) s t (Err r) = (t ≡ s) × (r ≡ NoMemory)
ValueStep Does section key (Fetch words) s t answer = FetchedIf Does section key words (is_fetch words) s t answer

abbrev pub ParamStep : {W : Type 0} → Fetches W → List ℕ → W → W → Param → Result Param Refusal → Type 0
ParamStep Does section s t param answer = ValueStep Does section param.key param.value s t answer

-- and a want of memory may come before the first step
abbrev pub WalkOrStarved : {W X Y : Type 0} → (W → W → X → Result Y Refusal → Type 0) → W → W → List X → Result (List Y) Refusal → Type 0
WalkOrStarved Step s t xs (Ok ys) = Walk Step s t xs (Ok ys)
WalkOrStarved Step s t xs (Err r) = Walk Step s t xs (Err r) ⊎ ((r ≡ NoMemory) × (t ≡ s))

-- a storage with these texts
abbrev pub with_texts : StorageConf → List Param → StorageConf
with_texts storage params = record { name = storage.name; kind = storage.kind; read_only = storage.read_only; params = params }

-- the texts of a storage are fetched in the order of their keys, and stand then in the places of their ways
abbrev pub FetchedStorage : {W : Type 0} → Fetches W → W → W → StorageConf → Result StorageConf Refusal → Type 0
FetchedStorage Does s t storage (Ok filled) = (params : List Param) × WalkOrStarved (ParamStep Does (storage_section storage.name)) s t storage.params (Ok params) × (filled ≡ with_texts storage params)
FetchedStorage Does s t storage (Err r) = WalkOrStarved (ParamStep Does (storage_section storage.name)) s t storage.params (Err r)

-- a storage that no chosen pair is of, or that has nothing to fetch, stays as it is
abbrev pub StorageIf : {W : Type 0} → Fetches W → Bool → W → W → StorageConf → Result StorageConf Refusal → Type 0
StorageIf Does true s t storage answer = FetchedStorage Does s t storage answer
StorageIf Does false s t storage (Ok filled) = (t ≡ s) × (filled ≡ storage)
StorageIf Does false s t storage (Err r) = (t ≡ s) × (r ≡ NoMemory)

abbrev pub StorageStep : {W : Type 0} → Fetches W → List Name → List PairConf → W → W → StorageConf → Result StorageConf Refusal → Type 0
StorageStep Does names pairs s t storage answer = StorageIf Does (is_to_fetch names pairs storage) s t storage answer

-- the storages of the chosen pairs, in the order of the configuration, each once
abbrev pub FetchesAll : {W : Type 0} → Fetches W → List Name → List PairConf → W → W → List StorageConf → Result (List StorageConf) Refusal → Type 0
FetchesAll Does names pairs s t storages answer = WalkOrStarved (StorageStep Does names pairs) s t storages answer

-- a configuration with these storages
abbrev pub with_storages : Config → List StorageConf → Config
with_storages config storages = record { status_path = config.status_path; pairs = config.pairs; storages = storages }

-- the configuration with its fetched texts in their places, or the first refusal
abbrev pub FetchedConfig : {W : Type 0} → Fetches W → List Name → W → W → Config → Result Config Refusal → Type 0
FetchedConfig Does names s t config (Ok filled) = (storages : List StorageConf) × FetchesAll Does names config.pairs s t config.storages (Ok storages) × (filled ≡ with_storages config storages)
FetchedConfig Does names s t config (Err r) = FetchesAll Does names config.pairs s t config.storages (Err r)
