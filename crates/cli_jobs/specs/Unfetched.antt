-- Which storages have texts to fetch, and what is refused before any is fetched (this project's own).
use Rattle.std.specs.Prelude.{ℕ, Bool, not, ◌&&◌, ◌||◌, List, [], ◌∷◌, if◌then◌else◌, Option, Some, None, Result, Ok, Err}
use Rattle.std.specs.List.{list_any}
use Rattle.std.specs.Option.{option_or}
use Rattle.std.specs.Str.{bytes_eq}
use Rattle.cli_words.specs.declared.words.Name.{Name}
use Rattle.config_model.specs.declared.config.Config.{Config}
use Rattle.config_model.specs.declared.config.PairConf.{PairConf}
use Rattle.config_model.specs.declared.config.StorageConf.{StorageConf}
use Rattle.config_settle.specs.Settling.{status_of}
use Rattle.config_settle.specs.Texts.{are_texts}
use Rattle.cli_jobs.specs.declared.refusal.Refusal.{Refusal}
use Rattle.cli_jobs.specs.Answers.{lifted}
use Rattle.cli_jobs.specs.Built.{unbuilt_pair, unbuilt_storage}
use Rattle.cli_jobs.specs.Jobs.{storage_at, settled_texts}
use Rattle.cli_jobs.specs.Names.{first_unknown, is_chosen}

-- a pair is of this storage
abbrev pub has_side : List ℕ → PairConf → Bool
has_side storage pair = bytes_eq pair.a storage || bytes_eq pair.b storage

-- a chosen pair is of a storage that has texts to fetch
unfoldable pub is_to_fetch : List Name → List PairConf → StorageConf → Bool
is_to_fetch names pairs storage = not (are_texts storage.params) && list_any (λ p. has_side storage.name p && is_chosen names p) pairs

unfoldable pub has_fetches : List Name → Config → Bool
has_fetches names config = list_any (λ s. is_to_fetch names config.pairs s) config.storages

abbrev pub refusal_in : {A : Type 0} → Result A Refusal → Option Refusal
refusal_in (Ok a) = None
refusal_in (Err r) = Some r

-- of a pair over two storages: what isn't built of the pair, what is refused of the texts of those without texts to
-- fetch, and what isn't built of both
unfoldable pub unready_job : Option (List ℕ) → PairConf → StorageConf → StorageConf → Option Refusal
unready_job home pair a b =
    option_or (unbuilt_pair pair)
    (option_or (refusal_in (settled_texts home a)) (option_or (refusal_in (settled_texts home b))
    (option_or (unbuilt_storage a) (unbuilt_storage b))))

abbrev pub unready_by : Option (List ℕ) → PairConf → Result StorageConf Refusal → Result StorageConf Refusal → Option Refusal
unready_by home pair (Err r) b = Some r
unready_by home pair (Ok a) (Err r) = Some r
unready_by home pair (Ok a) (Ok b) = unready_job home pair a b

unfoldable pub unready_pair : List Name → Option (List ℕ) → List StorageConf → PairConf → Option Refusal
unready_pair names home storages pair =
    if is_chosen names pair then unready_by home pair (storage_at storages pair.name pair.a) (storage_at storages pair.name pair.b) else None

-- the first of the chosen pairs decides
unfoldable pub first_unready : List Name → Option (List ℕ) → List StorageConf → List PairConf → Option Refusal
first_unready names home storages [] = None
first_unready names home storages (pair ∷ pairs) = option_or (unready_pair names home storages pair) (first_unready names home storages pairs)

-- what can be refused of a configuration before its texts are fetched: the status path, the names, and then its pairs
unfoldable pub unready : List Name → Option (List ℕ) → Config → Option Refusal
unready names home config =
    option_or (refusal_in (lifted (status_of config.status_path home)))
    (option_or (first_unknown config.pairs names) (first_unready names home config.storages config.pairs))
