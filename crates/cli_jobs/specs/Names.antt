-- Which pairs the names of the words choose, and which names name none (this project's own).
use Rattle.std.specs.Prelude.{◌==◌, ◌||◌, ℕ, Bool, List, [], ◌∷◌, ◌++◌, length, codes, Option, Some, None}
use Rattle.std.specs.List.{find, list_any}
use Rattle.std.specs.Option.{option_or}
use Rattle.std.specs.Str.{bytes_eq}
use Rattle.cli_words.specs.declared.words.Name.{Name}
use Rattle.config_model.specs.declared.config.PairConf.{PairConf}
use Rattle.config_model.specs.declared.wanted.Wanted.{Wanted}
use Rattle.cli_jobs.specs.declared.refusal.Refusal.{Refusal}
use Rattle.cli_jobs.specs.declared.refusal.Refusal.TheVariants.{NoPair, NoCollection}

-- a pair without collections has none of any name; the collections of others are in their kept list, and aren't looked at here
abbrev pub unknown_in : List ℕ → Option (List Wanted) → List ℕ → Option Refusal
unknown_in pair None name = Some (NoCollection name pair)
unknown_in pair (Some wanted) name = None

abbrev pub unknown_collection : PairConf → Option (List ℕ) → Option Refusal
unknown_collection pair None = None
unknown_collection pair (Some name) = unknown_in pair.name pair.collections name

abbrev pub unknown_by : Name → Option PairConf → Option Refusal
unknown_by name None = Some (NoPair name.first)
unknown_by name (Some pair) = unknown_collection pair name.collection

-- a name that names no pair, or no collection of its pair
unfoldable pub unknown : List PairConf → Name → Option Refusal
unknown pairs name = unknown_by name (find (λ p. bytes_eq p.name name.first) pairs)

-- the first such name
unfoldable pub first_unknown : List PairConf → List Name → Option Refusal
first_unknown pairs [] = None
first_unknown pairs (name ∷ names) = option_or (unknown pairs name) (first_unknown pairs names)

-- no names choose all pairs
unfoldable pub is_chosen : List Name → PairConf → Bool
is_chosen names pair = (length names == 0) || list_any (λ n. bytes_eq n.first pair.name) names

abbrev pub pair_section : List ℕ → List ℕ
pair_section name = codes "pair " ++ name
