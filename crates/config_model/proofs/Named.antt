-- The storages that pairs name.
use Rattle.std.proofs.Common.{◌≡◌, ℕ, ◌+◌, ◌<◌, ◌≤◌, Bool, true, false, cond, ◌||◌, List, ◌∷◌, length, drop, get_or, Option, None, refl, sym, ◌∙◌, ap}
use Rattle.std.specs.Option.{option_or}
use Rattle.std.specs.Str.{bytes_eq}
use Rattle.std.proofs.Math.ListN.{drop_of_length-le}
use Rattle.config_ini.specs.declared.error.ConfigError.{ConfigError}
use Rattle.config_ini.specs.Flaws.{Before, also}
use Rattle.config_model.specs.declared.config.PairConf.{PairConf}
use Rattle.config_model.specs.declared.config.StorageConf.{StorageConf}
use Rattle.config_model.specs.Reading.{is_storage, lacking, first_lacking}
use Rattle.config_model.proofs.Rests.{rest_is}

moved : (b h r : Bool) → (cond b true h || r) ≡ (h || (b || r))
moved true true r = refl
moved true false r = refl
moved false true r = refl
moved false false r = refl

pub name_added : (old new : Before) (storages : List StorageConf) (i : ℕ) (s : StorageConf) (name : List ℕ) → i < length storages → s ≡ get_or storages i s → name ≡ s.name → new ≡ also name old
    → ((q : List ℕ) → (old q || is_storage (drop i storages) q) ≡ is_storage storages q) → (q : List ℕ) → (new q || is_storage (drop (i + 1) storages) q) ≡ is_storage storages q
name_added old new storages i s name within at is sees on q =
    ap (λ (b : Before). b q || is_storage (drop (i + 1) storages) q) sees
    ∙ ap (λ (n : List ℕ). cond (bytes_eq n q) true (old q) || is_storage (drop (i + 1) storages) q) is
    ∙ moved (bytes_eq s.name q) (old q) (is_storage (drop (i + 1) storages) q)
    ∙ ap (λ (l : List StorageConf). old q || is_storage l q) (sym (rest_is storages i s within at))
    ∙ on q

or_false : (b : Bool) → (b || false) ≡ b
or_false true = refl
or_false false = refl

pub names_added : (names : Before) (storages : List StorageConf) (i : ℕ) → length storages ≤ i → ((q : List ℕ) → (names q || is_storage (drop i storages) q) ≡ is_storage storages q) → names ≡ is_storage storages
names_added names storages i over on =
    let each : (q : List ℕ) → names q ≡ is_storage storages q = λ q. sym (or_false (names q)) ∙ ap (λ (l : List StorageConf). names q || is_storage l q) (sym (drop_of_length-le storages over)) ∙ on q in
    λ j q. each q j

next_is : (names : Before) (pair : PairConf) (rest : List PairConf) → first_lacking names (pair ∷ rest) ≡ option_or (lacking names pair) (first_lacking names rest)
unfolding first_lacking
next_is names pair rest = refl

pub pair_by : (names : Before) (pairs : List PairConf) (i : ℕ) (pair : PairConf) (o : Option ConfigError) → i < length pairs → pair ≡ get_or pairs i pair → lacking names pair ≡ o
    → first_lacking names (drop i pairs) ≡ first_lacking names pairs → option_or o (first_lacking names (drop (i + 1) pairs)) ≡ first_lacking names pairs
pair_by names pairs i pair o within at is on =
    ap (λ (found : Option ConfigError). option_or found (first_lacking names (drop (i + 1) pairs))) (sym is)
    ∙ sym (next_is names pair (drop (i + 1) pairs))
    ∙ ap (first_lacking names) (sym (rest_is pairs i pair within at))
    ∙ on

pub none_lacking : (names : Before) (pairs : List PairConf) (i : ℕ) → length pairs ≤ i → first_lacking names (drop i pairs) ≡ first_lacking names pairs → first_lacking names pairs ≡ None
unfolding first_lacking
none_lacking names pairs i over on = sym on ∙ ap (first_lacking names) (drop_of_length-le pairs over)
