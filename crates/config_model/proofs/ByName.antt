-- Storages are put into a map, the first of a name.
use Rattle.std.proofs.Common.{◌≡◌, ◌+◌, ◌<◌, length, take, get_or, subst, ℕ, Bool, true, false, cond, List, [], ◌∷◌, ◌++◌, add-one, Option, Some, None, refl, sym, ◌∙◌, ap}
use Rattle.std.specs.Borrow.{Bor}
use Rattle.std.specs.List.{find}
use Rattle.std.specs.Option.{option_or, option_copied, is_some}
use Rattle.std.specs.Ordering.{nat_cmp}
use Rattle.std.specs.Cmp.Lexicographic.{slice_cmp}
use Rattle.std.specs.BTreeMap.{BTreeMap, is_at}
use Rattle.std.specs.Str.{bytes_eq}
use Rattle.std.proofs.lemmas.Map.Text.{is_eq-slice_cmp}
use Rattle.std.proofs.lemmas.Slice.Eq.{bytes_eq-Decides}
use Rattle.config_ini.specs.declared.kinds.SectionKind.{SectionKind}
use Rattle.config_ini.specs.declared.kinds.SectionKind.TheVariants.{Storage}
use Rattle.config_ini.specs.declared.sections.Section.{Section}
use Rattle.std.proofs.Math.Seq.{take-suc}
use Rattle.config_model.specs.ByName.{IsByName}
use Rattle.config_model.specs.Pairs.{is_storage_by, is_storage_of}

abbrev pub found_in : List Section → List ℕ → Option Section
found_in sections q = find (λ s. is_storage_of q s) sections

abbrev one : Section → List ℕ → Option Section
one s q = cond (is_storage_of q s) (Some s) None

step : (t : Bool) (x : Section) (o p : Option Section) → cond t (Some x) (option_or o p) ≡ option_or (cond t (Some x) o) p
step true x o p = refl
step false x o p = refl

one_more : (q : List ℕ) (s : Section) (seen : List Section) → found_in (seen ++ s ∷ []) q ≡ option_or (found_in seen q) (one s q)
one_more q s [] = refl
one_more q s (x ∷ xs) = ap (λ (o : Option Section). cond (is_storage_of q x) (Some x) o) (one_more q s xs) ∙ step (is_storage_of q x) x (found_in xs q) (one s q)

or_none : (o : Option Section) → option_or o None ≡ o
or_none None = refl
or_none (Some x) = refl

-- no storage
pub other_section : (seen : List Section) (s : Section) (found : List ℕ → Option (Bor Section)) (kind : SectionKind) → s.title.kind ≡ kind → ((b : Bool) → is_storage_by kind b ≡ false)
    → ((q : List ℕ) → option_copied (found q) ≡ found_in seen q) → (q : List ℕ) → option_copied (found q) ≡ found_in (seen ++ s ∷ []) q
other_section seen s found kind is none same q =
    let not_it : is_storage_of q s ≡ false = ap (λ (k : SectionKind). is_storage_by k (bytes_eq s.title.name q)) is ∙ none (bytes_eq s.title.name q) in
    same q ∙ sym (or_none (found_in seen q)) ∙ ap (λ (t : Bool). option_or (found_in seen q) (cond t (Some s) None)) (sym not_it) ∙ sym (one_more q s seen)

storage_is : (s : Section) (q : List ℕ) → s.title.kind ≡ Storage → is_storage_of q s ≡ bytes_eq s.title.name q
storage_is s q is = ap (λ (k : SectionKind). is_storage_by k (bytes_eq s.title.name q)) is

known_by : (t : Bool) (o : Option Section) (v : Section) → (t ≡ true → is_some o ≡ true) → o ≡ option_or o (cond t (Some v) None)
known_by true None v h = let clash : false ≡ true = h refl in cc
known_by false None v h = refl
known_by t (Some x) v h = refl

copied_some : (o : Option (Bor Section)) → is_some (option_copied o) ≡ is_some o
copied_some None = refl
copied_some (Some x) = refl

named_so : (p q : List ℕ) → bytes_eq p q ≡ true → p ≡ q
named_so p q e = (bytes_eq-Decides p q).0 e

-- a name that is there keeps its storage
pub storage_known : (seen : List Section) (s : Section) (found : List ℕ → Option (Bor Section)) → s.title.kind ≡ Storage → is_some (found s.title.name) ≡ true
    → ((q : List ℕ) → option_copied (found q) ≡ found_in seen q) → (q : List ℕ) → option_copied (found q) ≡ found_in (seen ++ s ∷ []) q
storage_known seen s found is known same q =
    same q
    ∙ known_by (bytes_eq s.title.name q) (found_in seen q) s
    (λ e. ap (λ (p : List ℕ). is_some (found_in seen p)) (sym (named_so s.title.name q e)) ∙ (ap is_some (sym (same s.title.name)) ∙ (copied_some (found s.title.name) ∙ known)))
    ∙ ap (λ (t : Bool). option_or (found_in seen q) (cond t (Some s) None)) (sym (storage_is s q is))
    ∙ sym (one_more q s seen)

new_by : (t : Bool) (o : Option Section) (v : Section) → (t ≡ true → is_some o ≡ false) → cond t (Some v) o ≡ option_or o (cond t (Some v) None)
new_by true None v h = refl
new_by true (Some x) v h = let clash : true ≡ false = h refl in cc
new_by false None v h = refl
new_by false (Some x) v h = refl

copied_cond : (t : Bool) (b : Bor Section) (o : Option (Bor Section)) → option_copied (cond t (Some b) o) ≡ cond t (Some b.now) (option_copied o)
copied_cond true b o = refl
copied_cond false b o = refl

-- and a new one gets its own
pub storage_new : (seen : List Section) (s : Bor Section) (found more : List ℕ → Option (Bor Section)) → s.now.title.kind ≡ Storage → is_some (found s.now.title.name) ≡ false
    → ((q : List ℕ) → more q ≡ cond (is_at (slice_cmp nat_cmp s.now.title.name) q) (Some s) (found q))
    → ((q : List ℕ) → option_copied (found q) ≡ found_in seen q) → (q : List ℕ) → option_copied (more q) ≡ found_in (seen ++ s.now ∷ []) q
storage_new seen s found more is unknown updates same q =
    ap (λ (o : Option (Bor Section)). option_copied o) (updates q ∙ ap (λ (t : Bool). cond t (Some s) (found q)) (is_eq-slice_cmp s.now.title.name q))
    ∙ copied_cond (bytes_eq s.now.title.name q) s (found q)
    ∙ ap (cond (bytes_eq s.now.title.name q) (Some s.now)) (same q)
    ∙ new_by (bytes_eq s.now.title.name q) (found_in seen q) s.now
    (λ e. ap (λ (p : List ℕ). is_some (found_in seen p)) (sym (named_so s.now.title.name q e)) ∙ (ap is_some (sym (same s.now.title.name)) ∙ (copied_some (found s.now.title.name) ∙ unknown)))
    ∙ ap (λ (t : Bool). option_or (found_in seen q) (cond t (Some s.now) None)) (sym (storage_is s.now q is))
    ∙ sym (one_more q s.now seen)

pub next_named : (map : BTreeMap (List ℕ) (Bor Section)) (sections : List Section) (i : ℕ) (s : Section) → i < length sections → s ≡ get_or sections i s → IsByName map (take i sections ++ s ∷ []) → IsByName map (take (i + 1) sections)
next_named map sections i s within at is =
    let one_longer : take (i + 1) sections ≡ take i sections ++ s ∷ [] = ap (λ (k : ℕ). take k sections) (add-one i) ∙ take-suc sections i s within ∙ ap (λ (x : Section). take i sections ++ x ∷ []) (sym at) in
    subst (λ (l : List Section). IsByName map l) (sym one_longer) is
