-- The names of attributes read one by one, no two the same: lemmas on specs/Namespaces.antt and specs/Scopes.antt
use Rattle.std.proofs.Common.{◌≡◌, refl, ℕ, ◌+◌, ◌<◌, suc, Bool, true, false, ◌&&◌, ◌||◌, not, cond, List, [], ◌∷◌, length, drop, get_or, Option, Some, None, sym, ◌∙◌, ap, add-one, drop-cons}
use Rattle.std.specs.Ordering.{ordering_then, nat_cmp, is_eq}
use Rattle.std.specs.declared.cmp.Ordering.{Ordering}
use Rattle.std.specs.declared.cmp.Ordering.TheVariants.{Less, Equal, Greater}
use Rattle.std.specs.Cmp.Lexicographic.{slice_cmp}
use Rattle.std.specs.BTreeMap.{is_at}
use Rattle.std.proofs.lemmas.Map.Text.{is_eq-slice_cmp}
use Rattle.std.specs.List.{list_any}
use Rattle.std.specs.Str.{bytes_eq}
use Rattle.multistatus.specs.declared.tags.Attribute.{Attribute}
use Rattle.multistatus.specs.declared.scopes.Binding.{Binding}
use Rattle.multistatus.specs.declared.scopes.Expanded.{Expanded}
use Rattle.multistatus.specs.Steps.{◌>>=◌, all_some}
use Rattle.multistatus.specs.Namespaces.{attribute_name, is_same, all_differ, if_differ}
use Rattle.multistatus.specs.Marks.{mark_of, space_cmp}
use Rattle.multistatus.specs.Scopes.{differing}
use Rattle.multistatus.proofs.Runs.{bind_same, bind_assoc, bytes_same, bytes_equal}
use Rattle.multistatus.proofs.Namings.{bind_none}

abbrev pub Key : Type 0
Key = List ℕ × List ℕ

abbrev pub key_of : Expanded → Key
key_of n = (n.local, n.space)

-- none of the names has a key that was seen
abbrev pub are_new : (Key → Bool) → List Expanded → Bool
are_new has [] = true
are_new has (n ∷ names) = not (has (key_of n)) && are_new has names

abbrev pub differ_from : (Key → Bool) → List Expanded → Option (Unit {0})
differ_from has names = cond (all_differ names && are_new has names) (Some tt) None

-- keys by their bytes
abbrev pub key_cmp : Key → Key → Ordering
key_cmp x y = ordering_then (slice_cmp nat_cmp x.0 y.0) (space_cmp x.1 y.1)

abbrev pub has_key : List Key → Key → Bool
has_key seen q = list_any (is_at (key_cmp q)) seen

-- what the names so far and the rest come to
pub record DiffersOn (scope : List Binding) (seen : List Key) (rest : List Attribute) (whole : Option (Unit {0})) : Type 0 where
  pub same : (all_some (attribute_name scope) rest >>= differ_from (has_key seen)) ≡ whole

all_new : (names : List Expanded) → are_new (has_key []) names ≡ true
all_new [] = refl
all_new (n ∷ names) = all_new names

and_true : (b : Bool) → (b && true) ≡ b
and_true true = refl
and_true false = refl

abbrev done : List Expanded → Option (Unit {0})
done names = Some tt

first_by : (b : Bool) (names : List Expanded) → cond {A = Option (Unit {0})} b (Some tt) None ≡ (cond {A = Option (List Expanded)} b (Some names) None >>= done)
first_by true names = refl
first_by false names = refl

pub differs_first : (scope : List Binding) (seen : List Key) (attributes : List Attribute) → seen ≡ [] → DiffersOn scope seen attributes (differing scope attributes)
differs_first scope seen attributes none = record {
  same = ap (λ (s : List Key). all_some (attribute_name scope) attributes >>= differ_from (has_key s)) none
      ∙ bind_same (all_some (attribute_name scope) attributes) (differ_from (has_key [])) (λ names. if_differ names >>= λ n. Some tt)
      (λ names. ap (λ (b : Bool). cond {A = Option (Unit {0})} (all_differ names && b) (Some tt) None) (all_new names)
      ∙ ap (λ (b : Bool). cond {A = Option (Unit {0})} b (Some tt) None) (and_true (all_differ names)) ∙ first_by (all_differ names) names)
      ∙ sym (bind_assoc (all_some (attribute_name scope) attributes) if_differ (λ names. Some tt));
}

eq_then : (a b : Ordering) → is_eq (ordering_then a b) ≡ (is_eq a && is_eq b)
eq_then Less b = refl
eq_then Equal b = refl
eq_then Greater b = refl

same_marks : (x y : List ℕ) (t : Bool) → bytes_eq x y ≡ t → (bytes_eq (mark_of x) (mark_of y) && t) ≡ t
same_marks x y true h = and_true (bytes_eq (mark_of x) (mark_of y)) ∙ ap (λ (z : List ℕ). bytes_eq (mark_of x) (mark_of z)) (sym (bytes_equal x y h)) ∙ bytes_same (mark_of x)
same_marks x y false h = and_false (bytes_eq (mark_of x) (mark_of y))
  where
    and_false : (b : Bool) → (b && false) ≡ false
    and_false true = refl
    and_false false = refl

is_eq-space_cmp : (x y : List ℕ) → is_eq (space_cmp x y) ≡ bytes_eq x y
is_eq-space_cmp x y =
    eq_then (slice_cmp nat_cmp (mark_of x) (mark_of y)) (slice_cmp nat_cmp x y)
    ∙ ap (λ (b : Bool). b && is_eq (slice_cmp nat_cmp x y)) (is_eq-slice_cmp (mark_of x) (mark_of y))
    ∙ ap (λ (b : Bool). bytes_eq (mark_of x) (mark_of y) && b) (is_eq-slice_cmp x y)
    ∙ same_marks x y (bytes_eq x y) refl

-- the order tells the same keys
is_same-at : (n m : Expanded) → is_at (key_cmp (key_of n)) (key_of m) ≡ is_same n m
is_same-at n m =
    eq_then (slice_cmp nat_cmp n.local m.local) (space_cmp n.space m.space)
    ∙ ap (λ (b : Bool). b && is_eq (space_cmp n.space m.space)) (is_eq-slice_cmp n.local m.local)
    ∙ ap (λ (b : Bool). bytes_eq n.local m.local && b) (is_eq-space_cmp n.space m.space)

-- one more key is seen
abbrev pub SeesMore : Expanded → List Key → List Key → Type 0
SeesMore n old new = (q : Key) → has_key new q ≡ cond (is_at (key_cmp (key_of n)) q) true (has_key old q)

new_by : (s h a w v : Bool) → (not a && w) ≡ v → (not (s || a) && (not h && w)) ≡ (not (cond s true h) && v)
new_by true h a w v e = refl
new_by false true true w v e = refl
new_by false true false w v e = refl
new_by false false true w v e = e
new_by false false false w v e = e

new_split : (n : Expanded) (old new : List Key) → SeesMore n old new → (names : List Expanded)
    → (not (list_any (is_same n) names) && are_new (has_key old) names) ≡ are_new (has_key new) names
new_split n old new sees [] = refl
new_split n old new sees (m ∷ names) =
    new_by (is_same n m) (has_key old (key_of m)) (list_any (is_same n) names) (are_new (has_key old) names) (are_new (has_key new) names) (new_split n old new sees names)
    ∙ ap (λ (b : Bool). not b && are_new (has_key new) names) (ap (λ (s : Bool). cond s true (has_key old (key_of m))) (sym (is_same-at n m)) ∙ sym (sees (key_of m)))

regrouped : (x d h w v : Bool) → h ≡ false → (x && w) ≡ v → ((x && d) && (not h && w)) ≡ (d && v)
regrouped x d true w v none e = cc
regrouped true true false w v none e = e
regrouped true false false w v none e = refl
regrouped false true false w v none e = e
regrouped false false false w v none e = refl

refused : (x d h w : Bool) → h ≡ true → ((x && d) && (not h && w)) ≡ false
refused true true true w e = refl
refused true false true w e = refl
refused false d true w e = refl
refused x d false w e = cc

rest_is : (xs : List Attribute) (i : ℕ) (x : Attribute) → i < length xs → x ≡ get_or xs i x → drop i xs ≡ x ∷ drop (i + 1) xs
rest_is xs i x within is = drop-cons xs i x within ∙ ap (λ (a : Attribute). a ∷ drop (suc i) xs) (sym is) ∙ ap (λ k. x ∷ drop k xs) (sym (add-one i))

-- the name at hand in front of those of the rest
named : (scope : List Binding) (has : Key → Bool) (x : Attribute) (rest : List Attribute) (n : Expanded) → attribute_name scope x ≡ Some n
    → (all_some (attribute_name scope) (x ∷ rest) >>= differ_from has) ≡ (all_some (attribute_name scope) rest >>= λ names. differ_from has (n ∷ names))
named scope has x rest n is =
    ap (λ (o : Option Expanded). (o >>= λ y. all_some (attribute_name scope) rest >>= λ ys. Some (y ∷ ys)) >>= differ_from has) is
    ∙ bind_assoc (all_some (attribute_name scope) rest) (λ ys. Some (n ∷ ys)) (differ_from has)

pub differs_unnamed : (scope : List Binding) (seen : List Key) (xs : List Attribute) (i : ℕ) (x : Attribute) (whole : Option (Unit {0}))
    → DiffersOn scope seen (drop i xs) whole → i < length xs → x ≡ get_or xs i x → attribute_name scope x ≡ None → whole ≡ None
differs_unnamed scope seen xs i x whole on within is none =
    sym on.same ∙ ap (λ (r : List Attribute). all_some (attribute_name scope) r >>= differ_from (has_key seen)) (rest_is xs i x within is)
    ∙ ap (λ (o : Option Expanded). (o >>= λ y. all_some (attribute_name scope) (drop (i + 1) xs) >>= λ ys. Some (y ∷ ys)) >>= differ_from (has_key seen)) none

pub differs_twice : (scope : List Binding) (seen : List Key) (xs : List Attribute) (i : ℕ) (x : Attribute) (n : Expanded) (whole : Option (Unit {0}))
    → DiffersOn scope seen (drop i xs) whole → i < length xs → x ≡ get_or xs i x → attribute_name scope x ≡ Some n → has_key seen (key_of n) ≡ true → whole ≡ None
differs_twice scope seen xs i x n whole on within is name again =
    sym on.same ∙ ap (λ (r : List Attribute). all_some (attribute_name scope) r >>= differ_from (has_key seen)) (rest_is xs i x within is)
    ∙ named scope (has_key seen) x (drop (i + 1) xs) n name
    ∙ bind_none (all_some (attribute_name scope) (drop (i + 1) xs)) (λ names. differ_from (has_key seen) (n ∷ names))
    (λ names. ap (λ (b : Bool). cond {A = Option (Unit {0})} b (Some tt) None)
    (refused (not (list_any (is_same n) names)) (all_differ names) (has_key seen (key_of n)) (are_new (has_key seen) names) again))

pub differs_next : (scope : List Binding) (seen more : List Key) (xs : List Attribute) (i : ℕ) (x : Attribute) (n : Expanded) (whole : Option (Unit {0}))
    → DiffersOn scope seen (drop i xs) whole → i < length xs → x ≡ get_or xs i x → attribute_name scope x ≡ Some n → has_key seen (key_of n) ≡ false
    → SeesMore n seen more → DiffersOn scope more (drop (i + 1) xs) whole
differs_next scope seen more xs i x n whole on within is name first sees = record {
  same = bind_same (all_some (attribute_name scope) (drop (i + 1) xs)) (differ_from (has_key more)) (λ names. differ_from (has_key seen) (n ∷ names))
      (λ names. ap (λ (b : Bool). cond {A = Option (Unit {0})} b (Some tt) None)
      (sym (regrouped (not (list_any (is_same n) names)) (all_differ names) (has_key seen (key_of n)) (are_new (has_key seen) names) (are_new (has_key more) names) first (new_split n seen more sees names))))
      ∙ sym (named scope (has_key seen) x (drop (i + 1) xs) n name)
      ∙ sym (ap (λ (r : List Attribute). all_some (attribute_name scope) r >>= differ_from (has_key seen)) (rest_is xs i x within is))
      ∙ on.same;
}

pub was_seen : (b t : Bool) → b ≡ not t → b ≡ false → t ≡ true
was_seen b true e h = refl
was_seen b false e h = cc

pub was_unseen : (b t : Bool) → b ≡ not t → b ≡ true → t ≡ false
was_unseen b true e h = cc
was_unseen b false e h = refl
