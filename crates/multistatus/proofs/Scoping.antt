-- Prefixes looked up from the inside outwards, and the declarations of a tag: lemmas on specs/Namespaces.antt
use Rattle.std.proofs.Common.{◌≡◌, refl, ℕ, ◌+◌, ◌-◌, ◌<◌, zero, suc, Bool, true, false, cond, List, [], ◌∷◌, ◌++◌, length, take, get_or, reverse, Option, Some, None, sym, ◌∙◌, ap, add-one, arith}
use Rattle.std.specs.Option.{option_or, is_some}
use Rattle.std.specs.Ordering.{nat_cmp}
use Rattle.std.specs.Cmp.Lexicographic.{slice_cmp}
use Rattle.std.specs.BTreeMap.{is_at}
use Rattle.std.proofs.lemmas.Map.Text.{is_eq-slice_cmp}
use Rattle.std.specs.Str.{bytes_eq}
use Rattle.std.proofs.Math.Seq.{take-suc}
use Rattle.std.proofs.lemmas.List.Elements.{filter_map-append}
use Rattle.multistatus.specs.declared.tags.Attribute.{Attribute}
use Rattle.multistatus.specs.declared.scopes.Binding.{Binding}
use Rattle.multistatus.specs.declared.reader.Level.{Level}
use Rattle.multistatus.specs.Namespaces.{space_of, declaration_of, declarations_of}
use Rattle.multistatus.specs.Reader.{scope_of}
use Rattle.multistatus.proofs.Runs.{bytes_same, bytes_equal}
use Rattle.multistatus.proofs.Turns.{popped}

found_by : (p : List ℕ) (b : Binding) (xs ys : List Binding) (t : Bool)
    → space_of p (xs ++ ys) ≡ option_or (space_of p xs) (space_of p ys)
    → cond t (Some b.space) (space_of p (xs ++ ys)) ≡ option_or (cond t (Some b.space) (space_of p xs)) (space_of p ys)
found_by p b xs ys true h = refl
found_by p b xs ys false h = h

space_of-append : (p : List ℕ) (xs ys : List Binding) → space_of p (xs ++ ys) ≡ option_or (space_of p xs) (space_of p ys)
space_of-append p [] ys = refl
space_of-append p (b ∷ xs) ys = found_by p b xs ys (bytes_eq p b.prefix) (space_of-append p xs ys)

pub found_inside : (p : List ℕ) (xs ys : List Binding) (s : List ℕ) → Some s ≡ space_of p xs → Some s ≡ space_of p (xs ++ ys)
found_inside p xs ys s h = ap (λ (o : Option (List ℕ)). option_or o (space_of p ys)) h ∙ sym (space_of-append p xs ys)

pub found_outside : (p : List ℕ) (xs ys : List Binding) → None ≡ space_of p xs → space_of p ys ≡ space_of p (xs ++ ys)
found_outside p xs ys h = ap (λ (o : Option (List ℕ)). option_or o (space_of p ys)) h ∙ sym (space_of-append p xs ys)

-- the scope of so many elements and of one less
pub scope_around : (levels : List Level) (n : ℕ) (level : Level) → 0 < n → n - 1 < length levels → level ≡ get_or levels (n - 1) level
    → level.declared ++ scope_of (reverse (take (n - 1) levels)) ≡ scope_of (reverse (take n levels))
scope_around levels zero level some within is = absurd (omega arith)
scope_around levels (suc m) level some within is =
    let less : suc m - 1 ≡ m = omega arith in
    let here : m < length levels = omega arith in
    let grown : take (suc m) levels ≡ take m levels ++ level ∷ [] =
    take-suc levels m level here ∙ ap (λ (l : Level). take m levels ++ l ∷ []) (sym (is ∙ ap (λ k. get_or levels k level) less)) in
    ap (λ k. level.declared ++ scope_of (reverse (take k levels))) less ∙ ap scope_of (sym (popped (take (suc m) levels) (take m levels) level grown))

pub declared_next : (xs : List Attribute) (i : ℕ) (x : Attribute) (old new : List Binding) → i < length xs → x ≡ get_or xs i x
    → old ≡ declarations_of (take i xs) → new ≡ old ++ declarations_of (x ∷ []) → new ≡ declarations_of (take (i + 1) xs)
declared_next xs i x old new within is so_far grown =
    let one : take (i + 1) xs ≡ take i xs ++ x ∷ [] = ap (λ k. take k xs) (add-one i) ∙ take-suc xs i x within ∙ ap (λ (a : Attribute). take i xs ++ a ∷ []) (sym is) in
    grown ∙ ap (λ l. l ++ declarations_of (x ∷ [])) so_far ∙ sym (filter_map-append declaration_of (take i xs) (x ∷ [])) ∙ ap declarations_of (sym one)

one_more : (q : List ℕ) (b : Binding) (listed : List Binding) → space_of q (listed ++ b ∷ []) ≡ option_or (space_of q listed) (cond (bytes_eq q b.prefix) (Some b.space) None)
one_more q b listed = space_of-append q listed (b ∷ [])

bytes_eq_flipped : (xs ys : List ℕ) → bytes_eq xs ys ≡ bytes_eq ys xs
bytes_eq_flipped xs ys = flipped (bytes_eq xs ys) (bytes_eq ys xs)
    (λ h. ap (λ z. bytes_eq ys z) (bytes_equal xs ys h) ∙ bytes_same ys)
    (λ h. ap (λ z. bytes_eq xs z) (bytes_equal ys xs h) ∙ bytes_same xs)
  where
    flipped : (s t : Bool) → (s ≡ true → t ≡ true) → (t ≡ true → s ≡ true) → s ≡ t
    flipped true t f g = sym (f refl)
    flipped false true f g = g refl
    flipped false false f g = refl

known_by : (t : Bool) (o : Option (List ℕ)) (v : List ℕ) → (t ≡ true → is_some o ≡ true) → o ≡ option_or o (cond t (Some v) None)
known_by true None v h = let clash : false ≡ true = h refl in cc
known_by false None v h = refl
known_by t (Some x) v h = refl

-- a prefix that is there keeps its namespace
pub map_known : (listed : List Binding) (b : Binding) (found : List ℕ → Option (List ℕ)) → ((q : List ℕ) → found q ≡ space_of q listed)
    → is_some (found b.prefix) ≡ true → (q : List ℕ) → found q ≡ space_of q (listed ++ b ∷ [])
map_known listed b found is known q =
    is q ∙ known_by (bytes_eq q b.prefix) (space_of q listed) b.space
    (λ same. ap is_some (ap (λ p. space_of p listed) (bytes_equal q b.prefix same) ∙ sym (is b.prefix)) ∙ known)
    ∙ sym (one_more q b listed)

new_by : (t : Bool) (o : Option (List ℕ)) (v : List ℕ) → (t ≡ true → is_some o ≡ false) → cond t (Some v) o ≡ option_or o (cond t (Some v) None)
new_by true None v h = refl
new_by true (Some x) v h = let clash : true ≡ false = h refl in cc
new_by false None v h = refl
new_by false (Some x) v h = refl

-- and a new one gets its own
pub map_new : (listed : List Binding) (b : Binding) (found more : List ℕ → Option (List ℕ)) → ((q : List ℕ) → found q ≡ space_of q listed)
    → is_some (found b.prefix) ≡ false → ((q : List ℕ) → more q ≡ cond (is_at (slice_cmp nat_cmp b.prefix) q) (Some b.space) (found q))
    → (q : List ℕ) → more q ≡ space_of q (listed ++ b ∷ [])
map_new listed b found more is unknown updates q =
    updates q
    ∙ ap (λ (t : Bool). cond t (Some b.space) (found q)) (is_eq-slice_cmp b.prefix q ∙ bytes_eq_flipped b.prefix q)
    ∙ ap (cond (bytes_eq q b.prefix) (Some b.space)) (is q)
    ∙ new_by (bytes_eq q b.prefix) (space_of q listed) b.space
    (λ same. ap is_some (ap (λ p. space_of p listed) (bytes_equal q b.prefix same) ∙ sym (is b.prefix)) ∙ unknown)
    ∙ sym (one_more q b listed)
