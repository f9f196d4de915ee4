-- The order of lines: a list that is sorted and has the lines of another is that list in order.
use Rattle.std.proofs.Common.{◌≡◌, ℕ, ◌+◌, ◌<◌, ◌≤◌, Bool, true, false, cond, List, [], ◌∷◌, map, length, Bor, refl, sym, ◌∙◌, ap, subst, arith, add-one, suc}
use Rattle.std.specs.List.{slice_index_or, sum_by}
use Rattle.std.specs.List.Sorted.{IsSorted, IsPermutation}
use Rattle.std.specs.Str.{bytes_eq}
use Rattle.std.specs.Ordering.{nat_cmp, is_lt, is_eq, ordering_reverse}
use Rattle.std.specs.declared.cmp.Ordering.{Ordering}
use Rattle.std.specs.declared.cmp.Ordering.TheVariants.{Less, Equal, Greater}
use Rattle.std.specs.Cmp.{IsStrictWeakOrder}
use Rattle.std.specs.Cmp.Lexicographic.{slice_cmp, nat_list_cmp_total}
use Rattle.std.proofs.lemmas.List.Sorted.{ranks_by, sorted_far, sum_by-IsPermutation, IsPermutation-map}
use Rattle.std.proofs.lemmas.List.Sums.{sum_by-cons}
use Rattle.std.proofs.lemmas.Slice.Eq.{bytes_eq-Decides}
use Rattle.std.proofs.lemmas.Map.Text.{is_eq-slice_cmp}
use Rattle.item_text.specs.NormalForm.{put_in_order, in_order}

-- whether a line comes before another
abbrev pub below : List ℕ → List ℕ → Bool
below x y = is_lt (slice_cmp nat_cmp x y)

weak : IsStrictWeakOrder below
weak = ranks_by nat_list_cmp_total (λ (x : List ℕ). x)

-- no line comes before x
abbrev pub IsLow : List ℕ → List (List ℕ) → Type 0
IsLow x [] = Unit {0}
IsLow x (y ∷ ys) = (below y x ≡ false) × IsLow x ys

abbrev pub Rising : List (List ℕ) → Type 0
Rising [] = Unit {0}
Rising (y ∷ ys) = IsLow y ys × Rising ys

low-chain : (x y : List ℕ) (zs : List (List ℕ)) → below y x ≡ false → IsLow y zs → IsLow x zs
low-chain x y [] h low = tt
low-chain x y (z ∷ zs) h low = (weak.chain z y x low.0 h, low-chain x y zs h low.1)

low-cond : (b : Bool) (x : List ℕ) (us vs : List (List ℕ)) → IsLow x us → IsLow x vs → IsLow x (cond b us vs)
low-cond true x us vs h k = h
low-cond false x us vs h k = k

low-put : (x line : List ℕ) (ys : List (List ℕ)) → below line x ≡ false → IsLow x ys → IsLow x (put_in_order line ys)
unfolding put_in_order
low-put x line [] h low = (h, tt)
low-put x line (y ∷ ys) h low =
    low-cond (below y line) x (y ∷ put_in_order line ys) (line ∷ y ∷ ys) (low.0, low-put x line ys h low.1) (h, low)

rising-cond : (b : Bool) (us vs : List (List ℕ)) → (b ≡ true → Rising us) → (b ≡ false → Rising vs) → Rising (cond b us vs)
rising-cond true us vs h k = h refl
rising-cond false us vs h k = k refl

rising-put : (line : List ℕ) (ys : List (List ℕ)) → Rising ys → Rising (put_in_order line ys)
unfolding put_in_order
rising-put line [] up = (tt, tt)
rising-put line (y ∷ ys) up =
    rising-cond (below y line) (y ∷ put_in_order line ys) (line ∷ y ∷ ys)
    (λ h. (low-put y line ys (weak.one_way y line h) up.0, rising-put line ys up.1))
    (λ h. ((h, low-chain line y ys h up.0), up))

rising-in_order : (xs : List (List ℕ)) → Rising (in_order xs)
unfolding in_order
rising-in_order [] = tt
rising-in_order (x ∷ xs) = rising-put x (in_order xs) (rising-in_order xs)

-- how often a line stands among others
abbrev pub times : List ℕ → List (List ℕ) → ℕ
times q xs = sum_by (λ x. cond (bytes_eq q x) 1 0) xs

times-cons : (q x : List ℕ) (xs : List (List ℕ)) → times q (x ∷ xs) ≡ cond (bytes_eq q x) 1 0 + times q xs
times-cons q x xs = sum_by-cons (λ x. cond (bytes_eq q x) 1 0) x xs

times-cond : (b : Bool) (q : List ℕ) (us vs : List (List ℕ)) (n : ℕ) → times q us ≡ n → times q vs ≡ n → times q (cond b us vs) ≡ n
times-cond true q us vs n h k = h
times-cond false q us vs n h k = k

times-put : (q line : List ℕ) (ys : List (List ℕ)) → times q (put_in_order line ys) ≡ cond (bytes_eq q line) 1 0 + times q ys
unfolding put_in_order
times-put q line [] = times-cons q line []
times-put q line (y ∷ ys) =
    let front : times q (y ∷ put_in_order line ys) ≡ cond (bytes_eq q line) 1 0 + times q (y ∷ ys) =
    omega (arith, times-cons q y (put_in_order line ys), times-put q line ys, times-cons q y ys) in
    times-cond (below y line) q (y ∷ put_in_order line ys) (line ∷ y ∷ ys) (cond (bytes_eq q line) 1 0 + times q (y ∷ ys)) front (times-cons q line (y ∷ ys))

times-in_order : (q : List ℕ) (xs : List (List ℕ)) → times q (in_order xs) ≡ times q xs
unfolding in_order
times-in_order q [] = refl
times-in_order q (x ∷ xs) = times-put q x (in_order xs) ∙ (ap (λ n. cond (bytes_eq q x) 1 0 + n) (times-in_order q xs) ∙ sym (times-cons q x xs))

tie : (o : Ordering) (b : Bool) → is_eq o ≡ b → is_lt o ≡ true → b ≡ false
tie Less b h k = sym h
tie Equal b h k = cc
tie Greater b h k = cc

-- a line that comes before another differs from it
apart : (q x : List ℕ) → below q x ≡ true → bytes_eq q x ≡ false
apart q x h = tie (slice_cmp nat_cmp q x) (bytes_eq q x) (is_eq-slice_cmp q x) h

false_of : (b : Bool) → (b ≡ true → ⊥) → b ≡ false
false_of true h = absurd (h refl)
false_of false h = refl

-- a line before z isn't among lines of which none comes before z
absent : (q z : List ℕ) (zs : List (List ℕ)) → below q z ≡ true → IsLow z zs → times q zs ≡ 0
absent q z [] h low = refl
absent q z (x ∷ xs) h low =
    let other : bytes_eq q x ≡ false = false_of (bytes_eq q x) (λ e. let same : q ≡ x = (bytes_eq-Decides q x).0 e in cc (ap (λ w. below w z) same, low.0)) in
    times-cons q x xs ∙ (ap (λ b. cond b 1 0 + times q xs) other ∙ (ap (λ n. 0 + n) (absent q z xs h low.1)))

self : (q : List ℕ) → bytes_eq q q ≡ true
self q = (bytes_eq-Decides q q).1 refl

once : (q : List ℕ) → ◌≡◌ {A = ℕ} (cond (bytes_eq q q) 1 0) 1
once q = ap (λ b. cond b 1 0) (self q)

more_than_none : (n m k : ℕ) → n ≡ m + k → m ≡ 1 → 1 ≤ n
more_than_none n m k h e = omega arith

times-self : (q : List ℕ) (xs : List (List ℕ)) → 1 ≤ times q (q ∷ xs)
times-self q xs = more_than_none _ _ _ (times-cons q q xs) (once q)

same_head : (o : Ordering) (y z : List ℕ) → o ≡ slice_cmp nat_cmp y z → (below y z ≡ true → ⊥) → (below z y ≡ true → ⊥) → y ≡ z
same_head Less y z h lt gt = absurd (lt (ap is_lt (sym h)))
same_head Equal y z h lt gt = (bytes_eq-Decides y z).0 (sym (is_eq-slice_cmp y z) ∙ ap is_eq (sym h))
same_head Greater y z h lt gt = absurd (gt (ap is_lt (nat_list_cmp_total.antisymm z y ∙ ap ordering_reverse (sym h))))

not_there : (y : List ℕ) (ys : List (List ℕ)) (zs : List (List ℕ)) → times y (y ∷ ys) ≡ times y zs → times y zs ≡ 0 → ⊥
not_there y ys zs h k = none (times y (y ∷ ys)) (times-self y ys) (h ∙ k)
  where
    none : (n : ℕ) → 1 ≤ n → n ≡ 0 → ⊥
    none n one zero_is = omega arith

absent_all : (y z : List ℕ) (zs : List (List ℕ)) → below y z ≡ true → IsLow z zs → times y (z ∷ zs) ≡ 0
absent_all y z zs h low = times-cons y z zs ∙ (ap (λ b. cond b 1 0 + times y zs) (apart y z h) ∙ ap (λ n. 0 + n) (absent y z zs h low))

fewer : (q y : List ℕ) (ys zs : List (List ℕ)) → times q (y ∷ ys) ≡ times q (y ∷ zs) → times q ys ≡ times q zs
fewer q y ys zs h = same_rest _ _ _ (sym (times-cons q y ys) ∙ (h ∙ times-cons q y zs))
  where
    same_rest : (a b c : ℕ) → a + b ≡ a + c → b ≡ c
    same_rest a b c e = omega arith

unique : (ys zs : List (List ℕ)) → Rising ys → Rising zs → ((q : List ℕ) → times q ys ≡ times q zs) → ys ≡ zs
unique [] [] up low h = refl
unique [] (z ∷ zs) up low h = absurd (not_there z zs [] (sym (h z)) refl)
unique (y ∷ ys) [] up low h = absurd (not_there y ys [] (h y) refl)
unique (y ∷ ys) (z ∷ zs) up low h =
    let head : y ≡ z = same_head (slice_cmp nat_cmp y z) y z refl
    (λ k. not_there y ys (z ∷ zs) (h y) (absent_all y z zs k low.0))
    (λ k. not_there z zs (y ∷ ys) (sym (h z)) (absent_all z y ys k up.0)) in
    let rest : ys ≡ zs = unique ys zs up.1 low.1 (λ q. fewer q y ys zs (h q ∙ ap (λ (w : List ℕ). times q (w ∷ zs)) (sym head))) in
    cc

low-from : (x : List ℕ) (ys : List (Bor (List ℕ))) → ((k : ℕ) (d : Bor (List ℕ)) → k < length ys → below (slice_index_or ys k d).now x ≡ false) → IsLow x (map (λ (y : Bor (List ℕ)). y.now) ys)
low-from x [] h = tt
low-from x (y ∷ ys) h = (h 0 y (omega arith), low-from x ys (λ k d l. h (suc k) d (omega arith)))

-- what a sort of lent lines ensures
rising-from : (xs : List (Bor (List ℕ))) → IsSorted (λ (x y : Bor (List ℕ)). slice_cmp nat_cmp x.now y.now) xs → Rising (map (λ (y : Bor (List ℕ)). y.now) xs)
rising-from [] up = tt
rising-from (x ∷ xs) up =
    let lent : IsStrictWeakOrder (λ (x y : Bor (List ℕ)). below x.now y.now) = ranks_by nat_list_cmp_total (λ (x : Bor (List ℕ)). x.now) in (
      low-from x.now xs (λ k d l. sorted_far (λ (x y : Bor (List ℕ)). below x.now y.now) lent (x ∷ xs) up 0 (suc k) d (omega arith) (omega arith)),
      rising-from xs (λ k d low high. rest k d high),
    )
  where
    rest : (k : ℕ) (d : Bor (List ℕ)) → k + 1 < length xs → below (slice_index_or xs (k + 1) d).now (slice_index_or xs k d).now ≡ false
    rest k d high = subst (λ (n : ℕ). below (slice_index_or (x ∷ xs) n d).now (slice_index_or xs k d).now ≡ false) (add-one (suc k) ∙ ap suc (sym (add-one k))) (up (suc k) d (omega arith) (omega arith))

pub in_order-from_sort : (xs ys : List (Bor (List ℕ))) → IsPermutation xs ys → IsSorted (λ (x y : Bor (List ℕ)). slice_cmp nat_cmp x.now y.now) ys
    → map (λ (y : Bor (List ℕ)). y.now) ys ≡ in_order (map (λ (y : Bor (List ℕ)). y.now) xs)
in_order-from_sort xs ys perm up =
    unique (map (λ (y : Bor (List ℕ)). y.now) ys) (in_order (map (λ (y : Bor (List ℕ)). y.now) xs)) (rising-from ys up) (rising-in_order (map (λ (y : Bor (List ℕ)). y.now) xs))
    (λ q. sum_by-IsPermutation (λ x. cond (bytes_eq q x) 1 0) (map (λ (y : Bor (List ℕ)). y.now) xs) (map (λ (y : Bor (List ℕ)). y.now) ys) (IsPermutation-map (λ (y : Bor (List ℕ)). y.now) xs ys perm)
    ∙ sym (times-in_order q (map (λ (y : Bor (List ℕ)). y.now) xs)))
