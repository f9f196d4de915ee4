-- Lists in byte order of idents: the first of an ident, the least of three heads, and what is left behind one.
use Rattle.std.proofs.Common.{◌≡◌, ◌⊎◌, inl, inr, ℕ, suc, ◌≤◌, ◌+◌, Bool, true, false, cond, List, [], ◌∷◌, ◌++◌, Option, Some, None, Contains, map, length, refl, sym, ◌∙◌, ap, subst, arith}
use Rattle.std.specs.Ordering.{is_lt, nat_cmp, ordering_reverse}
use Rattle.std.specs.Str.{bytes_eq}
use Rattle.std.specs.Cmp.{tied_itself}
use Rattle.std.specs.Cmp.Lexicographic.{slice_cmp, nat_list_cmp_total}
use Rattle.std.specs.declared.cmp.Ordering.{Ordering}
use Rattle.std.specs.declared.cmp.Ordering.TheVariants.{Less, Equal, Greater}
use Rattle.std.specs.FinMap.{slice_cmp-IsAntisymmetric, nat_cmp-IsAntisymmetric}
use Rattle.std.specs.List.{AllByRecursion}
use Rattle.std.proofs.lemmas.Bool.{false≢true}
use Rattle.std.proofs.lemmas.List.Elements.{All-from_recursion, All-contains}
use Rattle.std.proofs.lemmas.Slice.Eq.{bytes_eq-Decides}
use Rattle.status_keeper.specs.Idents.{Precedes, IsRising}
use Rattle.status_keeper.specs.Rows.{row_of}
use Rattle.status_keeper.specs.declared.row.Row.{Row}
use Rattle.sync_plan.specs.Plans.{first_of}
use Rattle.sync_plan.specs.Merging.{row_ident, head_ident, least_text, head_of, rest_of, Within}

-- ---- byte order

pub precedes_trans : (x y z : List ℕ) → Precedes x y → Precedes y z → Precedes x z
precedes_trans x y z = nat_list_cmp_total.trans x y z

pub precedes_differs : (x y : List ℕ) → Precedes x y → x ≡ y → ⊥
precedes_differs x y less same =
    let tied = tied_itself nat_list_cmp_total x in
    let e : Less ≡ Equal = sym less ∙ (ap (slice_cmp nat_cmp x) (sym same) ∙ tied) in
    cc

-- of two where one isn't below the other
pub not_below : (x y : List ℕ) → is_lt (slice_cmp nat_cmp x y) ≡ false → (x ≡ y) ⊎ Precedes y x
not_below x y not = at (slice_cmp nat_cmp x y) refl (nat_list_cmp_total.antisymm y x) not
  where
    at : (r : Ordering) → slice_cmp nat_cmp x y ≡ r → slice_cmp nat_cmp y x ≡ ordering_reverse (slice_cmp nat_cmp x y) → is_lt r ≡ false → (x ≡ y) ⊎ Precedes y x
    at Less is turned h = absurd (let clash : true ≡ false = h in cc)
    at Equal is turned h = inl (slice_cmp-IsAntisymmetric nat_cmp-IsAntisymmetric x y is)
    at Greater is turned h = inr (turned ∙ ap ordering_reverse is)

below : (x y : List ℕ) → is_lt (slice_cmp nat_cmp x y) ≡ true → Precedes x y
below x y is = at (slice_cmp nat_cmp x y) is
  where
    at : (r : Ordering) → is_lt r ≡ true → r ≡ Less
    at Less h = refl
    at Equal h = absurd (false≢true h)
    at Greater h = absurd (false≢true h)

-- at least n, where there is one
abbrev pub AtLeast : List ℕ → Option (List ℕ) → Type 0
AtLeast n None = Unit {0}
AtLeast n (Some x) = (n ≡ x) ⊎ Precedes n x

least_if : (b : Bool) (x y n : List ℕ) → is_lt (slice_cmp nat_cmp y x) ≡ b → cond b (Some y) (Some x) ≡ Some n → AtLeast n (Some x) × AtLeast n (Some y)
least_if true x y n is e = let same : y ≡ n = cc in (inr (subst (λ (m : List ℕ). Precedes m x) same (below y x is)), inl (sym same))
least_if false x y n is e =
    let same : x ≡ n = cc in
    (inl (sym same), elim (not_below y x is) [ inl equal ↦ inl (sym (equal ∙ same)) | inr less ↦ inr (subst (λ (m : List ℕ). Precedes m y) same less) ])

pub least_under : (x y : Option (List ℕ)) (n : List ℕ) → least_text x y ≡ Some n → AtLeast n x × AtLeast n y
least_under None None n e = (tt, tt)
least_under None (Some y) n e = let same : y ≡ n = cc in (tt, inl (sym same))
least_under (Some x) None n e = let same : x ≡ n = cc in (inl (sym same), tt)
least_under (Some x) (Some y) n e = least_if (is_lt (slice_cmp nat_cmp y x)) x y n refl e

at_least_trans : (n m : List ℕ) (o : Option (List ℕ)) → AtLeast n (Some m) → AtLeast m o → AtLeast n o
at_least_trans n m None h k = tt
at_least_trans n m (Some x) (inl same) k = subst (λ (i : List ℕ). AtLeast i (Some x)) (sym same) k
at_least_trans n m (Some x) (inr less) (inl same) = inr (subst (λ (i : List ℕ). Precedes n i) same less)
at_least_trans n m (Some x) (inr less) (inr more) = inr (precedes_trans n m x less more)

one_if : (b : Bool) (x y n : List ℕ) → cond b (Some y) (Some x) ≡ Some n → (Some x ≡ Some n) ⊎ (Some y ≡ Some n)
one_if true x y n e = inr e
one_if false x y n e = inl e

pub least_is_one : (x y : Option (List ℕ)) (n : List ℕ) → least_text x y ≡ Some n → (x ≡ Some n) ⊎ (y ≡ Some n)
least_is_one None y n e = inr e
least_is_one (Some x) None n e = inl e
least_is_one (Some x) (Some y) n e = one_if (is_lt (slice_cmp nat_cmp y x)) x y n e

none_if : (b : Bool) (x y : List ℕ) → cond b (Some y) (Some x) ≡ None → ⊥
none_if true x y e = cc
none_if false x y e = cc

pub least_none : (x y : Option (List ℕ)) → least_text x y ≡ None → (x ≡ None) × (y ≡ None)
least_none None y e = (refl, e)
least_none (Some x) None e = cc
least_none (Some x) (Some y) e = absurd (none_if (is_lt (slice_cmp nat_cmp y x)) x y e)

-- the least of three
pub record IsLeast (n : List ℕ) (x y z : Option (List ℕ)) : Type 0 where
  pub first : AtLeast n x
  pub second : AtLeast n y
  pub third : AtLeast n z
  pub is_one : (x ≡ Some n) ⊎ (y ≡ Some n) ⊎ (z ≡ Some n)

pub least_of_three : (x y z : Option (List ℕ)) (n : List ℕ) → least_text (least_text x y) z ≡ Some n → IsLeast n x y z
least_of_three x y z n e = at (least_text x y) refl e
  where
    at : (o : Option (List ℕ)) → least_text x y ≡ o → least_text o z ≡ Some n → IsLeast n x y z
    at None is e = let none = least_none x y is in record {
      first = subst (λ (o : Option (List ℕ)). AtLeast n o) (sym none.0) tt;
      second = subst (λ (o : Option (List ℕ)). AtLeast n o) (sym none.1) tt;
      third = (least_under None z n e).1;
      is_one = inr (inr e);
    }
    at (Some m) is e =
        let outer = least_under (Some m) z n e in
        let inner = least_under x y m is in
        record {
          first = at_least_trans n m x outer.0 inner.0;
          second = at_least_trans n m y outer.0 inner.1;
          third = outer.1;
          is_one = elim (least_is_one (Some m) z n e) [
            | inl same ↦ elim (least_is_one x y m is) [ inl here ↦ inl (here ∙ same) | inr here ↦ inr (inl (here ∙ same)) ]
            | inr here ↦ inr (inr here)
          ];
        }

-- ---- all of a list

pub all_append : (P : List ℕ → Type 0) (xs ys : List (List ℕ)) → AllByRecursion P xs → AllByRecursion P ys → AllByRecursion P (xs ++ ys)
all_append P [] ys a b = b
all_append P (x ∷ xs) ys a b = (a.0, all_append P xs ys a.1 b)

all_weaker : (P Q : List ℕ → Type 0) (xs : List (List ℕ)) → ((x : List ℕ) → P x → Q x) → AllByRecursion P xs → AllByRecursion Q xs
all_weaker P Q [] f all = tt
all_weaker P Q (x ∷ xs) f all = (f x all.0, all_weaker P Q xs f all.1)

pub all_later : (x y : List ℕ) (ys : List (List ℕ)) → Precedes x y → AllByRecursion (λ z. Precedes y z) ys → AllByRecursion (λ z. Precedes x z) ys
all_later x y ys less all = all_weaker (λ z. Precedes y z) (λ z. Precedes x z) ys (λ z more. precedes_trans x y z less more) all

pub rising_push : (xs : List (List ℕ)) (y : List ℕ) → IsRising xs → AllByRecursion (λ x. Precedes x y) xs → IsRising (xs ++ y ∷ [])
rising_push [] y h all = (tt, tt)
rising_push (x ∷ xs) y h all = (all_append (λ z. Precedes x z) xs (y ∷ []) h.0 (all.0, tt), rising_push xs y h.1 all.1)

-- ---- elements

pub all_within : {X : Type 0} (P : X → Type 0) (xs : List X) → ((x : X) → Within x xs → P x) → AllByRecursion P xs
all_within P [] f = tt
all_within P (x ∷ xs) f = (f x (inl refl), all_within P xs (λ y h. f y (inr h)))

pub within_all : {X : Type 0} (P : X → Type 0) (xs : List X) → AllByRecursion P xs → (x : X) → Within x xs → P x
within_all P [] all x h = elim h [ ]
within_all P (y ∷ ys) all x (inl same) = subst P (sym same) all.0
within_all P (y ∷ ys) all x (inr later) = within_all P ys all.1 x later

pub within_from_contains : {X : Type 0} (xs : List X) (x : X) → Contains xs x → Within x xs
within_from_contains {X} xs x h = All-contains (λ (y : X). Within y xs) xs x (All-from_recursion (λ (y : X). Within y xs) xs (all_within (λ (y : X). Within y xs) xs (λ y h. h))) h

pub contains_from_within : {X : Type 0} (xs : List X) (x : X) → Within x xs → Contains xs x
contains_from_within [] x h = elim h [ ]
contains_from_within (y ∷ ys) x (inl same) = (0, omega arith, sym same)
contains_from_within (y ∷ ys) x (inr later) = let h = contains_from_within ys x later in (suc h.0, omega (arith, h.1), h.2)

within_push : {X : Type 0} (xs : List X) (y x : X) → Within x xs → Within x (xs ++ y ∷ [])
within_push [] y x h = elim h [ ]
within_push (z ∷ zs) y x (inl same) = inl same
within_push (z ∷ zs) y x (inr later) = inr (within_push zs y x later)

within_last : {X : Type 0} (xs : List X) (y : X) → Within y (xs ++ y ∷ [])
within_last [] y = inl refl
within_last (z ∷ zs) y = inr (within_last zs y)

decide_within : (xs : List (List ℕ)) (x : List ℕ) → Within x xs ⊎ (Within x xs → ⊥)
decide_within [] x = inr (λ h. h)
decide_within (y ∷ ys) x = at (bytes_eq x y) refl (decide_within ys x)
  where
    at : (b : Bool) → bytes_eq x y ≡ b → Within x ys ⊎ (Within x ys → ⊥) → Within x (y ∷ ys) ⊎ (Within x (y ∷ ys) → ⊥)
    at true e rest = inl (inl ((bytes_eq-Decides x y).0 e))
    at false e rest = elim rest [
      | inl here ↦ inl (inr here)
      | inr not ↦ inr (λ h. elim h [ inl same ↦ false≢true (sym e ∙ (bytes_eq-Decides x y).1 same) | inr later ↦ not later ])
    ]

-- ---- the first of an ident

pub first_cases : {X : Type 0} (f : X → List ℕ) (i : List ℕ) (xs : List X) → ((first_of f i xs ≡ None) × ((x : X) → Within x xs → f x ≡ i → ⊥)) ⊎ ((x : X) × (first_of f i xs ≡ Some x) × Within x xs × (f x ≡ i))
first_cases f i [] = inl (refl, λ x h e. h)
first_cases {X} f i (y ∷ ys) = at (bytes_eq (f y) i) refl (first_cases f i ys)
  where
    at : (b : Bool) → bytes_eq (f y) i ≡ b → ((first_of f i ys ≡ None) × ((x : X) → Within x ys → f x ≡ i → ⊥)) ⊎ ((x : X) × (first_of f i ys ≡ Some x) × Within x ys × (f x ≡ i)) → ((cond b (Some y) (first_of f i ys) ≡ None) × ((x : X) → Within x (y ∷ ys) → f x ≡ i → ⊥)) ⊎ ((x : X) × (cond b (Some y) (first_of f i ys) ≡ Some x) × Within x (y ∷ ys) × (f x ≡ i))
    at true e rest = inr (y, refl, inl refl, (bytes_eq-Decides (f y) i).0 e)
    at false e rest = elim rest [
      | inl none ↦ inl (none.0, λ x h same. elim h [ inl here ↦ false≢true (sym e ∙ (bytes_eq-Decides (f y) i).1 (ap f (sym here) ∙ same)) | inr later ↦ none.1 x later same ])
      | inr some ↦ inr (some.0, some.1, inr some.2, some.3)
    ]

none_above : {X : Type 0} (f : X → List ℕ) (n : List ℕ) (xs : List X) → AllByRecursion (λ y. Precedes n y) (map f xs) → first_of f n xs ≡ None
none_above f n [] all = refl
none_above f n (x ∷ xs) all = at (bytes_eq (f x) n) refl (none_above f n xs all.1)
  where
    at : (b : Bool) → bytes_eq (f x) n ≡ b → first_of f n xs ≡ None → cond b (Some x) (first_of f n xs) ≡ None
    at true e rest = absurd (precedes_differs n (f x) all.0 (sym ((bytes_eq-Decides (f x) n).0 e)))
    at false e rest = rest

-- the head is the first of an ident that isn't above it
head_is_first : {X : Type 0} (f : X → List ℕ) (n : List ℕ) (xs : List X) → IsRising (map f xs) → AtLeast n (head_ident f xs) → head_of f n xs ≡ first_of f n xs
head_is_first f n [] up least = refl
head_is_first f n (x ∷ xs) up least = at (bytes_eq (f x) n) refl
  where
    at : (b : Bool) → bytes_eq (f x) n ≡ b → cond b (Some x) None ≡ cond b (Some x) (first_of f n xs)
    at true e = refl
    at false e = elim least [
      | inl same ↦ absurd (false≢true (sym e ∙ (bytes_eq-Decides (f x) n).1 (sym same)))
      | inr less ↦ sym (none_above f n xs (all_later n (f x) (map f xs) less up.0))
    ]

rest_other : {X : Type 0} (f : X → List ℕ) (n j : List ℕ) (xs : List X) → (j ≡ n → ⊥) → first_of f j (rest_of f n xs) ≡ first_of f j xs
rest_other f n j [] differs = refl
rest_other f n j (x ∷ xs) differs = at (bytes_eq (f x) n) refl
  where
    not_j : (c : Bool) → bytes_eq (f x) j ≡ c → f x ≡ n → first_of f j xs ≡ cond c (Some x) (first_of f j xs)
    not_j true e same = absurd (differs (sym ((bytes_eq-Decides (f x) j).0 e) ∙ same))
    not_j false e same = refl

    at : (b : Bool) → bytes_eq (f x) n ≡ b → first_of f j (cond b xs (x ∷ xs)) ≡ first_of f j (x ∷ xs)
    at true e = not_j (bytes_eq (f x) j) refl ((bytes_eq-Decides (f x) n).0 e)
    at false e = refl

rest_rising : {X : Type 0} (f : X → List ℕ) (n : List ℕ) (xs : List X) → IsRising (map f xs) → IsRising (map f (rest_of f n xs))
rest_rising f n [] up = tt
rest_rising f n (x ∷ xs) up = at (bytes_eq (f x) n)
  where
    at : (b : Bool) → IsRising (map f (cond b xs (x ∷ xs)))
    at true = up.1
    at false = up

rest_all : {X : Type 0} (f : X → List ℕ) (P : List ℕ → Type 0) (n : List ℕ) (xs : List X) → AllByRecursion P (map f xs) → AllByRecursion P (map f (rest_of f n xs))
rest_all f P n [] all = tt
rest_all f P n (x ∷ xs) all = at (bytes_eq (f x) n)
  where
    at : (b : Bool) → AllByRecursion P (map f (cond b xs (x ∷ xs)))
    at true = all.1
    at false = all

rest_above : {X : Type 0} (f : X → List ℕ) (n : List ℕ) (xs : List X) → IsRising (map f xs) → AtLeast n (head_ident f xs) → AllByRecursion (λ y. Precedes n y) (map f (rest_of f n xs))
rest_above f n [] up least = tt
rest_above f n (x ∷ xs) up least = at (bytes_eq (f x) n) refl
  where
    at : (b : Bool) → bytes_eq (f x) n ≡ b → AllByRecursion (λ y. Precedes n y) (map f (cond b xs (x ∷ xs)))
    at true e = subst (λ (m : List ℕ). AllByRecursion (λ y. Precedes m y) (map f xs)) ((bytes_eq-Decides (f x) n).0 e) up.0
    at false e = elim least [
      | inl same ↦ absurd (false≢true (sym e ∙ (bytes_eq-Decides (f x) n).1 (sym same)))
      | inr less ↦ (less, all_later n (f x) (map f xs) less up.0)
    ]

-- a list that begins with the ident gets shorter, any other no longer
pub rest_shorter : {X : Type 0} (f : X → List ℕ) (n : List ℕ) (xs : List X) → head_ident f xs ≡ Some n → length (rest_of f n xs) + 1 ≡ length xs
rest_shorter f n [] e = cc
rest_shorter f n (x ∷ xs) e = at (bytes_eq (f x) n) refl
  where
    at : (b : Bool) → bytes_eq (f x) n ≡ b → length (cond b xs (x ∷ xs)) + 1 ≡ length (x ∷ xs)
    at true is = omega arith
    at false is = let same : f x ≡ n = cc in absurd (false≢true (sym is ∙ (bytes_eq-Decides (f x) n).1 same))

pub rest_no_longer : {X : Type 0} (f : X → List ℕ) (n : List ℕ) (xs : List X) → length (rest_of f n xs) ≤ length xs
rest_no_longer f n [] = omega arith
rest_no_longer f n (x ∷ xs) = at (bytes_eq (f x) n)
  where
    at : (b : Bool) → length (cond b xs (x ∷ xs)) ≤ length (x ∷ xs)
    at true = omega arith
    at false = omega arith

pub no_head : {X : Type 0} (f : X → List ℕ) (xs : List X) → head_ident f xs ≡ None → xs ≡ []
no_head f [] e = refl
no_head f (x ∷ xs) e = cc

pub head_listed : {X : Type 0} (f : X → List ℕ) (n : List ℕ) (xs : List X) → head_ident f xs ≡ Some n → (x : X) × (head_of f n xs ≡ Some x)
head_listed f n [] e = cc
head_listed f n (x ∷ xs) e = let same : f x ≡ n = cc in (x, ap (λ (b : Bool). cond b (Some x) None) ((bytes_eq-Decides (f x) n).1 same))

-- ---- what is left of a list whose idents so far are done

pub record Left {X : Type 0} (f : X → List ℕ) (all rest : List X) (done : List (List ℕ)) : Type 0 where
  pub rising : IsRising (map f rest)
  pub above : AllByRecursion (λ s. AllByRecursion (λ y. Precedes s y) (map f rest)) done
  pub same : (j : List ℕ) → (Within j done → ⊥) → first_of f j rest ≡ first_of f j all

pub left_more : {X : Type 0} (f : X → List ℕ) (n : List ℕ) (all rest : List X) (done : List (List ℕ)) → Left f all rest done → AtLeast n (head_ident f rest) → Left f all (rest_of f n rest) (done ++ n ∷ [])
left_more f n all rest done left least = record {
  rising = rest_rising f n rest left.rising;
  above = all_append (λ s. AllByRecursion (λ y. Precedes s y) (map f (rest_of f n rest))) done (n ∷ [])
      (all_weaker (λ s. AllByRecursion (λ y. Precedes s y) (map f rest)) (λ s. AllByRecursion (λ y. Precedes s y) (map f (rest_of f n rest))) done (λ s h. rest_all f (λ y. Precedes s y) n rest h) left.above)
      (rest_above f n rest left.rising least, tt);
  same = λ j not. rest_other f n j rest (λ e. not (subst (λ (i : List ℕ). Within i (done ++ n ∷ [])) (sym e) (within_last done n))) ∙ left.same j (λ h. not (within_push done n j h));
}

-- what the head has of an ident that isn't done is what the whole list has
pub left_found : {X : Type 0} (f : X → List ℕ) (n : List ℕ) (all rest : List X) (done : List (List ℕ)) → Left f all rest done → AtLeast n (head_ident f rest) → (Within n done → ⊥) → head_of f n rest ≡ first_of f n all
left_found f n all rest done left least not = head_is_first f n rest left.rising least ∙ left.same n not

-- what is done precedes the head
pub done_before : {X : Type 0} (f : X → List ℕ) (n : List ℕ) (all rest : List X) (done : List (List ℕ)) → Left f all rest done → head_ident f rest ≡ Some n → AllByRecursion (λ s. Precedes s n) done
done_before f n all [] done left e = cc
done_before f n all (x ∷ rest) done left e =
    let same : f x ≡ n = cc in
    all_weaker (λ s. AllByRecursion (λ y. Precedes s y) (map f (x ∷ rest))) (λ s. Precedes s n) done (λ s h. subst (λ (m : List ℕ). Precedes s m) same h.0) left.above

pub not_done : (n : List ℕ) (done : List (List ℕ)) → AllByRecursion (λ s. Precedes s n) done → Within n done → ⊥
not_done n done all h = precedes_differs n n (within_all (λ s. Precedes s n) done all n h) refl

-- where nothing is left, what the list has is done
pub all_done : {X : Type 0} (f : X → List ℕ) (j : List ℕ) (all : List X) (done : List (List ℕ)) (x : X) → Left f all [] done → first_of f j all ≡ Some x → Within j done
all_done f j all done x left e = elim (decide_within done j) [
  | inl here ↦ here
  | inr not ↦ absurd (let clash : None ≡ Some x = left.same j not ∙ e in cc)
]

-- ---- rows, and elements of a list that rises

pub row_is_first : (ident : List ℕ) (rows : List Row) → row_of ident rows ≡ first_of row_ident ident rows
row_is_first ident [] = refl
row_is_first ident (r ∷ rs) = ap (λ (o : Option Row). cond (bytes_eq r.ident ident) (Some r) o) (row_is_first ident rs)

map_all : {X : Type 0} (f : X → List ℕ) (P : List ℕ → Type 0) (xs : List X) → AllByRecursion P (map f xs) → (x : X) → Within x xs → P (f x)
map_all f P [] all x h = elim h [ ]
map_all {X} f P (y ∷ ys) all x (inl same) = subst (λ (z : X). P (f z)) (sym same) all.0
map_all f P (y ∷ ys) all x (inr later) = map_all f P ys all.1 x later

-- of two elements with one ident
pub one_of_ident : {X : Type 0} (f : X → List ℕ) (xs : List X) (x y : X) → IsRising (map f xs) → Within x xs → Within y xs → f x ≡ f y → x ≡ y
one_of_ident f [] x y up h k same = elim h [ ]
one_of_ident f (z ∷ zs) x y up (inl e) (inl g) same = e ∙ sym g
one_of_ident f (z ∷ zs) x y up (inl e) (inr later) same = absurd (precedes_differs (f z) (f y) (map_all f (λ i. Precedes (f z) i) zs up.0 y later) (ap f (sym e) ∙ same))
one_of_ident f (z ∷ zs) x y up (inr later) (inl g) same = absurd (precedes_differs (f z) (f x) (map_all f (λ i. Precedes (f z) i) zs up.0 x later) (ap f (sym g) ∙ sym same))
one_of_ident f (z ∷ zs) x y up (inr h) (inr k) same = one_of_ident f zs x y up.1 h k same
