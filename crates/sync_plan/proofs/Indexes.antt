-- A listing's entries in byte order of idents: the first ident that comes twice, or none does.
use Rattle.std.proofs.Common.{◌≡◌, ◌≤◌, ◌<◌, ◌+◌, ◌-◌, ◌⊎◌, inl, inr, ℕ, zero, suc, Bool, true, false, eqb, Result, Ok, Err, OnOk, is_err, List, [], ◌∷◌, Some, Contains, All, map, slice_get, length, get_or, refl, sym, ◌∙◌, ap, subst, arith}
use Rattle.std.specs.Ordering.{nat_cmp, is_lt, ordering_then}
use Rattle.std.specs.Cmp.{IsStrictWeakOrder, tied_itself, nat_cmp_total, on_total}
use Rattle.std.specs.declared.cmp.Ordering.{Ordering}
use Rattle.std.specs.declared.cmp.Ordering.TheVariants.{Less, Equal, Greater}
use Rattle.std.specs.Cmp.Lexicographic.{slice_cmp, nat_list_cmp_total, on_texts}
use Rattle.std.specs.List.{AllAdjacentBelow, IsDistinct}
use Rattle.std.specs.List.Sorted.{IsPermutation, IsSorted}
use Rattle.std.proofs.lemmas.Bool.{cases_order, cases_lt, false≢true}
use Rattle.std.proofs.lemmas.Bool.Decides.{Decides-eqb}
use Rattle.std.proofs.lemmas.Cmp.{then_total}
use Rattle.std.proofs.lemmas.List.{get_or-map, length-map}
use Rattle.std.proofs.lemmas.List.Elements.{All-contains}
use Rattle.std.proofs.lemmas.List.Sorted.{ranks_by, sorted_far, All-permutation, Contains-permutation, IsPermutation-map}
use Rattle.std.proofs.lemmas.Map.Keys.{IsDistinct-from_apart, IsDistinct-IsPermutation, apart_from_distinct, ge_from_not_lt}
use Rattle.std.proofs.lemmas.Option.{slice_get_cases, slice_get_within}
use Rattle.status_keeper.specs.Idents.{Precedes, IsRising}
use Rattle.sync_plan.specs.declared.report.Side.{Side}
use Rattle.sync_plan.specs.declared.placing.Placed.{Placed}
use Rattle.sync_plan.specs.declared.seen.Seen.{Seen}
use Rattle.sync_plan.specs.declared.seen.PlanError.{PlanError}
use Rattle.sync_plan.specs.declared.seen.PlanError.TheVariants.{SameIdent, NoMemory}
use Rattle.sync_plan.specs.Placing.{ident_in, place_in, placed_idents, placed_cmp, IsEntryOf, IsIndex, IsIndexInOrder, IsNotRisingAt, NamesTwins}
use Rattle.sync_plan.specs.Plans.{HasNoTwin, StandsAt, IsFirstTwin, IsTwinRefusal}
use Rattle.sync_plan.proofs.Rising.{precedes_trans, precedes_differs, not_below, all_later, within_from_contains, one_of_ident}

pub when_ok : {T E : Type 0} (r : Result T E) (P : Type 0) → is_err r ≡ false → OnOk r P → P
when_ok (Ok x) P none h = h
when_ok (Err x) P none h = let clash : true ≡ false = none in cc

-- an element within a list doesn't depend on the default
same_at : (xs : List Placed) (i : ℕ) (d e : Placed) → i < length xs → get_or xs i d ≡ get_or xs i e
same_at [] i d e within = absurd (omega (arith, within))
same_at (x ∷ xs) zero d e within = refl
same_at (x ∷ xs) (suc i) d e within = same_at xs i d e (omega (arith, within))

pub same_item : (list : List Seen) (k : ℕ) (x y : Seen) → slice_get list k ≡ Some x → slice_get list k ≡ Some y → x ≡ y
same_item list k x y e g = let same : Some x ≡ Some y = sym e ∙ g in cc

-- ---- byte order

pub below_order : IsStrictWeakOrder (λ (x y : Placed). is_lt (placed_cmp x y))
below_order = ranks_by (then_total (on_texts ident_in) (on_total place_in nat_cmp_total)) (λ (x : Placed). x)

abbrev Before : Placed → Placed → Type 0
Before x y = Precedes (ident_in x) (ident_in y)

pub rising_from_adjacent : (xs : List Placed) → AllAdjacentBelow (λ x y. Precedes (ident_in x) (ident_in y)) xs (length xs) → IsRising (placed_idents xs)
rising_from_adjacent [] h = tt
rising_from_adjacent (x ∷ []) h = (tt, tt)
rising_from_adjacent (x ∷ y ∷ xs) h =
    let first : Precedes (ident_in x) (ident_in y) = h 0 x (omega arith) in
    let rest : AllAdjacentBelow Before (y ∷ xs) (length (y ∷ xs)) =
    λ k d lt. let e : suc k + 1 ≡ suc (k + 1) = omega arith in subst (λ (n : ℕ). Before (get_or (x ∷ y ∷ xs) (suc k) d) (get_or (x ∷ y ∷ xs) n d)) e (h (suc k) d (omega (arith, lt)))
    in
    let later = rising_from_adjacent (y ∷ xs) rest in
    ((first, all_later (ident_in x) (ident_in y) (placed_idents xs) first later.0), later)

first_not_lt : (r s : Ordering) → is_lt (ordering_then r s) ≡ false → is_lt r ≡ false
first_not_lt Less s h = h
first_not_lt Equal s h = refl
first_not_lt Greater s h = refl

-- of two where the first isn't below the second, the ident isn't, and of one ident the place isn't
ident_not_below : (x y : Placed) → is_lt (placed_cmp x y) ≡ false → is_lt (slice_cmp nat_cmp (ident_in x) (ident_in y)) ≡ false
ident_not_below x y = first_not_lt (slice_cmp nat_cmp (ident_in x) (ident_in y)) (nat_cmp (place_in x) (place_in y))

place_not_below : (x y : Placed) → ident_in x ≡ ident_in y → is_lt (placed_cmp x y) ≡ false → place_in y ≤ place_in x
place_not_below x y same h =
    let tied : slice_cmp nat_cmp (ident_in x) (ident_in y) ≡ Equal = ap (slice_cmp nat_cmp (ident_in x)) (sym same) ∙ tied_itself nat_list_cmp_total (ident_in x) in
    ge_from_not_lt (place_in x) (place_in y) (ap (λ (r : Ordering). is_lt (ordering_then r (nat_cmp (place_in x) (place_in y)))) (sym tied) ∙ h)

-- what comes later in the sorted list isn't below
later : (sorted : List Placed) (j k : ℕ) (x y : Placed) → IsSorted placed_cmp sorted → j ≤ k → k < length sorted → get_or sorted j x ≡ x → get_or sorted k y ≡ y → is_lt (placed_cmp y x) ≡ false
later sorted j k x y up le high at_x at_y =
    let far : is_lt (placed_cmp (get_or sorted k x) (get_or sorted j x)) ≡ false = sorted_far (λ (e f : Placed). is_lt (placed_cmp e f)) below_order sorted up j k x le high in
    let same : get_or sorted k x ≡ y = same_at sorted k x y high ∙ at_y in
    subst (λ (e : Placed). is_lt (placed_cmp e x) ≡ false) same (subst (λ (e : Placed). is_lt (placed_cmp (get_or sorted k x) e) ≡ false) at_x far)

-- the idents rise up to this place
abbrev RisesTo : List Placed → ℕ → Type 0
RisesTo sorted i = AllAdjacentBelow (λ (x y : Placed). Precedes (ident_in x) (ident_in y)) sorted i

rises_far : (xs : List Placed) (i j n : ℕ) (d : Placed) → RisesTo xs i → (j + 1) + n < i → Precedes (ident_in (get_or xs j d)) (ident_in (get_or xs ((j + 1) + n) d))
rises_far xs i j zero d up within =
    let e : (j + 1) + zero ≡ j + 1 = omega arith in
    subst (λ (n : ℕ). Precedes (ident_in (get_or xs j d)) (ident_in (get_or xs n d))) (sym e) (up j d (omega (arith, within)))
rises_far xs i j (suc n) d up within =
    let e : (j + 1) + suc n ≡ ((j + 1) + n) + 1 = omega arith in
    precedes_trans (ident_in (get_or xs j d)) (ident_in (get_or xs ((j + 1) + n) d)) (ident_in (get_or xs ((j + 1) + suc n) d)) (rises_far xs i j n d up (omega (arith, within)))
    (subst (λ (k : ℕ). Precedes (ident_in (get_or xs ((j + 1) + n) d)) (ident_in (get_or xs k d))) (sym e) (up ((j + 1) + n) d (omega (arith, within))))

-- of two places within it the earlier has the lesser ident
rises : (xs : List Placed) (i j k : ℕ) (x y : Placed) → RisesTo xs i → i ≤ length xs → j < k → k < i → get_or xs j x ≡ x → get_or xs k y ≡ y → Precedes (ident_in x) (ident_in y)
rises xs i j k x y up within less high at_x at_y =
    let e : (j + 1) + (k - (j + 1)) ≡ k = omega (arith, less) in
    let far : Precedes (ident_in (get_or xs j x)) (ident_in (get_or xs k x)) = subst (λ (n : ℕ). Precedes (ident_in (get_or xs j x)) (ident_in (get_or xs n x))) e (rises_far xs i j (k - (j + 1)) x up (omega (arith, less, high))) in
    let same : get_or xs k x ≡ y = same_at xs k x y (omega (arith, high, within)) ∙ at_y in
    subst (λ (f : Placed). Precedes (ident_in x) (ident_in f)) same (subst (λ (f : Placed). Precedes (ident_in f) (ident_in (get_or xs k x))) at_x far)

-- ---- no two places are equal

eqb_flips : (x y : ℕ) → eqb x y ≡ eqb y x
eqb_flips x y = at (eqb x y) (eqb y x) refl refl
  where
    at : (b c : Bool) → eqb x y ≡ b → eqb y x ≡ c → b ≡ c
    at true true e f = refl
    at false false e f = refl
    at true false e f = sym ((Decides-eqb y x).1 (sym ((Decides-eqb x y).0 e))) ∙ f
    at false true e f = sym e ∙ (Decides-eqb x y).1 (sym ((Decides-eqb y x).0 f))

apart_if : (b : Bool) (x y : ℕ) → eqb x y ≡ b → (x ≡ y → ⊥) → b ≡ false
apart_if true x y e not = absurd (not ((Decides-eqb x y).0 e))
apart_if false x y e not = refl

distinct_places : (list : List Seen) (placed : List Placed) → IsIndex list placed → IsDistinct eqb (map place_in placed)
distinct_places list placed index = IsDistinct-from_apart eqb (map place_in placed) (λ i j d less within. at i j d less within)
  where
    at : (i j d : ℕ) → i < j → j < length (map place_in placed) → eqb (get_or (map place_in placed) i d) (get_or (map place_in placed) j d) ≡ false
    at i j d less within =
        let len : length (map place_in placed) ≡ length placed = length-map placed place_in in
        elim (slice_get_cases placed j).1 [
          | inl h ↦
              let is_i : get_or (map place_in placed) i d ≡ i = get_or-map place_in placed i h.0 d (omega (arith, less, within, len)) ∙ index.in_order i h.0 (omega (arith, less, within, len)) in
              let is_j : get_or (map place_in placed) j d ≡ j = get_or-map place_in placed j h.0 d (omega (arith, within, len)) ∙ index.in_order j h.0 (omega (arith, within, len)) in
              apart_if (eqb (get_or (map place_in placed) i d) (get_or (map place_in placed) j d)) (get_or (map place_in placed) i d) (get_or (map place_in placed) j d) refl (λ e. let both : i ≡ j = sym is_i ∙ (e ∙ is_j) in omega arith)
          | inr past ↦ absurd (omega (arith, past.0, within, len))
        ]

-- ---- the listing in byte order of idents

-- a sorted index
pub record IsSortedIndex (list : List Seen) (sorted : List Placed) : Type 0 where
  pub each : All (IsEntryOf list) sorted
  pub whole : (k : ℕ) → k < length list → (e : Placed) × Contains sorted e × (place_in e ≡ k)
  pub apart : IsDistinct eqb (map place_in sorted)
  pub up : IsSorted placed_cmp sorted

pub sorted_index : (list : List Seen) (placed sorted : List Placed) → IsIndex list placed → IsPermutation placed sorted → IsSorted placed_cmp sorted → IsSortedIndex list sorted
sorted_index list placed sorted index perm up = record {
  each = All-permutation (IsEntryOf list) placed sorted perm index.each;
  whole = λ k lt. elim (slice_get_cases placed k).1 [
    | inl h ↦ (h.0, Contains-permutation placed sorted h.0 perm (k, h.1, h.3), ap place_in (sym h.3) ∙ index.in_order k h.0 h.1)
    | inr past ↦ absurd (let len = index.same_length in omega (arith, lt, len, past.0))
  ];
  apart = IsDistinct-IsPermutation eqb eqb_flips (map place_in placed) (map place_in sorted) (IsPermutation-map place_in placed sorted perm) (distinct_places list placed index);
  up = up;
}

-- an entry's place is within the listing
pub place_below : (list : List Seen) (sorted : List Placed) (e : Placed) → All (IsEntryOf list) sorted → Contains sorted e → place_in e < length list
place_below list sorted e each among =
    let of : IsEntryOf list e = All-contains (IsEntryOf list) sorted e each among in
    slice_get_within list (place_in e) of.item of.stands

pub in_order : (list : List Seen) (sorted : List Placed) → IsSortedIndex list sorted → IsRising (placed_idents sorted) → IsIndexInOrder list sorted
in_order list sorted index rising = record { each = index.each; rising = rising; whole = index.whole }

-- the entry of the item at a place
pub record IsEntryAt (list : List Seen) (sorted : List Placed) (k : ℕ) (x : Seen) : Type 0 where
  pub entry : Placed
  pub among : Contains sorted entry
  pub at : place_in entry ≡ k
  pub same_ident : ident_in entry ≡ x.ident
  pub same_version : (entry.found.fp).0 ≡ (x.fp).0

pub entry_at : (list : List Seen) (sorted : List Placed) (k : ℕ) (x : Seen) → All (IsEntryOf list) sorted → ((k : ℕ) → k < length list → (e : Placed) × Contains sorted e × (place_in e ≡ k)) → slice_get list k ≡ Some x → IsEntryAt list sorted k x
entry_at list sorted k x each whole stands =
    let h = whole k (slice_get_within list k x stands) in
    let of : IsEntryOf list h.0 = All-contains (IsEntryOf list) sorted h.0 each h.1 in
    let one : of.item ≡ x = same_item list k of.item x (subst (λ (n : ℕ). slice_get list n ≡ Some of.item) h.2 of.stands) stands in
    record {
      entry = h.0;
      among = h.1;
      at = h.2;
      same_ident = sym of.same_ident ∙ ap (λ (y : Seen). y.ident) one;
      same_version = sym of.same_version ∙ ap (λ (y : Seen). (y.fp).0) one;
    }

pub no_twin : (list : List Seen) (sorted : List Placed) → IsIndexInOrder list sorted → HasNoTwin list
no_twin list sorted index = record {
  once = λ j k x y at_j at_k same.
      let e = entry_at list sorted j x index.each index.whole at_j in
      let f = entry_at list sorted k y index.each index.whole at_k in
      let one : e.entry ≡ f.entry = one_of_ident ident_in sorted e.entry f.entry index.rising (within_from_contains sorted e.entry e.among) (within_from_contains sorted f.entry f.among) (e.same_ident ∙ (same ∙ sym f.same_ident)) in
      sym e.at ∙ (ap place_in one ∙ f.at);
}

-- ---- the first twin

-- where a sorted index doesn't rise any more: the entries of this place and of the one before
record IsTwinAt (list : List Seen) (sorted : List Placed) (i : ℕ) (x y : Placed) : Type 0 where
  index : IsSortedIndex list sorted
  low : 0 < i
  high : i < length sorted
  rises_to : RisesTo sorted i
  at_x : get_or sorted (i - 1) x ≡ x
  at_y : get_or sorted i y ≡ y
  same : ident_in x ≡ ident_in y

twin_first_two : (list : List Seen) (sorted : List Placed) (i : ℕ) (x y : Placed) → IsTwinAt list sorted i x y → (k : ℕ) (z : Seen) → slice_get list k ≡ Some z → z.ident ≡ ident_in x → (k ≡ place_in x) ⊎ (k ≡ place_in y) ⊎ (place_in y < k)
twin_first_two list sorted i x y t k z stands is =
    let e = entry_at list sorted k z t.index.each t.index.whole stands in
    let here = e.among in
    let low = t.low in
    let high = t.high in
    let same : ident_in e.entry ≡ ident_in x = e.same_ident ∙ is in
    elim (cases_order here.0 (i - 1)) [
      | inl same_place ↦ inl (sym e.at ∙ ap place_in (sym here.2 ∙ (ap (λ (n : ℕ). get_or sorted n e.entry) same_place ∙ (same_at sorted (i - 1) e.entry x (omega (arith, low, high)) ∙ t.at_x))))
      | inr (inl less) ↦ absurd (precedes_differs (ident_in e.entry) (ident_in x) (rises sorted i here.0 (i - 1) e.entry x t.rises_to (omega (arith, high)) less (omega (arith, low)) here.2 t.at_x) same)
      | inr (inr more) ↦
          let le : i ≤ here.0 = omega (arith, more, low) in
          let after : place_in y ≤ place_in e.entry = place_not_below e.entry y (same ∙ t.same) (later sorted i here.0 y e.entry t.index.up le here.1 t.at_y here.2) in
          let at : place_in e.entry ≡ k = e.at in
          elim (cases_order (place_in y) k) [
            | inl equal ↦ inr (inl (sym equal))
            | inr (inl less) ↦ inr (inr less)
            | inr (inr past) ↦ absurd (omega (arith, past, after, at))
          ]
    ]

twin_in_order : (list : List Seen) (sorted : List Placed) (i : ℕ) (x y : Placed) → IsTwinAt list sorted i x y → place_in x < place_in y
twin_in_order list sorted i x y t =
    let low = t.low in
    let high = t.high in
    let len : length (map place_in sorted) ≡ length sorted = length-map sorted place_in in
    let differ = apart_from_distinct eqb (map place_in sorted) (i - 1) i 0 t.index.apart (omega (arith, low)) (omega (arith, len, high)) in
    let is_x : get_or (map place_in sorted) (i - 1) 0 ≡ place_in x = get_or-map place_in sorted (i - 1) x 0 (omega (arith, low, high)) ∙ ap place_in t.at_x in
    let is_y : get_or (map place_in sorted) i 0 ≡ place_in y = get_or-map place_in sorted i y 0 high ∙ ap place_in t.at_y in
    let le : place_in x ≤ place_in y = place_not_below y x (sym t.same) (later sorted (i - 1) i x y t.index.up (omega arith) high t.at_x t.at_y) in
    elim (cases_order (place_in x) (place_in y)) [
      | inl equal ↦ absurd (false≢true (sym differ ∙ (Decides-eqb (get_or (map place_in sorted) (i - 1) 0) (get_or (map place_in sorted) i 0)).1 (is_x ∙ (equal ∙ sym is_y))))
      | inr (inl less) ↦ less
      | inr (inr more) ↦ absurd (omega (arith, more, le))
    ]

-- what has a lesser ident comes before
lesser_is_before : (list : List Seen) (sorted : List Placed) (i : ℕ) (x y : Placed) → IsTwinAt list sorted i x y → (f : Placed) (k : ℕ) → k < length sorted → get_or sorted k f ≡ f → Precedes (ident_in f) (ident_in x) → k < i - 1
lesser_is_before list sorted i x y t f k within at_f less = elim (cases_lt k (i - 1)) [
  | inl here ↦ here
  | inr past ↦ absurd (let clash : true ≡ false = sym (ap is_lt less) ∙ ident_not_below f x (later sorted (i - 1) k x f t.index.up past within t.at_x at_f) in cc)
]

twin_least : (list : List Seen) (sorted : List Placed) (i : ℕ) (x y : Placed) → IsTwinAt list sorted i x y → (j k : ℕ) (v w : Seen) → slice_get list j ≡ Some v → slice_get list k ≡ Some w → v.ident ≡ w.ident → Precedes v.ident (ident_in x) → j ≡ k
twin_least list sorted i x y t j k v w at_j at_k same less =
    let e = entry_at list sorted j v t.index.each t.index.whole at_j in
    let f = entry_at list sorted k w t.index.each t.index.whole at_k in
    let he = e.among in
    let hf = f.among in
    let high = t.high in
    let one : ident_in e.entry ≡ ident_in f.entry = e.same_ident ∙ (same ∙ sym f.same_ident) in
    let less_e : Precedes (ident_in e.entry) (ident_in x) = subst (λ (n : List ℕ). Precedes n (ident_in x)) (sym e.same_ident) less in
    let less_f : Precedes (ident_in f.entry) (ident_in x) = subst (λ (n : List ℕ). Precedes n (ident_in x)) one less_e in
    let before_e = lesser_is_before list sorted i x y t e.entry he.0 he.1 he.2 less_e in
    let before_f = lesser_is_before list sorted i x y t f.entry hf.0 hf.1 hf.2 less_f in
    elim (cases_order he.0 hf.0) [
      | inl equal ↦
          let both : e.entry ≡ f.entry = sym he.2 ∙ (ap (λ (n : ℕ). get_or sorted n e.entry) equal ∙ (same_at sorted hf.0 e.entry f.entry hf.1 ∙ hf.2)) in
          sym e.at ∙ (ap place_in both ∙ f.at)
      | inr (inl first) ↦ absurd (precedes_differs (ident_in e.entry) (ident_in f.entry) (rises sorted i he.0 hf.0 e.entry f.entry t.rises_to (omega (arith, high)) first (omega (arith, before_f)) he.2 hf.2) one)
      | inr (inr last) ↦ absurd (precedes_differs (ident_in f.entry) (ident_in e.entry) (rises sorted i hf.0 he.0 f.entry e.entry t.rises_to (omega (arith, high)) last (omega (arith, before_e)) hf.2 he.2) (sym one))
    ]

own_ident : (list : List Seen) (sorted : List Placed) (e : Placed) (v : Seen) → All (IsEntryOf list) sorted → Contains sorted e → slice_get list (place_in e) ≡ Some v → v.ident ≡ ident_in e
own_ident list sorted e v each among stands =
    let of : IsEntryOf list e = All-contains (IsEntryOf list) sorted e each among in
    ap (λ (z : Seen). z.ident) (sym (same_item list (place_in e) of.item v of.stands stands)) ∙ of.same_ident

stands_at : (list : List Seen) (sorted : List Placed) (e : Placed) (v : Seen) → All (IsEntryOf list) sorted → Contains sorted e → slice_get list (place_in e) ≡ Some v → StandsAt (ident_in e) v.href list (place_in e)
stands_at list sorted e v each among stands =
    record { item = v; stands = stands; same_ident = own_ident list sorted e v each among stands; same_href = refl }

first_twin : (list : List Seen) (sorted : List Placed) (i : ℕ) (x y : Placed) (v w : Seen) → IsTwinAt list sorted i x y → slice_get list (place_in x) ≡ Some v → slice_get list (place_in y) ≡ Some w → IsFirstTwin list (ident_in x) v.href w.href
first_twin list sorted i x y v w t at_v at_w =
    let low = t.low in
    let high = t.high in
    record {
      place = place_in x;
      later = place_in y;
      in_order = twin_in_order list sorted i x y t;
      stands_first = stands_at list sorted x v t.index.each (i - 1, omega (arith, low, high), t.at_x) at_v;
      stands_second = subst (λ (n : List ℕ). StandsAt n w.href list (place_in y)) (sym t.same) (stands_at list sorted y w t.index.each (i, high, t.at_y) at_w);
      first_two = twin_first_two list sorted i x y t;
      least = twin_least list sorted i x y t;
    }

twin_at : (list : List Seen) (sorted : List Placed) (i : ℕ) (x y : Placed) → IsSortedIndex list sorted → 0 < i → i < length sorted → IsNotRisingAt sorted i → RisesTo sorted i → get_or sorted (i - 1) x ≡ x → get_or sorted i y ≡ y → IsTwinAt list sorted i x y
twin_at list sorted i x y index low high not rises_to at_x at_y =
    let not_less : Precedes (ident_in x) (ident_in y) → ⊥ =
    λ less. not x (subst (λ (f : Placed). Precedes (ident_in f) (ident_in (get_or sorted i x))) (sym at_x) (subst (λ (f : Placed). Precedes (ident_in x) (ident_in f)) (sym (same_at sorted i x y high ∙ at_y)) less))
    in
    record {
      index = index;
      low = low;
      high = high;
      rises_to = rises_to;
      at_x = at_x;
      at_y = at_y;
      same = elim (not_below (ident_in y) (ident_in x) (ident_not_below y x (later sorted (i - 1) i x y index.up (omega arith) high at_x at_y))) [ inl same ↦ sym same | inr less ↦ absurd (not_less less) ];
    }

-- where a sorted index doesn't rise any more, its first twin is found
pub twin_found : (side : Side) (list : List Seen) (sorted seen : List Placed) (i : ℕ) (x y : Placed) (v w : Seen) (e : PlanError) → seen ≡ sorted → IsSortedIndex list sorted → 0 < i → i < length seen → IsNotRisingAt seen i → AllAdjacentBelow (λ (x y : Placed). Precedes (ident_in x) (ident_in y)) seen i → get_or sorted (i - 1) x ≡ x → get_or sorted i y ≡ y → slice_get list (place_in x) ≡ Some v → slice_get list (place_in y) ≡ Some w → NamesTwins side v w e → IsTwinRefusal side list e
twin_found side list sorted seen i x y v w e same index low high not rises_to at_x at_y at_v at_w names =
    at e names
  where
    t : IsTwinAt list sorted i x y
    t = twin_at list sorted i x y index low (subst (λ (l : List Placed). i < length l) same high) (subst (λ (l : List Placed). IsNotRisingAt l i) same not) (subst (λ (l : List Placed). RisesTo l i) same rises_to) at_x at_y

    twin : IsFirstTwin list (ident_in x) v.href w.href
    twin = first_twin list sorted i x y v w t at_v at_w

    own : v.ident ≡ ident_in x
    own = own_ident list sorted x v index.each (i - 1, omega (arith, low, subst (λ (l : List Placed). i < length l) same high), at_x) at_v

    at : (e : PlanError) → NamesTwins side v w e → IsTwinRefusal side list e
    at (SameIdent where_ ident first second) names = (names.0, subst (λ (n : List ℕ). IsFirstTwin list n first second) (sym (names.1 ∙ own)) (subst (λ (n : List ℕ). IsFirstTwin list (ident_in x) n second) (sym names.2) (subst (λ (n : List ℕ). IsFirstTwin list (ident_in x) v.href n) (sym names.3) twin)))
    at NoMemory names = tt
