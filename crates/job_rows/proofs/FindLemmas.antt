-- The row of an ident by a search among rows in byte order of idents.
use Rattle.std.proofs.Common.{◌≡◌, inl, inr, ℕ, zero, suc, ◌+◌, ◌<◌, false, List, [], ◌∷◌, length, get_or, Some, None, Less, Equal, Greater, sym, ◌∙◌, ap, arith}
use native.Mathlib.Numerals.{unary_clauses}
use Rattle.std.specs.List.{AllByRecursion, HoldsAt}
use Rattle.std.specs.List.Sorted.{IsNonDecreasingBy, IsPartitionPoint}
use Rattle.std.specs.Ordering.{is_lt, nat_cmp, ordering_index, ordering_reverse}
use Rattle.std.specs.Cmp.{tied_itself}
use Rattle.std.specs.Cmp.Lexicographic.{slice_cmp, nat_list_cmp_total}
use Rattle.std.specs.FinMap.{slice_cmp-IsAntisymmetric, nat_cmp-IsAntisymmetric}
use Rattle.std.specs.declared.cmp.Ordering.{Ordering}
use Rattle.std.proofs.lemmas.Bool.{cases_lt}
use Rattle.std.proofs.lemmas.List.Sorted.{searchable_from_sorted}
use Rattle.status_keeper.specs.declared.row.Row.{Row}
use Rattle.status_keeper.specs.Idents.{Precedes, IsRising}
use Rattle.status_keeper.specs.Rows.{row_of, row_idents}
use Rattle.sync_plan.specs.Merging.{row_ident, Within}
use Rattle.sync_plan.proofs.Rising.{first_cases, one_of_ident, row_is_first}

-- ---- places

pub within_index : {X : Type 0} (xs : List X) (k : ℕ) (x : X) → k < length xs → x ≡ get_or xs k x → Within x xs
within_index [] k x lt e = absurd (omega (arith, lt))
within_index (y ∷ ys) zero x lt e = inl e
within_index (y ∷ ys) (suc k) x lt e = inr (within_index ys k x (omega (arith, lt)) e)

pub record IsAtIndex {X : Type 0} (xs : List X) (x : X) : Type 0 where
  pub index : ℕ
  pub inside : index < length xs
  pub is : (d : X) → get_or xs index d ≡ x

pub index_within : {X : Type 0} (xs : List X) (x : X) → Within x xs → IsAtIndex xs x
index_within [] x within = elim within [ ]
index_within (y ∷ ys) x (inl same) = record { index = zero; inside = omega arith; is = λ d. sym same }
index_within (y ∷ ys) x (inr later) = let rest = index_within ys x later in record { index = suc rest.index; inside = omega (arith, rest.inside); is = rest.is }

-- ---- rows rise

first_later : (x : List ℕ) (rows : List Row) (k : ℕ) (d : Row) → AllByRecursion (λ y. Precedes x y) (row_idents rows) → k < length rows → Precedes x (get_or rows k d).ident
first_later x [] k d all lt = absurd (omega (arith, lt))
first_later x (r ∷ rs) zero d all lt = all.0
first_later x (r ∷ rs) (suc k) d all lt = first_later x rs k d all.1 (omega (arith, lt))

next_rises : (rows : List Row) (k : ℕ) (d : Row) → IsRising (row_idents rows) → k + 1 < length rows → Precedes (get_or rows k d).ident (get_or rows (k + 1) d).ident
next_rises [] k d rising lt = absurd (omega (arith, lt))
next_rises (r ∷ rs) zero d rising lt = first_later r.ident rs zero d rising.0 (omega (arith, lt))
next_rises (r ∷ rs) (suc k) d rising lt = simp unary_clauses (simp unary_clauses at (next_rises rs k d rising.1 (omega (arith, lt))))

turned : (x y : List ℕ) → Precedes x y → is_lt (slice_cmp nat_cmp y x) ≡ false
turned x y less = ap is_lt (nat_list_cmp_total.antisymm y x ∙ ap ordering_reverse less)

pub searchable : (rows : List Row) (ident : List ℕ) → IsRising (row_idents rows) → IsNonDecreasingBy (λ (r : Row). ordering_index (slice_cmp nat_cmp r.ident ident)) rows
searchable rows ident rising = searchable_from_sorted nat_list_cmp_total (λ (r : Row). r.ident) rows ident (λ k d a b. turned (get_or rows k d).ident (get_or rows (k + 1) d).ident (next_rises rows k d rising b))

-- ---- what is found

pub found : (rows : List Row) (ident : List ℕ) (place : ℕ) (x : Row) → IsRising (row_idents rows) → place < length rows → x ≡ get_or rows place x → HoldsAt (λ (r : Row). slice_cmp nat_cmp r.ident ident ≡ Equal) rows place → Some x ≡ row_of ident rows
found rows ident place x rising lt e holds =
    let within = within_index rows place x lt e in
    let same : x.ident ≡ ident = slice_cmp-IsAntisymmetric nat_cmp-IsAntisymmetric x.ident ident (ap (λ (r : Row). slice_cmp nat_cmp r.ident ident) e ∙ holds x) in
    elim (first_cases row_ident ident rows) [
      | inl none ↦ absurd (none.1 x within same)
      | inr some ↦ ap Some (one_of_ident row_ident rows x some.0 rising within some.2 (same ∙ sym some.3)) ∙ (sym some.1 ∙ sym (row_is_first ident rows))
    ]

pub not_found : (rows : List Row) (ident : List ℕ) (place : ℕ) → IsPartitionPoint (λ (r : Row). slice_cmp nat_cmp r.ident ident ≡ Less) (λ (r : Row). slice_cmp nat_cmp r.ident ident ≡ Greater) rows place → None ≡ row_of ident rows
not_found rows ident place parts = elim (first_cases row_ident ident rows) [
  | inl none ↦ sym none.0 ∙ sym (row_is_first ident rows)
  | inr some ↦
      let at = index_within rows some.0 some.2 in
      let tied : slice_cmp nat_cmp (some.0).ident ident ≡ Equal = ap (λ (i : List ℕ). slice_cmp nat_cmp i ident) some.3 ∙ tied_itself nat_list_cmp_total ident in
      absurd (elim (cases_lt at.index place) [
        | inl below ↦ clash_less (slice_cmp nat_cmp (some.0).ident ident) (ap (λ (r : Row). slice_cmp nat_cmp r.ident ident) (sym (at.is some.0)) ∙ parts.0 at.index some.0 (omega arith) below) tied
        | inr above ↦ clash_greater (slice_cmp nat_cmp (some.0).ident ident) (ap (λ (r : Row). slice_cmp nat_cmp r.ident ident) (sym (at.is some.0)) ∙ parts.1 at.index some.0 above at.inside) tied
      ])
]
  where
    clash_less : (r : Ordering) → r ≡ Less → r ≡ Equal → ⊥
    clash_less r less equal = let clash : Less ≡ Equal = sym less ∙ equal in cc

    clash_greater : (r : Ordering) → r ≡ Greater → r ≡ Equal → ⊥
    clash_greater r greater equal = let clash : Greater ≡ Equal = sym greater ∙ equal in cc
