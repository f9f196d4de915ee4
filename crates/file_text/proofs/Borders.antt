-- Borders: how much of a text fits, as a search for the border of a character finds it.
use Rattle.std.proofs.Common.{◌≡◌, ◌⊎◌, inl, inr, ℕ, zero, suc, ◌+◌, ◌<◌, ◌≤◌, Bool, true, ◌&&◌, nat_le, List, [], ◌∷◌, length, get_or, drop, refl, sym, ◌∙◌, ap, subst, arith}
use Rattle.std.specs.Str.{IsUtf8, IsCharBoundary}
use Rattle.std.specs.Char.{len_utf8}
use Rattle.std.proofs.lemmas.List.{length-drop, get_or-drop}
use Rattle.std.proofs.lemmas.Str.{IsCharBoundary-past_char, len_utf8_bounds}
use Rattle.std.proofs.lemmas.Bool.{and_from, and_parts, cond-true, cond-false, false_from_ne_true, cases_eq, cases_lt, le-leb, leb-true}
use Rattle.std.proofs.lemmas.Bool.Decides.{nat_tests}
use Rattle.file_text.specs.Folds.{is_border, fitting}

-- whether no character is cut at this place
abbrev pub fits : ℕ → List ℕ → Bool
fits n text = nat_le n (length text) && is_border (drop n text)

border_at : (text : List ℕ) → (0 < length text → 128 ≤ get_or text 0 0 → 192 ≤ get_or text 0 0) → is_border text ≡ true
unfolding is_border
border_at [] h = refl
border_at (b ∷ bs) h = let k : 128 ≤ b → 192 ≤ b = h (omega arith) in grind (arith, nat_tests)

at_border : (text : List ℕ) → is_border text ≡ true → 0 < length text → 128 ≤ get_or text 0 0 → 192 ≤ get_or text 0 0
unfolding is_border
at_border [] h some k = absurd (omega arith)
at_border (b ∷ bs) h some k = grind (arith, nat_tests)

front_is : (n : ℕ) (text : List ℕ) → get_or (drop n text) 0 0 ≡ get_or text n 0
front_is n text = get_or-drop n text 0 0 ∙ ap (λ (m : ℕ). get_or text m 0) (omega arith)

pub fits_at : (n : ℕ) (text : List ℕ) → IsCharBoundary text n → fits n text ≡ true
fits_at n text h =
    let border : is_border (drop n text) ≡ true = border_at (drop n text) (λ some low. rw (front_is n text) (h.1 (omega (arith, length-drop n text)) (rw (front_is n text) at low))) in
    and_from (nat_le n (length text)) (is_border (drop n text)) (le-leb n (length text) h.0) border

pub at_fits : (n : ℕ) (text : List ℕ) → fits n text ≡ true → IsCharBoundary text n
at_fits n text h =
    let parts = and_parts (nat_le n (length text)) (is_border (drop n text)) h in
    (leb-true n (length text) parts.0, λ below low. rw (← front_is n text) (at_border (drop n text) parts.1 (omega (arith, length-drop n text)) (rw (front_is n text) low)))

-- above `count`, no place up to `most` is a border between characters
pub record NoneBetween (text : List ℕ) (count most : ℕ) : Type 0 where
  pub none : (i : ℕ) → count < i → i ≤ most → IsCharBoundary text i → ⊥

fitting_more : (n : ℕ) (text : List ℕ) (count : ℕ) → count ≤ suc n → IsCharBoundary text count → NoneBetween text count (suc n) → (count ≤ n → count ≡ fitting n text) → (count ≡ suc n) ⊎ (count ≡ suc n → ⊥) → count ≡ fitting (suc n) text
unfolding fitting
fitting_more n text count below at between more (inl e) =
    e ∙ sym (cond-true (fits (suc n) text) (suc n) (fitting n text) (fits_at (suc n) text (subst (λ (m : ℕ). IsCharBoundary text m) e at)))
fitting_more n text count below at between more (inr other) =
    let less : count ≤ n = omega arith in
    more less ∙ sym (cond-false (fits (suc n) text) (suc n) (fitting n text) (false_from_ne_true (fits (suc n) text) (λ h. between.none (suc n) (omega arith) (omega arith) (at_fits (suc n) text h))))

pub fitting_is : (n : ℕ) (text : List ℕ) (count : ℕ) → count ≤ n → IsCharBoundary text count → NoneBetween text count n → count ≡ fitting n text
unfolding fitting
fitting_is zero text count below at between = omega arith
fitting_is (suc n) text count below at between =
    fitting_more n text count below at between (λ less. fitting_is n text count less at (record { none = λ i above upto. between.none i above (omega arith) })) (cases_eq count (suc n))

-- a text has a border behind its first character
pub some_border : (text : List ℕ) → IsUtf8 text → 0 < length text → (i : ℕ) × (0 < i) × (i ≤ 4) × IsCharBoundary text i
some_border text ([], (scalar, is)) some = absurd (omega (arith, ap length is))
some_border text (c ∷ cs, (scalar, is)) some =
    let size = len_utf8_bounds c in
    (0 + len_utf8 c, omega (arith, size), omega (arith, size), IsCharBoundary-past_char text _ 0 c (omega arith) (c ∷ cs, (scalar, is)) (sym is))

some_by : (text : List ℕ) (count most i : ℕ) → NoneBetween text count most → i ≤ most → 0 < i → IsCharBoundary text i → (count < i) ⊎ (i ≤ count) → 0 < count
some_by text count most i between below some at (inl less) = absurd (between.none i less below at)
some_by text count most i between below some at (inr more) = omega arith

pub some_fit : (text : List ℕ) (count most : ℕ) → IsUtf8 text → NoneBetween text count most → 4 ≤ most → most < length text → 0 < count
some_fit text count most utf8 between enough longer =
    let border = some_border text utf8 (omega arith) in
    some_by text count most border.0 between (omega (arith, border.2)) border.1 border.3 (cases_lt count border.0)
