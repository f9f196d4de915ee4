-- Blanks at the ends of a text, as a reader that counts them meets them.
use Rattle.std.proofs.Common.{◌≡◌, ℕ, ◌+◌, ◌-◌, ◌<◌, ◌≤◌, true, false, cond, List, [], ◌∷◌, ◌++◌, length, get_or, take, drop, refl, sym, ◌∙◌, ap, arith}
use Rattle.std.specs.Str.{IsUtf8, IsCharBoundary}
use Rattle.std.proofs.lemmas.Str.{IsCharBoundary-after_ascii, IsCharBoundary-before_ascii}
use Rattle.std.proofs.lemmas.List.{drop_more, drop_all, take_more}
use Rattle.std.proofs.lemmas.Bool.Decides.{nat_tests}
use Rattle.item_text.specs.Lines.{is_blank, trim_front, before_trimmed, trim_back}

blank_ascii : (b : ℕ) → is_blank b ≡ true → b < 128
blank_ascii b h = grind (arith, nat_tests)

front_blank : (b : ℕ) (bs : List ℕ) → is_blank b ≡ true → trim_front (b ∷ bs) ≡ trim_front bs
unfolding trim_front
front_blank b bs h = ap (λ t. cond t (trim_front bs) (b ∷ bs)) h

front_word : (b : ℕ) (bs : List ℕ) → is_blank b ≡ false → trim_front (b ∷ bs) ≡ b ∷ bs
unfolding trim_front
front_word b bs h = ap (λ t. cond t (trim_front bs) (b ∷ bs)) h

-- one blank more in front
pub front_step : (text : List ℕ) (n : ℕ) → n < length text → is_blank (get_or text n 0) ≡ true → trim_front (drop n text) ≡ trim_front (drop (n + 1) text)
front_step text n h k = ap trim_front (drop_more text n 0 h) ∙ front_blank (get_or text n 0) (drop (n + 1) text) k

pub front_stop : (text : List ℕ) (n : ℕ) → n < length text → is_blank (get_or text n 0) ≡ false → trim_front (drop n text) ≡ drop n text
front_stop text n h k = ap trim_front (drop_more text n 0 h) ∙ (front_word (get_or text n 0) (drop (n + 1) text) k ∙ sym (drop_more text n 0 h))

front_none : (bs : List ℕ) → length bs ≡ 0 → trim_front bs ≡ bs
unfolding trim_front
front_none [] h = refl
front_none (b ∷ bs) h = cc

pub front_end : (text : List ℕ) (n : ℕ) → length text ≤ n → trim_front (drop n text) ≡ drop n text
front_end text n h = front_none (drop n text) (ap length (drop_all n text h))

pub front_boundary : (text : List ℕ) (n : ℕ) → IsUtf8 text → n < length text → is_blank (get_or text n 0) ≡ true → IsCharBoundary text (n + 1)
front_boundary text n u h k = IsCharBoundary-after_ascii text n u h (blank_ascii (get_or text n 0) k)

back_blank : (bs : List ℕ) (b : ℕ) → is_blank b ≡ true → trim_back (bs ++ (b ∷ [])) ≡ trim_back bs
unfolding trim_back before_trimmed
back_blank [] b h = ap (λ t. cond t [] (b ∷ [])) h
back_blank (c ∷ bs) b h = ap (before_trimmed c) (back_blank bs b h)

back_word : (bs : List ℕ) (b : ℕ) → is_blank b ≡ false → trim_back (bs ++ (b ∷ [])) ≡ bs ++ (b ∷ [])
unfolding trim_back before_trimmed
back_word [] b h = ap (λ t. cond t [] (b ∷ [])) h
back_word (c ∷ []) b h = ap (before_trimmed c) (back_word [] b h)
back_word (c ∷ d ∷ bs) b h = ap (before_trimmed c) (back_word (d ∷ bs) b h)

pub last_of : (text : List ℕ) (n : ℕ) → 0 < n → n ≤ length text → take n text ≡ take (n - 1) text ++ (get_or text (n - 1) 0 ∷ [])
last_of text n h k =
    let below : n - 1 < length text = omega arith in
    let same : (n - 1) + 1 ≡ n = omega arith in
    ap (λ m. take m text) (sym same) ∙ take_more text (n - 1) 0 below

pub back_step : (text : List ℕ) (n : ℕ) → 0 < n → n ≤ length text → is_blank (get_or text (n - 1) 0) ≡ true → trim_back (take n text) ≡ trim_back (take (n - 1) text)
back_step text n h k e = ap trim_back (last_of text n h k) ∙ back_blank (take (n - 1) text) (get_or text (n - 1) 0) e

pub back_stop : (text : List ℕ) (n : ℕ) → 0 < n → n ≤ length text → is_blank (get_or text (n - 1) 0) ≡ false → trim_back (take n text) ≡ take n text
back_stop text n h k e = ap trim_back (last_of text n h k) ∙ (back_word (take (n - 1) text) (get_or text (n - 1) 0) e ∙ sym (last_of text n h k))

pub back_none : trim_back [] ≡ []
unfolding trim_back
back_none = refl

pub back_boundary : (text : List ℕ) (n : ℕ) → 0 < n → n ≤ length text → is_blank (get_or text (n - 1) 0) ≡ true → IsCharBoundary text (n - 1)
back_boundary text n h k e = IsCharBoundary-before_ascii text (n - 1) (omega arith) (blank_ascii (get_or text (n - 1) 0) e)

pub back_end : (text : List ℕ) (n : ℕ) → n ≤ 0 → trim_back (take n text) ≡ take n text
back_end text n h = let none : n ≡ 0 = omega arith in ap (λ m. trim_back (take m text)) none ∙ (back_none ∙ ap (λ m. take m text) (sym none))
