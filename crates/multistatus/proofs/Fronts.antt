-- The longest front of bytes that pass a test, and text without white space at its end: lemmas on specs/Texts.antt
use Rattle.std.proofs.Common.{◌≡◌, refl, ℕ, ◌<◌, ◌≤◌, zero, suc, Bool, true, false, cond, eqb, List, [], ◌∷◌, length, take, drop, get_or, Some, None, ap, subst, add-one, arith}
use Rattle.std.specs.Char.{is_ascii_digit}
use Rattle.std.specs.Str.{IsCharBoundary, IsUtf8}
use Rattle.std.proofs.lemmas.Str.{IsCharBoundary-after_ascii, IsCharBoundary-start}
use borrow.Author.Tests.{tests}
use Rattle.multistatus.specs.Texts.{front, behind, is_white, kept_before, without_end, stripped}
use Rattle.multistatus.specs.Tags.{is_part_byte}
use Rattle.multistatus.specs.Tokens.{is_text_byte}

-- all bytes before a place pass
abbrev pub AllPassBelow : (ℕ → Bool) → List ℕ → ℕ → Type 0
AllPassBelow p bytes n = (k : ℕ) → k < n → p (get_or bytes k 0) ≡ true

pub behind_is : (p : ℕ → Bool) (bytes : List ℕ) (n : ℕ) → n ≤ length bytes → AllPassBelow p bytes n
    → (n < length bytes → p (get_or bytes n 0) ≡ false) → behind p bytes ≡ drop n bytes
behind_is p [] zero within pass stop = refl
behind_is p [] (suc n) within pass stop = absurd (omega arith)
behind_is p (b ∷ bytes) zero within pass stop = rw (stop (omega arith)) refl
behind_is p (b ∷ bytes) (suc n) within pass stop =
    rw (pass 0 (omega arith)) (behind_is p bytes n (omega arith) (λ k h. pass (suc k) (omega arith)) (λ h. stop (omega arith)))

pub front_is : (p : ℕ → Bool) (bytes : List ℕ) (n : ℕ) → n ≤ length bytes → AllPassBelow p bytes n
    → (n < length bytes → p (get_or bytes n 0) ≡ false) → front p bytes ≡ take n bytes
front_is p [] zero within pass stop = refl
front_is p [] (suc n) within pass stop = absurd (omega arith)
front_is p (b ∷ bytes) zero within pass stop = rw (stop (omega arith)) refl
front_is p (b ∷ bytes) (suc n) within pass stop =
    rw (pass 0 (omega arith)) (ap (λ more. b ∷ more) (front_is p bytes n (omega arith) (λ k h. pass (suc k) (omega arith)) (λ h. stop (omega arith))))

-- a byte that a white one isn't
pub white_is_ascii : (b : ℕ) → is_white b ≡ true → b < 128
white_is_ascii b h = grind (arith, tests)

pub stop_is_ascii : (b : ℕ) → is_part_byte b ≡ false → b < 128
stop_is_ascii b h = grind (arith, tests)

pub digit_is_ascii : (b : ℕ) → is_ascii_digit b ≡ true → b < 128
digit_is_ascii b h = grind (arith, tests)

-- text may be cut behind ASCII bytes
pub past_ascii : (p : ℕ → Bool) → ((b : ℕ) → p b ≡ true → b < 128) → (bytes : List ℕ) (n : ℕ) → IsUtf8 bytes → n ≤ length bytes → AllPassBelow p bytes n
    → 0 < n → IsCharBoundary bytes n
past_ascii p ascii bytes zero utf8 within pass some = absurd (omega arith)
past_ascii p ascii bytes (suc n) utf8 within pass some =
    let small : get_or bytes n 0 < 128 = ascii _ (pass n (omega arith)) in
    let cut_here : ℕ → Type 0 = λ k. IsCharBoundary bytes k in
    subst cut_here (add-one n) (IsCharBoundary-after_ascii bytes n utf8 (omega arith) small)

pub past_ascii_or_none : (p : ℕ → Bool) → ((b : ℕ) → p b ≡ true → b < 128) → (bytes : List ℕ) (n : ℕ) → IsUtf8 bytes → n ≤ length bytes → AllPassBelow p bytes n
    → IsCharBoundary bytes n
past_ascii_or_none p ascii bytes zero utf8 within pass = IsCharBoundary-start bytes utf8
past_ascii_or_none p ascii bytes (suc n) utf8 within pass = past_ascii p ascii bytes (suc n) utf8 within pass (omega arith)

-- text may be cut before an ASCII byte
pub stop_boundary : (bytes : List ℕ) (n : ℕ) → n ≤ length bytes → (n < length bytes → get_or bytes n 0 < 128) → IsCharBoundary bytes n
stop_boundary bytes n within stop = (within, λ h big. absurd (let small : get_or bytes n 0 < 128 = stop h in omega arith))

-- all bytes from a place on are white space
abbrev pub AllWhiteFrom : List ℕ → ℕ → Type 0
AllWhiteFrom bytes n = (k : ℕ) → n ≤ k → k < length bytes → is_white (get_or bytes k 0) ≡ true

pub without_end_is : (bytes : List ℕ) (n : ℕ) → n ≤ length bytes → AllWhiteFrom bytes n
    → ((m : ℕ) → n ≡ suc m → is_white (get_or bytes m 0) ≡ false) → without_end bytes ≡ take n bytes
without_end_is [] zero within white stop = refl
without_end_is [] (suc n) within white stop = absurd (omega arith)
without_end_is (b ∷ bytes) zero within white stop =
    let none : without_end bytes ≡ [] = without_end_is bytes zero (omega arith) (λ k h l. white (suc k) (omega arith) (omega arith)) (λ m h. absurd (omega arith)) in
    rw none (rw (white 0 (omega arith) (omega arith)) refl)
without_end_is (b ∷ bytes) (suc zero) within white stop =
    let none : without_end bytes ≡ [] = without_end_is bytes zero (omega arith) (λ k h l. white (suc k) (omega arith) (omega arith)) (λ m h. absurd (omega arith)) in
    rw none (rw (stop 0 refl) refl)
without_end_is (b ∷ []) (suc (suc n)) within white stop = absurd (omega arith)
without_end_is (b ∷ c ∷ bytes) (suc (suc n)) within white stop =
    let more : without_end (c ∷ bytes) ≡ c ∷ take n bytes = without_end_is (c ∷ bytes) (suc n) (omega arith) (λ k h l. white (suc k) (omega arith) (omega arith)) (λ m h. stop (suc m) (ap suc h)) in
    ap (kept_before b) more

pub text_stop_is_ascii : (b : ℕ) → is_text_byte b ≡ false → b < 128
text_stop_is_ascii b h = grind (arith, tests)

pub behind_le : (p : ℕ → Bool) (bytes : List ℕ) → length (behind p bytes) ≤ length bytes
behind_le p [] = omega arith
behind_le p (b ∷ bytes) = by_test p b bytes (p b) refl (behind_le p bytes)
  where
    by_test : (p : ℕ → Bool) (b : ℕ) (bytes : List ℕ) (t : Bool) → p b ≡ t → length (behind p bytes) ≤ length bytes → length (behind p (b ∷ bytes)) ≤ length (b ∷ bytes)
    by_test p b bytes true e h = rw e (omega arith)
    by_test p b bytes false e h = rw e (omega arith)

-- text that doesn't begin with `<` has a byte of text
pub text_shorter : (bytes : List ℕ) → 0 < length bytes → stripped (60 ∷ []) bytes ≡ None → length (behind is_text_byte bytes) < length bytes
unfolding stripped
text_shorter [] some other = absurd (omega arith)
text_shorter (b ∷ bytes) some other = by_test b bytes (eqb b 60) refl other
  where
    by_test : (b : ℕ) (bytes : List ℕ) (t : Bool) → eqb b 60 ≡ t → cond t (Some bytes) None ≡ None → length (behind is_text_byte (b ∷ bytes)) < length (b ∷ bytes)
    by_test b bytes true e h = cc
    by_test b bytes false e h = rw e (let le = behind_le is_text_byte bytes in omega arith)
