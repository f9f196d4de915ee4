-- Fingerprints in hex: 64 lower-case digits always decode, and a fingerprint's hex reads back.
use Rattle.std.proofs.Common.{◌≡◌, ℕ, ◌*◌, ◌/◌, ◌%◌, ◌<◌, true, ◌&&◌, cond, List, [], ◌∷◌, suc, length, Some, None, Result, Ok, Err, refl, sym, ◌∙◌, ap, subst, arith, get_or}
use Rattle.std.specs.Prelude.{◌==◌, slice_index, IsOk}
use Rattle.std.specs.List.{list_all, AllPass}
use Rattle.std.specs.Result.{result_ok}
use Rattle.std.proofs.lemmas.Bool.{and_parts, and_from, eqb-true}
use Rattle.std.proofs.lemmas.Bool.Decides.{nat_tests, Decides-eqb}
use Rattle.std.proofs.lemmas.List.Sums.{AllPass-from_list_all}
use Rattle.hex.specs.Hex.{encode_lower, encode_with, lower_digits, decode_of, decode_sized, is_hex_digit, IsBytes}
use Rattle.hex.specs.declared.error.FromHexError.{FromHexError}
use Rattle.hex.proofs.HexLemmas.{length-encode_with, decode_of-encode_lower, IsOk-decode_sized}
use Rattle.item_text.specs.Fingerprints.{is_lower_digit, is_fingerprint, fingerprint_of_hex}

lower_is_hex : (b : ℕ) → is_lower_digit b ≡ true → is_hex_digit b ≡ true
lower_is_hex b h = grind (arith, nat_tests)

all_hex : (text : List ℕ) → list_all is_lower_digit text ≡ true → AllPass is_hex_digit text
all_hex text h = λ k d l. lower_is_hex (get_or text k d) (AllPass-from_list_all is_lower_digit text h k d l)

not_err : (r : Result (List ℕ) FromHexError) (e : FromHexError) → IsOk r → r ≡ Err e → ⊥
not_err (Ok x) e h k = cc
not_err (Err x) e h k = cc h

-- a fingerprint's text decodes to 32 bytes
pub fingerprint_decodes : (text : List ℕ) (r : Result (List ℕ) FromHexError) (e : FromHexError) → is_fingerprint text ≡ true → r ≡ decode_sized text 32 → r ≡ Err e → ⊥
unfolding is_fingerprint
fingerprint_decodes text r e h sized err =
    let parts = and_parts (length text == 64) (list_all is_lower_digit text) h in
    let long : length text ≡ 2 * 32 = eqb-true (length text) 64 parts.0 in
    not_err (decode_sized text 32) e ((IsOk-decode_sized text 32).1 (long, all_hex text parts.1)) (sym sized ∙ err)

digit_lower : (n : ℕ) → n < 16 → is_lower_digit (slice_index lower_digits n) ≡ true
digit_lower n h = AllPass-from_list_all is_lower_digit lower_digits refl n 0 h

all_lower : (xs : List ℕ) → IsBytes xs → list_all is_lower_digit (encode_lower xs) ≡ true
unfolding encode_with
all_lower [] h = refl
all_lower (x ∷ xs) h =
    and_from _ _ (digit_lower (x / 16) (let small : x < 256 = h 0 in omega arith))
    (and_from _ _ (digit_lower (x % 16) (omega arith)) (all_lower xs (λ i. h (suc i))))

-- the hex of 32 bytes reads back as they are
pub hex_reads_back : (xs text : List ℕ) → length xs ≡ 32 → IsBytes xs → text ≡ encode_lower xs → fingerprint_of_hex text ≡ Some xs
unfolding fingerprint_of_hex is_fingerprint
hex_reads_back xs text long bytes e =
    subst (λ t. cond ((length t == 64) && list_all is_lower_digit t) (result_ok (decode_of t)) None ≡ Some xs) (sym e)
    (ap (λ b. cond b (result_ok (decode_of (encode_lower xs))) None)
    (and_from _ _ ((Decides-eqb (length (encode_lower xs)) 64).1 (length-encode_with lower_digits xs ∙ ap (λ n. 2 * n) long)) (all_lower xs bytes))
    ∙ ap result_ok (decode_of-encode_lower xs bytes))
