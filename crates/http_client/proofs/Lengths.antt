-- Lemmas on the lengths that Content-Length tells, of specs/Heads.antt
use Rattle.std.proofs.Common.{◌≡◌, refl, ℕ, ◌+◌, ◌-◌, ◌*◌, ◌^◌, ◌<◌, ◌≤◌, List, [], ◌∷◌, Bool, true, false, ◌&&◌, length, take, get_or, leb, arith}
use Rattle.std.specs.List.{list_all}
use Rattle.std.specs.Char.{is_ascii_digit}
use Rattle.std.specs.Int.{IsInRange}
use Rattle.std.specs.Str.Parse.{AllDigits, digits_value}
use Rattle.std.proofs.lemmas.Bool.{leb-true}
use Rattle.std.proofs.lemmas.Str.{digit_value_digit}
use Rattle.std.proofs.lemmas.Str.Parse.{tells_digits, digit_at, digits_value-take-le, digits_value_short, numerals_by_value}
use Rattle.std.proofs.lemmas.Int.Digits.{digits_value_more}
use Rattle.http_client.specs.Heads.{is_length}

pub both_true : (a b : Bool) → (a && b) ≡ true → (a ≡ true) × (b ≡ true)
both_true true b h = (refl, h)
both_true false b h = cc

digit_range : (c : ℕ) → is_ascii_digit c ≡ true → IsInRange 48 57 c
digit_range c h =
    let parts = both_true (leb 48 c) (leb c 57) h in
    (leb-true 48 c parts.0, leb-true c 57 parts.1)

all_digits : (v : List ℕ) → list_all is_ascii_digit v ≡ true → AllDigits 10 v
all_digits [] h = tells_digits.empty
all_digits (c ∷ cs) h =
    let parts = both_true (is_ascii_digit c) (list_all is_ascii_digit cs) h in
    tells_digits.more c cs (digit_range c parts.0) (all_digits cs parts.1)

length_parts : (v : List ℕ) → is_length v ≡ true → (length v ≤ 18) × AllDigits 10 v
length_parts v h =
    let parts = both_true (leb 1 (length v) && leb (length v) 18) (list_all is_ascii_digit v) h in
    let bounds = both_true (leb 1 (length v)) (leb (length v) 18) parts.0 in
    (leb-true (length v) 18 bounds.1, all_digits v parts.1)

pub record IsNumberStep (v : List ℕ) (i n : ℕ) : Type 0 where
  pub low : 48 ≤ get_or v i 0
  pub next : n * 10 + (get_or v i 0 - 48) ≡ digits_value 10 (take (i + 1) v)
  pub small : n * 10 + (get_or v i 0 - 48) < 10 ^ 18

pub number_step : (v : List ℕ) (i n : ℕ) → is_length v ≡ true → i < length v → n ≡ digits_value 10 (take i v) → IsNumberStep v i n
number_step v i n h lt now =
    let parts = length_parts v h in
    let range = digit_at v i parts.1 lt in
    let value = digit_value_digit (get_or v i 0) range in
    let more = digits_value_more 10 v i lt in
    let next : n * 10 + (get_or v i 0 - 48) ≡ digits_value 10 (take (i + 1) v) = omega arith in
    let one : 1 ≤ 10 = omega arith in
    let most = digits_value-take-le 10 v (i + 1) one in
    let short = digits_value_short (numerals_by_value (AllDigits 10) tells_digits) v 18 parts.1 parts.0 in
    record { low = range.0; next = next; small = omega arith }
