-- Names and keys are ASCII.
use Rattle.std.proofs.Common.{◌≡◌, ℕ, zero, suc, ◌+◌, ◌<◌, Bool, true, false, cond, not, List, [], ◌∷◌, take, map, Some, refl, sym, ◌∙◌, ap, subst, arith}
use Rattle.std.specs.List.{list_all, position, position_or_len}
use Rattle.std.specs.Char.{to_ascii_lowercase}
use Rattle.std.specs.Str.{IsAscii}
use Rattle.std.proofs.lemmas.Bool.{and_parts}
use Rattle.std.proofs.lemmas.Bool.Decides.{nat_tests}
use Rattle.config_ini.specs.Lines.{is_name_byte, is_name, is_key_byte}
use Rattle.config_ini.proofs.Cuts.{found_at}

name_small : (b : ℕ) → is_name_byte b ≡ true → b < 128
name_small b h = grind (arith, nat_tests)

all_small : (name : List ℕ) → list_all is_name_byte name ≡ true → IsAscii name
all_small [] h i = omega arith
all_small (b ∷ bs) h zero = name_small b (and_parts _ _ h).0
all_small (b ∷ bs) h (suc i) = all_small bs (and_parts _ _ h).1 i

pub name_is_ascii : (name : List ℕ) → is_name name ≡ true → IsAscii name
name_is_ascii name h = all_small name (and_parts _ _ h).1

key_small : (b : ℕ) → not (is_key_byte b) ≡ false → b < 128
key_small b h = grind (arith, nat_tests)

abbrev ends_key : ℕ → Bool
ends_key x = not (is_key_byte x)

key_by : (b : ℕ) (bs : List ℕ) (m : ℕ) (t : Bool) → t ≡ not (is_key_byte b) → IsAscii (take m bs) → IsAscii (take (cond (not t) (suc m) 0) (b ∷ bs))
key_by b bs m true e h i = omega arith
key_by b bs m false e h zero = key_small b (sym e)
key_by b bs m false e h (suc i) = h i

-- what stands before the first byte that no key has
before_ascii : (text : List ℕ) → IsAscii (take (position_or_len ends_key text) text)
before_ascii [] i = omega arith
before_ascii (b ∷ bs) i =
    let one : 1 + position_or_len ends_key bs ≡ suc (position_or_len ends_key bs) = omega arith in
    subst (λ (n : ℕ). IsAscii (take (cond (not (not (is_key_byte b))) n 0) (b ∷ bs))) (sym one)
    (key_by b bs (position_or_len ends_key bs) (not (is_key_byte b)) refl (before_ascii bs)) i

pub key_is_ascii : (text key : List ℕ) (k : ℕ) → position (λ b. not (is_key_byte b)) text ≡ Some k → key ≡ take k text → IsAscii key
key_is_ascii text key k h is =
    subst IsAscii (ap (λ (n : ℕ). take n text) (found_at (λ b. not (is_key_byte b)) text k h).1 ∙ sym is) (before_ascii text)

lower_small : (b : ℕ) → b < 128 → to_ascii_lowercase b < 128
lower_small b h = grind (arith, nat_tests)

pub lower_is_ascii : (key : List ℕ) → IsAscii key → IsAscii (map to_ascii_lowercase key)
lower_is_ascii [] h i = omega arith
lower_is_ascii (b ∷ bs) h zero = lower_small b (h 0)
lower_is_ascii (b ∷ bs) h (suc i) = lower_is_ascii bs (λ k. h (suc k)) i

pub front_is_ascii : (n : ℕ) (key : List ℕ) → IsAscii key → IsAscii (take n key)
front_is_ascii zero key h i = omega arith
front_is_ascii (suc n) [] h i = omega arith
front_is_ascii (suc n) (b ∷ bs) h zero = h 0
front_is_ascii (suc n) (b ∷ bs) h (suc i) = front_is_ascii n bs (λ k. h (suc k)) i
