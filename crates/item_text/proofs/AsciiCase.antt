-- Words in any ASCII case.
use Rattle.std.proofs.Common.{◌≡◌, ◌↔◌, IsTrue, ℕ, Bool, true, false, not, List, [], ◌∷◌, ◌++◌, map, refl, sym, ◌∙◌, ap, arith}
use Rattle.std.specs.Str.{bytes_eq}
use Rattle.std.specs.Char.{to_ascii_uppercase, to_ascii_lowercase}
use Rattle.std.proofs.lemmas.Str.Ascii.{lowercase-uppercase}
use Rattle.std.proofs.lemmas.Slice.Eq.{bytes_eq-Decides}
use Rattle.std.proofs.lemmas.Bool.Decides.{nat_tests}
use Rattle.std.specs.List.{list_all}
use Rattle.std.proofs.lemmas.Bool.{and_parts}
use Rattle.item_text.specs.Components.{upper, is_lower}

upper-lower : (c : ℕ) → to_ascii_uppercase (to_ascii_lowercase c) ≡ to_ascii_uppercase c
upper-lower c = grind (arith, nat_tests)

abbrev lower : List ℕ → List ℕ
lower text = map to_ascii_lowercase text

lower_of_upper : (text : List ℕ) → lower (upper text) ≡ lower text
lower_of_upper [] = refl
lower_of_upper (c ∷ cs) =
    let head : to_ascii_lowercase (to_ascii_uppercase c) ≡ to_ascii_lowercase c = lowercase-uppercase c in
    let rest : lower (upper cs) ≡ lower cs = lower_of_upper cs in
    ap (λ x. x ∷ lower (upper cs)) head ∙ ap (λ xs. to_ascii_lowercase c ∷ xs) rest

upper_of_lower : (text : List ℕ) → upper (lower text) ≡ upper text
upper_of_lower [] = refl
upper_of_lower (c ∷ cs) =
    let head : to_ascii_uppercase (to_ascii_lowercase c) ≡ to_ascii_uppercase c = upper-lower c in
    let rest : upper (lower cs) ≡ upper cs = upper_of_lower cs in
    ap (λ x. x ∷ upper (lower cs)) head ∙ ap (λ xs. to_ascii_uppercase c ∷ xs) rest

decided : (r b : Bool) (P Q : Type 0) → (IsTrue r ↔ P) → (P → Q) → (Q → P) → (b ≡ true → Q) → (Q → b ≡ true) → r ≡ b
decided true true P Q h to back sees means = refl
decided true false P Q h to back sees means = sym (means (to (h.0 refl)))
decided false true P Q h to back sees means = h.1 (back (sees refl))
decided false false P Q h to back sees means = refl

-- two texts are the same in lower case just where they are in upper case
pub same_word : (r : Bool) (a b : List ℕ) → (IsTrue r ↔ (map to_ascii_lowercase a ≡ map to_ascii_lowercase b)) → r ≡ bytes_eq (upper a) (upper b)
same_word r a b h =
    decided r (bytes_eq (upper a) (upper b)) (lower a ≡ lower b) (upper a ≡ upper b) h
    (λ e. sym (upper_of_lower a) ∙ (ap upper e ∙ upper_of_lower b))
    (λ e. sym (lower_of_upper a) ∙ (ap lower e ∙ lower_of_upper b))
    (bytes_eq-Decides (upper a) (upper b)).0 (bytes_eq-Decides (upper a) (upper b)).1

-- a text without lower-case letters is in upper case
kept_upper : (c : ℕ) → not (is_lower c) ≡ true → to_ascii_uppercase c ≡ c
kept_upper c h = grind (arith, nat_tests, h)

pub is_upper : (text : List ℕ) → list_all (λ b. not (is_lower b)) text ≡ true → upper text ≡ text
is_upper [] h = refl
is_upper (c ∷ cs) h =
    let parts = and_parts (not (is_lower c)) (list_all (λ b. not (is_lower b)) cs) h in
    λ i. kept_upper c parts.0 i ∷ is_upper cs parts.1 i

pub headed : (text head rest name : List ℕ) → text ≡ head ++ rest → rest ≡ name → list_all (λ b. not (is_lower b)) text ≡ true → text ≡ upper (head ++ name)
headed text head rest name cut same h = sym (is_upper text h) ∙ ap upper (cut ∙ ap (λ (t : List ℕ). head ++ t) same)
