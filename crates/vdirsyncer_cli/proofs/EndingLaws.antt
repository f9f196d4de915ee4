-- The endings that a configuration may give are endings that a store of a folder takes.
use Rattle.std.proofs.Common.{◌≡◌, ◌==◌, ◌||◌, ◌&&◌, not, ℕ, suc, List, [], ◌∷◌, length, nat_lt, Bool, true, false, refl, ◌∙◌, ap, arith}
use Rattle.std.specs.Prelude.{codes, nat_eq}
use Rattle.std.specs.List.{list_all, list_any, starts_with}
use Rattle.std.specs.Str.{bytes_eq}
use Rattle.config_model.specs.Meanings.{has_control}
use Rattle.config_settle.specs.Texts.{is_ending as may_end, has_slash}
use Rattle.vdir_store.specs.Names.{is_slash, is_ending}

both : (p q : Bool) → (p && q) ≡ true → (p ≡ true) × (q ≡ true)
both true q e = (refl, e)
both false q e = absurd (let clash : false ≡ true = e in cc)

not_so : (p : Bool) → not p ≡ true → p ≡ false
not_so true e = absurd (let clash : false ≡ true = e in cc)
not_so false e = refl

neither : (p q : Bool) → (p || q) ≡ false → (p ≡ false) × (q ≡ false)
neither true q e = absurd (let clash : true ≡ false = e in cc)
neither false q e = (refl, e)

and : (p q : Bool) → p ≡ true → q ≡ true → (p && q) ≡ true
and p q e f = ap (λ (b : Bool). b && q) e ∙ f

-- none is a slash
no_slash : (t : List ℕ) → list_any (λ b. b == 47) t ≡ false → list_all (λ b. not (is_slash b)) t ≡ true
no_slash [] e = refl
no_slash (b ∷ bs) e =
    let parts = neither (b == 47) (list_any (λ c. c == 47) bs) e in
    and (not (is_slash b)) (list_all (λ c. not (is_slash c)) bs) (ap not parts.0) (no_slash bs parts.1)

begins : (b : ℕ) (bs : List ℕ) → may_end (b ∷ bs) ≡ true → (b == 46) ≡ true
begins b bs e = grind arith

longer : (n : ℕ) → nat_lt 1 (suc n) ≡ true → nat_lt 0 n ≡ true
longer n e = grind arith

pub store_takes : (t : List ℕ) → may_end t ≡ true → is_ending t ≡ true
store_takes [] e = absurd (let clash : false ≡ true = e in cc)
store_takes (b ∷ bs) e =
    let other = not (has_control (b ∷ bs)) && not (bytes_eq (b ∷ bs) (codes ".tmp")) in
    let parts = both (starts_with nat_eq (b ∷ bs) (codes ".")) (nat_lt 1 (length (b ∷ bs)) && (not (has_slash (b ∷ bs)) && other)) e in
    let long = both (nat_lt 1 (length (b ∷ bs))) (not (has_slash (b ∷ bs)) && other) parts.1 in
    let plain = both (not (has_slash (b ∷ bs))) other long.1 in
    let slashes = neither (b == 47) (list_any (λ c. c == 47) bs) (not_so (has_slash (b ∷ bs)) plain.0) in
    and (b == 46) (nat_lt 0 (length bs) && list_all (λ c. not (is_slash c)) bs) (begins b bs e)
    (and (nat_lt 0 (length bs)) (list_all (λ c. not (is_slash c)) bs) (longer (length bs) long.0) (no_slash bs slashes.1))
