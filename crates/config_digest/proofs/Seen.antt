-- Lists of references, seen as the list of what stands behind them.
use Rattle.std.proofs.Common.{◌≡◌, ℕ, zero, suc, ◌+◌, length, not, Bor, Bool, cond, List, [], ◌∷◌, ◌++◌, take, drop, map, refl, ap, ◌∙◌}
use Rattle.std.specs.Prelude.{position}
use Rattle.std.specs.List.{prefix_len, insert, flat_map}

abbrev pub seen : {A : Type 0} → List (Bor A) → List A
seen xs = map (λ e. e.now) xs

pub take_seen : {A : Type 0} (k : ℕ) (xs : List (Bor A)) → seen (take k xs) ≡ take k (seen xs)
take_seen zero xs = refl
take_seen (suc k) [] = refl
take_seen {A} (suc k) (x ∷ xs) = ap (λ (l : List A). x.now ∷ l) (take_seen k xs)

pub drop_seen : {A : Type 0} (k : ℕ) (xs : List (Bor A)) → seen (drop k xs) ≡ drop k (seen xs)
drop_seen zero xs = refl
drop_seen (suc k) [] = refl
drop_seen (suc k) (x ∷ xs) = drop_seen k xs

pub append_seen : {A : Type 0} (xs ys : List (Bor A)) → seen (xs ++ ys) ≡ seen xs ++ seen ys
append_seen [] ys = refl
append_seen {A} (x ∷ xs) ys = ap (λ (l : List A). x.now ∷ l) (append_seen xs ys)

pub insert_seen : {A : Type 0} (xs : List (Bor A)) (k : ℕ) (x : Bor A) → seen (insert xs k x) ≡ insert (seen xs) k x.now
insert_seen {A} xs k x =
    append_seen (take k xs) (x ∷ drop k xs)
    ∙ ap (λ (l : List A). l ++ x.now ∷ seen (drop k xs)) (take_seen k xs)
    ∙ ap (λ (l : List A). take k (seen xs) ++ x.now ∷ l) (drop_seen k xs)

prefix_seen : {A : Type 0} (p : A → Bool) (xs : List (Bor A)) → prefix_len (λ o. p o.now) xs ≡ prefix_len p (seen xs)
prefix_seen p [] = refl
prefix_seen p (x ∷ xs) = ap (λ (n : ℕ). cond (p x.now) (1 + n) 0) (prefix_seen p xs)

length_seen : {A : Type 0} (xs : List (Bor A)) → length xs ≡ length (seen xs)
length_seen [] = refl
length_seen (x ∷ xs) = ap suc (length_seen xs)

pub position_seen : {A : Type 0} (p : A → Bool) (xs : List (Bor A)) → position (λ o. p o.now) xs ≡ position p (seen xs)
position_seen p xs = rw (prefix_seen (λ b. not (p b)) xs) (rw (length_seen xs) refl)

pub flat_map_seen : {A B : Type 0} (f : A → List B) (xs : List (Bor A)) → flat_map (λ e. f e.now) xs ≡ flat_map f (seen xs)
flat_map_seen f [] = refl
flat_map_seen {A} {B} f (x ∷ xs) = ap (λ (l : List B). f x.now ++ l) (flat_map_seen f xs)
