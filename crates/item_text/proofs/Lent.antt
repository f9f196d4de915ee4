-- Lent lines: the lines behind a place of a list of lent ones.
use Rattle.std.proofs.Common.{◌≡◌, ℕ, ◌+◌, ◌<◌, ◌≤◌, List, [], ◌∷◌, map, length, drop, get_or, Bor, ap}
use Rattle.std.proofs.lemmas.List.{drop_more, drop_all}

pub next_lent : (xs : List (Bor (List ℕ))) (i : ℕ) (d : Bor (List ℕ)) → i < length xs
    → map (λ (x : Bor (List ℕ)). x.now) (drop i xs) ≡ (get_or xs i d).now ∷ map (λ (x : Bor (List ℕ)). x.now) (drop (i + 1) xs)
next_lent xs i d h = ap (map (λ (x : Bor (List ℕ)). x.now)) (drop_more xs i d h)

pub none_lent : (xs : List (Bor (List ℕ))) (i : ℕ) → length xs ≤ i → map (λ (x : Bor (List ℕ)). x.now) (drop i xs) ≡ []
none_lent xs i h = ap (map (λ (x : Bor (List ℕ)). x.now)) (drop_all i xs h)
