use Rattle.std.proofs.Common.{◌≡◌, ◌++◌, ◌∷◌, [], List, ℕ, Bor, map, refl, ap, ◌∙◌}
use Rattle.std.specs.List.{flat_map}
use Rattle.url_paths.specs.Paths.{behind_slash, behind_first, segments_of, rooted}
use Rattle.url_paths.proofs.escaped.rooted.Goals as goal

seen : (f : List ℕ → List ℕ) (xs : List (Bor (List ℕ))) → flat_map (λ s. f s.now) xs ≡ flat_map f (map (λ s. s.now) xs)
seen f [] = refl
seen f (x ∷ xs) = ap (λ (r : List ℕ). f x.now ++ r) (seen f xs)

rest_seen : (f : List ℕ → List ℕ) (xs : List (Bor (List ℕ))) → flat_map (λ s. f s.now) (behind_first xs) ≡ flat_map f (behind_first (map (λ s. s.now) xs))
rest_seen f [] = refl
rest_seen f (x ∷ xs) = seen f xs

pub returns : goal.returns
unfolding rooted
returns c =
    let all : c.as_slice.result.now ≡ c.in_ok-parts.parts.items = cc in
    let same : flat_map (λ (s : Bor (List ℕ)). behind_slash s.now) (behind_first c.as_slice.result.now) ≡ flat_map behind_slash (behind_first (segments_of c.args.path.now)) =
    ap (λ (xs : List (Bor (List ℕ))). flat_map (λ (s : Bor (List ℕ)). behind_slash s.now) (behind_first xs)) all
    ∙ rest_seen behind_slash c.in_ok-parts.parts.items
    ∙ ap (λ (xs : List (List ℕ)). flat_map behind_slash (behind_first xs)) c.in_ok-parts.ensures in
    rw same at c.behind_first.ensures
