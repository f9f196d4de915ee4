use Rattle.std.proofs.Common.{◌≡◌, ◌++◌, ◌∷◌, [], List, ℕ, Bor, map, refl, ap, ◌∙◌}
use Rattle.std.specs.List.{flat_map}
use Rattle.config_settle.specs.Paths.{kept_segment, segments_of}
use Rattle.config_settle.proofs.paths.kept_path.Goals as goal

flat_map-seen : (f : List ℕ → List ℕ) (xs : List (Bor (List ℕ))) → flat_map (λ s. f s.now) xs ≡ flat_map f (map (λ s. s.now) xs)
flat_map-seen f [] = refl
flat_map-seen f (x ∷ xs) = ap (λ (r : List ℕ). f x.now ++ r) (flat_map-seen f xs)

pub returns : goal.returns
returns c =
    let all : c.as_slice.result.now ≡ c.in_ok-parts.parts.items = cc in
    let same : flat_map (λ (s : Bor (List ℕ)). kept_segment s.now) c.as_slice.result.now ≡ flat_map kept_segment (segments_of c.args.path.now) =
    ap (flat_map (λ (s : Bor (List ℕ)). kept_segment s.now)) all
    ∙ flat_map-seen kept_segment c.in_ok-parts.parts.items
    ∙ ap (flat_map kept_segment) c.in_ok-parts.ensures in
    rw same at c.joined.ensures
