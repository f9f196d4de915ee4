-- Lists of which each part is looked at in turn.
use Rattle.std.proofs.Common.{◌≡◌, ℕ, ◌+◌, ◌<◌, ◌≤◌, List, [], ◌∷◌, ◌++◌, length, drop, get_or, Option, Some, None, refl, sym, ◌∙◌, ap, append-nil, append_assoc}
use Rattle.std.specs.Prelude.{option_map, option_and_then}
use Rattle.std.proofs.Math.ListN.{drop_of_length-le}
use Rattle.config_model.specs.Meanings.{all_found}
use Rattle.config_model.proofs.Rests.{rest_is}
use Rattle.config_ini.proofs.Collected.{onto}

module _ {A B : Type 0} (f : A → Option B) where
  step : (x : A) (xs : List A) → all_found f (x ∷ xs) ≡ option_and_then (λ y. option_map (λ ys. y ∷ ys) (all_found f xs)) (f x)
  unfolding all_found
  step x xs = refl

  onto_next : (done : List B) (y : B) (found : Option (List B)) → onto done (option_map (λ ys. y ∷ ys) found) ≡ onto (done ++ y ∷ []) found
  onto_next done y None = refl
  onto_next done y (Some more) = ap (λ (ys : List B). Some ys) (sym (append_assoc done (y ∷ []) more))

  pub part_found : (done next : List B) (y : B) (xs : List A) (i : ℕ) (x : A) → i < length xs → x ≡ get_or xs i x → next ≡ done ++ y ∷ [] → f x ≡ Some y
      → onto done (all_found f (drop i xs)) ≡ all_found f xs → onto next (all_found f (drop (i + 1) xs)) ≡ all_found f xs
  part_found done next y xs i x within at is found on =
      ap (λ (d : List B). onto d (all_found f (drop (i + 1) xs))) is
      ∙ sym (onto_next done y (all_found f (drop (i + 1) xs)))
      ∙ ap (λ (o : Option B). onto done (option_and_then (λ z. option_map (λ ys. z ∷ ys) (all_found f (drop (i + 1) xs))) o)) (sym found)
      ∙ ap (onto done) (sym (step x (drop (i + 1) xs)))
      ∙ ap (λ (l : List A). onto done (all_found f l)) (sym (rest_is xs i x within at))
      ∙ on

  pub part_missed : (done : List B) (xs : List A) (i : ℕ) (x : A) → i < length xs → x ≡ get_or xs i x → f x ≡ None
      → onto done (all_found f (drop i xs)) ≡ all_found f xs → None ≡ all_found f xs
  part_missed done xs i x within at none on =
      ap (λ (o : Option B). onto done (option_and_then (λ z. option_map (λ ys. z ∷ ys) (all_found f (drop (i + 1) xs))) o)) (sym none)
      ∙ ap (onto done) (sym (step x (drop (i + 1) xs)))
      ∙ ap (λ (l : List A). onto done (all_found f l)) (sym (rest_is xs i x within at))
      ∙ on

  pub parts_found : (done : List B) (xs : List A) (i : ℕ) → length xs ≤ i → onto done (all_found f (drop i xs)) ≡ all_found f xs → Some done ≡ all_found f xs
  unfolding all_found
  parts_found done xs i over on =
      ap (λ (ys : List B). Some ys) (sym (append-nil done)) ∙ ap (λ (l : List A). onto done (all_found f l)) (sym (drop_of_length-le xs over)) ∙ on
