-- A walk over a list that goes through states, one step for each element, up to the first that stops it (this project's own).
use Rattle.std.specs.Prelude.{◌≡◌, ◌⊎◌, List, [], ◌∷◌, ◌++◌, Result, Ok, Err}

-- from a state to a state, with what each element came to, or with what the first came to that stopped
abbrev pub Walk : {W X Y E : Type 0} → (W → W → X → Result Y E → Type 0) → W → W → List X → Result (List Y) E → Type 0
Walk Step s t [] (Ok []) = t ≡ s
Walk Step s t [] (Ok (y ∷ ys)) = ⊥
Walk Step s t [] (Err e) = ⊥
Walk Step s t (x ∷ xs) (Ok []) = ⊥
Walk Step s t (x ∷ xs) (Ok (y ∷ ys)) = (m : _) × Step s m x (Ok y) × Walk Step m t xs (Ok ys)
Walk Step s t (x ∷ xs) (Err e) = Step s t x (Err e) ⊎ ((m : _) × (y : _) × Step s m x (Ok y) × Walk Step m t xs (Err e))

-- what some came to, before what the rest came to
abbrev pub behind : {Y E : Type 0} → List Y → Result (List Y) E → Result (List Y) E
behind done (Ok ys) = Ok (done ++ ys)
behind done (Err e) = Err e
