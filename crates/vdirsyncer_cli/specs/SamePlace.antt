-- When two of a job's three places are the same (this project's own).
use Rattle.std.specs.Prelude.{◌≡◌, ◌⊎◌, ℕ, List}

-- two of the three normalised locations are equal
abbrev pub IsSamePlace : List ℕ → List ℕ → List ℕ → Type 0
IsSamePlace a b status = (a ≡ b) ⊎ (a ≡ status) ⊎ (b ≡ status)
