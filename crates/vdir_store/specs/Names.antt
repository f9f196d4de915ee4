-- Which files of a folder are items, by their names (this project's own, after the vdir specification: one file per item).
use Rattle.std.specs.Prelude.{◌≡◌, ◌==◌, ℕ, Bool, false, not, ◌&&◌, List, [], ◌∷◌, length, nat_lt, nat_eq}
use Rattle.std.specs.List.{ends_with, list_all}

-- `.tmp`: what such a file holds isn't whole yet
abbrev pub tmp_ending : List ℕ
tmp_ending = 46 ∷ 116 ∷ 109 ∷ 112 ∷ []

abbrev pub is_slash : ℕ → Bool
is_slash b = b == 47

-- an ending begins with a dot, and has another byte and no `/`
abbrev pub is_ending : List ℕ → Bool
is_ending [] = false
is_ending (first ∷ rest) = first == 46 && (nat_lt 0 (length rest) && list_all (λ b. not (is_slash b)) rest)

-- the clauses on content don't speak of an ending that ends with `.tmp`
abbrev pub SpeaksOf : List ℕ → Type 0
SpeaksOf ending = ends_with nat_eq ending tmp_ending ≡ false

-- whether a file of this name is an item: the name ends with the ending, is longer, and doesn't end with `.tmp`
unfoldable pub is_item : List ℕ → List ℕ → Bool
is_item ending name = ends_with nat_eq name ending && (nat_lt (length ending) (length name) && not (ends_with nat_eq name tmp_ending))
