-- Changes: what the changes of an item's lines are like at their ends.
use Rattle.std.proofs.Common.{◌≡◌, ℕ, List, [], ◌∷◌, map}
use Rattle.item_text.specs.Lines.{Line, unfolded}
use Rattle.item_text.specs.declared.edit.Change.{Change}
use Rattle.item_text.specs.declared.edit.Change.TheVariants.{Stays, Replaced, Followed}

-- the texts of the logical lines that physical lines make
unfoldable pub texts_of : List (List ℕ) → List (List ℕ)
texts_of physical = map (λ (line : Line). line.text) (unfolded physical)

-- a line's text as its one part
abbrev pub alone : List ℕ → List (List ℕ)
alone text = text ∷ []

-- the last line stays
unfoldable pub EndsStays : List Change → Type 0
EndsStays [] = Unit {0}
EndsStays (change ∷ []) = change ≡ Stays
EndsStays (change ∷ next ∷ more) = EndsStays (next ∷ more)

-- the first line isn't replaced
unfoldable pub BeginsKept : List Change → Type 0
BeginsKept [] = Unit {0}
BeginsKept (Stays ∷ more) = Unit {0}
BeginsKept (Replaced ∷ more) = ⊥
BeginsKept (Followed ∷ more) = Unit {0}
