-- Unfolds: the logical lines that a text gives.
use Rattle.std.specs.Prelude.{◌≡◌, ℕ, ◌==◌, false, nat_eq, List, [], ◌∷◌, map}
use Rattle.std.specs.List.{All, starts_with}
use Rattle.std.specs.Str.Lines.{lines}
use Rattle.std.specs.Str.{IsUtf8}
use Rattle.item_text.specs.Lines.{Line, continues, unfolded, logical_lines}

-- the texts of the logical lines of a text
abbrev pub line_texts : List ℕ → List (List ℕ)
line_texts text = map (λ (line : Line). line.text) (logical_lines text)

-- the texts of the logical lines of what stands behind another line: a byte order mark at its front stays
abbrev pub texts_behind : List ℕ → List (List ℕ)
texts_behind text = map (λ (line : Line). line.text) (unfolded (lines text))

-- a text without a line feed
abbrev pub HasNoFeed : List ℕ → Type 0
HasNoFeed text = All (λ b. (b == 10) ≡ false) text

-- a text without a byte order mark at its front
abbrev pub HasNoMark : List ℕ → Type 0
HasNoMark text = starts_with nat_eq text (239 ∷ 187 ∷ 191 ∷ []) ≡ false

-- a line that can be written and is read again as one: UTF-8 without a line feed, which begins with no space and no tab
pub record IsLine (line : List ℕ) : Type 0 where
  pub utf8 : IsUtf8 line
  pub no_feed : HasNoFeed line
  pub begins : continues line ≡ false

-- lines that can be written one behind another and are read again as they are: the first begins with no byte order mark
abbrev pub AreLines : List (List ℕ) → Type 0
AreLines [] = Unit {0}
AreLines (line ∷ rest) = HasNoMark line × All IsLine (line ∷ rest)
