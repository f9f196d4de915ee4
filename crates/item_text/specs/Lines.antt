-- Lines: the physical lines of a text, and the logical lines that unfolding makes of them.
use Rattle.std.specs.Prelude.{ℕ, suc, ◌==◌, Bool, false, ◌||◌, nat_eq, if◌then◌else◌, List, [], ◌∷◌, ◌++◌, drop}
use Rattle.std.specs.List.{starts_with}
use Rattle.std.specs.Str.Lines.{lines}

-- a space or a tab
abbrev pub is_blank : ℕ → Bool
is_blank b = (b == 32) || (b == 9)

-- a text without the spaces and tabs at its front
unfoldable pub trim_front : List ℕ → List ℕ
trim_front [] = []
trim_front (b ∷ bs) = if is_blank b then trim_front bs else b ∷ bs

-- a byte in front of a text that is trimmed at its end
unfoldable pub before_trimmed : ℕ → List ℕ → List ℕ
before_trimmed b [] = if is_blank b then [] else b ∷ []
before_trimmed b (c ∷ cs) = b ∷ c ∷ cs

-- a text without the spaces and tabs at its end
unfoldable pub trim_back : List ℕ → List ℕ
trim_back [] = []
trim_back (b ∷ bs) = before_trimmed b (trim_back bs)

-- a text without spaces and tabs at both ends
unfoldable pub trimmed : List ℕ → List ℕ
trimmed text = trim_back (trim_front text)

-- a text without the U+FEFF at its front: this project's own, for files that begin with one
unfoldable pub without_mark : List ℕ → List ℕ
without_mark text = if starts_with nat_eq text (239 ∷ 187 ∷ 191 ∷ []) then drop 3 text else text

-- The physical lines. Each ends at a line feed, and one carriage return before that is dropped. A last line without a line feed counts.
unfoldable pub physical_lines : List ℕ → List (List ℕ)
physical_lines text = lines (without_mark text)

-- whether a physical line, unless it is the first, continues the one before: RFC 5545 section 3.1, RFC 6350 section 3.2
unfoldable pub continues : List ℕ → Bool
continues [] = false
continues (b ∷ bs) = is_blank b

-- a logical line, with the number of its first physical line
pub record Line : Type 0 where
  pub number : ℕ
  pub text : List ℕ

-- what the physical lines that continue a line add to it: each without its first character
unfoldable pub continuation : List (List ℕ) → List ℕ
continuation [] = []
continuation (line ∷ rest) = if continues line then drop 1 line ++ continuation rest else []

-- the logical lines that begin in these physical lines, the first of which has the number n
unfoldable pub lines_from : ℕ → List (List ℕ) → List Line
lines_from n [] = []
lines_from n (line ∷ rest) =
    if continues line then lines_from (suc n) rest
    else record { number = n; text = line ++ continuation rest } ∷ lines_from (suc n) rest

-- the logical lines of physical lines, of which the first never continues another
unfoldable pub unfolded : List (List ℕ) → List Line
unfolded [] = []
unfolded (line ∷ rest) = record { number = 1; text = line ++ continuation rest } ∷ lines_from 2 rest

-- the logical lines of a text
unfoldable pub logical_lines : List ℕ → List Line
logical_lines text = unfolded (physical_lines text)
