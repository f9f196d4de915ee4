-- Written: the bytes of lines and parts that are written folded.
use Rattle.std.specs.Prelude.{ℕ, zero, suc, nat_le, if◌then◌else◌, List, [], ◌∷◌, length, take, drop}
use Rattle.std.specs.List.{flat_map}
use Rattle.file_text.specs.Folds.{fitting, folded_of}
use Rattle.file_text.specs.declared.marks.Mark.{Mark}

-- the pieces that a line is written in, at most `count` and one, where the first may have `room` bytes
unfoldable pub pieces_of : ℕ → ℕ → List ℕ → List (List ℕ)
pieces_of zero room line = line ∷ []
pieces_of (suc count) room line =
    if nat_le (length line) room then line ∷ [] else take (fitting room line) line ∷ pieces_of count 74 (drop (fitting room line) line)

-- The bytes of a line written folded: a physical line has at most 75, with the space that begins each behind the first. RFC 5545 section
-- 3.1, RFC 6350 section 3.2.
unfoldable pub folded : List ℕ → List ℕ
folded line = folded_of (pieces_of (length line) 75 line)

-- the lines of a part, and those of parts, written one behind another
unfoldable pub written : List Mark → List ℕ
written part = flat_map (λ (line : Mark). folded line.text) part

unfoldable pub all_written : List (List Mark) → List ℕ
all_written parts = flat_map written parts
