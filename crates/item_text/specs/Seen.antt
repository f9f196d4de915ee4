-- Seen: what the values of a reader stand for.
use Rattle.std.specs.Prelude.{ℕ, suc, ◌+◌, List, [], ◌∷◌, ◌++◌, length, Option, Some, None}
use Rattle.std.specs.Str.Lines as physical
use Rattle.item_text.specs.Lines as spec
use Rattle.item_text.specs.Lines.{continuation, lines_from}
use Rattle.item_text.specs.declared.lines.Line.{Line}
use Rattle.item_text.specs.declared.lines.Lines.{Lines}

-- a logical line, with the number of its first physical line
abbrev pub line_seen : Line → spec.Line
line_seen line = record { number = line.number; text = line.text.now }

-- The logical lines that are still to come, where the line `begun` is begun and the next physical line has the number behind n:
-- without a line begun, the next one begins, whatever it looks like.
unfoldable pub behind : Option spec.Line → ℕ → List (List ℕ) → List spec.Line
behind None n [] = []
behind None n (line ∷ rest) = record { number = suc n; text = line ++ continuation rest } ∷ lines_from (suc (suc n)) rest
behind (Some begun) n rest = record { number = begun.number; text = begun.text ++ continuation rest } ∷ lines_from (suc n) rest

-- the logical lines that a reader still gives, where the line `begun` is begun
abbrev pub left_behind : Option spec.Line → Lines → List spec.Line
left_behind begun lines = behind begun lines.passed (physical.lines lines.rest.now)

-- how many physical lines the whole text has
abbrev pub count_of : Lines → ℕ
count_of lines = lines.passed + length (physical.lines lines.rest.now)

-- no fewer than the physical lines of the whole text
abbrev pub size_of : Lines → ℕ
size_of lines = lines.passed + length lines.rest.now
