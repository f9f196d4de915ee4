-- Logical lines of a configuration: heads of sections, and keys with their values (this project's own).
use Rattle.std.specs.Prelude.{ℕ, ◌+◌, Bool, true, false, List, [], ◌∷◌, ◌++◌}
use Rattle.std.specs.Str.Lines.{lines}
use Rattle.config_ini.specs.declared.kinds.LineKind.{LineKind}
use Rattle.config_ini.specs.declared.kinds.LineKind.TheVariants as line
use Rattle.config_ini.specs.declared.kinds.Logical.{Logical}
use Rattle.config_ini.specs.declared.kinds.Logical.TheVariants as logical
use Rattle.config_ini.specs.Lines.{kind_of}

-- what a line of this kind, and those behind it, add to the value of the key before it
abbrev pub goes_on : LineKind → List ℕ → List ℕ → List ℕ
goes_on line.Passed text more = more
goes_on line.Continued text more = 10 ∷ (text ++ more)
goes_on (line.Section title) text more = []
goes_on (line.Key key value) text more = []
goes_on line.Bad text more = []

-- what lines add to the value of a key before them: those that begin with a blank, each behind a line feed
unfoldable pub continuation : List (List ℕ) → List ℕ
continuation [] = []
continuation (text ∷ rest) = goes_on (kind_of text) text (continuation rest)

-- the logical line that begins at the line n of this kind, where a key may be held open before it
abbrev pub begun : Bool → ℕ → LineKind → List ℕ → List Logical
begun held n line.Passed more = []
begun true n line.Continued more = []
begun false n line.Continued more = logical.Bad n ∷ []
begun held n (line.Section title) more = logical.Section n title ∷ []
begun held n (line.Key key value) more = logical.Key (record { number = n; key = key; value = value ++ more }) ∷ []
begun held n line.Bad more = logical.Bad n ∷ []

-- whether a key is held open behind the line
abbrev pub holds : Bool → LineKind → Bool
holds held line.Passed = held
holds held line.Continued = held
holds held (line.Section title) = false
holds held (line.Key key value) = true
holds held line.Bad = false

-- the logical lines that begin in these lines, the first of which has the number n
unfoldable pub logical_from : Bool → ℕ → List (List ℕ) → List Logical
logical_from held n [] = []
logical_from held n (text ∷ rest) = begun held n (kind_of text) (continuation rest) ++ logical_from (holds held (kind_of text)) (n + 1) rest

-- the logical lines of a text. Its physical lines end at line feeds, and a carriage return before one is dropped
unfoldable pub logical_lines : List ℕ → List Logical
logical_lines text = logical_from false 1 (lines text)
