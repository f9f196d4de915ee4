-- How the bytes of a reply are cut: line ends, empty lines, and reading by steps (RFC 9112, sections 2.2 and 6).
use Rattle.std.specs.Prelude.{ℕ, ◌+◌, List, [], ◌∷◌, Option, Some, None, option_map, if◌then◌else◌, ◌==◌}
use Rattle.std.specs.Option.{option_or}
use Rattle.httparse.specs.Ascii.{line_feed, carriage_return}

-- the length of a CR LF whose CR stands before these bytes
abbrev pub len_after_cr : List ℕ → Option ℕ
len_after_cr [] = None
len_after_cr (c ∷ rest) = if c == line_feed then Some 2 else None

-- the length of the line end at the front, LF or CR LF
abbrev pub line_end_len : List ℕ → Option ℕ
line_end_len [] = None
line_end_len (b ∷ rest) = if b == line_feed then Some 1 else if b == carriage_return then len_after_cr rest else None

-- the length of the bytes up to and including the first empty line: a LF that a line end follows
abbrev pub empty_line_end : List ℕ → Option ℕ
empty_line_end [] = None
empty_line_end (b ∷ rest) = option_map (λ n. n + 1) (option_or (if b == line_feed then line_end_len rest else None) (empty_line_end rest))

-- what reading finds in bytes: a value, bytes that further ones may make right, or bytes that none can
pub data Found (A : Type 0) : Type 0 where
  got : A → Found A
  short bad : Found A

-- one step of reading: it goes on with the bytes behind what it read, or ends
pub data Step (A B : Type 0) : Type 0 where
  onward : A → List ℕ → Step A B
  ended : B → Step A B

-- step after step read these bytes, and the last ended so
abbrev pub Repeats : {A B : Type 0} → (List ℕ → Step A B → Type 0) → List ℕ → List A → B → Type 0
Repeats Reads bytes [] answer = Reads bytes (ended answer)
Repeats Reads bytes (a ∷ more) answer = (behind : List ℕ) × Reads bytes (onward a behind) × Repeats Reads behind more answer
