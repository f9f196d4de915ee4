-- How a text is fetched, by the words of a configuration (this project's own).
use Rattle.std.specs.Prelude.{ℕ, Bool, false, ◌||◌, List, [], ◌∷◌, codes, unwrap_or, slice_get, if◌then◌else◌}
use Rattle.std.specs.Str.{bytes_eq}

-- `command`, with a program and what it is told
abbrev pub is_command : List (List ℕ) → Bool
is_command (kind ∷ program ∷ arguments) = bytes_eq kind (codes "command")
is_command _ = false

-- `shell` with a line, or `prompt` with a text
abbrev pub is_one_text : List (List ℕ) → Bool
is_one_text (kind ∷ text ∷ []) = bytes_eq kind (codes "shell") || bytes_eq kind (codes "prompt")
is_one_text _ = false

abbrev pub is_fetch : List (List ℕ) → Bool
is_fetch words = is_command words || is_one_text words

pub data Way : Type 0 where
  -- a program is run, with these words
  program : List (List ℕ) → Way
  -- this is written, and a line is read
  prompt : List ℕ → Way

-- the way of these kinds alone is told; a line of the shell is run by `sh`
abbrev pub way_by : List ℕ → List (List ℕ) → Way
way_by kind rest =
    if bytes_eq kind (codes "prompt") then prompt (unwrap_or (slice_get rest 0) [])
    else if bytes_eq kind (codes "shell") then program (codes "sh" ∷ codes "-c" ∷ rest)
    else program rest

-- how a text is fetched by words that say so
unfoldable pub way_of : List (List ℕ) → Way
way_of [] = program []
way_of (kind ∷ rest) = way_by kind rest
