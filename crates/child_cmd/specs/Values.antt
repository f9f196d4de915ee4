-- The value of what was fetched (this project's own).
use Rattle.std.specs.Prelude.{◌≡◌, ℕ, ◌==◌, Bool, ◌||◌, List, [], ◌∷◌, if◌then◌else◌, Result, Ok, Err}
use Rattle.std.specs.List.{list_all}
use Rattle.std.specs.Str.{IsUtf8}
use Rattle.child_cmd.specs.declared.fetch_error.FetchError.{FetchError}
use Rattle.child_cmd.specs.declared.fetch_error.FetchError.TheVariants as error

-- LF and CR
abbrev pub is_line_end : ℕ → Bool
is_line_end b = b == 10 || b == 13

-- the bytes without all LF and CR at their end
abbrev pub value_of : List ℕ → List ℕ
value_of [] = []
value_of (b ∷ bs) = if list_all is_line_end (b ∷ bs) then [] else b ∷ value_of bs

-- the value as a text
abbrev pub ValueText : List ℕ → Result (List ℕ) FetchError → Type 0
ValueText bytes (Ok value) = (value ≡ value_of bytes) × IsUtf8 (value_of bytes)
ValueText bytes (Err error.Text) = ¬ (IsUtf8 (value_of bytes))
ValueText bytes (Err e) = ⊥
