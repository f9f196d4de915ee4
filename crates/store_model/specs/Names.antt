-- File names of new items: the stem that an ident gives, and the first of the names tried that is free (this project's own).
use Rattle.std.specs.Prelude.{◌≡◌, ◌==◌, ℕ, ◌<◌, Bool, true, false, List, [], ◌∷◌, ◌++◌, if◌then◌else◌}
use Rattle.std.specs.Fmt.{decimal}
use Rattle.outside.specs.Etag.{etag}
use Rattle.item_text.specs.Plain.{is_plain}

-- the stem of an ident: itself, or else the lower-case hex SHA-256 of its bytes
unfoldable pub file_stem : List ℕ → List ℕ
file_stem ident = if is_plain ident then ident else etag ident

-- the names that are tried, by their number from 0: the stem, the stem and `-1`, the stem and `-2` and so on, each with the ending
unfoldable pub candidate : List ℕ → List ℕ → ℕ → List ℕ
candidate stem ending number = if number == 0 then stem ++ ending else stem ++ (45 ∷ []) ++ decimal number ++ ending

-- the first of the names tried that isn't taken
pub record IsFreeName (taken : List ℕ → Bool) (stem ending name : List ℕ) : Type 0 where
  pub number : ℕ
  pub tried : name ≡ candidate stem ending number
  pub free : taken name ≡ false
  pub first : (k : ℕ) → k < number → taken (candidate stem ending k) ≡ true
