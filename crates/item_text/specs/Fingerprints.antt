-- Fingerprints as text: 64 hex digits in lower case.
use Rattle.std.specs.Prelude.{ℕ, ◌==◌, Bool, ◌&&◌, ◌||◌, nat_le, if◌then◌else◌, List, length, Option, None}
use Rattle.std.specs.List.{list_all}
use Rattle.std.specs.Result.{result_ok}
use Rattle.hex.specs.Hex.{decode_of}

-- a hex digit in lower case
abbrev pub is_lower_digit : ℕ → Bool
is_lower_digit b = (nat_le 48 b && nat_le b 57) || (nat_le 97 b && nat_le b 102)

-- whether a text is a fingerprint
unfoldable pub is_fingerprint : List ℕ → Bool
is_fingerprint text = (length text == 64) && list_all is_lower_digit text

-- the fingerprint that a text is, if it is one
unfoldable pub fingerprint_of_hex : List ℕ → Option (List ℕ)
fingerprint_of_hex text = if is_fingerprint text then result_ok (decode_of text) else None
