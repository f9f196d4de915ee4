-- The name of a job's status folder (this project's own).
use Rattle.std.specs.Prelude.{◌==◌, ◌||◌, ℕ, Bool, true, false, not, nat_lt, List, [], ◌∷◌, ◌++◌, codes, length, Option, Some, None, if◌then◌else◌}
use Rattle.std.specs.Char.{is_ascii_alphanumeric}
use Rattle.hex.specs.Hex.{encode_upper, encode_lower}
use Rattle.sha2.specs.Sha256.{sha256}

-- whether a byte stays as it is: an ASCII letter or digit, `_`, `-`, `@`, and a `.` that isn't first
abbrev pub stays : Bool → ℕ → Bool
stays first b = if is_ascii_alphanumeric b then true else (if b == 46 then not first else (b == 95 || (b == 45 || b == 64)))

-- any other is `%` and two hex digits in upper case
abbrev pub escaped_byte : Bool → ℕ → List ℕ
escaped_byte first b = if stays first b then b ∷ [] else 37 ∷ encode_upper (b ∷ [])

abbrev pub escaped_from : Bool → List ℕ → List ℕ
escaped_from first [] = []
escaped_from first (b ∷ bs) = escaped_byte first b ++ escaped_from false bs

-- a collection's name, escaped; past 200 bytes `%` and the hex SHA-256 of the name
abbrev pub folder_name : List ℕ → List ℕ
folder_name name = if nat_lt 200 (length (escaped_from true name)) then 37 ∷ encode_lower (sha256 name) else escaped_from true name

-- the name of the status folder of a collection, or of a pair without collections
abbrev pub name_of : Option (List ℕ) → List ℕ
name_of None = codes ".null"
name_of (Some name) = folder_name name
