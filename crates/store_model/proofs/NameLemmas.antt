-- A stem is not empty, and each name that is tried ends with the ending.
use Rattle.std.proofs.Common.{rules, arith, ◌≡◌, ℕ, ◌<◌, ◌≤◌, Bool, true, false, not, length, List, [], ◌∷◌, ◌++◌, refl, length-append}
use Rattle.std.specs.Prelude.{◌==◌, ◌&&◌, nat_lt, nat_le, if◌then◌else◌}
use Rattle.std.specs.List.{list_all}
use Rattle.std.specs.Fmt.{decimal}
use Rattle.std.proofs.lemmas.Bool.{and_parts}
use Rattle.sha2.specs.Sha256.{sha256}
use Rattle.sha2.proofs.Facts256.{length-sha256}
use Rattle.hex.specs.Hex.{lower_digits}
use Rattle.hex.proofs.HexLemmas.{length-encode_with}
use Rattle.outside.specs.Etag.{etag}
use Rattle.item_text.specs.Plain.{is_plain, is_name_byte, begins_with_dot}
use Rattle.store_model.specs.Names.{file_stem, candidate}

stem_some : (ident : List ℕ) (b : Bool) → is_plain ident ≡ b → 0 < length (if b then ident else etag ident)
unfolding etag
stem_some ident true h = let t : nat_lt 0 (length ident) ≡ true = (and_parts (nat_lt 0 (length ident)) (nat_le (length ident) 100 && (not (begins_with_dot ident) && list_all is_name_byte ident)) h).0 in search rules
stem_some ident false h = omega (arith, length-encode_with lower_digits (sha256 ident), length-sha256 ident)

pub file_stem_some : (ident : List ℕ) → 0 < length (file_stem ident)
unfolding file_stem
file_stem_some ident = stem_some ident (is_plain ident) refl

candidate_parts : (stem ending : List ℕ) (number : ℕ) (b : Bool) → (x : List ℕ) × ((if b then stem ++ ending else stem ++ (45 ∷ []) ++ decimal number ++ ending) ≡ x ++ ending) × (length stem ≤ length x)
candidate_parts stem ending number true = (stem, refl, omega arith)
candidate_parts stem ending number false = (stem ++ (45 ∷ []) ++ decimal number, refl, omega (arith, length-append (stem ++ (45 ∷ [])) (decimal number), length-append stem (45 ∷ [])))

-- a name that is tried is at least as long as the stem, and has the ending behind that
pub candidate_shape : (stem ending : List ℕ) (number : ℕ) → (x : List ℕ) × (candidate stem ending number ≡ x ++ ending) × (length stem ≤ length x)
unfolding candidate
candidate_shape stem ending number = candidate_parts stem ending number (number == 0)
