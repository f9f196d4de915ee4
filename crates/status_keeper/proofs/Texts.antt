-- A status has no floats and nests little, and a version's hex text means the version.
use Rattle.std.proofs.Common.{◌≡◌, ℕ, ◌≤◌, ◌*◌, false, cond, List, [], ◌∷◌, length, Option, Some, None, Ok, refl, ap, ◌∙◌, arith}
use Rattle.std.proofs.lemmas.Slice.Eq.{bytes_eq-Decides}
use Rattle.hex.specs.Hex.{IsBytes, encode_lower, decode_sized, lower_digits}
use Rattle.hex.proofs.HexLemmas.{length-encode_with, decode_pairs-encode_with, IsDigits-lower_digits}
use Rattle.serde_json.specs.Data.{depth, members_depth}
use Rattle.serde_json.specs.Read.{max_depth}
use Rattle.serde_json.specs.Written.{has_float, members_have_float}
use Rattle.item_text.specs.declared.fp.Fp.{Fp}
use Rattle.status_keeper.specs.declared.row.Row.{Row}
use Rattle.status_keeper.specs.Status.{null_or, row_data, rows_data, status_data, fp_from, fp_of}

no_float : (o : Option (List ℕ)) → has_float (null_or o) ≡ false
no_float None = refl
no_float (Some text) = refl

no_floats : (rows : List Row) → members_have_float (rows_data rows) ≡ false
no_floats [] = refl
no_floats (row ∷ rows) = rw (no_float row.href_a, no_float row.etag_a, no_float row.href_b, no_float row.etag_b) (no_floats rows)

pub status_has_no_float : (rows : List Row) → has_float (status_data rows) ≡ false
status_has_no_float rows = rw (no_floats rows) refl

flat : (o : Option (List ℕ)) → depth (null_or o) ≡ 0
flat None = refl
flat (Some text) = refl

row_depth : (row : Row) → depth (row_data row) ≡ 1
row_depth row = rw (flat row.href_a, flat row.etag_a, flat row.href_b, flat row.etag_b) refl

rows_depth : (rows : List Row) → members_depth (rows_data rows) ≤ 1
rows_depth [] = omega arith
rows_depth (row ∷ rows) = let e = row_depth row in let h = rows_depth rows in omega (arith, e, h)

pub status_depth : (rows : List Row) → depth (status_data rows) ≤ max_depth
status_depth rows = let h = rows_depth rows in omega (arith, h)

sized : (bytes : List ℕ) → length bytes ≡ 32 → IsBytes bytes → decode_sized (encode_lower bytes) 32 ≡ Ok bytes
sized bytes n h =
    let len : length (encode_lower bytes) ≡ 64 = length-encode_with lower_digits bytes ∙ ap (λ k. 2 * k) n in
    rw len (decode_pairs-encode_with lower_digits IsDigits-lower_digits 0 bytes h)

pub fp_back : (fp : Fp) → length fp.0 ≡ 32 → IsBytes fp.0 → fp_of (encode_lower fp.0) ≡ Some fp
unfolding fp_of
fp_back fp n h =
    ap (fp_from (encode_lower fp.0)) (sized fp.0 n h)
    ∙ ap (λ b. cond b (Some fp) None) ((bytes_eq-Decides (encode_lower fp.0) (encode_lower fp.0)).1 refl)
