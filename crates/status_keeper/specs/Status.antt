-- The text of a status file, and the rows that a text means (this project's own).
use Rattle.std.specs.Prelude.{◌==◌, ◌&&◌, ◌+◌, ◌-◌, ◌^◌, ℕ, Bool, false, nat_lt, min, List, [], ◌∷◌, codes, length, Option, Some, None, option_map, option_and_then, Result, Ok, Err, if◌then◌else◌}
use Rattle.std.specs.Str.{is_utf8, bytes_eq}
use Rattle.hex.specs.Hex.{encode_lower, decode_sized}
use Rattle.hex.specs.declared.error.FromHexError.{FromHexError}
use Rattle.serde_json.specs.Data.{Data, null, number, string, array, object, unsigned, no_items, item, Members, no_members, member}
use Rattle.serde_json.specs.Find.{as_number, as_u64, as_object}
use Rattle.serde_json.specs.Read.{read}
use Rattle.serde_json.specs.Written.{compact_text}
use Rattle.item_text.specs.declared.fp.Fp.{Fp}
use Rattle.status_keeper.specs.declared.row.Row.{Row}
use Rattle.status_keeper.specs.declared.keeper.KeeperError.{KeeperError}
use Rattle.status_keeper.specs.declared.keeper.KeeperError.TheVariants.{Damaged, TooLong}

-- what a load meets: rows, or the refusal `Damaged` or `TooLong`
abbrev pub Kept : Type 0
Kept = Result (List Row) KeeperError

-- ---- what is written

-- a text, or null where there is none
abbrev pub null_or : Option (List ℕ) → Data
null_or None = null
null_or (Some text) = string text

-- a row: its version in lower-case hex digits, and the hrefs and etags of both sides
abbrev pub row_data : Row → Data
row_data row = array (item (string (encode_lower row.fp.0)) (item (null_or row.href_a) (item (null_or row.etag_a) (item (null_or row.href_b) (item (null_or row.etag_b) no_items)))))

abbrev pub rows_data : List Row → Members
rows_data [] = no_members
rows_data (row ∷ rows) = member row.ident (row_data row) (rows_data rows)

-- the status as a JSON value
abbrev pub status_data : List Row → Data
status_data rows = object (member (codes "rows") (object (rows_data rows)) (member (codes "version") (number (unsigned 1)) no_members))

-- the bytes that are written for these rows: the JSON text of the status with no space
unfoldable pub text_of : List Row → List ℕ
text_of rows = compact_text (status_data rows)

-- ---- what a text means

-- the bytes whose hex text in lower case is this
abbrev pub fp_from : List ℕ → Result (List ℕ) FromHexError → Option Fp
fp_from digits (Ok bytes) = if bytes_eq (encode_lower bytes) digits then Some (record { 0 = bytes }) else None
fp_from digits (Err e) = None

-- the version of 64 lower-case hex digits
unfoldable pub fp_of : List ℕ → Option Fp
fp_of digits = fp_from digits (decode_sized digits 32)

abbrev pub fp_at : Data → Option Fp
fp_at (string digits) = fp_of digits
fp_at _ = None

-- a text or null
abbrev pub text_at : Data → Option (Option (List ℕ))
text_at null = Some None
text_at (string text) = Some (Some text)
text_at _ = None

abbrev pub row_of_parts : List ℕ → Data → Data → Data → Data → Data → Option Row
row_of_parts ident f a b c d =
    option_and_then (λ (fp : Fp).
    option_and_then (λ (href_a : Option (List ℕ)).
    option_and_then (λ (etag_a : Option (List ℕ)).
    option_and_then (λ (href_b : Option (List ℕ)).
    option_map (λ (etag_b : Option (List ℕ)). record { ident = ident; fp = fp; href_a = href_a; etag_a = etag_a; href_b = href_b; etag_b = etag_b })
    (text_at d)) (text_at c)) (text_at b)) (text_at a)) (fp_at f)

-- the row of an ident: five parts, no more and no fewer
abbrev pub row_from : List ℕ → Data → Option Row
row_from ident (array (item f (item a (item b (item c (item d no_items)))))) = row_of_parts ident f a b c d
row_from ident _ = None

abbrev pub is_one : Option ℕ → Bool
is_one (Some n) = n == 1
is_one None = false

-- the version of the form: the integer 1. A number with a point or an exponent is none
abbrev pub is_version : Data → Bool
is_version d = is_one (option_and_then as_u64 (as_number d))

abbrev pub two_rows : List ℕ → Data → List ℕ → Data → Option Members
two_rows k d l e = if bytes_eq k (codes "rows") && (bytes_eq l (codes "version") && is_version e) then as_object d else None

-- the rows of a status as a JSON value: the keys `rows` and `version`, and no others
abbrev pub status_rows : Data → Option Members
status_rows (object (member k d (member l e no_members))) = two_rows k d l e
status_rows _ = None

-- the number of the next row. It stays at the last one of 32 bits; no file within the limit has so many rows
abbrev pub next_number : ℕ → ℕ
next_number k = min (k + 1) (2 ^ 32 - 1)

abbrev pub with_row : Row → Kept → Kept
with_row row (Ok rows) = Ok (row ∷ rows)
with_row row (Err e) = Err e

abbrev pub row_or_bad : ℕ → Option Row → Kept → Kept
row_or_bad k None rest = Err (Damaged k)
row_or_bad k (Some row) rest = with_row row rest

-- the rows of these members, the first of them numbered k; or the number of the first bad one
abbrev pub rows_from : ℕ → Members → Kept
rows_from k no_members = Ok []
rows_from k (member ident d members) = row_or_bad k (row_from ident d) (rows_from (next_number k) members)

abbrev pub kept_members : Option Members → Kept
kept_members None = Err (Damaged 0)
kept_members (Some members) = rows_from 1 members

-- of a JSON value, if the text is one. An object's members come in byte order of their keys,
-- and of several under one key the last counts: so it is that serde_json reads
abbrev pub kept_data : Option Data → Kept
kept_data None = Err (Damaged 0)
kept_data (Some d) = kept_members (status_rows d)

-- the longest status file, in bytes: 2 GiB
abbrev pub max_status : ℕ
max_status = 2147483648

-- of a text within the limit
unfoldable pub kept_text : List ℕ → Kept
kept_text bytes = if is_utf8 bytes then kept_data (read bytes) else Err (Damaged 0)

-- what a status file means: no file has no rows
unfoldable pub kept_of : Option (List ℕ) → Kept
kept_of None = Ok []
kept_of (Some bytes) = if nat_lt max_status (length bytes) then Err TooLong else kept_text bytes
