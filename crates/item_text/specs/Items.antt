-- Items: the ident and the version of a text, and what a text reads as.
use Rattle.std.specs.Prelude.{ℕ, Bool, List, Option, Some, None, is_some, Result, Ok, Err, length, nat_lt, if◌then◌else◌}
use Rattle.std.specs.Option.{unwrap_or}
use Rattle.std.specs.Result.{result_ok}
use Rattle.std.specs.List.{filter_map}
use Rattle.std.specs.Str.{is_utf8}
use Rattle.std.specs.Str.Lossy.{utf8_valid_len}
use Rattle.hex.specs.Hex.{encode_lower}
use Rattle.sha2.specs.Sha256.{sha256}
use Rattle.item_text.specs.Lines.{physical_lines, logical_lines}
use Rattle.item_text.specs.Components.{Placed, placed, uid_of}
use Rattle.item_text.specs.NormalForm.{normal_form}
use Rattle.item_text.specs.Refusals.{first_of, refusal_of}
use Rattle.item_text.specs.declared.item.ItemError.{ItemError}
use Rattle.item_text.specs.declared.item.ItemError.TheVariants.{TooLong, NotUtf8}

-- an item: its text, its ident, whether it has a UID, and its version
pub record ItemValue : Type 0 where
  pub text : List ℕ
  pub ident : List ℕ
  pub has_uid : Bool
  pub version : List ℕ

-- the SHA-256 of the normal form (FIPS 180-4)
unfoldable pub fingerprint : List Placed → List ℕ
fingerprint all = sha256 (normal_form all)

-- the first UID of the lines
unfoldable pub uid_among : List Placed → Option (List ℕ)
uid_among all = first_of (filter_map uid_of all)

-- The item of lines in their places: its ident is its first UID, or else its fingerprint in hex.
unfoldable pub value_of_lines : List ℕ → List Placed → ItemValue
value_of_lines text all = record {
  text = text;
  ident = unwrap_or (uid_among all) (encode_lower (fingerprint all));
  has_uid = is_some (uid_among all);
  version = fingerprint all;
}

unfoldable pub unless_refused : Option ItemError → ItemValue → Result ItemValue ItemError
unless_refused None item = Ok item
unless_refused (Some refusal) item = Err refusal

-- the item that UTF-8 text is, or why it is none
unfoldable pub item_of_text : List ℕ → Result ItemValue ItemError
item_of_text text = unless_refused (refusal_of (length (physical_lines text)) (logical_lines text)) (value_of_lines text (placed (logical_lines text)))

-- What a text reads as: the item that it is, or why it is none. A text of more than 8 MiB is too long; one that isn't UTF-8 is refused
-- with the length of its longest UTF-8 front.
unfoldable pub read_item : List ℕ → Result ItemValue ItemError
read_item text =
    if nat_lt 8388608 (length text) then Err TooLong
    else if is_utf8 text then item_of_text text
    else Err (NotUtf8 (utf8_valid_len text))

-- the item that a text is, if it is one
unfoldable pub item_of : List ℕ → Option ItemValue
item_of text = result_ok (read_item text)
