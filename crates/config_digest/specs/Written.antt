-- A pair and its storages as they are written, and their digest: compact JSON (RFC 8259), SHA-256 (FIPS 180-4) in hex.
use Rattle.std.specs.Prelude.{ℕ, if◌then◌else◌, List, [], ◌∷◌, ◌++◌, codes}
use Rattle.std.specs.List.{flat_map}
use Rattle.json.specs.Token.{Token, begin_object, end_object, begin_array, end_array, key, string, boolean, null}
use Rattle.json.specs.Print.{print}
use Rattle.sha2.specs.Sha256.{sha256}
use Rattle.hex.specs.Hex.{encode_lower}
use Rattle.config_ini.specs.declared.kinds.Key.{Key}
use Rattle.config_ini.specs.declared.setting.Setting.{Setting}
use Rattle.config_ini.specs.declared.setting.Setting.TheVariants as setting
use Rattle.config_ini.specs.declared.setting.Part.{Part}
use Rattle.config_ini.specs.declared.setting.Part.TheVariants as part
use Rattle.config_ini.specs.declared.setting.Entry.{Entry}
use Rattle.config_digest.specs.Order.{in_order}

abbrev pub text_tokens : List ℕ → List Token
text_tokens text = string text ∷ []

abbrev pub part_tokens : Part → List Token
part_tokens (part.Text text) = string text ∷ []
part_tokens (part.Texts texts) = begin_array ∷ (flat_map text_tokens texts ++ end_array ∷ [])

abbrev pub list_tokens : List Part → List Token
list_tokens parts = begin_array ∷ (flat_map part_tokens parts ++ end_array ∷ [])

-- what no key may have is written as an object without members
abbrev pub other_tokens : List Token
other_tokens = begin_object ∷ end_object ∷ []

abbrev pub value_tokens : Setting → List Token
value_tokens setting.Null = null ∷ []
value_tokens (setting.Truth b) = boolean b ∷ []
value_tokens (setting.Text text) = string text ∷ []
value_tokens (setting.List parts) = list_tokens parts
value_tokens setting.Other = other_tokens

-- a key as it is written, in lower case
abbrev pub written_name : Key → List ℕ
written_name k = if k.is_fetched then k.name ++ codes ".fetch" else k.name

abbrev pub member_tokens : Entry → List Token
member_tokens entry = key (written_name entry.key) ∷ value_tokens entry.value

unfoldable pub members_tokens : List Entry → List Token
members_tokens entries = flat_map member_tokens (in_order entries)

abbrev pub section_tokens : List Entry → List Token
section_tokens entries = begin_object ∷ (members_tokens entries ++ end_object ∷ [])

unfoldable pub three_tokens : List Entry → List Entry → List Entry → List Token
three_tokens pair a b = begin_array ∷ (section_tokens pair ++ (section_tokens a ++ (section_tokens b ++ end_array ∷ [])))

-- the list of three objects
abbrev pub written : List Entry → List Entry → List Entry → List ℕ
written pair a b = print (three_tokens pair a b)

unfoldable pub digest_of : List Entry → List Entry → List Entry → List ℕ
digest_of pair a b = encode_lower (sha256 (written pair a b))
