-- Bytes of text: white space, line ends, references and what marks cut (XML 1.0, fifth edition, sections 2.2, 2.3,
-- 2.11, 4.1 and 4.6). The bytes are UTF-8, and every mark is ASCII.
use Rattle.std.specs.Prelude.{ℕ, ◌+◌, ◌*◌, Bool, true, false, ◌&&◌, ◌||◌, List, [], ◌∷◌, ◌++◌, Option, Some, None, option_map, codes, if◌then◌else◌, ◌==◌, nat_lt, nat_le, encode_utf8}
use Rattle.std.specs.Option.{option_or}
use Rattle.std.specs.Char.{digit_value}
use Rattle.std.specs.Str.{bytes_eq}
use Rattle.multistatus.specs.Steps.{◌>>=◌}

-- white space (section 2.3)
abbrev pub is_white : ℕ → Bool
is_white b = b == 32 || b == 9 || b == 10 || b == 13

abbrev pub begins_white : List ℕ → Bool
begins_white [] = false
begins_white (b ∷ bytes) = is_white b

-- the longest front of bytes that pass a test, and what follows it
abbrev pub front : (ℕ → Bool) → List ℕ → List ℕ
front p [] = []
front p (b ∷ bs) = if p b then b ∷ front p bs else []

abbrev pub behind : (ℕ → Bool) → List ℕ → List ℕ
behind p [] = []
behind p (b ∷ bs) = if p b then behind p bs else b ∷ bs

-- text without white space at its end
abbrev pub kept_before : ℕ → List ℕ → List ℕ
kept_before b [] = if is_white b then [] else b ∷ []
kept_before b (c ∷ bytes) = b ∷ c ∷ bytes

abbrev pub without_end : List ℕ → List ℕ
without_end [] = []
without_end (b ∷ bytes) = kept_before b (without_end bytes)

-- text without white space around it
abbrev pub trimmed : List ℕ → List ℕ
trimmed bytes = without_end (behind is_white bytes)

-- what follows a mark, where the bytes begin with it
unfoldable pub stripped : List ℕ → List ℕ → Option (List ℕ)
stripped [] bytes = Some bytes
stripped (m ∷ mark) [] = None
stripped (m ∷ mark) (b ∷ bytes) = if b == m then stripped mark bytes else None

-- what stands before and behind the first place of a mark
unfoldable pub cut : List ℕ → List ℕ → Option (List ℕ × List ℕ)
cut mark [] = option_map (λ rest. ([], rest)) (stripped mark [])
cut mark (b ∷ bytes) = option_or (option_map (λ rest. ([], rest)) (stripped mark (b ∷ bytes))) (option_map (λ parts. (b ∷ parts.0, parts.1)) (cut mark bytes))

-- CR LF and CR are LF (section 2.11); whether a CR stands before the bytes comes first
abbrev pub line_ends_after : Bool → List ℕ → List ℕ
line_ends_after after_cr [] = []
line_ends_after after_cr (b ∷ bytes) =
    if b == 13 then 10 ∷ line_ends_after true bytes
    else if after_cr && b == 10 then line_ends_after false bytes
    else b ∷ line_ends_after false bytes

unfoldable pub line_ends : List ℕ → List ℕ
line_ends bytes = line_ends_after false bytes

-- the characters that a number may stand for (section 2.2)
abbrev pub is_xml_char : ℕ → Bool
is_xml_char n =
    n == 9 || n == 10 || n == 13 || nat_le 32 n && nat_le n 0xD7FF
    || nat_le 0xE000 n && nat_le n 0xFFFD || nat_le 0x1_0000 n && nat_le n 0x10_FFFF

-- the number that digits behind others stand for
abbrev pub number_behind : ℕ → ℕ → List ℕ → Option ℕ
number_behind base n [] = Some n
number_behind base n (d ∷ digits) = if nat_lt (digit_value d) base then number_behind base (n * base + digit_value d) digits else None

abbrev pub number_of : ℕ → List ℕ → Option ℕ
number_of base [] = None
number_of base (d ∷ digits) = number_behind base 0 (d ∷ digits)

abbrev pub bytes_of_char : ℕ → Option (List ℕ)
bytes_of_char n = if is_xml_char n then Some (encode_utf8 n) else None

abbrev pub numbered : ℕ → List ℕ → Option (List ℕ)
numbered base digits = number_of base digits >>= bytes_of_char

-- what stands between `&` and `;`: a number (section 4.1), or one of the five names (section 4.6); no other entity is known
abbrev pub decimal_of : Option (List ℕ) → Option (List ℕ)
decimal_of None = None
decimal_of (Some digits) = numbered 10 digits

abbrev pub number_named : List ℕ → Option (List ℕ) → Option (List ℕ)
number_named name None = decimal_of (stripped (codes "#") name)
number_named name (Some digits) = numbered 16 digits

unfoldable pub character_of : List ℕ → Option (List ℕ)
character_of name =
    if bytes_eq name (codes "amp") then Some (codes "&")
    else if bytes_eq name (codes "lt") then Some (codes "<")
    else if bytes_eq name (codes "gt") then Some (codes ">")
    else if bytes_eq name (codes "quot") then Some (codes "\"")
    else if bytes_eq name (codes "apos") then Some (codes "'")
    else number_named name (stripped (codes "#x") name)

-- text with its references resolved; inside a reference, its name so far comes first
abbrev pub referred : Option (List ℕ) → List ℕ → Option (List ℕ)
referred None [] = Some []
referred (Some name) [] = None
referred None (b ∷ bytes) = if b == 38 then referred (Some []) bytes else option_map (λ text. b ∷ text) (referred None bytes)
referred (Some name) (b ∷ bytes) =
    if b == 59 then (character_of name >>= λ char. option_map (λ text. char ++ text) (referred None bytes))
    else referred (Some (name ++ b ∷ [])) bytes

unfoldable pub resolved_text : List ℕ → Option (List ℕ)
resolved_text bytes = referred None bytes

-- line ends come before references
abbrev pub char_data : List ℕ → Option (List ℕ)
char_data piece = resolved_text (line_ends piece)
