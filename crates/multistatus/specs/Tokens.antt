-- How the token at the front of bytes is found: tags, text, CDATA sections, and comments and processing instructions, which
-- are passed over (XML 1.0, fifth edition, sections 2.4 to 2.8 and 3.1). A document type is no token. Grammar.antt says
-- which bytes are which token, and a law says that it is the token found here.
use Rattle.std.specs.Prelude.{◌≡◌, ◌<◌, ℕ, Bool, ◌&&◌, not, List, [], ◌∷◌, length, Option, Some, None, codes, if◌then◌else◌, ◌==◌}
use Rattle.std.specs.List.{list_all}
use Rattle.std.specs.Str.{bytes_eq, str_to_ascii_lowercase}
use Rattle.multistatus.specs.declared.tags.Name.{Name}
use Rattle.multistatus.specs.declared.tokens.Token.{Token}
use Rattle.multistatus.specs.declared.tokens.Token.TheVariants.{Passed, Blank, Chars, Open, Empty, Close}
use Rattle.multistatus.specs.Steps.{◌>>=◌}
use Rattle.multistatus.specs.Texts.{is_white, begins_white, front, behind, stripped, cut, line_ends, char_data}
use Rattle.multistatus.specs.Tags.{part_at, name_at, RestOfTag, tag_rest}

abbrev pub Found : Type 0
Found = Option (Token × List ℕ)

-- text up to the next `<`; white space as it stands is told apart, since it alone may stand beside the outermost element
abbrev pub text_token : List ℕ → Option Token
text_token piece = if list_all is_white piece then Some (Blank (line_ends piece)) else (char_data piece >>= λ text. Some (Chars text))

abbrev pub is_text_byte : ℕ → Bool
is_text_byte b = not (b == 60)

unfoldable pub text_at : List ℕ → Found
text_at bytes = text_token (front is_text_byte bytes) >>= λ token. Some (token, behind is_text_byte bytes)

-- behind `<!--`: two hyphens stand only before the end (section 2.5)
unfoldable pub comment_at : List ℕ → Found
comment_at bytes = cut (codes "--") bytes >>= λ parts. stripped (codes ">") parts.1 >>= λ rest. Some (Passed, rest)

-- behind `<![CDATA[` (section 2.7)
unfoldable pub section_at : List ℕ → Found
section_at bytes = cut (codes "]]>") bytes >>= λ parts. Some (Chars (line_ends parts.0), parts.1)

-- behind `<?`: a target, which isn't `xml` in any case, and white space before what follows it (section 2.6)
abbrev pub is_target : List ℕ → List ℕ → Bool
is_target target [] = not (bytes_eq (str_to_ascii_lowercase target) (codes "xml"))
is_target target (b ∷ bytes) = is_white b && not (bytes_eq (str_to_ascii_lowercase target) (codes "xml"))

unfoldable pub instruction_at : List ℕ → Found
instruction_at bytes = cut (codes "?>") bytes >>= λ parts. part_at parts.0 >>= λ target. if is_target target.0 target.1 then Some (Passed, parts.1) else None

-- behind `</`
unfoldable pub close_at : List ℕ → Found
close_at bytes = name_at bytes >>= λ name. stripped (codes ">") (behind is_white name.1) >>= λ rest. Some (Close name.0, rest)

-- behind `<`; a tag has at most as many attributes as bytes
abbrev pub tag_token : Name → RestOfTag → Token
tag_token name found = if found.is_empty then Empty (record { name = name; attributes = found.attributes }) else Open (record { name = name; attributes = found.attributes })

unfoldable pub tag_at : List ℕ → Found
tag_at bytes = name_at bytes >>= λ name. tag_rest (length name.1) name.1 >>= λ found. Some (tag_token name.0 found, found.rest)

-- behind `<!` no document type stands
abbrev pub section_by : Option (List ℕ) → Found
section_by None = None
section_by (Some rest) = section_at rest

abbrev pub declared_by : List ℕ → Option (List ℕ) → Found
declared_by bytes None = section_by (stripped (codes "[CDATA[") bytes)
declared_by bytes (Some rest) = comment_at rest

unfoldable pub declared_at : List ℕ → Found
declared_at bytes = declared_by bytes (stripped (codes "--") bytes)

abbrev pub close_by : List ℕ → Option (List ℕ) → Found
close_by bytes None = tag_at bytes
close_by bytes (Some rest) = close_at rest

abbrev pub instruction_by : List ℕ → Option (List ℕ) → Found
instruction_by bytes None = close_by bytes (stripped (codes "/") bytes)
instruction_by bytes (Some rest) = instruction_at rest

abbrev pub markup_by : List ℕ → Option (List ℕ) → Found
markup_by bytes None = instruction_by bytes (stripped (codes "?") bytes)
markup_by bytes (Some rest) = declared_at rest

unfoldable pub markup_at : List ℕ → Found
markup_at bytes = markup_by bytes (stripped (codes "!") bytes)

abbrev pub token_by : List ℕ → Option (List ℕ) → Found
token_by bytes None = text_at bytes
token_by bytes (Some rest) = markup_at rest

-- the token at the front, and what follows it
unfoldable pub token_at : List ℕ → Found
token_at bytes = token_by bytes (stripped (codes "<") bytes)

-- these tokens are found, one behind another, and each has at least a byte
abbrev pub AreTokens : List ℕ → List Token → Type 0
AreTokens bytes [] = bytes ≡ []
AreTokens bytes (token ∷ tokens) = (rest : List ℕ) × (0 < length bytes) × (token_at bytes ≡ Some (token, rest)) × AreTokens rest tokens

-- an XML declaration may stand first (section 2.8): `<?xml`, white space, and anything up to `?>`
abbrev pub behind_target : List ℕ → Option (List ℕ) → Option (List ℕ)
behind_target bytes None = Some bytes
behind_target bytes (Some rest) = if begins_white rest then (cut (codes "?>") rest >>= λ parts. Some parts.1) else Some bytes

unfoldable pub without_declaration : List ℕ → Option (List ℕ)
without_declaration bytes = behind_target bytes (stripped (codes "<?xml") bytes)

-- a byte order mark, U+FEFF, may stand before all
abbrev pub byte_order_mark : List ℕ
byte_order_mark = 0xEF ∷ 0xBB ∷ 0xBF ∷ []

abbrev pub unmarked : List ℕ → Option (List ℕ) → List ℕ
unmarked bytes None = bytes
unmarked bytes (Some rest) = rest

unfoldable pub without_mark : List ℕ → List ℕ
without_mark bytes = unmarked bytes (stripped byte_order_mark bytes)
