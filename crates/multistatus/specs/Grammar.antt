-- The grammar of tokens: which bytes are which token, production by production (XML 1.0, fifth edition; Namespaces in XML
-- 1.0, third edition). It has no order of trying. Only text depends on what follows it: it goes on to the next `<`.
use Rattle.std.specs.Prelude.{◌≡◌, ◌<◌, ℕ, true, false, List, [], ◌∷◌, ◌++◌, length, Some, codes, ◌==◌, ◌⊎◌}
use Rattle.std.specs.List.{list_all, list_any}
use Rattle.std.specs.Str.{bytes_eq, str_to_ascii_lowercase}
use Rattle.multistatus.specs.declared.tags.Name.{Name}
use Rattle.multistatus.specs.declared.tags.Attribute.{Attribute}
use Rattle.multistatus.specs.declared.tags.Tag.{Tag}
use Rattle.multistatus.specs.declared.tokens.Token.{Token}
use Rattle.multistatus.specs.declared.tokens.Token.TheVariants.{Passed, Blank, Chars, Open, Empty, Close}
use Rattle.multistatus.specs.Texts.{is_white, begins_white, line_ends, character_of}
use Rattle.multistatus.specs.Tags.{is_part_byte, is_part}
use Rattle.multistatus.specs.Tokens.{is_text_byte, byte_order_mark}

infixr 66 ◌·◌
-- bytes, and those that follow them
abbrev pub ◌·◌ : List ℕ → List ℕ → List ℕ
first · behind = first ++ behind

-- white space or nothing (section 2.3, production 3)
abbrev pub IsWhite : List ℕ → Type 0
IsWhite bytes = list_all is_white bytes ≡ true

-- text that a mark ends: in the two together the mark stands at the end alone
abbrev pub IsBefore : List ℕ → List ℕ → Type 0
IsBefore mark text = (before after : List ℕ) → text ++ mark ≡ before · mark · after → after ≡ []

-- a part of a name (Namespaces, section 3, production 4, with the characters that this project allows)
pub record IsPart (part : List ℕ) : Type 0 where
  pub starts : is_part part ≡ true
  pub all : list_all is_part_byte part ≡ true

-- a name: a local part, or a prefix, a colon and a local part (Namespaces, section 4, productions 7 to 11)
abbrev pub IsNameOf : List ℕ → List ℕ → List ℕ → Type 0
IsNameOf [] local bytes = (bytes ≡ local) × IsPart local
IsNameOf (b ∷ prefix) local bytes = (bytes ≡ (b ∷ prefix) · codes ":" · local) × IsPart (b ∷ prefix) × IsPart local

abbrev pub IsName : Name → List ℕ → Type 0
IsName name bytes = IsNameOf name.prefix name.local bytes

-- text with references: each stands for its character, and every other byte for itself (section 4.1, productions 66 to 68)
pub data Resolves : List ℕ → List ℕ → Type 0 where
  at_end : Resolves [] []
  plain : (b : ℕ) (bytes text : List ℕ) → (b == 38) ≡ false → Resolves bytes text → Resolves (b ∷ bytes) (b ∷ text)
  reference : (name char bytes text : List ℕ) → IsBefore (codes ";") name → character_of name ≡ Some char → Resolves bytes text
      → Resolves (codes "&" · name · codes ";" · bytes) (char ++ text)

-- an attribute: a name, `=` with white space round it, and a value in quotes that has no `<` (sections 2.3 and 3.1,
-- productions 10, 25 and 41)
pub record IsAttribute (attribute : Attribute) (bytes : List ℕ) : Type 0 where
  pub name : List ℕ
  pub white_before : List ℕ
  pub white_behind : List ℕ
  pub quote : List ℕ
  pub inside : List ℕ
  pub bytes_are : bytes ≡ name · white_before · codes "=" · white_behind · quote · inside · quote
  pub is_name : IsName attribute.name name
  pub is_white_before : IsWhite white_before
  pub is_white_behind : IsWhite white_behind
  pub is_quote : (quote ≡ codes "\"") ⊎ (quote ≡ codes "'")
  pub is_inside : IsBefore quote inside
  pub no_tag : list_any (λ b. b == 60) inside ≡ false
  pub value_is : Resolves (line_ends inside) attribute.value

-- attributes, each behind white space (section 3.1, productions 40 and 44)
abbrev pub AreAttributes : List Attribute → List ℕ → Type 0
AreAttributes [] bytes = bytes ≡ []
AreAttributes (attribute ∷ attributes) bytes =
    (white written more : List ℕ) × (bytes ≡ white · written · more) × (begins_white white ≡ true) × IsWhite white × IsAttribute attribute written × AreAttributes attributes more

-- `<!` and `<?` begin no tag: a name may begin so elsewhere
abbrev pub BeginsTag : List ℕ → Type 0
BeginsTag [] = ⊥
BeginsTag (b ∷ bytes) = ((b == 33) ≡ false) × ((b == 63) ≡ false)

-- a tag that ends so: a start tag by `>`, an empty-element tag by `/>` (section 3.1, productions 40 and 44)
pub record IsTag (end : List ℕ) (tag : Tag) (bytes rest : List ℕ) : Type 0 where
  pub name : List ℕ
  pub attributes : List ℕ
  pub white : List ℕ
  pub bytes_are : bytes ≡ codes "<" · name · attributes · white · end · rest
  pub is_name : IsName tag.name name
  pub begins : BeginsTag name
  pub are_attributes : AreAttributes tag.attributes attributes
  pub is_white : IsWhite white

-- an end tag (section 3.1, production 42)
pub record IsEndTag (name : Name) (bytes rest : List ℕ) : Type 0 where
  pub written : List ℕ
  pub white : List ℕ
  pub bytes_are : bytes ≡ codes "</" · written · white · codes ">" · rest
  pub is_name : IsName name written
  pub is_white : IsWhite white

-- a comment: two hyphens stand in it only before its end (section 2.5, production 15)
pub record IsComment (bytes rest : List ℕ) : Type 0 where
  pub inside : List ℕ
  pub bytes_are : bytes ≡ codes "<!--" · inside · codes "-->" · rest
  pub is_inside : IsBefore (codes "--") inside

-- a processing instruction: a target that isn't `xml` in any case, then nothing, or white space and anything (section
-- 2.6, productions 16 and 17)
abbrev pub IsApart : List ℕ → Type 0
IsApart [] = Unit {0}
IsApart (b ∷ bytes) = is_white b ≡ true

pub record IsInstruction (bytes rest : List ℕ) : Type 0 where
  pub target : List ℕ
  pub content : List ℕ
  pub bytes_are : bytes ≡ codes "<?" · (target ++ content) · codes "?>" · rest
  pub is_inside : IsBefore (codes "?>") (target ++ content)
  pub is_target : IsPart target
  pub is_other : bytes_eq (str_to_ascii_lowercase target) (codes "xml") ≡ false
  pub is_apart : IsApart content

-- a CDATA section (section 2.7, productions 18 to 21)
pub record IsSection (chars bytes rest : List ℕ) : Type 0 where
  pub inside : List ℕ
  pub bytes_are : bytes ≡ codes "<![CDATA[" · inside · codes "]]>" · rest
  pub is_inside : IsBefore (codes "]]>") inside
  pub chars_are : chars ≡ line_ends inside

-- character data and references between markup, at least a byte, up to the next `<` or the end (section 2.4, production
-- 14, and section 3.1, production 43)
abbrev pub IsTagOrEnd : List ℕ → Type 0
IsTagOrEnd [] = Unit {0}
IsTagOrEnd (b ∷ bytes) = b ≡ 60

pub record IsText (text bytes rest : List ℕ) : Type 0 where
  pub bytes_are : bytes ≡ text · rest
  pub some : 0 < length text
  pub no_tag : list_all is_text_byte text ≡ true
  pub ends : IsTagOrEnd rest

-- white space as it stands is told apart from other text
pub record IsBlank (chars bytes rest : List ℕ) : Type 0 where
  pub text : List ℕ
  pub is_text : IsText text bytes rest
  pub is_white : IsWhite text
  pub chars_are : chars ≡ line_ends text

pub record IsOtherText (chars bytes rest : List ℕ) : Type 0 where
  pub text : List ℕ
  pub is_text : IsText text bytes rest
  pub is_other : list_all is_white text ≡ false
  pub chars_are : Resolves (line_ends text) chars

-- bytes are a token and what follows it
abbrev pub IsToken : Token → List ℕ → List ℕ → Type 0
IsToken Passed bytes rest = IsComment bytes rest ⊎ IsInstruction bytes rest
IsToken (Blank chars) bytes rest = IsBlank chars bytes rest
IsToken (Chars chars) bytes rest = IsOtherText chars bytes rest ⊎ IsSection chars bytes rest
IsToken (Open tag) bytes rest = IsTag (codes ">") tag bytes rest
IsToken (Empty tag) bytes rest = IsTag (codes "/>") tag bytes rest
IsToken (Close name) bytes rest = IsEndTag name bytes rest

-- bytes are tokens, one behind another
abbrev pub HasTokens : List ℕ → List Token → Type 0
HasTokens bytes [] = bytes ≡ []
HasTokens bytes (token ∷ tokens) = (rest : List ℕ) × IsToken token bytes rest × HasTokens rest tokens

-- a byte order mark may stand before all
abbrev pub IsBehindMark : List ℕ → List ℕ → Type 0
IsBehindMark bytes rest = (bytes ≡ byte_order_mark · rest) ⊎ ((rest ≡ bytes) × ((more : List ℕ) → bytes ≡ byte_order_mark · more → ⊥))

-- an XML declaration may stand first: `<?xml`, white space, and anything up to `?>` (section 2.8, production 23)
pub record IsDeclaration (bytes rest : List ℕ) : Type 0 where
  pub inside : List ℕ
  pub bytes_are : bytes ≡ codes "<?xml" · inside · codes "?>" · rest
  pub is_inside : IsBefore (codes "?>") inside
  pub apart : begins_white inside ≡ true

abbrev pub IsBehindDeclaration : List ℕ → List ℕ → Type 0
IsBehindDeclaration bytes rest =
    IsDeclaration bytes rest ⊎ ((rest ≡ bytes) × ((more : List ℕ) → bytes ≡ codes "<?xml" · more → begins_white more ≡ false))

-- what stands behind both
abbrev pub HasBody : List ℕ → List ℕ → Type 0
HasBody bytes body = (text : List ℕ) × IsBehindMark bytes text × IsBehindDeclaration text body
