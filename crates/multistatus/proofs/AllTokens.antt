-- The token that the reader finds is the token of the grammar: lemmas on specs/Tokens.antt and specs/Grammar.antt
use Rattle.std.proofs.Common.{◌≡◌, refl, ℕ, ◌+◌, ◌<◌, ◌≤◌, Bool, true, false, cond, eqb, codes, List, [], ◌∷◌, ◌++◌, length, Option, Some, None, sym, ◌∙◌, ap, subst, arith, length-append, inl, inr}
use Rattle.std.specs.List.{list_all}
use Rattle.multistatus.specs.declared.tags.Name.{Name}
use Rattle.multistatus.specs.declared.tags.Tag.{Tag}
use Rattle.multistatus.specs.declared.tokens.Token.{Token}
use Rattle.multistatus.specs.declared.tokens.Token.TheVariants.{Passed, Blank, Chars, Open, Empty, Close}
use Rattle.multistatus.specs.Steps.{◌>>=◌}
use Rattle.multistatus.specs.Texts.{stripped}
use Rattle.multistatus.specs.Tags.{name_at, RestOfTag, tag_rest}
use Rattle.multistatus.specs.Tokens.{is_text_byte, comment_at, section_at, instruction_at, close_at, text_at, tag_token, tag_at, section_by, declared_by, declared_at, close_by, instruction_by, markup_by, markup_at, token_by, token_at, AreTokens}
use Rattle.multistatus.specs.Grammar.{◌·◌, IsWhite, IsName, BeginsTag, AreAttributes, IsTag, IsText, IsToken, HasTokens}
use Rattle.multistatus.proofs.Cuts.{stripped_found}
use Rattle.multistatus.proofs.Runs.{some_same, bind_some, both_true}
use Rattle.multistatus.proofs.Grammar.{white_behind_name, name_found, name_read}
use Rattle.multistatus.proofs.OtherTokens.{not_false, Found, Told, comment_found, comment_read, section_found, section_read, instruction_found, instruction_read, end_found, end_read, blank_found, text_found, text_read}
use Rattle.multistatus.proofs.TagTokens.{BeginsName, name_begins, not_slash, end_of, end_ends_name, rest_with, rest_found, fewer, attributes_end_name, rest_read}

-- a tag of an element that is empty, or isn't
abbrev tag_of : Bool → Tag → Token
tag_of true tag = Empty tag
tag_of false tag = Open tag

abbrev by_rest : Name → RestOfTag → Option Found
by_rest name found = Some (tag_token name found, found.rest)

abbrev by_tag_name : Name × List ℕ → Option Found
by_tag_name name = tag_rest (length name.1) name.1 >>= by_rest name.0

tag_token-is : (is_empty : Bool) (tag : Tag) (rest : List ℕ) → tag_token tag.name (rest_with tag.attributes is_empty rest) ≡ tag_of is_empty tag
tag_token-is true tag rest = refl
tag_token-is false tag rest = refl

end_is_some : (is_empty : Bool) (rest : List ℕ) → 0 < length (end_of is_empty ++ rest)
end_is_some true rest = omega arith
end_is_some false rest = omega arith

tag_found : (is_empty : Bool) (tag : Tag) (name attributes white rest : List ℕ) → IsName tag.name name → AreAttributes tag.attributes attributes → IsWhite white
    → tag_at (name · attributes · white · end_of is_empty · rest) ≡ Some (tag_of is_empty tag, rest)
unfolding tag_at
tag_found is_empty tag name attributes white rest is are blank =
    let end : List ℕ = end_of is_empty · rest in
    let inside : List ℕ = attributes · white · end in
    let few : length tag.attributes ≤ length attributes = fewer tag.attributes attributes are in
    let whole : length inside ≡ length attributes + length (white ++ end) = length-append attributes (white ++ end) in
    let inner : length (white ++ end) ≡ length white + length end = length-append white end in
    let some : 0 < length end = end_is_some is_empty rest in
    ap (λ (o : Option (Name × List ℕ)). o >>= by_tag_name)
    (name_found tag.name name inside is (attributes_end_name tag.attributes attributes (white ++ end) are (white_behind_name white end blank (end_ends_name is_empty rest))))
    ∙ ap (λ (o : Option RestOfTag). o >>= by_rest tag.name) (rest_found tag.attributes attributes white is_empty rest (length inside) are blank (omega (arith, few, whole, inner, some)))
    ∙ ap (λ (t : Token). Some (t, rest)) (tag_token-is is_empty tag rest)

tag_first : (b : ℕ) (more : List ℕ) → eqb b 33 ≡ false → eqb b 63 ≡ false → eqb b 47 ≡ false → token_at (60 ∷ b ∷ more) ≡ tag_at (b ∷ more)
unfolding token_at markup_at stripped
tag_first b more declared instruction end = rw declared (rw instruction (rw end refl))

begins_first : (b : ℕ) (more name : List ℕ) → name ≡ b ∷ more → BeginsTag name → (eqb b 33 ≡ false) × (eqb b 63 ≡ false)
begins_first b more name same begins = subst BeginsTag same begins

tag_is_found : (is_empty : Bool) (tag : Tag) (bytes rest : List ℕ) → IsTag (end_of is_empty) tag bytes rest → token_at bytes ≡ Some (tag_of is_empty tag, rest)
tag_is_found is_empty tag bytes rest is =
    let inside : List ℕ = is.attributes · is.white · end_of is_empty · rest in
    let name = name_begins tag.name is.name is.is_name in
    let first = begins_first name.0 name.1 is.name name.2 is.begins in
    ap token_at is.bytes_are ∙ ap (λ (l : List ℕ). token_at (60 ∷ (l ++ inside))) name.2
    ∙ tag_first name.0 (name.1 ++ inside) first.0 first.1 (not_slash name.0 name.3)
    ∙ sym (ap (λ (l : List ℕ). tag_at (l ++ inside)) name.2)
    ∙ tag_found is_empty tag is.name is.attributes is.white rest is.is_name is.are_attributes is.is_white

comment_first : (bytes : List ℕ) → token_at (codes "<!--" ++ bytes) ≡ comment_at bytes
unfolding token_at markup_at declared_at stripped
comment_first bytes = refl

section_first : (bytes : List ℕ) → token_at (codes "<![CDATA[" ++ bytes) ≡ section_at bytes
unfolding token_at markup_at declared_at stripped
section_first bytes = refl

instruction_first : (bytes : List ℕ) → token_at (codes "<?" ++ bytes) ≡ instruction_at bytes
unfolding token_at markup_at stripped
instruction_first bytes = refl

end_first : (bytes : List ℕ) → token_at (codes "</" ++ bytes) ≡ close_at bytes
unfolding token_at markup_at stripped
end_first bytes = refl

other_first : (b : ℕ) (more : List ℕ) → eqb b 60 ≡ false → token_at (b ∷ more) ≡ text_at (b ∷ more)
unfolding token_at stripped
other_first b more other = rw other refl

text_first : (text bytes rest : List ℕ) → IsText text bytes rest → token_at bytes ≡ text_at bytes
text_first [] bytes rest is = let some : 0 < length {A = ℕ} [] = is.some in absurd (omega arith)
text_first (b ∷ text) bytes rest is =
    let both = both_true (is_text_byte b) (list_all is_text_byte text) is.no_tag in
    ap token_at is.bytes_are ∙ other_first b (text ++ rest) (not_false (eqb b 60) both.0) ∙ sym (ap text_at is.bytes_are)

-- a token of the grammar is found
pub token_found : (token : Token) (bytes rest : List ℕ) → IsToken token bytes rest → token_at bytes ≡ Some (token, rest)
token_found Passed bytes rest (inl is) = ap token_at is.bytes_are ∙ comment_first (is.inside · codes "-->" · rest) ∙ comment_found is.inside rest is.is_inside
token_found Passed bytes rest (inr is) =
    ap token_at is.bytes_are ∙ instruction_first ((is.target ++ is.content) · codes "?>" · rest)
    ∙ instruction_found is.target is.content rest is.is_inside is.is_target is.is_other is.is_apart
token_found (Blank chars) bytes rest is = text_first is.text bytes rest is.is_text ∙ blank_found chars bytes rest is
token_found (Chars chars) bytes rest (inl is) = text_first is.text bytes rest is.is_text ∙ text_found chars bytes rest is
token_found (Chars chars) bytes rest (inr is) =
    ap token_at is.bytes_are ∙ section_first (is.inside · codes "]]>" · rest) ∙ section_found is.inside rest is.is_inside
    ∙ ap (λ (l : List ℕ). Some (Chars l, rest)) (sym is.chars_are)
token_found (Open tag) bytes rest is = tag_is_found false tag bytes rest is
token_found (Empty tag) bytes rest is = tag_is_found true tag bytes rest is
token_found (Close name) bytes rest is =
    ap token_at is.bytes_are ∙ end_first (is.written · is.white · codes ">" · rest) ∙ end_found name is.written is.white rest is.is_name is.is_white

-- bytes are one token at most
pub token_unique : (one other : Token) (bytes rest other_rest : List ℕ) → IsToken one bytes rest → IsToken other bytes other_rest → (one ≡ other) × (rest ≡ other_rest)
token_unique one other bytes rest other_rest x y =
    let same : (one, rest) ≡ (other, other_rest) = some_same (one, rest) (other, other_rest) (sym (token_found one bytes rest x) ∙ token_found other bytes other_rest y) in
    (ap (λ (f : Found). f.0) same, ap (λ (f : Found). f.1) same)

not_mark : (m b : ℕ) (more : List ℕ) → stripped (m ∷ []) (b ∷ more) ≡ None → eqb b m ≡ false
unfolding stripped
not_mark m b more h = by_test (eqb b m) more h
  where
    by_test : (t : Bool) (more : List ℕ) → cond t (Some more) None ≡ None → t ≡ false
    by_test true more h = cc
    by_test false more h = refl

told_tag : (is_empty : Bool) (tag : Tag) (bytes rest : List ℕ) → IsTag (end_of is_empty) tag bytes rest → IsToken (cond is_empty (Empty tag) (Open tag)) bytes rest
told_tag true tag bytes rest is = is
told_tag false tag bytes rest is = is

begins_tag : (name rest bytes : List ℕ) → BeginsName name → bytes ≡ name ++ rest → stripped (codes "!") bytes ≡ None → stripped (codes "?") bytes ≡ None → BeginsTag name
begins_tag name rest bytes begins whole declared instruction =
    let first : bytes ≡ begins.0 ∷ (begins.1 ++ rest) = whole ∙ ap (λ (l : List ℕ). l ++ rest) begins.2 in
    subst BeginsTag (sym begins.2) (
      not_mark 33 begins.0 (begins.1 ++ rest) (sym (ap (stripped (codes "!")) first) ∙ declared),
      not_mark 63 begins.0 (begins.1 ++ rest) (sym (ap (stripped (codes "?")) first) ∙ instruction),
    )

tag_read : (bytes : List ℕ) (found : Found) → stripped (codes "!") bytes ≡ None → stripped (codes "?") bytes ≡ None → tag_at bytes ≡ Some found → Told (60 ∷ bytes) found
unfolding tag_at
tag_read bytes found declared instruction h =
    let name = bind_some (name_at bytes) by_tag_name found h in
    let named = name_read bytes name.0 name.1 in
    let rest = bind_some (tag_rest (length name.0.1) name.0.1) (by_rest name.0.0) found name.2 in
    let says = rest_read (length name.0.1) name.0.1 rest.0 rest.1 in
    let tag : Tag = record { name = name.0.0; attributes = rest.0.attributes } in
    let is : IsTag (end_of rest.0.is_empty) tag (60 ∷ bytes) rest.0.rest = record {
      name = named.0;
      attributes = says.0;
      white = says.1;
      bytes_are = ap (λ (l : List ℕ). 60 ∷ l) (named.1 ∙ ap (λ (l : List ℕ). named.0 ++ l) says.2);
      is_name = named.2;
      begins = begins_tag named.0 name.0.1 bytes (name_begins name.0.0 named.0 named.2) named.1 declared instruction;
      are_attributes = says.3;
      is_white = says.4;
    } in
    subst (Told (60 ∷ bytes)) (some_same (tag_token name.0.0 rest.0, rest.0.rest) found rest.2) (told_tag rest.0.is_empty tag (60 ∷ bytes) rest.0.rest is)

section_told : (bytes : List ℕ) (o : Option (List ℕ)) (found : Found) → stripped (codes "[CDATA[") bytes ≡ o → section_by o ≡ Some found → Told (codes "<!" ++ bytes) found
section_told bytes None found there h = cc
section_told bytes (Some rest) found there h =
    subst (λ (l : List ℕ). Told (codes "<!" ++ l) found) (sym (stripped_found (codes "[CDATA[") bytes rest there)) (section_read rest found h)

declared_told : (bytes : List ℕ) (o : Option (List ℕ)) (found : Found) → stripped (codes "--") bytes ≡ o → declared_by bytes o ≡ Some found → Told (codes "<!" ++ bytes) found
declared_told bytes None found there h = section_told bytes (stripped (codes "[CDATA[") bytes) found refl h
declared_told bytes (Some rest) found there h =
    subst (λ (l : List ℕ). Told (codes "<!" ++ l) found) (sym (stripped_found (codes "--") bytes rest there)) (comment_read rest found h)

close_told : (bytes : List ℕ) (o : Option (List ℕ)) (found : Found) → stripped (codes "!") bytes ≡ None → stripped (codes "?") bytes ≡ None
    → stripped (codes "/") bytes ≡ o → close_by bytes o ≡ Some found → Told (60 ∷ bytes) found
close_told bytes None found declared instruction there h = tag_read bytes found declared instruction h
close_told bytes (Some rest) found declared instruction there h =
    subst (λ (l : List ℕ). Told (60 ∷ l) found) (sym (stripped_found (codes "/") bytes rest there)) (end_read rest found h)

instruction_told : (bytes : List ℕ) (o : Option (List ℕ)) (found : Found) → stripped (codes "!") bytes ≡ None → stripped (codes "?") bytes ≡ o
    → instruction_by bytes o ≡ Some found → Told (60 ∷ bytes) found
instruction_told bytes None found declared there h = close_told bytes (stripped (codes "/") bytes) found declared there refl h
instruction_told bytes (Some rest) found declared there h =
    subst (λ (l : List ℕ). Told (60 ∷ l) found) (sym (stripped_found (codes "?") bytes rest there)) (instruction_read rest found h)

markup_told : (bytes : List ℕ) (o : Option (List ℕ)) (found : Found) → stripped (codes "!") bytes ≡ o → markup_by bytes o ≡ Some found → Told (60 ∷ bytes) found
unfolding declared_at
markup_told bytes None found there h = instruction_told bytes (stripped (codes "?") bytes) found there refl h
markup_told bytes (Some rest) found there h =
    subst (λ (l : List ℕ). Told (60 ∷ l) found) (sym (stripped_found (codes "!") bytes rest there)) (declared_told rest (stripped (codes "--") rest) found refl h)

told_by : (bytes : List ℕ) (o : Option (List ℕ)) (found : Found) → 0 < length bytes → stripped (codes "<") bytes ≡ o → token_by bytes o ≡ Some found → Told bytes found
unfolding markup_at
told_by bytes None found some there h = text_read bytes found some there h
told_by bytes (Some rest) found some there h =
    subst (λ (l : List ℕ). Told l found) (sym (stripped_found (codes "<") bytes rest there)) (markup_told rest (stripped (codes "!") rest) found refl h)

-- and what is found is a token of the grammar
pub token_told : (bytes : List ℕ) (found : Found) → 0 < length bytes → token_at bytes ≡ Some found → IsToken found.0 bytes found.1
unfolding token_at
token_told bytes found some h = told_by bytes (stripped (codes "<") bytes) found some refl h

-- a token has a byte
pub token_is_some : (token : Token) (bytes rest : List ℕ) → IsToken token bytes rest → 0 < length bytes
token_is_some token [] rest is = absurd (none token is)
  where
    no_bytes : (b : ℕ) (more : List ℕ) → [] ≡ b ∷ more → ⊥
    no_bytes b more h = cc

    no_text : (text : List ℕ) → 0 < length text → [] ≡ text ++ rest → ⊥
    no_text [] some h = omega arith
    no_text (b ∷ text) some h = no_bytes b (text ++ rest) h

    none : (token : Token) → IsToken token [] rest → ⊥
    none Passed (inl is) = no_bytes _ _ is.bytes_are
    none Passed (inr is) = no_bytes _ _ is.bytes_are
    none (Blank chars) is = no_text is.text is.is_text.some is.is_text.bytes_are
    none (Chars chars) (inl is) = no_text is.text is.is_text.some is.is_text.bytes_are
    none (Chars chars) (inr is) = no_bytes _ _ is.bytes_are
    none (Open tag) is = no_bytes _ _ is.bytes_are
    none (Empty tag) is = no_bytes _ _ is.bytes_are
    none (Close name) is = no_bytes _ _ is.bytes_are
token_is_some token (b ∷ bytes) rest is = omega arith

-- tokens of the grammar are those that are read one by one
pub read_of : (bytes : List ℕ) (tokens : List Token) → HasTokens bytes tokens → AreTokens bytes tokens
read_of bytes [] has = has
read_of bytes (token ∷ tokens) has = (has.0, token_is_some token bytes has.0 has.1, token_found token bytes has.0 has.1, read_of has.0 tokens has.2)

-- and those that are read are tokens of the grammar
pub from_read : (bytes : List ℕ) (tokens : List Token) → AreTokens bytes tokens → HasTokens bytes tokens
from_read bytes [] are = are
from_read bytes (token ∷ tokens) are = (are.0, token_told bytes (token, are.0) are.1 are.2, from_read are.0 tokens are.3)
