-- Comments, instructions, sections, end tags and text are those of the grammar: lemmas on specs/Grammar.antt
use Rattle.std.proofs.Common.{◌≡◌, refl, ℕ, ◌+◌, ◌<◌, Bool, true, false, not, cond, eqb, codes, List, [], ◌∷◌, ◌++◌, length, Option, Some, None, sym, ◌∙◌, ap, subst, arith, length-append, inl, inr}
use Rattle.std.specs.List.{list_all}
use Rattle.std.specs.Str.{bytes_eq, str_to_ascii_lowercase}
use borrow.Author.Tests.{eqb-true}
use Rattle.multistatus.specs.declared.tags.Name.{Name}
use Rattle.multistatus.specs.declared.tokens.Token.{Token}
use Rattle.multistatus.specs.declared.tokens.Token.TheVariants.{Passed, Blank, Chars, Close}
use Rattle.multistatus.specs.Steps.{◌>>=◌}
use Rattle.multistatus.specs.Texts.{is_white, front, behind, stripped, cut, line_ends, char_data}
use Rattle.multistatus.specs.Tags.{is_part_byte, part_at, name_at}
use Rattle.multistatus.specs.Tokens.{is_text_byte, is_target, comment_at, section_at, instruction_at, close_at, text_token, text_at}
use Rattle.multistatus.specs.Grammar.{◌·◌, IsWhite, IsBefore, IsPart, IsName, IsApart, IsTagOrEnd, IsText, IsBlank, IsOtherText, IsToken}
use Rattle.multistatus.proofs.Cuts.{stripped-mark, stripped_found}
use Rattle.multistatus.proofs.Fronts.{text_shorter}
use Rattle.multistatus.proofs.Runs.{some_same, bind_some, both_true, chosen}
use Rattle.multistatus.proofs.Befores.{cut_before, cut_found, Stops, front_of, split_of}
use Rattle.multistatus.proofs.Referring.{data_found, data_read}
use Rattle.multistatus.proofs.Grammar.{white_behind_name, part_found, part_read, white_ends, name_found, name_read}

abbrev pub Found : Type 0
Found = Token × List ℕ

-- what is found at the front of bytes is their token
abbrev pub Told : List ℕ → Found → Type 0
Told bytes found = IsToken found.0 bytes found.1

abbrev behind_hyphens : List ℕ × List ℕ → Option Found
behind_hyphens parts = stripped (codes ">") parts.1 >>= λ rest. Some (Passed, rest)

pub comment_found : (inside rest : List ℕ) → IsBefore (codes "--") inside → comment_at (inside · codes "-->" · rest) ≡ Some (Passed, rest)
unfolding comment_at
comment_found inside rest is =
    ap (λ (o : Option (List ℕ × List ℕ)). o >>= behind_hyphens) (cut_before (codes "--") inside (62 ∷ rest) is)
    ∙ ap (λ (o : Option (List ℕ)). o >>= λ more. Some (Passed, more)) (stripped-mark (62 ∷ []) rest)

pub comment_read : (bytes : List ℕ) (found : Found) → comment_at bytes ≡ Some found → Told (codes "<!--" ++ bytes) found
unfolding comment_at
comment_read bytes found h =
    let parts = bind_some (cut (codes "--") bytes) behind_hyphens found h in
    let split = cut_found (codes "--") bytes parts.0 parts.1 in
    let rest = bind_some (stripped (codes ">") parts.0.1) (λ more. Some (Passed, more)) found parts.2 in
    let end : parts.0.1 ≡ 62 ∷ rest.0 = stripped_found (62 ∷ []) parts.0.1 rest.0 rest.1 in
    subst (Told (codes "<!--" ++ bytes)) (some_same (Passed, rest.0) found rest.2)
    (inl (record {
      inside = parts.0.0;
      bytes_are = ap (λ (l : List ℕ). codes "<!--" ++ l) (split.0 ∙ ap (λ (l : List ℕ). parts.0.0 · codes "--" · l) end);
      is_inside = split.1;
    }))

abbrev behind_section : List ℕ × List ℕ → Option Found
behind_section parts = Some (Chars (line_ends parts.0), parts.1)

pub section_found : (inside rest : List ℕ) → IsBefore (codes "]]>") inside → section_at (inside · codes "]]>" · rest) ≡ Some (Chars (line_ends inside), rest)
unfolding section_at
section_found inside rest is = ap (λ (o : Option (List ℕ × List ℕ)). o >>= behind_section) (cut_before (codes "]]>") inside rest is)

pub section_read : (bytes : List ℕ) (found : Found) → section_at bytes ≡ Some found → Told (codes "<![CDATA[" ++ bytes) found
unfolding section_at
section_read bytes found h =
    let parts = bind_some (cut (codes "]]>") bytes) behind_section found h in
    let split = cut_found (codes "]]>") bytes parts.0 parts.1 in
    subst (Told (codes "<![CDATA[" ++ bytes)) (some_same (Chars (line_ends parts.0.0), parts.0.1) found parts.2)
    (inr (record {
      inside = parts.0.0;
      bytes_are = ap (λ (l : List ℕ). codes "<![CDATA[" ++ l) split.0;
      is_inside = split.1;
      chars_are = refl;
    }))

apart_stops : (bytes : List ℕ) → IsApart bytes → Stops is_part_byte bytes
apart_stops [] h = tt
apart_stops (b ∷ bytes) h = white_ends b h

pub not_false : (b : Bool) → not b ≡ true → b ≡ false
not_false true h = cc
not_false false h = refl

target_is : (target content : List ℕ) → is_target target content ≡ true → (bytes_eq (str_to_ascii_lowercase target) (codes "xml") ≡ false) × IsApart content
target_is target [] h = (not_false (bytes_eq (str_to_ascii_lowercase target) (codes "xml")) h, tt)
target_is target (b ∷ content) h =
    let both = both_true (is_white b) (not (bytes_eq (str_to_ascii_lowercase target) (codes "xml"))) h in
    (not_false (bytes_eq (str_to_ascii_lowercase target) (codes "xml")) both.1, both.0)

is_its_target : (target content : List ℕ) → bytes_eq (str_to_ascii_lowercase target) (codes "xml") ≡ false → IsApart content → is_target target content ≡ true
is_its_target target [] other apart = rw other refl
is_its_target target (b ∷ content) other apart = rw apart (rw other refl)

abbrev by_target : List ℕ → List ℕ × List ℕ → Option Found
by_target rest target = cond (is_target target.0 target.1) (Some (Passed, rest)) None

abbrev behind_instruction : List ℕ × List ℕ → Option Found
behind_instruction parts = part_at parts.0 >>= by_target parts.1

pub instruction_found : (target content rest : List ℕ) → IsBefore (codes "?>") (target ++ content) → IsPart target
    → bytes_eq (str_to_ascii_lowercase target) (codes "xml") ≡ false → IsApart content → instruction_at ((target ++ content) · codes "?>" · rest) ≡ Some (Passed, rest)
unfolding instruction_at
instruction_found target content rest is part other apart =
    ap (λ (o : Option (List ℕ × List ℕ)). o >>= behind_instruction) (cut_before (codes "?>") (target ++ content) rest is)
    ∙ ap (λ (o : Option (List ℕ × List ℕ)). o >>= by_target rest) (part_found target content part (apart_stops content apart))
    ∙ ap (λ (t : Bool). cond {A = Option Found} t (Some (Passed, rest)) None) (is_its_target target content other apart)

pub instruction_read : (bytes : List ℕ) (found : Found) → instruction_at bytes ≡ Some found → Told (codes "<?" ++ bytes) found
unfolding instruction_at
instruction_read bytes found h =
    let parts = bind_some (cut (codes "?>") bytes) behind_instruction found h in
    let split = cut_found (codes "?>") bytes parts.0 parts.1 in
    let target = bind_some (part_at parts.0.0) (by_target parts.0.1) found parts.2 in
    let part = part_read parts.0.0 target.0 target.1 in
    let is = chosen (is_target target.0.0 target.0.1) (Some (Passed, parts.0.1)) found target.2 in
    let fits = target_is target.0.0 target.0.1 is.0 in
    subst (Told (codes "<?" ++ bytes)) (some_same (Passed, parts.0.1) found is.1)
    (inr (record {
      target = target.0.0;
      content = target.0.1;
      bytes_are = ap (λ (l : List ℕ). codes "<?" ++ l) (split.0 ∙ ap (λ (l : List ℕ). l · codes "?>" · parts.0.1) part.0);
      is_inside = subst (IsBefore (codes "?>")) part.0 split.1;
      is_target = part.1;
      is_other = fits.0;
      is_apart = fits.1;
    }))

abbrev behind_end_name : Name × List ℕ → Option Found
behind_end_name name = stripped (codes ">") (behind is_white name.1) >>= λ rest. Some (Close name.0, rest)

pub end_found : (name : Name) (written white rest : List ℕ) → IsName name written → IsWhite white → close_at (written · white · codes ">" · rest) ≡ Some (Close name, rest)
unfolding close_at
end_found name written white rest is blank =
    ap (λ (o : Option (Name × List ℕ)). o >>= behind_end_name) (name_found name written (white ++ (62 ∷ rest)) is (white_behind_name white (62 ∷ rest) blank (refl, refl)))
    ∙ ap (λ (l : List ℕ). stripped (codes ">") l >>= λ more. Some (Close name, more)) (front_of is_white white (62 ∷ rest) blank refl).1
    ∙ ap (λ (o : Option (List ℕ)). o >>= λ more. Some (Close name, more)) (stripped-mark (62 ∷ []) rest)

pub end_read : (bytes : List ℕ) (found : Found) → close_at bytes ≡ Some found → Told (codes "</" ++ bytes) found
unfolding close_at
end_read bytes found h =
    let name = bind_some (name_at bytes) behind_end_name found h in
    let named = name_read bytes name.0 name.1 in
    let white = split_of is_white name.0.1 in
    let rest = bind_some (stripped (codes ">") (behind is_white name.0.1)) (λ more. Some (Close name.0.0, more)) found name.2 in
    let end : behind is_white name.0.1 ≡ 62 ∷ rest.0 = stripped_found (62 ∷ []) (behind is_white name.0.1) rest.0 rest.1 in
    subst (Told (codes "</" ++ bytes)) (some_same (Close name.0.0, rest.0) found rest.2)
    (record {
      written = named.0;
      white = front is_white name.0.1;
      bytes_are = ap (λ (l : List ℕ). codes "</" ++ l) (named.1 ∙ ap (λ (l : List ℕ). named.0 ++ l) (white.whole ∙ ap (λ (l : List ℕ). front is_white name.0.1 ++ l) end));
      is_name = named.2;
      is_white = white.all;
    })

tag_stops : (bytes : List ℕ) → IsTagOrEnd bytes → Stops is_text_byte bytes
tag_stops [] h = tt
tag_stops (b ∷ bytes) h = ap is_text_byte h

stops_at_tag : (bytes : List ℕ) → Stops is_text_byte bytes → IsTagOrEnd bytes
stops_at_tag [] h = tt
stops_at_tag (b ∷ bytes) h = eqb-true b 60 (not_true (eqb b 60) h)
  where
    not_true : (t : Bool) → not t ≡ false → t ≡ true
    not_true true h = refl
    not_true false h = cc

abbrev with_rest : List ℕ → Token → Option Found
with_rest rest token = Some (token, rest)

text_at-is : (text rest : List ℕ) → list_all is_text_byte text ≡ true → IsTagOrEnd rest → text_at (text ++ rest) ≡ (text_token text >>= with_rest rest)
unfolding text_at
text_at-is text rest all ends =
    let split = front_of is_text_byte text rest all (tag_stops rest ends) in
    ap (λ (f : List ℕ). text_token f >>= with_rest (behind is_text_byte (text ++ rest))) split.0 ∙ ap (λ (r : List ℕ). text_token text >>= with_rest r) split.1

pub blank_found : (chars bytes rest : List ℕ) → IsBlank chars bytes rest → text_at bytes ≡ Some (Blank chars, rest)
blank_found chars bytes rest is =
    ap text_at is.is_text.bytes_are ∙ text_at-is is.text rest is.is_text.no_tag is.is_text.ends
    ∙ ap (λ (t : Bool). cond t (Some (Blank (line_ends is.text))) (char_data is.text >>= λ text. Some (Chars text)) >>= with_rest rest) is.is_white
    ∙ ap (λ (l : List ℕ). Some (Blank l, rest)) (sym is.chars_are)

pub text_found : (chars bytes rest : List ℕ) → IsOtherText chars bytes rest → text_at bytes ≡ Some (Chars chars, rest)
text_found chars bytes rest is =
    ap text_at is.is_text.bytes_are ∙ text_at-is is.text rest is.is_text.no_tag is.is_text.ends
    ∙ ap (λ (t : Bool). cond t (Some (Blank (line_ends is.text))) (char_data is.text >>= λ text. Some (Chars text)) >>= with_rest rest) is.is_other
    ∙ ap (λ (o : Option (List ℕ)). (o >>= λ text. Some (Chars text)) >>= with_rest rest) (data_found is.text chars is.chars_are)

text_by : (bytes text rest : List ℕ) (white : Bool) (found : Found) → IsText text bytes rest → list_all is_white text ≡ white
    → (cond white (Some (Blank (line_ends text))) (char_data text >>= λ chars. Some (Chars chars)) >>= with_rest rest) ≡ Some found → Told bytes found
text_by bytes text rest true found is white h =
    subst (Told bytes) (some_same (Blank (line_ends text), rest) found h) (record { text = text; is_text = is; is_white = white; chars_are = refl })
text_by bytes text rest false found is white h =
    let token = bind_some (char_data text >>= λ chars. Some (Chars chars)) (with_rest rest) found h in
    let chars = bind_some (char_data text) (λ chars. Some (Chars chars)) token.0 token.1 in
    subst (Told bytes) (ap (λ (t : Token). (t, rest)) (some_same (Chars chars.0) token.0 chars.2) ∙ some_same (token.0, rest) found token.2)
    (inl (record { text = text; is_text = is; is_other = white; chars_are = data_read text chars.0 chars.1 }))

pub text_read : (bytes : List ℕ) (found : Found) → 0 < length bytes → stripped (codes "<") bytes ≡ None → text_at bytes ≡ Some found → Told bytes found
unfolding text_at
text_read bytes found some other h =
    let split = split_of is_text_byte bytes in
    let less : length (behind is_text_byte bytes) < length bytes = text_shorter bytes some other in
    let whole : length bytes ≡ length (front is_text_byte bytes) + length (behind is_text_byte bytes) =
    ap (λ (l : List ℕ). length l) split.whole ∙ length-append (front is_text_byte bytes) (behind is_text_byte bytes) in
    text_by bytes (front is_text_byte bytes) (behind is_text_byte bytes) (list_all is_white (front is_text_byte bytes)) found
    (record { bytes_are = split.whole; some = omega (arith, less, whole); no_tag = split.all; ends = stops_at_tag (behind is_text_byte bytes) split.stops })
    refl h
