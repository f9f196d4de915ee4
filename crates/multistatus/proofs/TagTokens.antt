-- Attributes and tags are those of the grammar: lemmas on specs/Grammar.antt
use Rattle.std.proofs.Common.{◌≡◌, refl, ℕ, ◌+◌, ◌<◌, ◌≤◌, zero, suc, Bool, true, false, cond, eqb, codes, List, [], ◌∷◌, ◌++◌, length, Option, Some, None, sym, ◌∙◌, ap, subst, arith, append_assoc, length-append, ◌⊎◌, inl, inr}
use Rattle.std.specs.List.{list_all, list_any}
use Rattle.std.specs.Option.{option_map}
use borrow.Author.Tests.{tests}
use Rattle.multistatus.specs.declared.tags.Name.{Name}
use Rattle.multistatus.specs.declared.tags.Attribute.{Attribute}
use Rattle.multistatus.specs.Steps.{◌>>=◌}
use Rattle.multistatus.specs.Texts.{is_white, begins_white, front, behind, stripped, char_data}
use Rattle.multistatus.specs.Tags.{is_part_byte, name_at, single_quoted, quoted_by, quoted_at, value_of, attribute_at, end_by, tag_end, StepInTag, onward, ended, step_with, step_inside, tag_step, RestOfTag, with_attribute, rest_by, tag_rest}
use Rattle.multistatus.specs.Grammar.{◌·◌, IsWhite, IsBefore, IsPart, IsNameOf, IsName, IsAttribute, AreAttributes}
use Rattle.multistatus.proofs.Cuts.{stripped-mark, stripped_found}
use Rattle.multistatus.proofs.Runs.{some_same, bind_some, both_true}
use Rattle.multistatus.proofs.Befores.{cut_before, cut_found, Stops, front_of, split_of}
use Rattle.multistatus.proofs.Referring.{data_found, data_read}
use Rattle.multistatus.proofs.Grammar.{EndsName, white_ends, white_no_colon, white_behind_name, name_found, name_read}

abbrev IsQuote : List ℕ → Type 0
IsQuote quote = (quote ≡ codes "\"") ⊎ (quote ≡ codes "'")

not_double : (bytes : List ℕ) → stripped (34 ∷ []) (39 ∷ bytes) ≡ None
unfolding stripped
not_double bytes = refl

abbrev FindsQuoted : List ℕ → List ℕ → List ℕ → Type 0
FindsQuoted inside rest quote = IsBefore quote inside → quoted_at (quote · inside · quote · rest) ≡ Some (inside, rest)

in_double : (inside rest : List ℕ) → FindsQuoted inside rest (34 ∷ [])
unfolding quoted_at
in_double inside rest is =
    ap (quoted_by (34 ∷ (inside ++ (34 ∷ rest)))) (stripped-mark (34 ∷ []) (inside ++ (34 ∷ rest))) ∙ cut_before (34 ∷ []) inside rest is

in_single : (inside rest : List ℕ) → FindsQuoted inside rest (39 ∷ [])
unfolding quoted_at
in_single inside rest is =
    ap (quoted_by (39 ∷ (inside ++ (39 ∷ rest)))) (not_double (inside ++ (39 ∷ rest)))
    ∙ ap single_quoted (stripped-mark (39 ∷ []) (inside ++ (39 ∷ rest))) ∙ cut_before (39 ∷ []) inside rest is

quoted_found : (quote inside rest : List ℕ) → IsQuote quote → IsBefore quote inside → quoted_at (quote · inside · quote · rest) ≡ Some (inside, rest)
quoted_found quote inside rest (inl same) is = subst (FindsQuoted inside rest) (sym same) (in_double inside rest) is
quoted_found quote inside rest (inr same) is = subst (FindsQuoted inside rest) (sym same) (in_single inside rest) is

abbrev Quoted : List ℕ → List ℕ × List ℕ → Type 0
Quoted bytes parts = (quote : List ℕ) × IsQuote quote × (bytes ≡ quote · parts.0 · quote · parts.1) × IsBefore quote parts.0

read_single : (bytes : List ℕ) (o : Option (List ℕ)) (parts : List ℕ × List ℕ) → stripped (codes "'") bytes ≡ o → single_quoted o ≡ Some parts → Quoted bytes parts
read_single bytes None parts there h = cc
read_single bytes (Some inside) parts there h =
    let split = cut_found (39 ∷ []) inside parts h in
    let first : bytes ≡ 39 ∷ inside = stripped_found (39 ∷ []) bytes inside there in
    (39 ∷ [], inr refl, first ∙ ap (λ (l : List ℕ). 39 ∷ l) split.0, split.1)

read_quoted : (bytes : List ℕ) (o : Option (List ℕ)) (parts : List ℕ × List ℕ) → stripped (codes "\"") bytes ≡ o → quoted_by bytes o ≡ Some parts → Quoted bytes parts
read_quoted bytes None parts there h = read_single bytes (stripped (codes "'") bytes) parts refl h
read_quoted bytes (Some inside) parts there h =
    let split = cut_found (34 ∷ []) inside parts h in
    let first : bytes ≡ 34 ∷ inside = stripped_found (34 ∷ []) bytes inside there in
    (34 ∷ [], inl refl, first ∙ ap (λ (l : List ℕ). 34 ∷ l) split.0, split.1)

quoted_read : (bytes : List ℕ) (parts : List ℕ × List ℕ) → quoted_at bytes ≡ Some parts → Quoted bytes parts
unfolding quoted_at
quoted_read bytes parts h = read_quoted bytes (stripped (codes "\"") bytes) parts refl h

quote_stops : (quote rest : List ℕ) → IsQuote quote → Stops is_white (quote ++ rest)
quote_stops quote rest (inl same) = subst (λ (q : List ℕ). Stops is_white (q ++ rest)) (sym same) refl
quote_stops quote rest (inr same) = subst (λ (q : List ℕ). Stops is_white (q ++ rest)) (sym same) refl

-- seven pieces, and what follows them
spread : (a b c d e f g rest : List ℕ) → (a · b · c · d · e · f · g) ++ rest ≡ a · b · c · d · e · f · g · rest
spread a b c d e f g rest =
    append_assoc a (b · c · d · e · f · g) rest
    ∙ ap (λ (l : List ℕ). a ++ l) (append_assoc b (c · d · e · f · g) rest
    ∙ ap (λ (l : List ℕ). b ++ l) (append_assoc c (d · e · f · g) rest
    ∙ ap (λ (l : List ℕ). c ++ l) (append_assoc d (e · f · g) rest
    ∙ ap (λ (l : List ℕ). d ++ l) (append_assoc e (f · g) rest
    ∙ ap (λ (l : List ℕ). e ++ l) (append_assoc f g rest)))))

abbrev attribute_of : Name → List ℕ → Attribute
attribute_of name value = record { name = name; value = value }

abbrev by_quoted : Name → List ℕ × List ℕ → Option (Attribute × List ℕ)
by_quoted name quoted = value_of quoted.0 >>= λ value. Some (attribute_of name value, quoted.1)

abbrev by_equals : Name → List ℕ → Option (Attribute × List ℕ)
by_equals name after = quoted_at (behind is_white after) >>= by_quoted name

abbrev by_name : Name × List ℕ → Option (Attribute × List ℕ)
by_name name = stripped (codes "=") (behind is_white name.1) >>= by_equals name.0

value_found : (inside value : List ℕ) → list_any (λ b. eqb b 60) inside ≡ false → char_data inside ≡ Some value → value_of inside ≡ Some value
unfolding value_of
value_found inside value none is = ap (λ (t : Bool). cond t None (char_data inside)) none ∙ is

unchosen : (t : Bool) (o : Option (List ℕ)) (value : List ℕ) → cond t None o ≡ Some value → (t ≡ false) × (o ≡ Some value)
unchosen true o value h = cc
unchosen false o value h = (refl, h)

value_read : (inside value : List ℕ) → value_of inside ≡ Some value → (list_any (λ b. eqb b 60) inside ≡ false) × (char_data inside ≡ Some value)
unfolding value_of
value_read inside value h = unchosen (list_any (λ b. eqb b 60) inside) (char_data inside) value h

attribute_found : (attribute : Attribute) (bytes rest : List ℕ) → IsAttribute attribute bytes → attribute_at (bytes ++ rest) ≡ Some (attribute, rest)
unfolding attribute_at
attribute_found attribute bytes rest is =
    let n : Name = attribute.name in
    let quoted : List ℕ = is.quote · is.inside · is.quote · rest in
    let valued : List ℕ = is.white_behind · quoted in
    ap (λ (l : List ℕ). name_at (l ++ rest) >>= by_name) is.bytes_are
    ∙ ap (λ (l : List ℕ). name_at l >>= by_name) (spread is.name is.white_before (codes "=") is.white_behind is.quote is.inside is.quote rest)
    ∙ ap (λ (o : Option (Name × List ℕ)). o >>= by_name)
    (name_found n is.name (is.white_before ++ (61 ∷ valued)) is.is_name (white_behind_name is.white_before (61 ∷ valued) is.is_white_before (refl, refl)))
    ∙ ap (λ (l : List ℕ). stripped (codes "=") l >>= by_equals n) (front_of is_white is.white_before (61 ∷ valued) is.is_white_before refl).1
    ∙ ap (λ (o : Option (List ℕ)). o >>= by_equals n) (stripped-mark (61 ∷ []) valued)
    ∙ ap (λ (l : List ℕ). quoted_at l >>= by_quoted n) (front_of is_white is.white_behind quoted is.is_white_behind (quote_stops is.quote (is.inside · is.quote · rest) is.is_quote)).1
    ∙ ap (λ (o : Option (List ℕ × List ℕ)). o >>= by_quoted n) (quoted_found is.quote is.inside rest is.is_quote is.is_inside)
    ∙ ap (λ (o : Option (List ℕ)). o >>= λ value. Some (attribute_of n value, rest)) (value_found is.inside attribute.value is.no_tag (data_found is.inside attribute.value is.value_is))

abbrev Attributed : List ℕ → Attribute × List ℕ → Type 0
Attributed bytes found = (written : List ℕ) × (bytes ≡ written ++ found.1) × IsAttribute found.0 written

attribute_read : (bytes : List ℕ) (found : Attribute × List ℕ) → attribute_at bytes ≡ Some found → Attributed bytes found
unfolding attribute_at
attribute_read bytes found h =
    let name = bind_some (name_at bytes) by_name found h in
    let named = name_read bytes name.0 name.1 in
    let before = split_of is_white name.0.1 in
    let after = bind_some (stripped (codes "=") (behind is_white name.0.1)) (by_equals name.0.0) found name.2 in
    let equals : behind is_white name.0.1 ≡ 61 ∷ after.0 = stripped_found (61 ∷ []) (behind is_white name.0.1) after.0 after.1 in
    let white = split_of is_white after.0 in
    let quoted = bind_some (quoted_at (behind is_white after.0)) (by_quoted name.0.0) found after.2 in
    let quote = quoted_read (behind is_white after.0) quoted.0 quoted.1 in
    let value = bind_some (value_of quoted.0.0) (λ value. Some (attribute_of name.0.0 value, quoted.0.1)) found quoted.2 in
    let is_value = value_read quoted.0.0 value.0 value.1 in
    let first : List ℕ = front is_white name.0.1 in
    let second : List ℕ = front is_white after.0 in
    let written : List ℕ = named.0 · first · codes "=" · second · quote.0 · quoted.0.0 · quote.0 in
    let whole : bytes ≡ written ++ quoted.0.1 =
    named.1 ∙ ap (λ (l : List ℕ). named.0 ++ l) (before.whole ∙ ap (λ (l : List ℕ). first ++ l) (equals ∙ ap (λ (l : List ℕ). 61 ∷ l) (white.whole ∙ ap (λ (l : List ℕ). second ++ l) quote.2)))
    ∙ sym (spread named.0 first (codes "=") second quote.0 quoted.0.0 quote.0 quoted.0.1) in
    let is : IsAttribute (attribute_of name.0.0 value.0) written = record {
      name = named.0;
      white_before = first;
      white_behind = second;
      quote = quote.0;
      inside = quoted.0.0;
      bytes_are = refl;
      is_name = named.2;
      is_white_before = before.all;
      is_white_behind = white.all;
      is_quote = quote.1;
      is_inside = quote.3;
      no_tag = is_value.0;
      value_is = data_read quoted.0.0 value.0 is_value.1;
    } in
    subst (Attributed bytes) (some_same (attribute_of name.0.0 value.0, quoted.0.1) found value.2) (written, whole, is)

-- names and attributes begin with a byte of a name
abbrev pub BeginsName : List ℕ → Type 0
BeginsName bytes = (b : ℕ) × (more : List ℕ) × (bytes ≡ b ∷ more) × (is_part_byte b ≡ true)

part_begins : (part : List ℕ) → IsPart part → BeginsName part
part_begins [] is = let none : false ≡ true = is.starts in cc
part_begins (b ∷ part) is = (b, part, refl, (both_true (is_part_byte b) (list_all is_part_byte part) is.all).0)

name_begins_of : (prefix local bytes : List ℕ) → IsNameOf prefix local bytes → BeginsName bytes
name_begins_of [] local bytes is = subst BeginsName (sym is.0) (part_begins local is.1)
name_begins_of (b ∷ prefix) local bytes is = (b, prefix · codes ":" · local, is.0, (both_true (is_part_byte b) (list_all is_part_byte prefix) is.1.all).0)

pub name_begins : (name : Name) (bytes : List ℕ) → IsName name bytes → BeginsName bytes
name_begins name bytes is = name_begins_of name.prefix name.local bytes is

attribute_begins : (attribute : Attribute) (bytes : List ℕ) → IsAttribute attribute bytes → BeginsName bytes
attribute_begins attribute bytes is =
    let name = name_begins attribute.name is.name is.is_name in
    let rest : List ℕ = is.white_before · codes "=" · is.white_behind · is.quote · is.inside · is.quote in
    (name.0, name.1 ++ rest, is.bytes_are ∙ ap (λ (l : List ℕ). l ++ rest) name.2, name.3)

not_white : (b : ℕ) → is_part_byte b ≡ true → is_white b ≡ false
not_white b h = grind (arith, tests)

not_greater : (b : ℕ) → is_part_byte b ≡ true → eqb b 62 ≡ false
not_greater b h = grind (arith, tests)

pub not_slash : (b : ℕ) → is_part_byte b ≡ true → eqb b 47 ≡ false
not_slash b h = grind (arith, tests)

abbrev pub end_of : Bool → List ℕ
end_of true = codes "/>"
end_of false = codes ">"

end_found : (is_empty : Bool) (rest : List ℕ) → tag_end (end_of is_empty ++ rest) ≡ Some (is_empty, rest)
unfolding tag_end stripped
end_found true rest = refl
end_found false rest = refl

end_stops : (is_empty : Bool) (rest : List ℕ) → Stops is_white (end_of is_empty ++ rest)
end_stops true rest = refl
end_stops false rest = refl

pub end_ends_name : (is_empty : Bool) (rest : List ℕ) → EndsName (end_of is_empty ++ rest)
end_ends_name true rest = (refl, refl)
end_ends_name false rest = (refl, refl)

no_end_by : (b : ℕ) (more : List ℕ) → eqb b 62 ≡ false → eqb b 47 ≡ false → tag_end (b ∷ more) ≡ None
unfolding tag_end stripped
no_end_by b more greater slash = rw greater (rw slash refl)

no_end : (bytes rest : List ℕ) → BeginsName bytes → tag_end (bytes ++ rest) ≡ None
no_end bytes rest begins =
    ap (λ (l : List ℕ). tag_end (l ++ rest)) begins.2 ∙ no_end_by begins.0 (begins.1 ++ rest) (not_greater begins.0 begins.3) (not_slash begins.0 begins.3)

name_stops : (bytes rest : List ℕ) → BeginsName bytes → Stops is_white (bytes ++ rest)
name_stops bytes rest begins = subst (λ (l : List ℕ). Stops is_white (l ++ rest)) (sym begins.2) (not_white begins.0 begins.3)

step_at_end : (white : List ℕ) (is_empty : Bool) (rest : List ℕ) → IsWhite white → tag_step (white · end_of is_empty · rest) ≡ ended (Some (is_empty, rest))
unfolding tag_step
step_at_end white is_empty rest blank =
    ap (λ (l : List ℕ). step_inside (white · end_of is_empty · rest) (tag_end l)) (front_of is_white white (end_of is_empty ++ rest) blank (end_stops is_empty rest)).1
    ∙ ap (step_inside (white · end_of is_empty · rest)) (end_found is_empty rest)

pub begins_front : (white rest : List ℕ) → begins_white white ≡ true → begins_white (white ++ rest) ≡ true
begins_front [] rest h = cc
begins_front (b ∷ white) rest h = h

step_at_attribute : (white written rest : List ℕ) (attribute : Attribute) → begins_white white ≡ true → IsWhite white → IsAttribute attribute written
    → tag_step (white · written · rest) ≡ onward attribute rest
unfolding tag_step
step_at_attribute white written rest attribute begins blank is =
    let bytes : List ℕ = white · written · rest in
    let name = attribute_begins attribute written is in
    let inside : behind is_white bytes ≡ written ++ rest = (front_of is_white white (written ++ rest) blank (name_stops written rest name)).1 in
    ap (λ (l : List ℕ). step_inside bytes (tag_end l)) inside
    ∙ ap (step_inside bytes) (no_end written rest name)
    ∙ ap (λ (t : Bool). cond t (step_with (attribute_at (behind is_white bytes))) (ended None)) (begins_front white (written ++ rest) begins)
    ∙ ap (λ (l : List ℕ). step_with (attribute_at l)) inside
    ∙ ap step_with (attribute_found attribute written rest is)

abbrev pub rest_with : List Attribute → Bool → List ℕ → RestOfTag
rest_with attributes is_empty rest = record { attributes = attributes; is_empty = is_empty; rest = rest }

pub rest_found : (attributes : List Attribute) (bytes white : List ℕ) (is_empty : Bool) (rest : List ℕ) (n : ℕ) → AreAttributes attributes bytes → IsWhite white
    → length attributes < n → tag_rest n (bytes · white · end_of is_empty · rest) ≡ Some (rest_with attributes is_empty rest)
rest_found [] bytes white is_empty rest zero are blank room = absurd (omega arith)
rest_found [] bytes white is_empty rest (suc n) are blank room =
    ap (λ (l : List ℕ). rest_by (tag_rest n) (tag_step (l · white · end_of is_empty · rest))) are ∙ ap (rest_by (tag_rest n)) (step_at_end white is_empty rest blank)
rest_found (a ∷ attributes) bytes white is_empty rest zero are blank room = absurd (omega arith)
rest_found (a ∷ attributes) bytes white is_empty rest (suc n) are blank room =
    let end : List ℕ = white · end_of is_empty · rest in
    ap (λ (l : List ℕ). rest_by (tag_rest n) (tag_step (l ++ end))) are.3
    ∙ ap (λ (l : List ℕ). rest_by (tag_rest n) (tag_step l)) (append_assoc are.0 (are.1 ++ are.2) end ∙ ap (λ (l : List ℕ). are.0 ++ l) (append_assoc are.1 are.2 end))
    ∙ ap (rest_by (tag_rest n)) (step_at_attribute are.0 are.1 (are.2 ++ end) a are.4 are.5 are.6)
    ∙ ap (λ (o : Option RestOfTag). o >>= with_attribute a) (rest_found attributes are.2 white is_empty rest n are.7 blank (omega (arith, room)))

-- each attribute has a byte
pub fewer : (attributes : List Attribute) (bytes : List ℕ) → AreAttributes attributes bytes → length attributes ≤ length bytes
fewer [] bytes are = omega arith
fewer (a ∷ attributes) bytes are =
    let more : length attributes ≤ length are.2 = fewer attributes are.2 are.7 in
    let name = attribute_begins a are.1 are.6 in
    let whole : length bytes ≡ length are.0 + length (are.1 ++ are.2) = ap (λ (l : List ℕ). length l) are.3 ∙ length-append are.0 (are.1 ++ are.2) in
    let inner : length (are.1 ++ are.2) ≡ length are.1 + length are.2 = length-append are.1 are.2 in
    let some : length are.1 ≡ length (name.0 ∷ name.1) = ap (λ (l : List ℕ). length l) name.2 in
    omega (arith, more, whole, inner, some)

white_first : (white rest : List ℕ) → begins_white white ≡ true → EndsName (white ++ rest)
white_first [] rest h = cc
white_first (b ∷ white) rest h = (white_ends b h, white_no_colon b h)

pub attributes_end_name : (attributes : List Attribute) (bytes rest : List ℕ) → AreAttributes attributes bytes → EndsName rest → EndsName (bytes ++ rest)
attributes_end_name [] bytes rest are ends = subst (λ (l : List ℕ). EndsName (l ++ rest)) (sym are) ends
attributes_end_name (a ∷ attributes) bytes rest are ends =
    subst (λ (l : List ℕ). EndsName l) (sym (ap (λ (l : List ℕ). l ++ rest) are.3 ∙ append_assoc are.0 (are.1 ++ are.2) rest)) (white_first are.0 ((are.1 ++ are.2) ++ rest) are.4)

end_read_by : (bytes : List ℕ) (o : Option (List ℕ)) (end : Bool × List ℕ) → option_map (λ (rest : List ℕ). (true, rest)) o ≡ Some end → stripped (codes "/>") bytes ≡ o
    → bytes ≡ end_of end.0 ++ end.1
end_read_by bytes None end h there = cc
end_read_by bytes (Some rest) end h there =
    subst (λ (e : Bool × List ℕ). bytes ≡ end_of e.0 ++ e.1) (some_same (true, rest) end h) (stripped_found (codes "/>") bytes rest there)

ends_read : (bytes : List ℕ) (o : Option (List ℕ)) (end : Bool × List ℕ) → end_by bytes o ≡ Some end → stripped (codes ">") bytes ≡ o → bytes ≡ end_of end.0 ++ end.1
ends_read bytes None end h there = end_read_by bytes (stripped (codes "/>") bytes) end h refl
ends_read bytes (Some rest) end h there =
    subst (λ (e : Bool × List ℕ). bytes ≡ end_of e.0 ++ e.1) (some_same (false, rest) end h) (stripped_found (codes ">") bytes rest there)

tag_end_read : (bytes : List ℕ) (end : Bool × List ℕ) → tag_end bytes ≡ Some end → bytes ≡ end_of end.0 ++ end.1
unfolding tag_end
tag_end_read bytes end h = ends_read bytes (stripped (codes ">") bytes) end h refl

front_white : (bytes : List ℕ) → begins_white bytes ≡ true → begins_white (front is_white bytes) ≡ true
front_white [] h = h
front_white (b ∷ bytes) h = ap (λ (t : Bool). begins_white (cond t (b ∷ front is_white bytes) [])) h ∙ h

-- what a step says of the bytes
abbrev StepSays : List ℕ → StepInTag → Type 0
StepSays bytes (ended None) = Unit {0}
StepSays bytes (ended (Some end)) = (white : List ℕ) × (bytes ≡ white · end_of end.0 · end.1) × IsWhite white
StepSays bytes (onward a rest) = (white written : List ℕ) × (bytes ≡ white · written · rest) × (begins_white white ≡ true) × IsWhite white × IsAttribute a written

attribute_says : (bytes : List ℕ) (o : Option (Attribute × List ℕ)) → begins_white bytes ≡ true → attribute_at (behind is_white bytes) ≡ o → StepSays bytes (step_with o)
attribute_says bytes None begins h = tt
attribute_says bytes (Some found) begins h =
    let white = split_of is_white bytes in
    let attribute = attribute_read (behind is_white bytes) found h in
    (front is_white bytes, attribute.0, white.whole ∙ ap (λ (l : List ℕ). front is_white bytes ++ l) attribute.1, front_white bytes begins, white.all, attribute.2)

no_end_says : (bytes : List ℕ) (t : Bool) → begins_white bytes ≡ t → StepSays bytes (cond t (step_with (attribute_at (behind is_white bytes))) (ended None))
no_end_says bytes true begins = attribute_says bytes (attribute_at (behind is_white bytes)) begins refl
no_end_says bytes false begins = tt

inside_says : (bytes : List ℕ) (o : Option (Bool × List ℕ)) → tag_end (behind is_white bytes) ≡ o → StepSays bytes (step_inside bytes o)
inside_says bytes None h = no_end_says bytes (begins_white bytes) refl
inside_says bytes (Some end) h =
    let white = split_of is_white bytes in
    (front is_white bytes, white.whole ∙ ap (λ (l : List ℕ). front is_white bytes ++ l) (tag_end_read (behind is_white bytes) end h), white.all)

step_says : (bytes : List ℕ) → StepSays bytes (tag_step bytes)
unfolding tag_step
step_says bytes = inside_says bytes (tag_end (behind is_white bytes)) refl

abbrev pub RestSays : List ℕ → RestOfTag → Type 0
RestSays bytes found = (attributes white : List ℕ) × (bytes ≡ attributes · white · end_of found.is_empty · found.rest) × AreAttributes found.attributes attributes × IsWhite white

rest_read_by : (n : ℕ) (bytes : List ℕ) (step : StepInTag) (found : RestOfTag) → ((more : List ℕ) (f : RestOfTag) → tag_rest n more ≡ Some f → RestSays more f)
    → StepSays bytes step → rest_by (tag_rest n) step ≡ Some found → RestSays bytes found
rest_read_by n bytes (ended None) found read says h = cc
rest_read_by n bytes (ended (Some end)) found read says h =
    subst (RestSays bytes) (some_same (rest_with [] end.0 end.1) found h) ([], says.0, says.1, refl, says.2)
rest_read_by n bytes (onward a rest) found read says h =
    let more = bind_some (tag_rest n rest) (with_attribute a) found h in
    let inner = read rest more.0 more.1 in
    let end : List ℕ = inner.1 · end_of more.0.is_empty · more.0.rest in
    subst (RestSays bytes) (some_same (rest_with (a ∷ more.0.attributes) more.0.is_empty more.0.rest) found more.2) (
      says.0 · says.1 · inner.0,
      inner.1,
      says.2 ∙ ap (λ (l : List ℕ). says.0 · says.1 · l) inner.2 ∙ sym (append_assoc says.0 (says.1 ++ inner.0) end ∙ ap (λ (l : List ℕ). says.0 ++ l) (append_assoc says.1 inner.0 end)),
      (says.0, says.1, inner.0, refl, says.3, says.4, says.5, inner.3),
      inner.4,
    )

pub rest_read : (n : ℕ) (bytes : List ℕ) (found : RestOfTag) → tag_rest n bytes ≡ Some found → RestSays bytes found
rest_read zero bytes found h = cc
rest_read (suc n) bytes found h = rest_read_by n bytes (tag_step bytes) found (rest_read n) (step_says bytes) h
