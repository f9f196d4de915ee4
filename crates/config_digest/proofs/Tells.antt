-- What was written can be told from its tokens.
use Rattle.std.proofs.Common.{◌≡◌, ℕ, Bool, List, [], ◌∷◌, ◌++◌, map, refl, sym, ◌∙◌, ap, ap₂, append_assoc}
use Rattle.std.specs.List.{flat_map}
use Rattle.json.specs.Token.{Token, end_object, end_array}
use Rattle.json.specs.Print.{ArePrintable}
use Rattle.config_ini.specs.declared.setting.Setting.{Setting}
use Rattle.config_ini.specs.declared.setting.Setting.TheVariants as setting
use Rattle.config_ini.specs.declared.setting.Part.{Part}
use Rattle.config_ini.specs.declared.setting.Part.TheVariants as part
use Rattle.config_ini.specs.declared.setting.Entry.{Entry}
use Rattle.config_digest.specs.Order.{in_order}
use Rattle.config_digest.specs.Written.{text_tokens, part_tokens, value_tokens, written_name, member_tokens, members_tokens, section_tokens, three_tokens}
use Rattle.config_digest.specs.Laws.{Member, member, members}

-- ---- tokens that can be printed

printable_append : (xs ys : List Token) → ArePrintable xs → ArePrintable ys → ArePrintable (xs ++ ys)
unfolding ArePrintable
printable_append [] ys h g = g
printable_append (x ∷ xs) ys h g = (h.0, printable_append xs ys h.1 g)

printable_texts : (ts : List (List ℕ)) → ArePrintable (flat_map text_tokens ts)
unfolding ArePrintable
printable_texts [] = tt
printable_texts (t ∷ ts) = (tt, printable_texts ts)

printable_part : (p : Part) → ArePrintable (part_tokens p)
unfolding ArePrintable
printable_part (part.Text t) = (tt, tt)
printable_part (part.Texts ts) = (tt, printable_append (flat_map text_tokens ts) (end_array ∷ []) (printable_texts ts) (tt, tt))

printable_parts : (ps : List Part) → ArePrintable (flat_map part_tokens ps)
unfolding ArePrintable
printable_parts [] = tt
printable_parts (p ∷ ps) = printable_append (part_tokens p) (flat_map part_tokens ps) (printable_part p) (printable_parts ps)

printable_value : (v : Setting) → ArePrintable (value_tokens v)
unfolding ArePrintable
printable_value setting.Null = (tt, tt)
printable_value (setting.Truth b) = (tt, tt)
printable_value (setting.Text t) = (tt, tt)
printable_value (setting.List ps) = (tt, printable_append (flat_map part_tokens ps) (end_array ∷ []) (printable_parts ps) (tt, tt))
printable_value setting.Other = (tt, (tt, tt))

printable_members : (es : List Entry) → ArePrintable (flat_map member_tokens es)
unfolding ArePrintable
printable_members [] = tt
printable_members (e ∷ es) = (tt, printable_append (value_tokens e.value) (flat_map member_tokens es) (printable_value e.value) (printable_members es))

printable_section : (es : List Entry) → ArePrintable (section_tokens es)
unfolding ArePrintable members_tokens
printable_section es = (tt, printable_append (flat_map member_tokens (in_order es)) (end_object ∷ []) (printable_members (in_order es)) (tt, tt))

pub printable_three : (pair a b : List Entry) → ArePrintable (three_tokens pair a b)
unfolding ArePrintable three_tokens
printable_three pair a b = (
  tt,
  printable_append (section_tokens pair) (section_tokens a ++ (section_tokens b ++ end_array ∷ [])) (printable_section pair)
      (printable_append (section_tokens a) (section_tokens b ++ end_array ∷ []) (printable_section a)
      (printable_append (section_tokens b) (end_array ∷ []) (printable_section b) (tt, tt))),
)

-- ---- what stands at the front of tokens

texts_same : (ts us : List (List ℕ)) (r s : List Token) → flat_map text_tokens ts ++ end_array ∷ r ≡ flat_map text_tokens us ++ end_array ∷ s → (ts ≡ us) × (r ≡ s)
texts_same [] [] r s h = (refl, cc)
texts_same [] (u ∷ us) r s h = let no : ⊥ = cc in absurd no
texts_same (t ∷ ts) [] r s h = let no : ⊥ = cc in absurd no
texts_same (t ∷ ts) (u ∷ us) r s h =
    let first : t ≡ u = cc in
    let rest : flat_map text_tokens ts ++ end_array ∷ r ≡ flat_map text_tokens us ++ end_array ∷ s = cc in
    let p = texts_same ts us r s rest in
    (ap₂ (λ (x : List ℕ) (xs : List (List ℕ)). x ∷ xs) first p.0, p.1)

closed : (xs r : List Token) (t : Token) → (xs ++ t ∷ []) ++ r ≡ xs ++ t ∷ r
closed xs r t = append_assoc xs (t ∷ []) r

part_same : (p q : Part) (r s : List Token) → part_tokens p ++ r ≡ part_tokens q ++ s → (p ≡ q) × (r ≡ s)
part_same (part.Text t) (part.Text u) r s h = let e : t ≡ u = cc in (ap (λ (x : List ℕ). part.Text x) e, cc)
part_same (part.Text t) (part.Texts us) r s h = let no : ⊥ = cc in absurd no
part_same (part.Texts ts) (part.Text u) r s h = let no : ⊥ = cc in absurd no
part_same (part.Texts ts) (part.Texts us) r s h =
    let rest : (flat_map text_tokens ts ++ end_array ∷ []) ++ r ≡ (flat_map text_tokens us ++ end_array ∷ []) ++ s = cc in
    let p = texts_same ts us r s (sym (closed (flat_map text_tokens ts) r end_array) ∙ rest ∙ closed (flat_map text_tokens us) s end_array) in
    (ap (λ (x : List (List ℕ)). part.Texts x) p.0, p.1)

no_part : (p : Part) (r s : List Token) → end_array ∷ r ≡ part_tokens p ++ s → ⊥
no_part (part.Text t) r s h = cc
no_part (part.Texts ts) r s h = cc

parts_same : (ps qs : List Part) (r s : List Token) → flat_map part_tokens ps ++ end_array ∷ r ≡ flat_map part_tokens qs ++ end_array ∷ s → (ps ≡ qs) × (r ≡ s)
parts_same [] [] r s h = (refl, cc)
parts_same [] (q ∷ qs) r s h = absurd (no_part q r (flat_map part_tokens qs ++ end_array ∷ s) (h ∙ append_assoc (part_tokens q) (flat_map part_tokens qs) (end_array ∷ s)))
parts_same (p ∷ ps) [] r s h = absurd (no_part p s (flat_map part_tokens ps ++ end_array ∷ r) (sym h ∙ append_assoc (part_tokens p) (flat_map part_tokens ps) (end_array ∷ r)))
parts_same (p ∷ ps) (q ∷ qs) r s h =
    let first = part_same p q (flat_map part_tokens ps ++ end_array ∷ r) (flat_map part_tokens qs ++ end_array ∷ s)
    (sym (append_assoc (part_tokens p) (flat_map part_tokens ps) (end_array ∷ r)) ∙ h ∙ append_assoc (part_tokens q) (flat_map part_tokens qs) (end_array ∷ s)) in
    let rest = parts_same ps qs r s first.1 in
    (ap₂ (λ (x : Part) (xs : List Part). x ∷ xs) first.0 rest.0, rest.1)

value_same : (v w : Setting) (r s : List Token) → value_tokens v ++ r ≡ value_tokens w ++ s → (v ≡ w) × (r ≡ s)
value_same setting.Null setting.Null r s h = (refl, cc)
value_same setting.Other setting.Other r s h = (refl, cc)
value_same (setting.Truth b) (setting.Truth c) r s h = let e : b ≡ c = cc in (ap (λ (x : Bool). setting.Truth x) e, cc)
value_same (setting.Text t) (setting.Text u) r s h = let e : t ≡ u = cc in (ap (λ (x : List ℕ). setting.Text x) e, cc)
value_same (setting.List ps) (setting.List qs) r s h =
    let rest : (flat_map part_tokens ps ++ end_array ∷ []) ++ r ≡ (flat_map part_tokens qs ++ end_array ∷ []) ++ s = cc in
    let p = parts_same ps qs r s (sym (closed (flat_map part_tokens ps) r end_array) ∙ rest ∙ closed (flat_map part_tokens qs) s end_array) in
    (ap (λ (x : List Part). setting.List x) p.0, p.1)
value_same v w r s h = let no : ⊥ = cc in absurd no

members_same : (es fs : List Entry) (r s : List Token) → flat_map member_tokens es ++ end_object ∷ r ≡ flat_map member_tokens fs ++ end_object ∷ s → (map member es ≡ map member fs) × (r ≡ s)
members_same [] [] r s h = (refl, cc)
members_same [] (f ∷ fs) r s h = let no : ⊥ = cc in absurd no
members_same (e ∷ es) [] r s h = let no : ⊥ = cc in absurd no
members_same (e ∷ es) (f ∷ fs) r s h =
    let name : written_name e.key ≡ written_name f.key = cc in
    let tail : (value_tokens e.value ++ flat_map member_tokens es) ++ end_object ∷ r ≡ (value_tokens f.value ++ flat_map member_tokens fs) ++ end_object ∷ s = cc in
    let value = value_same e.value f.value (flat_map member_tokens es ++ end_object ∷ r) (flat_map member_tokens fs ++ end_object ∷ s)
    (sym (append_assoc (value_tokens e.value) (flat_map member_tokens es) (end_object ∷ r)) ∙ tail ∙ append_assoc (value_tokens f.value) (flat_map member_tokens fs) (end_object ∷ s)) in
    let rest = members_same es fs r s value.1 in
    let same : member e ≡ member f = ap₂ (λ (n : List ℕ) (v : Setting). let m : Member = (n, v) in m) name value.0 in
    (ap₂ (λ (x : Member) (xs : List Member). x ∷ xs) same rest.0, rest.1)

section_same : (es fs : List Entry) (r s : List Token) → section_tokens es ++ r ≡ section_tokens fs ++ s → (members es ≡ members fs) × (r ≡ s)
unfolding members_tokens members
section_same es fs r s h =
    let rest : (flat_map member_tokens (in_order es) ++ end_object ∷ []) ++ r ≡ (flat_map member_tokens (in_order fs) ++ end_object ∷ []) ++ s = cc in
    members_same (in_order es) (in_order fs) r s (sym (closed (flat_map member_tokens (in_order es)) r end_object) ∙ rest ∙ closed (flat_map member_tokens (in_order fs)) s end_object)

pub three_same : (pair a b pair2 a2 b2 : List Entry) → three_tokens pair a b ≡ three_tokens pair2 a2 b2 → (members pair ≡ members pair2) × (members a ≡ members a2) × (members b ≡ members b2)
unfolding three_tokens
three_same pair a b pair2 a2 b2 h =
    let behind : section_tokens pair ++ (section_tokens a ++ (section_tokens b ++ end_array ∷ [])) ≡ section_tokens pair2 ++ (section_tokens a2 ++ (section_tokens b2 ++ end_array ∷ [])) = cc in
    let first = section_same pair pair2 (section_tokens a ++ (section_tokens b ++ end_array ∷ [])) (section_tokens a2 ++ (section_tokens b2 ++ end_array ∷ [])) behind in
    let second = section_same a a2 (section_tokens b ++ end_array ∷ []) (section_tokens b2 ++ end_array ∷ []) first.1 in
    let third = section_same b b2 (end_array ∷ []) (end_array ∷ []) second.1 in
    (first.0, second.0, third.0)
