-- Text with references resolved is that of the grammar: lemmas on specs/Texts.antt and specs/Grammar.antt
use Rattle.std.proofs.Common.{◌≡◌, refl, ℕ, Bool, true, false, cond, eqb, eq-eqb, codes, List, [], ◌∷◌, ◌++◌, Option, Some, None, sym, ◌∙◌, ap, subst, append_assoc}
use Rattle.std.proofs.lemmas.List.{append-nil}
use Rattle.std.specs.Option.{option_map}
use borrow.Author.Tests.{eqb-true}
use Rattle.multistatus.specs.Steps.{◌>>=◌}
use Rattle.multistatus.specs.Texts.{character_of, referred, resolved_text, line_ends, char_data}
use Rattle.multistatus.specs.Grammar.{◌·◌, IsBefore, Resolves, at_end, plain, reference}
use Rattle.multistatus.proofs.Runs.{some_same, bind_some}
use Rattle.multistatus.proofs.Befores.{before_nothing, tails}

abbrev by_name : List ℕ → List ℕ → Option (List ℕ)
by_name name rest = character_of name >>= λ char. option_map (λ text. char ++ text) (referred None rest)

not_nothing : (name : List ℕ) (b : ℕ) → name ++ b ∷ [] ≡ [] → ⊥
not_nothing [] b h = cc
not_nothing (c ∷ name) b h = cc

not_end : (b : ℕ) (name : List ℕ) (t : Bool) → eqb b 59 ≡ t → IsBefore (codes ";") (b ∷ name) → t ≡ false
not_end b name true e is = absurd (not_nothing name 59 (is [] (name ++ 59 ∷ []) (ap (λ (c : ℕ). c ∷ (name ++ 59 ∷ [])) (eqb-true b 59 e))))
not_end b name false e is = refl

in_name : (before name rest : List ℕ) → IsBefore (codes ";") name → referred (Some before) (name · codes ";" · rest) ≡ by_name (before ++ name) rest
in_name before [] rest is = ap (λ (n : List ℕ). by_name n rest) (sym (append-nil before))
in_name before (b ∷ name) rest is =
    ap (λ (t : Bool). cond t (by_name before (name · codes ";" · rest)) (referred (Some (before ++ b ∷ [])) (name · codes ";" · rest))) (not_end b name (eqb b 59) refl is)
    ∙ in_name (before ++ b ∷ []) name rest (λ front after same. is (b ∷ front) after (ap (λ (l : List ℕ). b ∷ l) same))
    ∙ ap (λ (n : List ℕ). by_name n rest) (append_assoc before (b ∷ []) name)

resolved_found : {bytes text : List ℕ} → Resolves bytes text → referred None bytes ≡ Some text
resolved_found at_end = refl
resolved_found (plain b bytes text other more) =
    ap (λ (t : Bool). cond t (referred (Some []) bytes) (option_map (λ (l : List ℕ). b ∷ l) (referred None bytes))) other
    ∙ ap (option_map (λ (l : List ℕ). b ∷ l)) (resolved_found more)
resolved_found (reference name char bytes text is char_is more) =
    in_name [] name bytes is
    ∙ ap (λ (o : Option (List ℕ)). o >>= λ c. option_map (λ (l : List ℕ). c ++ l) (referred None bytes)) char_is
    ∙ ap (option_map (λ (l : List ℕ). char ++ l)) (resolved_found more)

mapped : (f : List ℕ → List ℕ) (o : Option (List ℕ)) (y : List ℕ) → option_map f o ≡ Some y → (x : List ℕ) × (o ≡ Some x) × (f x ≡ y)
mapped f None y h = cc
mapped f (Some x) y h = (x, refl, some_same (f x) y h)

-- behind a `&` and a front of its name
record Refers (before bytes text : List ℕ) : Type 0 where
  name : List ℕ
  char : List ℕ
  rest : List ℕ
  more : List ℕ
  whole : bytes ≡ name · codes ";" · rest
  is_name : IsBefore (codes ";") name
  char_is : character_of (before ++ name) ≡ Some char
  text_is : char ++ more ≡ text
  resolves : Resolves rest more

before_other : (b : ℕ) (name : List ℕ) → eqb b 59 ≡ false → IsBefore (codes ";") name → IsBefore (codes ";") (b ∷ name)
before_other b name other is [] after same =
    let first : b ≡ 59 = cc in
    let clash : true ≡ false = sym (eq-eqb b 59 first) ∙ other in
    cc
before_other b name other is (c ∷ before) after same = is before after (tails b c (name ++ 59 ∷ []) (before · codes ";" · after) same)

abbrev Reads : List ℕ → Type 0
Reads bytes = ((text : List ℕ) → referred None bytes ≡ Some text → Resolves bytes text) × ((before text : List ℕ) → referred (Some before) bytes ≡ Some text → Refers before bytes text)

reads_text : (b : ℕ) (bytes text : List ℕ) (t : Bool) → Reads bytes → eqb b 38 ≡ t
    → cond t (referred (Some []) bytes) (option_map (λ (l : List ℕ). b ∷ l) (referred None bytes)) ≡ Some text → Resolves (b ∷ bytes) text
reads_text b bytes text true reads e h =
    let r = reads.1 [] text h in
    let whole : b ∷ bytes ≡ codes "&" · r.name · codes ";" · r.rest = ap (λ (c : ℕ). c ∷ bytes) (eqb-true b 38 e) ∙ ap (λ (l : List ℕ). 38 ∷ l) r.whole in
    subst (λ (l : List ℕ). Resolves l text) (sym whole) (subst (Resolves (codes "&" · r.name · codes ";" · r.rest)) r.text_is (reference r.name r.char r.rest r.more r.is_name r.char_is r.resolves))
reads_text b bytes text false reads e h =
    let more = mapped (λ (l : List ℕ). b ∷ l) (referred None bytes) text h in
    subst (Resolves (b ∷ bytes)) more.2 (plain b bytes more.0 e (reads.0 more.0 more.1))

reads_name : (b : ℕ) (bytes before text : List ℕ) (t : Bool) → Reads bytes → eqb b 59 ≡ t
    → cond t (by_name before bytes) (referred (Some (before ++ b ∷ [])) bytes) ≡ Some text → Refers before (b ∷ bytes) text
reads_name b bytes before text true reads e h =
    let char = bind_some (character_of before) (λ (c : List ℕ). option_map (λ (l : List ℕ). c ++ l) (referred None bytes)) text h in
    let more = mapped (λ (l : List ℕ). char.0 ++ l) (referred None bytes) text char.2 in
    record {
      name = [];
      char = char.0;
      rest = bytes;
      more = more.0;
      whole = ap (λ (c : ℕ). c ∷ bytes) (eqb-true b 59 e);
      is_name = before_nothing (codes ";");
      char_is = ap character_of (append-nil before) ∙ char.1;
      text_is = more.2;
      resolves = reads.0 more.0 more.1;
    }
reads_name b bytes before text false reads e h =
    let r = reads.1 (before ++ b ∷ []) text h in
    record {
      name = b ∷ r.name;
      char = r.char;
      rest = r.rest;
      more = r.more;
      whole = ap (λ (l : List ℕ). b ∷ l) r.whole;
      is_name = before_other b r.name e r.is_name;
      char_is = ap character_of (sym (append_assoc before (b ∷ []) r.name)) ∙ r.char_is;
      text_is = r.text_is;
      resolves = r.resolves;
    }

reads_all : (bytes : List ℕ) → Reads bytes
reads_all [] = (λ text h. subst (Resolves []) (some_same [] text h) at_end, λ before text h. cc)
reads_all (b ∷ bytes) =
    let reads = reads_all bytes in
    (λ text h. reads_text b bytes text (eqb b 38) reads refl h, λ before text h. reads_name b bytes before text (eqb b 59) reads refl h)

pub data_found : (piece text : List ℕ) → Resolves (line_ends piece) text → char_data piece ≡ Some text
unfolding resolved_text
data_found piece text is = resolved_found is

pub data_read : (piece text : List ℕ) → char_data piece ≡ Some text → Resolves (line_ends piece) text
unfolding resolved_text
data_read piece text h = (reads_all (line_ends piece)).0 text h
