-- What the reader finds at the front of bytes is the token of the grammar: lemmas on specs/Grammar.antt
use Rattle.std.proofs.Common.{◌≡◌, refl, ℕ, Bool, true, false, cond, eqb, codes, List, [], ◌∷◌, ◌++◌, Option, Some, None, sym, ◌∙◌, ap, subst, arith, append_assoc}
use Rattle.std.specs.List.{list_all}
use borrow.Author.Tests.{tests}
use Rattle.multistatus.specs.declared.tags.Name.{Name}
use Rattle.multistatus.specs.Steps.{◌>>=◌}
use Rattle.multistatus.specs.Texts.{is_white, front, behind, stripped}
use Rattle.multistatus.specs.Tags.{is_part_byte, is_part, part_at, second_part, name_at}
use Rattle.multistatus.specs.Grammar.{◌·◌, IsWhite, IsPart, IsNameOf, IsName}
use Rattle.multistatus.proofs.Cuts.{stripped-mark, stripped_found}
use Rattle.multistatus.proofs.Runs.{some_same, bind_some, both_true, chosen}
use Rattle.multistatus.proofs.Befores.{Stops, front_of, split_of}

-- what may stand behind a name
abbrev pub EndsName : List ℕ → Type 0
EndsName [] = Unit {0}
EndsName (b ∷ bytes) = (is_part_byte b ≡ false) × (eqb b 58 ≡ false)

ends_part : (bytes : List ℕ) → EndsName bytes → Stops is_part_byte bytes
ends_part [] h = tt
ends_part (b ∷ bytes) h = h.0

no_colon : (bytes : List ℕ) → EndsName bytes → stripped (58 ∷ []) bytes ≡ None
unfolding stripped
no_colon [] h = refl
no_colon (b ∷ bytes) h = rw h.1 refl

pub white_ends : (b : ℕ) → is_white b ≡ true → is_part_byte b ≡ false
white_ends b h = rw h refl

pub white_no_colon : (b : ℕ) → is_white b ≡ true → eqb b 58 ≡ false
white_no_colon b h = grind (arith, tests)

pub white_behind_name : (white rest : List ℕ) → IsWhite white → EndsName rest → EndsName (white ++ rest)
white_behind_name [] rest all ends = ends
white_behind_name (b ∷ white) rest all ends =
    let both = both_true (is_white b) (list_all is_white white) all in
    (white_ends b both.0, white_no_colon b both.0)

pub part_found : (part rest : List ℕ) → IsPart part → Stops is_part_byte rest → part_at (part ++ rest) ≡ Some (part, rest)
unfolding part_at
part_found part rest is stops =
    let split = front_of is_part_byte part rest is.all stops in
    ap (λ (f : List ℕ). cond (is_part f) (Some (f, behind is_part_byte (part ++ rest))) None) split.0
    ∙ ap (λ (r : List ℕ). cond (is_part part) (Some (part, r)) None) split.1
    ∙ ap (λ (t : Bool). cond t (Some (part, rest)) None) is.starts

abbrev Part : List ℕ → List ℕ × List ℕ → Type 0
Part bytes parts = (bytes ≡ parts.0 ++ parts.1) × IsPart parts.0

pub part_read : (bytes : List ℕ) (parts : List ℕ × List ℕ) → part_at bytes ≡ Some parts → (bytes ≡ parts.0 ++ parts.1) × IsPart parts.0
unfolding part_at
part_read bytes parts h =
    let found = chosen (is_part (front is_part_byte bytes)) (Some (front is_part_byte bytes, behind is_part_byte bytes)) parts h in
    let split = split_of is_part_byte bytes in
    subst (Part bytes) (some_same (front is_part_byte bytes, behind is_part_byte bytes) parts found.1)
    (split.whole, record { starts = found.0; all = split.all })

abbrev by_first : List ℕ × List ℕ → Option (Name × List ℕ)
by_first first = second_part first.0 first.1 (stripped (codes ":") first.1)

abbrev name_and : List ℕ → List ℕ → List ℕ → Name × List ℕ
name_and prefix local rest = (record { prefix = prefix; local = local }, rest)

name_found_of : (prefix local bytes rest : List ℕ) → IsNameOf prefix local bytes → EndsName rest → name_at (bytes ++ rest) ≡ Some (name_and prefix local rest)
unfolding name_at
name_found_of [] local bytes rest is ends =
    ap (λ (l : List ℕ). part_at (l ++ rest) >>= by_first) is.0
    ∙ ap (λ (o : Option (List ℕ × List ℕ)). o >>= by_first) (part_found local rest is.1 (ends_part rest ends))
    ∙ ap (second_part local rest) (no_colon rest ends)
name_found_of (b ∷ prefix) local bytes rest is ends =
    ap (λ (l : List ℕ). part_at (l ++ rest) >>= by_first) is.0
    ∙ ap (λ (l : List ℕ). part_at l >>= by_first) (append_assoc (b ∷ prefix) (58 ∷ local) rest)
    ∙ ap (λ (o : Option (List ℕ × List ℕ)). o >>= by_first) (part_found (b ∷ prefix) (58 ∷ local ++ rest) is.1 refl)
    ∙ ap (second_part (b ∷ prefix) (58 ∷ local ++ rest)) (stripped-mark (58 ∷ []) (local ++ rest))
    ∙ ap (λ (o : Option (List ℕ × List ℕ)). o >>= λ second. Some (name_and (b ∷ prefix) second.0 second.1)) (part_found local rest is.2 (ends_part rest ends))

pub name_found : (name : Name) (bytes rest : List ℕ) → IsName name bytes → EndsName rest → name_at (bytes ++ rest) ≡ Some (name, rest)
name_found name bytes rest is ends = name_found_of name.prefix name.local bytes rest is ends

abbrev Named : List ℕ → Name × List ℕ → Type 0
Named bytes found = (written : List ℕ) × (bytes ≡ written ++ found.1) × IsName found.0 written

prefixed : (prefix local : List ℕ) → IsPart prefix → IsPart local → IsNameOf prefix local (prefix · codes ":" · local)
prefixed [] local first second = let none : false ≡ true = first.starts in cc
prefixed (b ∷ prefix) local first second = (refl, first, second)

name_by : (bytes first rest : List ℕ) (o : Option (List ℕ)) (found : Name × List ℕ) → bytes ≡ first ++ rest → IsPart first → stripped (codes ":") rest ≡ o
    → second_part first rest o ≡ Some found → Named bytes found
name_by bytes first rest None found whole is colon h = subst (Named bytes) (some_same (name_and [] first rest) found h) (first, whole, (refl, is))
name_by bytes first rest (Some more) found whole is colon h =
    let second = bind_some (part_at more) (λ second. Some (name_and first second.0 second.1)) found h in
    let part = part_read more second.0 second.1 in
    let colon_is : rest ≡ 58 ∷ more = stripped_found (58 ∷ []) rest more colon in
    subst (Named bytes) (some_same (name_and first second.0.0 second.0.1) found second.2) (
      first · codes ":" · second.0.0,
      whole ∙ ap (λ (l : List ℕ). first ++ l) (colon_is ∙ ap (λ (l : List ℕ). 58 ∷ l) part.0) ∙ sym (append_assoc first (58 ∷ second.0.0) second.0.1),
      prefixed first second.0.0 is part.1,
    )

pub name_read : (bytes : List ℕ) (found : Name × List ℕ) → name_at bytes ≡ Some found → (written : List ℕ) × (bytes ≡ written ++ found.1) × IsName found.0 written
unfolding name_at
name_read bytes found h =
    let first = bind_some (part_at bytes) by_first found h in
    let part = part_read bytes first.0 first.1 in
    name_by bytes first.0.0 first.0.1 (stripped (codes ":") first.0.1) found part.0 part.1 refl first.2
