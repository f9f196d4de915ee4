-- A tag read attribute by attribute: lemmas on specs/Tags.antt
use Rattle.std.proofs.Common.{◌≡◌, refl, ℕ, ◌<◌, ◌≤◌, zero, suc, Bool, List, [], ◌∷◌, ◌++◌, length, Option, Some, None, sym, ◌∙◌, ap, arith, append_assoc}
use Rattle.std.proofs.lemmas.List.{append-nil}
use Rattle.multistatus.specs.declared.tags.Attribute.{Attribute}
use Rattle.multistatus.specs.Steps.{◌>>=◌}
use Rattle.multistatus.specs.Texts.{stripped}
use Rattle.multistatus.specs.Tags.{StepInTag, onward, ended, tag_end, tag_step, RestOfTag, with_attribute, rest_by, tag_rest}

-- more attributes in front
abbrev pub behind_these : List Attribute → RestOfTag → RestOfTag
behind_these front more = record { attributes = front ++ more.attributes; is_empty = more.is_empty; rest = more.rest }

-- what the attributes so far and the rest come to
pub record TagOn (front : List Attribute) (rest : List ℕ) (whole : Option RestOfTag) : Type 0 where
  pub room : ℕ
  pub enough : length rest ≤ room
  pub same : (tag_rest room rest >>= λ more. Some (behind_these front more)) ≡ whole

unchanged : (o : Option RestOfTag) → (o >>= λ more. Some (behind_these [] more)) ≡ o
unchanged None = refl
unchanged (Some more) = refl

pub tag_first : (front : List Attribute) (bytes : List ℕ) → front ≡ [] → TagOn front bytes (tag_rest (length bytes) bytes)
tag_first front bytes none = record {
  room = length bytes;
  enough = omega arith;
  same = ap (λ (f : List Attribute). tag_rest (length bytes) bytes >>= λ more. Some (behind_these f more)) none ∙ unchanged (tag_rest (length bytes) bytes);
}

step_of_nothing : tag_step [] ≡ ended None
unfolding tag_step tag_end stripped
step_of_nothing = refl

nothing_if_zero : (bytes : List ℕ) → length bytes ≤ 0 → bytes ≡ []
nothing_if_zero [] h = refl
nothing_if_zero (b ∷ bytes) h = absurd (omega arith)

pub tag_bad : (front : List Attribute) (rest : List ℕ) (whole : Option RestOfTag) → TagOn front rest whole → tag_step rest ≡ ended None → whole ≡ None
tag_bad front rest whole on bad = by_room on.room on.same
  where
    by_room : (room : ℕ) → (tag_rest room rest >>= λ more. Some (behind_these front more)) ≡ whole → whole ≡ None
    by_room zero same = sym same
    by_room (suc room) same =
        sym same ∙ ap (λ (s : StepInTag). rest_by (tag_rest room) s >>= λ more. Some (behind_these front more)) bad

abbrev pub last_of : List Attribute → Bool → List ℕ → RestOfTag
last_of front is_empty behind = record { attributes = front; is_empty = is_empty; rest = behind }

pub tag_last : (front : List Attribute) (rest : List ℕ) (whole : Option RestOfTag) (is_empty : Bool) (behind : List ℕ)
    → TagOn front rest whole → tag_step rest ≡ ended (Some (is_empty, behind)) → whole ≡ Some (last_of front is_empty behind)
tag_last front rest whole is_empty behind on end = by_room on.room on.enough on.same
  where
    by_room : (room : ℕ) → length rest ≤ room → (tag_rest room rest >>= λ more. Some (behind_these front more)) ≡ whole → whole ≡ Some (last_of front is_empty behind)
    by_room zero enough same =
        let clash : ended None ≡ ended (Some (is_empty, behind)) = sym step_of_nothing ∙ ap tag_step (sym (nothing_if_zero rest enough)) ∙ end in
        cc
    by_room (suc room) enough same =
        sym same ∙ ap (λ (s : StepInTag). rest_by (tag_rest room) s >>= λ more. Some (behind_these front more)) end
        ∙ ap (λ (all : List Attribute). Some (last_of all is_empty behind)) (append-nil front)

pushed : (front : List Attribute) (a : Attribute) (o : Option RestOfTag)
    → ((o >>= with_attribute a) >>= λ more. Some (behind_these front more)) ≡ (o >>= λ more. Some (behind_these (front ++ a ∷ []) more))
pushed front a None = refl
pushed front a (Some more) = ap (λ (all : List Attribute). Some (record { attributes = all; is_empty = more.is_empty; rest = more.rest })) (sym (append_assoc front (a ∷ []) more.attributes))

pub tag_next : (front new : List Attribute) (rest : List ℕ) (whole : Option RestOfTag) (a : Attribute) (behind : List ℕ)
    → TagOn front rest whole → tag_step rest ≡ onward a behind → length behind < length rest → new ≡ front ++ a ∷ [] → TagOn new behind whole
tag_next front new rest whole a behind on next less grown = by_room on.room on.enough on.same
  where
    by_room : (room : ℕ) → length rest ≤ room → (tag_rest room rest >>= λ more. Some (behind_these front more)) ≡ whole → TagOn new behind whole
    by_room zero enough same = absurd (omega arith)
    by_room (suc room) enough same = record {
      room = room;
      enough = omega arith;
      same = ap (λ (f : List Attribute). tag_rest room behind >>= λ more. Some (behind_these f more)) grown ∙ sym (pushed front a (tag_rest room behind))
          ∙ ap (λ (s : StepInTag). rest_by (tag_rest room) s >>= λ more. Some (behind_these front more)) (sym next) ∙ same;
    }
