-- Bytes are a document of one tree at most: lemmas on specs/Documents.antt
use Rattle.std.proofs.Common.{◌≡◌, refl, ℕ, List, [], ◌∷◌, ◌++◌, sym, ◌∙◌, ap, subst, append_assoc}
use Rattle.std.specs.List.{flat_map}
use Rattle.multistatus.specs.declared.tags.Tag.{Tag}
use Rattle.multistatus.specs.declared.tokens.Token.{Token}
use Rattle.multistatus.specs.Tokens.{AreTokens}
use Rattle.multistatus.specs.Elements.{Content, nothing, blanks, text, element, Event, is_blank, is_text, opens, closes, events_of, events_of_token, root_of}
use Rattle.multistatus.specs.Namespaces.{Tree, first_scope, resolved}
use Rattle.multistatus.specs.Documents.{HasTree}
use Rattle.multistatus.proofs.Runs.{some_same}
use Rattle.multistatus.proofs.Bodies.{body_found}
use Rattle.multistatus.proofs.AllTokens.{read_of}
use Rattle.multistatus.proofs.Readings.{tokens_same, bodies_same}

-- what may stand behind all that an element holds: its end, or nothing
abbrev Ends : List Event → Type 0
Ends [] = Unit {0}
Ends (is_blank white ∷ events) = ⊥
Ends (is_text chars ∷ events) = ⊥
Ends (opens tag ∷ events) = ⊥
Ends (closes name ∷ events) = Unit {0}

abbrev Parted : Content → Content → List Event → List Event → Type 0
Parted x y r s = (x ≡ y) × (r ≡ s)

-- all events but the first
abbrev behind_first : List Event → List Event
behind_first [] = []
behind_first (event ∷ events) = events

-- events that go on aren't an end
ends_not : (event : Event) (events r : List Event) → (Ends (event ∷ events) → ⊥) → Ends r → r ≡ event ∷ events → ⊥
ends_not event events r never ends same = never (subst Ends same ends)

-- an element within which and behind which is the same
element_same : (tag tag' : Tag) (inside inside' more more' : Content) (r s : List Event) → tag ≡ tag' → inside ≡ inside' → Parted more more' r s
    → Parted (element tag inside more) (element tag' inside' more') r s
element_same tag tag' inside inside' more more' r s tags insides rest = (
  ap (λ (t : Tag). element t inside more) tags ∙ ap (λ (c : Content). element tag' c more) insides ∙ ap (λ (c : Content). element tag' inside' c) rest.0,
  rest.1,
)

-- the events of an element, with more behind it
spread : (tag : Tag) (inside more : Content) (r : List Event)
    → (events_of inside ++ closes tag.name ∷ events_of more) ++ r ≡ events_of inside ++ closes tag.name ∷ (events_of more ++ r)
spread tag inside more r = append_assoc (events_of inside) (closes tag.name ∷ events_of more) r

-- events are those of one content at most
parted : (x y : Content) (r s : List Event) → Ends r → Ends s → events_of x ++ r ≡ events_of y ++ s → Parted x y r s
parted nothing nothing r s end_r end_s same = (refl, same)
parted nothing (blanks w more) r s end_r end_s same = absurd (ends_not (is_blank w) (events_of more ++ s) r (λ h. h) end_r same)
parted nothing (text t more) r s end_r end_s same = absurd (ends_not (is_text t) (events_of more ++ s) r (λ h. h) end_r same)
parted nothing (element tag inside more) r s end_r end_s same =
    absurd (ends_not (opens tag) ((events_of inside ++ closes tag.name ∷ events_of more) ++ s) r (λ h. h) end_r same)
parted (blanks w more) nothing r s end_r end_s same = absurd (ends_not (is_blank w) (events_of more ++ r) s (λ h. h) end_s (sym same))
parted (text t more) nothing r s end_r end_s same = absurd (ends_not (is_text t) (events_of more ++ r) s (λ h. h) end_s (sym same))
parted (element tag inside more) nothing r s end_r end_s same =
    absurd (ends_not (opens tag) ((events_of inside ++ closes tag.name ∷ events_of more) ++ r) s (λ h. h) end_s (sym same))
parted (blanks w more) (blanks w' more') r s end_r end_s same =
    let white : w ≡ w' = cc in
    let rest = parted more more' r s end_r end_s (ap behind_first same) in
    (ap (λ (a : List ℕ). blanks a more) white ∙ ap (blanks w') rest.0, rest.1)
parted (text t more) (text t' more') r s end_r end_s same =
    let chars : t ≡ t' = cc in
    let rest = parted more more' r s end_r end_s (ap behind_first same) in
    (ap (λ (a : List ℕ). text a more) chars ∙ ap (text t') rest.0, rest.1)
parted (element tag inside more) (element tag' inside' more') r s end_r end_s same =
    let tags : tag ≡ tag' = cc in
    let behind : events_of inside ++ closes tag.name ∷ (events_of more ++ r) ≡ events_of inside' ++ closes tag'.name ∷ (events_of more' ++ s) =
    sym (spread tag inside more r) ∙ ap behind_first same ∙ spread tag' inside' more' s in
    let within = parted inside inside' (closes tag.name ∷ (events_of more ++ r)) (closes tag'.name ∷ (events_of more' ++ s)) tt tt behind in
    element_same tag tag' inside inside' more more' r s tags within.0 (parted more more' r s end_r end_s (ap behind_first within.1))
parted (blanks w more) (text t more') r s end_r end_s same = cc
parted (blanks w more) (element tag inside more') r s end_r end_s same = cc
parted (text t more) (blanks w more') r s end_r end_s same = cc
parted (text t more) (element tag inside more') r s end_r end_s same = cc
parted (element tag inside more) (blanks w more') r s end_r end_s same = cc
parted (element tag inside more) (text t more') r s end_r end_s same = cc

append_none : (events : List Event) → events ++ [] ≡ events
append_none [] = refl
append_none (event ∷ events) = ap (λ (more : List Event). event ∷ more) (append_none events)

pub content_same : (x y : Content) → events_of x ≡ events_of y → x ≡ y
content_same x y same = (parted x y [] [] tt tt (append_none (events_of x) ∙ same ∙ sym (append_none (events_of y)))).0

-- bytes are a document of one tree at most
pub HasTree-unique : (bytes : List ℕ) (one other : Tree) → HasTree bytes one → HasTree bytes other → one ≡ other
HasTree-unique bytes one other x y =
    let body : x.body ≡ y.body = bodies_same bytes x.body y.body (body_found bytes x.body x.has_body) (body_found bytes y.body y.has_body) in
    let tokens : x.tokens ≡ y.tokens = tokens_same y.body x.tokens y.tokens (subst (λ (b : List ℕ). AreTokens b x.tokens) body (read_of x.body x.tokens x.has_tokens))
    (read_of y.body y.tokens y.has_tokens) in
    let content : x.content ≡ y.content = content_same x.content y.content (sym x.content_is ∙ ap (λ (l : List Token). flat_map events_of_token l) tokens ∙ y.content_is) in
    let root : (x.tag, x.inside) ≡ (y.tag, y.inside) = some_same (x.tag, x.inside) (y.tag, y.inside) (sym x.root_is ∙ ap root_of content ∙ y.root_is) in
    some_same one other (sym x.tree_is ∙ ap (λ (p : Tag × Content). resolved first_scope (element p.0 p.1 nothing)) root ∙ y.tree_is)
