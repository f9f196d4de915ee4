-- Marks: the children of a VCALENDAR, one mark more.
use Rattle.std.proofs.Common.{◌≡◌, ℕ, List, [], ◌∷◌, ◌++◌, map, Option, Some, None, refl, sym, ◌∙◌, ap, append_assoc, append-nil}
use Rattle.std.specs.Option.{option_map}
use Rattle.std.proofs.lemmas.List.{map-append}
use Rattle.item_text.specs.Refusals.{else_of, Mark, Begins, Uid, Child, first_uid, children_of}
use Rattle.item_text.specs.Walks.{child_seen, last_and_more}
use Rattle.item_text.specs.declared.children.Child as seen

pub else_none : {X : Type 0} (o : Option X) → else_of o None ≡ o
unfolding else_of
else_none None = refl
else_none (Some x) = refl

else_twice : {X : Type 0} (o : Option X) (x : X) (p : Option X) → else_of (else_of o (Some x)) p ≡ else_of o (Some x)
unfolding else_of
else_twice None x p = refl
else_twice (Some y) x p = refl

abbrev child_of : ℕ → Option (List ℕ) → Child
child_of number uid = record { number = number; uid = uid }

pub last_none : (rest : List Mark) → last_and_more None rest ≡ children_of rest
unfolding last_and_more
last_none rest = refl

begun_none : (number : ℕ) (rest : List Mark) → last_and_more (Some (child_of number None)) rest ≡ last_and_more None (Begins number ∷ rest)
unfolding last_and_more else_of children_of
begun_none number rest = refl

at_none : (o : Option (List ℕ)) → else_of None o ≡ o
unfolding else_of
at_none o = refl

begun_some : (child : Child) (number : ℕ) (rest : List Mark) → child ∷ last_and_more (Some (child_of number None)) rest ≡ last_and_more (Some child) (Begins number ∷ rest)
unfolding last_and_more children_of first_uid
begun_some child number rest =
    ap (λ (u : Option (List ℕ)). child_of child.number u ∷ child_of number (else_of None (first_uid rest)) ∷ children_of rest) (sym (else_none child.uid))
    ∙ ap (λ (u : Option (List ℕ)). child_of child.number (else_of child.uid None) ∷ child_of number u ∷ children_of rest) (at_none (first_uid rest))

found_none : (uid : List ℕ) (rest : List Mark) → last_and_more None rest ≡ last_and_more None (Uid uid ∷ rest)
unfolding last_and_more children_of
found_none uid rest = refl

found_some : (child : Child) (uid : List ℕ) (rest : List Mark) → last_and_more (Some (child_of child.number (else_of child.uid (Some uid)))) rest ≡ last_and_more (Some child) (Uid uid ∷ rest)
unfolding last_and_more children_of first_uid
found_some child uid rest = ap (λ (u : Option (List ℕ)). child_of child.number u ∷ children_of rest) (else_twice child.uid uid (first_uid rest))

last_alone : (child : Child) → last_and_more (Some child) [] ≡ child ∷ []
unfolding last_and_more children_of first_uid
last_alone child = ap (λ (u : Option (List ℕ)). child_of child.number u ∷ []) (else_none child.uid)

-- the same over a reader's children
pub starts : (done : List seen.Child) (rest : List Mark) → done ≡ [] → map child_seen done ++ last_and_more None rest ≡ children_of rest
starts done rest h = ap (λ (cs : List seen.Child). map child_seen cs ++ last_and_more None rest) h ∙ last_none rest

pub begins_first : (done : List seen.Child) (last : Option seen.Child) (number : ℕ) (rest : List Mark) → last ≡ None
    → map child_seen done ++ last_and_more (Some (child_of number None)) rest ≡ map child_seen done ++ last_and_more (option_map child_seen last) (Begins number ∷ rest)
begins_first done last number rest h =
    ap (λ (cs : List Child). map child_seen done ++ cs) (begun_none number rest ∙ ap (λ (o : Option seen.Child). last_and_more (option_map child_seen o) (Begins number ∷ rest)) (sym h))

pub begins_next : (done more : List seen.Child) (last : Option seen.Child) (child : seen.Child) (number : ℕ) (rest : List Mark) → last ≡ Some child → more ≡ done ++ (child ∷ [])
    → map child_seen more ++ last_and_more (Some (child_of number None)) rest ≡ map child_seen done ++ last_and_more (option_map child_seen last) (Begins number ∷ rest)
begins_next done more last child number rest h k =
    ap (λ (cs : List seen.Child). map child_seen cs ++ last_and_more (Some (child_of number None)) rest) k
    ∙ (ap (λ (cs : List Child). cs ++ last_and_more (Some (child_of number None)) rest) (map-append child_seen done (child ∷ []))
    ∙ (append_assoc (map child_seen done) (child_seen child ∷ []) (last_and_more (Some (child_of number None)) rest)
    ∙ ap (λ (cs : List Child). map child_seen done ++ cs) (begun_some (child_seen child) number rest ∙ ap (λ (o : Option seen.Child). last_and_more (option_map child_seen o) (Begins number ∷ rest)) (sym h))))

pub found_first : (done : List seen.Child) (last : Option seen.Child) (uid : List ℕ) (rest : List Mark) → last ≡ None
    → map child_seen done ++ last_and_more (option_map child_seen last) rest ≡ map child_seen done ++ last_and_more (option_map child_seen last) (Uid uid ∷ rest)
found_first done last uid rest h =
    ap (λ (o : Option seen.Child). map child_seen done ++ last_and_more (option_map child_seen o) rest) h
    ∙ ap (λ (cs : List Child). map child_seen done ++ cs) (found_none uid rest ∙ ap (λ (o : Option seen.Child). last_and_more (option_map child_seen o) (Uid uid ∷ rest)) (sym h))

pub found_next : (done : List seen.Child) (last : Option seen.Child) (child given : seen.Child) (uid : List ℕ) (rest : List Mark) → last ≡ Some child
    → child_seen given ≡ child_of child.number (else_of (option_map (λ x. x.now) child.uid) (Some uid))
    → map child_seen done ++ last_and_more (Some (child_seen given)) rest ≡ map child_seen done ++ last_and_more (option_map child_seen last) (Uid uid ∷ rest)
found_next done last child given uid rest h k =
    ap (λ (c : Child). map child_seen done ++ last_and_more (Some c) rest) k
    ∙ ap (λ (cs : List Child). map child_seen done ++ cs) (found_some (child_seen child) uid rest ∙ ap (λ (o : Option seen.Child). last_and_more (option_map child_seen o) (Uid uid ∷ rest)) (sym h))

no_children : children_of [] ≡ []
unfolding children_of
no_children = refl

pub all_alone : (done : List seen.Child) (last : Option seen.Child) → last ≡ None → map child_seen done ≡ map child_seen done ++ last_and_more (option_map child_seen last) []
all_alone done last h =
    sym (ap (λ (o : Option seen.Child). map child_seen done ++ last_and_more (option_map child_seen o) []) h ∙ (ap (λ (cs : List Child). map child_seen done ++ cs) (last_none [] ∙ no_children) ∙ append-nil (map child_seen done)))

pub all_with_last : (done more : List seen.Child) (last : Option seen.Child) (child : seen.Child) → last ≡ Some child → more ≡ done ++ (child ∷ [])
    → map child_seen more ≡ map child_seen done ++ last_and_more (option_map child_seen last) []
all_with_last done more last child h k =
    ap (map child_seen) k ∙ (map-append child_seen done (child ∷ [])
    ∙ ap (λ (cs : List Child). map child_seen done ++ cs) (sym (last_alone (child_seen child)) ∙ ap (λ (o : Option seen.Child). last_and_more (option_map child_seen o) []) (sym h)))
