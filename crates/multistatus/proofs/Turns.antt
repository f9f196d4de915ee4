-- Lists taken from the end: what is mapped, and what was open
use Rattle.std.proofs.Common.{◌≡◌, List, [], ◌∷◌, ◌++◌, map, reverse, sym, ◌∙◌, ap, append_assoc}
use Rattle.std.proofs.lemmas.List.{append-nil, reverse-append, map-append}

pub popped : {A : Type 0} (xs ys : List A) (x : A) → xs ≡ ys ++ x ∷ [] → reverse xs ≡ x ∷ reverse ys
popped xs ys x h = ap reverse h ∙ reverse-append ys (x ∷ [])

pub emptied : {A : Type 0} (xs : List A) → xs ≡ [] → reverse xs ≡ []
emptied xs h = ap reverse h

-- what is made of the end, last first, and what is left
pub record MapsOn {A B : Type 0} (f : A → B) (left : List A) (made : List B) (whole : List A) : Type 0 where
  pub same : map f left ++ reverse made ≡ map f whole

pub maps_first : {A B : Type 0} (f : A → B) (made : List B) (whole : List A) → made ≡ [] → MapsOn f whole made whole
maps_first f made whole none = record { same = ap (λ m. map f whole ++ reverse m) none ∙ append-nil (map f whole) }

pub maps_next : {A B : Type 0} (f : A → B) (old left : List A) (x : A) (made new : List B) (y : B) (whole : List A)
    → MapsOn f old made whole → old ≡ left ++ x ∷ [] → y ≡ f x → new ≡ made ++ y ∷ [] → MapsOn f left new whole
maps_next f old left x made new y whole on taken is grown = record {
  same = ap (λ m. map f left ++ m) (popped new made y grown) ∙ ap (λ z. map f left ++ z ∷ reverse made) is
      ∙ sym (append_assoc (map f left) (f x ∷ []) (reverse made)) ∙ ap (λ m. m ++ reverse made) (sym (map-append f left (x ∷ []))) ∙ ap (λ l. map f l ++ reverse made) (sym taken) ∙ on.same;
}

pub maps_last : {A B : Type 0} (f : A → B) (left : List A) (made : List B) (whole : List A) → MapsOn f left made whole → left ≡ [] → reverse made ≡ map f whole
maps_last f left made whole on none = ap (λ l. map f l ++ reverse made) (sym none) ∙ on.same
