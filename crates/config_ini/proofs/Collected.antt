-- Lists whose items are read one after another.
use Rattle.std.proofs.Common.{◌≡◌, ℕ, List, [], ◌∷◌, ◌++◌, Option, Some, None, refl, sym, ◌∙◌, ap, append-nil, append_assoc, length, arith}
use Rattle.std.specs.Prelude.{option_map, option_and_then}
use Rattle.serde_json.specs.Data.{Data}
use Rattle.serde_json.specs.View.{view, items_view}
use Rattle.serde_json.specs.declared.value.Value.{Value}
use Rattle.config_ini.specs.Settings.{all_of}

-- what the rest comes to, behind what was found so far
abbrev pub onto : {A : Type 0} → List A → Option (List A) → Option (List A)
onto done found = option_map (λ more. done ++ more) found

step : {A : Type 0} (f : Data → Option A) (value : Value) (new : List Value) → all_of f (items_view (value ∷ new)) ≡ option_and_then (λ x. option_map (λ xs. x ∷ xs) (all_of f (items_view new))) (f (view value))
unfolding all_of
step f value new = refl

onto_next : {A : Type 0} (done : List A) (x : A) (found : Option (List A)) → onto done (option_map (λ xs. x ∷ xs) found) ≡ onto (done ++ x ∷ []) found
onto_next {A} done x None = refl
onto_next {A} done x (Some more) = ap (λ (xs : List A). Some xs) (sym (append_assoc done (x ∷ []) more))

onto_nil : {A : Type 0} (found : Option (List A)) → onto [] found ≡ found
onto_nil None = refl
onto_nil (Some more) = refl

-- a list whose length is 0
pub empty_by : {A : Type 0} (xs : List A) (n : ℕ) → n ≡ length xs → n ≡ 0 → xs ≡ []
empty_by [] n is none = refl
empty_by (x ∷ xs) n is none = let clash : length (x ∷ xs) ≡ 0 = sym is ∙ none in absurd (omega arith)

pub next_found : {A : Type 0} (f : Data → Option A) (done next : List A) (x : A) (value : Value) (old new : List Value) (whole : Option (List A)) → old ≡ value ∷ new → next ≡ done ++ x ∷ [] → f (view value) ≡ Some x
    → onto done (all_of f (items_view old)) ≡ whole → onto next (all_of f (items_view new)) ≡ whole
next_found {A} f done next x value old new whole left is found on =
    ap (λ (d : List A). onto d (all_of f (items_view new))) is
    ∙ sym (onto_next done x (all_of f (items_view new)))
    ∙ ap (λ (o : Option A). onto done (option_and_then (λ y. option_map (λ xs. y ∷ xs) (all_of f (items_view new))) o)) (sym found)
    ∙ ap (onto done) (sym (step f value new))
    ∙ ap (λ (vs : List Value). onto done (all_of f (items_view vs))) (sym left)
    ∙ on

pub none_found : {A : Type 0} (f : Data → Option A) (done : List A) (value : Value) (old new : List Value) (whole : Option (List A)) → old ≡ value ∷ new → f (view value) ≡ None
    → onto done (all_of f (items_view old)) ≡ whole → None ≡ whole
none_found {A} f done value old new whole left none on =
    ap (λ (o : Option A). onto done (option_and_then (λ y. option_map (λ xs. y ∷ xs) (all_of f (items_view new))) o)) (sym none)
    ∙ ap (onto done) (sym (step f value new))
    ∙ ap (λ (vs : List Value). onto done (all_of f (items_view vs))) (sym left)
    ∙ on

pub first_found : {A : Type 0} (f : Data → Option A) (done : List A) (old all : List Value) → done ≡ [] → old ≡ all → onto done (all_of f (items_view old)) ≡ all_of f (items_view all)
first_found {A} f done old all none same =
    ap (λ (d : List A). onto d (all_of f (items_view old))) none ∙ ap (λ (vs : List Value). onto [] (all_of f (items_view vs))) same ∙ onto_nil (all_of f (items_view all))

pub all_found : {A : Type 0} (f : Data → Option A) (done : List A) (old : List Value) (whole : Option (List A)) → old ≡ [] → onto done (all_of f (items_view old)) ≡ whole → Some done ≡ whole
unfolding all_of
all_found {A} f done old whole none on =
    ap (λ (xs : List A). Some xs) (sym (append-nil done)) ∙ ap (λ (vs : List Value). onto done (all_of f (items_view vs))) (sym none) ∙ on
