-- Reading in steps, each of which may find nothing, and what the functions of this crate answer of it (this project's own).
use Rattle.std.specs.Prelude.{◌≡◌, List, [], ◌∷◌, Option, Some, None, Result, Ok, Err}
use Rattle.multistatus.specs.declared.error.MultiError.{MultiError}
use Rattle.multistatus.specs.declared.error.MultiError.TheVariants.{Bad, NoMemory}

infixl 10 ◌>>=◌
abbrev pub ◌>>=◌ : {A B : Type 0} → Option A → (A → Option B) → Option B
None >>= f = None
(Some x) >>= f = f x

-- what is found for each, if something is found for all
abbrev pub all_some : {A B : Type 0} → (A → Option B) → List A → Option (List B)
all_some f [] = Some []
all_some f (x ∷ xs) = f x >>= λ y. all_some f xs >>= λ ys. Some (y ∷ ys)

-- an error says that nothing is found, unless memory ran out
abbrev pub Fails : {Y : Type 0} → MultiError → Option Y → Type 0
Fails Bad found = found ≡ None
Fails NoMemory found = Unit {0}

-- what a function answered, seen by view, is what is found, unless memory ran out
abbrev pub Gives : {X Y : Type 0} → (X → Y) → Result X MultiError → Option Y → Type 0
Gives view (Ok x) found = found ≡ Some (view x)
Gives view (Err e) found = Fails e found
