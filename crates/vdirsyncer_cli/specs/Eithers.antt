-- What is said of one of two stores: what the store that is held says (this project's own).
use Rattle.std.specs.Prelude.{◌≡◌, ℕ, Bool, false, List}
use Rattle.item_text.specs.Items.{ItemValue}
use Rattle.vdirsyncer_cli.specs.declared.either.Either.{Either}
use Rattle.vdirsyncer_cli.specs.declared.either.Either.TheVariants.{Left, Right}

-- by the store that is held
abbrev pub on_either {ℓ} : {X Y : Type 0} {Z : Type ℓ} → (X → Z) → (Y → Z) → Either X Y → Z
on_either f g (Left x) = f x
on_either f g (Right y) = g y

-- a new item's href isn't in use, where that holds of both kinds
pub free_by_either : {X Y : Type 0} (may_x : X → ItemValue → List ℕ → Type 0) (may_y : Y → ItemValue → List ℕ → Type 0) (taken_x : X → List ℕ → Bool) (taken_y : Y → List ℕ → Bool) →
    ((x : X) (item : ItemValue) (href : List ℕ) → may_x x item href → taken_x x href ≡ false) → ((y : Y) (item : ItemValue) (href : List ℕ) → may_y y item href → taken_y y href ≡ false) →
    (s : Either X Y) (item : ItemValue) (href : List ℕ) → on_either may_x may_y s item href → on_either taken_x taken_y s href ≡ false
free_by_either may_x may_y taken_x taken_y f g (Left x) item href may = f x item href may
free_by_either may_x may_y taken_x taken_y f g (Right y) item href may = g y item href may
