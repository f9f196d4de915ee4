-- Places: what a reader's stack of open components stands for.
use Rattle.std.specs.Prelude.{ℕ, ◌≡◌, Bool, true, false, List, [], ◌∷◌, map, reverse, count_by}
use Rattle.item_text.specs.Components.{upper, is_timezone, Place, Before, Within, Behind}
use Rattle.item_text.specs.declared.stack.Stack.{Stack}
use Rattle.item_text.specs.declared.stack.Depth.{Depth}
use Rattle.item_text.specs.declared.stack.Depth.TheVariants.{Empty, One, Two, Deep}

-- the place within open components; without one, before the component of the text or behind it
unfoldable pub place_at : List (List ℕ) → Bool → Place
place_at [] false = Before
place_at [] true = Behind
place_at (name ∷ outer) begun = Within (name ∷ outer)

-- the names of the open components in upper case, the innermost first
abbrev pub names_of : Stack → List (List ℕ)
names_of stack = reverse (map (λ name. upper name.now) stack.names.items)

abbrev pub place_seen : Stack → Place
place_seen stack = place_at (names_of stack) stack.begun

-- the stack's count of VTIMEZONE is right
abbrev pub IsCounted : Stack → Type 0
IsCounted stack = stack.zones ≡ count_by is_timezone (names_of stack)

-- the names that a depth tells
abbrev pub IsDepth : Depth → List (List ℕ) → Type 0
IsDepth Empty names = names ≡ []
IsDepth (One top) names = names ≡ upper top.now ∷ []
IsDepth (Two top child) names = names ≡ upper child.now ∷ upper top.now ∷ []
IsDepth (Deep innermost) names = (second third : List ℕ) × (outer : List (List ℕ)) × (names ≡ upper innermost.now ∷ second ∷ third ∷ outer)
