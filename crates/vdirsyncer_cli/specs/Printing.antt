-- What is printed to a sink (this project's own).
use Rattle.std.specs.Prelude.{◌≡◌, ◌≤◌, ℕ, List, ◌++◌}
use Rattle.outside.specs.Causes.{Rose}
use Rattle.outside.specs.StreamCalls.{AddsFront}
use Rattle.vdirsyncer_cli.specs.declared.printing.Cut.{Cut}
use Rattle.vdirsyncer_cli.specs.declared.printing.Cut.TheVariants.{Whole, WriteFault, Starved}

-- where the sink told what it holds it tells it still, and that is changed so
abbrev pub Holds : {S : Type 0} → (S → Type 0) → (S → List ℕ) → S → S → (List ℕ → List ℕ → Type 0) → Type 0
Holds tells held old new Does = tells old → tells new × Does (held old) (held new)

-- the text was added whole, or a front of it: after a write fault, or where memory ran out before all of it was made
abbrev pub Prints : {S : Type 0} → (S → ℕ) → (S → Type 0) → (S → List ℕ) → S → S → List ℕ → Cut → Type 0
Prints count tells held old new text Whole = (count old ≤ count new) × Holds tells held old new (λ s t. t ≡ s ++ text)
Prints count tells held old new text WriteFault = (count old ≤ count new) × Rose (count old) (count new) × Holds tells held old new (λ s t. AddsFront s t text)
Prints count tells held old new text Starved = (count old ≤ count new) × Holds tells held old new (λ s t. AddsFront s t text)

-- the same, from any state of the sink to this one
abbrev pub PrintsTo : {S : Type 0} → (S → ℕ) → (S → Type 0) → (S → List ℕ) → S → S → List ℕ → Cut → Type 0
PrintsTo count tells held new old text cut = Prints count tells held old new text cut
