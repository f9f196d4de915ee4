-- The places of an outfit, and what stands at one of them (this project's own).
use Rattle.std.specs.Prelude.{ℕ, false, List, [], Option, unwrap_or}
use Rattle.std.specs.FinMap as fin
use Rattle.outfits.specs.Places.{Place}

-- what stands at each location: nothing where the place is out
abbrev pub Places : Type 0
Places = List ℕ → Option Place

-- a folder that isn't there
abbrev pub nowhere : Place
nowhere = record { faults = 0; state = record { is_there = false; files = fin.empty; folders = []; trail = [] } }

-- what stands at a location, at one that isn't out
abbrev pub place_at : Places → List ℕ → Place
place_at places q = unwrap_or (places q) nowhere
