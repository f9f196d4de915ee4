-- Slots under locations, searched from the first, and what they make of an outfit (this project's own).
use Rattle.std.specs.Prelude.{◌≡◌, ℕ, zero, suc, true, false, List, [], ◌∷◌, Option, Some, None, if◌then◌else◌}
use Rattle.std.specs.Option.{option_map}
use Rattle.std.specs.Str.{bytes_eq}
use Rattle.outfits.specs.declared.slots.Slot.{Slot}
use Rattle.outfits.specs.declared.slots.SlotOutfit.{SlotOutfit}
use Rattle.outfits.specs.Places.{Place, place_by}
use Rattle.outside.specs.Files.{FolderState}

-- the first slot of a location decides: no slot, an empty one, or what it holds
abbrev pub held_at : {D : Type 0} → List (Slot D) → List ℕ → Option (Option D)
held_at [] q = None
held_at (slot ∷ slots) q = if bytes_eq slot.path q then Some slot.held else held_at slots q

-- where there is no slot, a blank stands; where it is empty, the place is out
abbrev pub place_held : {D P : Type 0} → (D → P) → P → Option (Option D) → Option P
place_held place_of blank None = Some blank
place_held place_of blank (Some held) = option_map place_of held

abbrev pub places_of : {D P : Type 0} → (D → P) → P → List (Slot D) → List ℕ → Option P
places_of place_of blank slots q = place_held place_of blank (held_at slots q)

-- what is out keeps nothing back
abbrev pub told_held : {D : Type 0} → (D → Type 0) → Type 0 → Option (Option D) → Type 0
told_held tells blank None = blank
told_held tells blank (Some None) = Unit {0}
told_held tells blank (Some (Some dir)) = tells dir

abbrev pub tells_of : {D : Type 0} → (D → Type 0) → Type 0 → List (Slot D) → List ℕ → Type 0
tells_of tells blank slots q = told_held tells blank (held_at slots q)

-- no slot is of this location
abbrev pub IsAbsent : {D : Type 0} → List (Slot D) → List ℕ → Type 0
IsAbsent [] path = Unit {0}
IsAbsent (slot ∷ slots) path = (bytes_eq slot.path path ≡ false) × IsAbsent slots path

-- the first slot of this location is here
abbrev pub IsAt : {D : Type 0} → List (Slot D) → List ℕ → ℕ → Type 0
IsAt [] path i = ⊥
IsAt (slot ∷ slots) path zero = bytes_eq slot.path path ≡ true
IsAt (slot ∷ slots) path (suc i) = (bytes_eq slot.path path ≡ false) × IsAt slots path i

abbrev pub slot_of : {D : Type 0} → List ℕ × D → Slot D
slot_of dir = record { path = dir.0; held = Some dir.1 }

-- the places of all slots
abbrev pub places_in : {D M : Type 0} → (D → ℕ) → (D → FolderState) → Place → SlotOutfit D M → List ℕ → Option Place
places_in count state blank o = places_of (place_by count state) blank o.slots.items

abbrev pub tells_in : {D M : Type 0} → (D → Type 0) → Type 0 → SlotOutfit D M → List ℕ → Type 0
tells_in tells blank o = tells_of tells blank o.slots.items
