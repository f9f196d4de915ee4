-- What the parts of a store in memory do (this project's own).
use Rattle.std.specs.Prelude.{◌≡◌, ℕ, Bool, true, false, List, [], ◌∷◌, ◌++◌, Option, Some, None, Result, Ok, Err}
use Rattle.std.specs.FinMap as fin
use Rattle.std.specs.declared.vec.Vec.{Vec}
use Rattle.std.specs.declared.alloc.Global.{Global}
use Rattle.outside.specs.declared.folder.NoMemory.{NoMemory as OutOfMemory}
use Rattle.outside.specs.declared.folder.Change.{Change as Answer}
use Rattle.outside.specs.declared.folder.Change.TheVariants.{Done, Moved}
use Rattle.store_model.specs.Sides.{SideState, happens}
use Rattle.store_model.specs.Waits.{Change, fits, Flushes}
use Rattle.store_model.specs.declared.event.StoreEvent.TheVariants.{Read}
use Rattle.store_model.specs.declared.store.StoreError.{StoreError}
use Rattle.store_model.specs.declared.store.StoreError.TheVariants as error
use Rattle.vdir_store.specs.Vdir.{held_of}
use Rattle.mem_store.specs.Memory.{wrote}

-- a reading of the text at an href
abbrev pub ReadAnswer : SideState → SideState → List ℕ → Result (Option (Vec ℕ Global)) OutOfMemory → Type 0
ReadAnswer s t href (Ok None) = (t ≡ s) × (fin.get s.content href ≡ None)
ReadAnswer s t href (Ok (Some bytes)) = (fin.get s.content href ≡ Some (held_of bytes.items)) × (t ≡ happens s (Read href bytes.items))
ReadAnswer s t href (Err e) = t ≡ s

-- a change that acts at once, where it fits
abbrev pub ActAnswer : Change → SideState → SideState → Result Answer OutOfMemory → Type 0
ActAnswer c s t (Ok Done) = (fits c s ≡ true) × (t ≡ wrote s c.href c.sent)
ActAnswer c s t (Ok Moved) = (fits c s ≡ false) × (t ≡ s)
ActAnswer c s t (Err e) = t ≡ s

-- a change that waits, where it fits
abbrev pub WaitAnswer : Change → SideState → SideState → List Change → List Change → Result Answer OutOfMemory → Type 0
WaitAnswer c s t w w' (Ok Done) = (t ≡ s) × (w' ≡ w ++ c ∷ [])
WaitAnswer c s t w w' (Ok Moved) = (fits c s ≡ false) × (t ≡ s) × (w' ≡ w)
WaitAnswer c s t w w' (Err e) = (t ≡ s) × (w' ≡ w)

-- all that waits acts, or nothing of it
abbrev pub AllAnswer : SideState → SideState → List Change → List Change → Result Answer OutOfMemory → Type 0
AllAnswer s t w w' (Ok Done) = Flushes w s t × (w' ≡ [])
AllAnswer s t w w' (Ok Moved) = (t ≡ s) × (w' ≡ w) × (w ≡ [] → ⊥)
AllAnswer s t w w' (Err e) = (t ≡ s) × (w ≡ [] → ⊥)

-- a call that the plan stops before it acts
abbrev pub IsStop : StoreError → Type 0
IsStop error.Fault = Unit {0}
IsStop error.NoMemory = Unit {0}
IsStop error.Moved = ⊥
IsStop error.TooLong = ⊥
IsStop error.TooMany = ⊥
IsStop error.NotThere = ⊥
IsStop (error.Vanished href) = ⊥
IsStop (error.BadItem href e) = ⊥

-- what a flush answers where the plan stops it: Ok where nothing waits, unless by a fault
abbrev pub FlushStop : Bool → StoreError → Result (Unit {0}) StoreError → Type 0
FlushStop idle e (Ok done) = idle ≡ true
FlushStop idle e (Err error.NoMemory) = (e ≡ error.NoMemory) × (idle ≡ false)
FlushStop idle e (Err x) = e ≡ x
