-- Changes that a store is sent, which act at once or wait for a flush (this project's own).
use Rattle.std.specs.Prelude.{◌≡◌, ℕ, Bool, true, false, ◌&&◌, List, [], ◌∷◌, ◌++◌, ◌⊎◌, Option, Some, None, is_none}
use Rattle.std.specs.Option.{option_map}
use Rattle.std.specs.Str.{bytes_eq}
use Rattle.std.specs.FinMap as fin
use Rattle.store_model.specs.declared.event.Held.{Held}
use Rattle.store_model.specs.declared.event.StoreEvent.{StoreEvent}
use Rattle.store_model.specs.declared.event.StoreEvent.TheVariants.{Edited, Toggled, Wrote, Read}
use Rattle.store_model.specs.Sides.{SideState, happens, IsTrueEvent, Evolves, Since, IsOutside, Writes, HoldsAt}

-- a change: what is expected to stand at the href (nothing, or something under an etag), and the text that is sent (none: a removal)
pub record Change : Type 0 where
  pub href : List ℕ
  pub expected : Option (List ℕ)
  pub sent : Option (List ℕ)

abbrev pub In : {X : Type 0} → X → List X → Type 0
In x [] = ⊥
In x (y ∷ ys) = (x ≡ y) ⊎ In x ys

-- whether what stands there is as a change expects it: nothing, or something under this etag
abbrev pub fits_at : Option (List ℕ) → Option Held → Bool
fits_at None old = is_none old
fits_at (Some etag) None = false
fits_at (Some etag) (Some held) = bytes_eq held.etag etag

abbrev pub fits : Change → SideState → Bool
fits c m = m.is_there && fits_at c.expected (fin.get m.content c.href)

-- an item where nothing stands, an item over what has this etag, and the removal of what has this etag
abbrev pub new_at : List ℕ → List ℕ → Change
new_at href text = record { href = href; expected = None; sent = Some text }

abbrev pub over_at : List ℕ → List ℕ → List ℕ → Change
over_at href etag text = record { href = href; expected = Some etag; sent = Some text }

abbrev pub gone_at : List ℕ → List ℕ → Change
gone_at href etag = record { href = href; expected = Some etag; sent = None }

-- the change acted at some moment
pub record Acted (c : Change) (s t : SideState) : Type 0 where
  pub moment : SideState
  pub old : Option Held
  pub new : Option Held
  pub fit : fits_at c.expected old ≡ true
  pub from : Since s moment
  pub is_true : IsTrueEvent moment (Wrote c.href old new c.sent)
  pub until : Since (happens moment (Wrote c.href old new c.sent)) t

-- the change acted, and nothing else happened but edits from outside
pub record Acts (c : Change) (s t : SideState) : Type 0 where
  pub old : Option Held
  pub new : Option Held
  pub fit : fits_at c.expected old ≡ true
  pub writes : Writes (Wrote c.href old new c.sent) s t

-- an Ok of a writing call: the change acted, and the etag is of what it left; or it waits
abbrev pub Sent : Bool → Change → Option (List ℕ) → SideState → List Change → SideState → List Change → Type 0
Sent false c etag s w t w' = (acts : Acts c s t) × (etag ≡ option_map (λ h. h.etag) acts.new) × (w' ≡ w)
Sent true c etag s w t w' = Evolves IsOutside s t × (etag ≡ None) × (w' ≡ w ++ c ∷ [])

-- a store whose writes wait changes nothing before it is flushed
pub record ActsOrWaits (waits : Bool) (s t : SideState) : Type 0 where
  pub until_flush : waits ≡ true → Evolves IsOutside s t

-- all that waits acts, in order
abbrev pub ActAll : List Change → SideState → SideState → Type 0
ActAll [] s t = t ≡ s
ActAll (c ∷ cs) s t = (old : Option Held) × (new : Option Held) × (fits_at c.expected old ≡ true) × IsTrueEvent s (Wrote c.href old new c.sent) × ActAll cs (happens s (Wrote c.href old new c.sent)) t

pub record Flushes (w : List Change) (s t : SideState) : Type 0 where
  pub first : SideState
  pub last : SideState
  pub before : Evolves IsOutside s first
  pub all : ActAll w first last
  pub after : Evolves IsOutside last t

-- own writes of these changes alone
abbrev pub IsWriteOfThese : List Change → StoreEvent → Type 0
IsWriteOfThese cs (Wrote href old new sent) = (c : Change) × In c cs × (href ≡ c.href) × (sent ≡ c.sent) × (fits_at c.expected old ≡ true)
IsWriteOfThese cs (Edited href old new) = Unit {0}
IsWriteOfThese cs Toggled = Unit {0}
IsWriteOfThese cs (Read href text) = ⊥

-- texts that stand at any moments under one href and etag are equal
pub record HasHonestEtags (s t : SideState) : Type 0 where
  pub each : (m n : SideState) (href : List ℕ) (x y : Held) → Since s m → Since m t → Since s n → Since n t → HoldsAt href x m → HoldsAt href y n → x.etag ≡ y.etag → x.text ≡ y.text
