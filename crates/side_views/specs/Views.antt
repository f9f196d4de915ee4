-- The version of each ident on a side, and what one own write makes of it (this project's own).
use Rattle.std.specs.Prelude.{◌≡◌, ◌⊎◌, ℕ, List, [], ◌∷◌, Option, Some, None, if◌then◌else◌}
use Rattle.std.specs.Str.{bytes_eq}
use Rattle.std.specs.FinMap as fin
use Rattle.item_text.specs.Items.{ItemValue, item_of}
use Rattle.store_model.specs.declared.event.Held.{Held}
use Rattle.store_model.specs.declared.event.StoreEvent.TheVariants.{Wrote}
use Rattle.store_model.specs.Sides.{Content, SideState, happens, IsTrueEvent, Evolves, IsTextOf, HasNone, IsNotWriteOf}

abbrev pub version_if : Option ItemValue → List ℕ → Option (List ℕ) → Option (List ℕ)
version_if None ident rest = rest
version_if (Some item) ident rest = if bytes_eq item.ident ident then Some item.version else rest

abbrev pub version_at : Option Held → List ℕ → Option (List ℕ) → Option (List ℕ)
version_at None ident rest = rest
version_at (Some held) ident rest = version_if (item_of held.text) ident rest

-- the first of these hrefs at which an item of the ident stands
abbrev pub view_in : Content → List (List ℕ × Held) → List ℕ → Option (List ℕ)
view_in content [] ident = None
view_in content (e ∷ es) ident = version_at (fin.get content e.0) ident (view_in content es ident)

-- the version of the ident on the side, or none
unfoldable pub view : SideState → List ℕ → Option (List ℕ)
view s ident = view_in s.content (fin.entries s.content) ident

-- the side holds an item of this ident and version
pub record HoldsVersion (ident version : List ℕ) (s : SideState) : Type 0 where
  pub href : List ℕ
  pub held : Held
  pub here : fin.get s.content href ≡ Some held
  pub item : ItemValue
  pub is_item : item_of held.text ≡ Some item
  pub same_ident : item.ident ≡ ident
  pub same_version : item.version ≡ version

-- the side holds the ident at this version, or it holds none of it
abbrev pub IsAt : List ℕ → SideState → Option (List ℕ) → Type 0
IsAt ident s None = HasNone ident s
IsAt ident s (Some version) = HoldsVersion ident version s

-- the ident stands at one href at most
pub record IsProperAt (ident : List ℕ) (s : SideState) : Type 0 where
  pub once : (p q : List ℕ) (x y : Held) → fin.get s.content p ≡ Some x → fin.get s.content q ≡ Some y → IsTextOf ident x.text → IsTextOf ident y.text → p ≡ q

-- what a write puts in the place of what stood: an item of the ident and version, or nothing
abbrev pub IsPut : List ℕ → Option (List ℕ) → Option Held → Type 0
IsPut ident None None = Unit {0}
IsPut ident None (Some held) = ⊥
IsPut ident (Some version) None = ⊥
IsPut ident (Some version) (Some held) = (item : ItemValue) × (item_of held.text ≡ Some item) × (item.ident ≡ ident) × (item.version ≡ version)

-- what it replaces: a text of the ident, or nothing, where the side holds none of it
abbrev pub IsOver : List ℕ → SideState → Option Held → Type 0
IsOver ident s None = HasNone ident s
IsOver ident s (Some held) = IsTextOf ident held.text

-- from s to t one own write puts the ident at this version, or removes it, and no other own write is of the ident or over it
pub record WroteTo (ident : List ℕ) (to : Option (List ℕ)) (s t : SideState) : Type 0 where
  pub moment : SideState
  pub href : List ℕ
  pub old : Option Held
  pub new : Option Held
  pub sent : Option (List ℕ)
  pub before : Evolves (IsNotWriteOf ident) s moment
  pub is_true : IsTrueEvent moment (Wrote href old new sent)
  pub over : IsOver ident moment old
  pub put : IsPut ident to new
  pub after : Evolves (IsNotWriteOf ident) (happens moment (Wrote href old new sent)) t

abbrev pub OnceTo : List ℕ → Option (List ℕ) → SideState → SideState → Type 0
OnceTo ident to s t = Evolves (IsNotWriteOf ident) s t ⊎ WroteTo ident to s t
