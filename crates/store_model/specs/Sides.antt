-- A side: what a store holds and what has happened to it, and what a run of it leaves true (this project's own).
use Rattle.std.specs.Prelude.{◌≡◌, ℕ, Bool, not, List, [], ◌∷◌, ◌++◌, Option, Some, None}
use Rattle.std.specs.Ordering.{nat_cmp}
use Rattle.std.specs.Cmp.Lexicographic.{slice_cmp}
use Rattle.std.specs.FinMap as fin
use Rattle.item_text.specs.Items.{ItemValue, item_of}
use Rattle.outside.specs.Runs.{Runs}
use Rattle.store_model.specs.declared.event.Held.{Held}
use Rattle.store_model.specs.declared.event.StoreEvent.{StoreEvent}
use Rattle.store_model.specs.declared.event.StoreEvent.TheVariants.{Edited, Toggled, Wrote, Read}

-- the content of a side: at each href an etag and a text
abbrev pub Content : Type 0
Content = fin.FinMap (slice_cmp nat_cmp) Held

abbrev pub put_held : Content → List ℕ → Option Held → Content
put_held content href (Some held) = fin.insert content href held
put_held content href None = fin.remove content href

-- a side as a store tells it
pub record SideState : Type 0 where
  pub is_there : Bool
  pub content : Content
  -- all that has happened but the reads, the first of it first
  pub trail : List StoreEvent
  -- what has been read, href and text, the first of it first
  pub reads : List (List ℕ × List ℕ)
  -- what the store changed of its device beside the items, by name; no event adds to it, so a run changes nothing but items
  pub beside : List (List ℕ)

-- the content after an event
abbrev pub content_after : Content → StoreEvent → Content
content_after c (Edited href old new) = put_held c href new
content_after c Toggled = c
content_after c (Wrote href old new sent) = put_held c href new
content_after c (Read href text) = c

abbrev pub presence_after : Bool → StoreEvent → Bool
presence_after b (Edited href old new) = b
presence_after b Toggled = not b
presence_after b (Wrote href old new sent) = b
presence_after b (Read href text) = b

abbrev pub trail_after : List StoreEvent → StoreEvent → List StoreEvent
trail_after l (Edited href old new) = l ++ Edited href old new ∷ []
trail_after l Toggled = l ++ Toggled ∷ []
trail_after l (Wrote href old new sent) = l ++ Wrote href old new sent ∷ []
trail_after l (Read href text) = l

abbrev pub reads_after : List (List ℕ × List ℕ) → StoreEvent → List (List ℕ × List ℕ)
reads_after l (Edited href old new) = l
reads_after l Toggled = l
reads_after l (Wrote href old new sent) = l
reads_after l (Read href text) = l ++ (href, text) ∷ []

-- what an event changes; a read stands among the reads, any other in the trail
abbrev pub happens : SideState → StoreEvent → SideState
happens s e = record { is_there = presence_after s.is_there e; content = content_after s.content e; trail = trail_after s.trail e; reads = reads_after s.reads e; beside = s.beside }

-- two texts are of one item version
abbrev pub SameItem : List ℕ → List ℕ → Type 0
SameItem t u = (i : ItemValue) × (j : ItemValue) × (item_of t ≡ Some i) × (item_of u ≡ Some j) × (i.ident ≡ j.ident) × (i.version ≡ j.version)

-- what is sent keeps its ident and version in the store
abbrev pub KeepsItem : Option Held → Option (List ℕ) → Type 0
KeepsItem None None = Unit {0}
KeepsItem (Some held) (Some sent) = SameItem held.text sent
KeepsItem None (Some sent) = ⊥
KeepsItem (Some held) None = ⊥

-- an event tells the truth of the side as it was just before it. (A read says nothing of the side: a single file answers from its last listing)
abbrev pub IsTrueEvent : SideState → StoreEvent → Type 0
IsTrueEvent s (Edited href old new) = old ≡ fin.get s.content href
IsTrueEvent s Toggled = Unit {0}
IsTrueEvent s (Wrote href old new sent) = (old ≡ fin.get s.content href) × KeepsItem new sent
IsTrueEvent s (Read href text) = Unit {0}

-- t is s after some true events, each of them of this kind
abbrev pub Evolves : (StoreEvent → Type 0) → SideState → SideState → Type 0
Evolves Kind s t = Runs happens IsTrueEvent Kind s t

abbrev pub IsAnyEvent : StoreEvent → Type 0
IsAnyEvent e = Unit {0}

-- an edit from outside
abbrev pub IsOutside : StoreEvent → Type 0
IsOutside (Edited href old new) = Unit {0}
IsOutside Toggled = Unit {0}
IsOutside (Wrote href old new sent) = ⊥
IsOutside (Read href text) = ⊥

-- no own write
abbrev pub IsNoWrite : StoreEvent → Type 0
IsNoWrite (Edited href old new) = Unit {0}
IsNoWrite Toggled = Unit {0}
IsNoWrite (Wrote href old new sent) = ⊥
IsNoWrite (Read href text) = Unit {0}

-- t is s later on
abbrev pub Since : SideState → SideState → Type 0
Since s t = Evolves IsAnyEvent s t

-- at a moment from s to t the side was so
pub record Sometime (Was : SideState → Type 0) (s t : SideState) : Type 0 where
  pub moment : SideState
  pub from : Since s moment
  pub until : Since moment t
  pub was : Was moment

-- from s to t this text was read
pub record WasRead (s t : SideState) (text : List ℕ) : Type 0 where
  pub moment : SideState
  pub href : List ℕ
  pub from : Since s moment
  pub is_true : IsTrueEvent moment (Read href text)
  pub until : Since (happens moment (Read href text)) t

-- from s to t an edit from outside came
pub record WasEdited (s t : SideState) : Type 0 where
  pub moment : SideState
  pub event : StoreEvent
  pub from : Since s moment
  pub is_outside : IsOutside event
  pub is_true : IsTrueEvent moment event
  pub until : Since (happens moment event) t

-- from s to t this own write was made, and nothing else happened but edits from outside
pub record Writes (e : StoreEvent) (s t : SideState) : Type 0 where
  pub moment : SideState
  pub before : Evolves IsOutside s moment
  pub is_true : IsTrueEvent moment e
  pub after : Evolves IsOutside (happens moment e) t

-- the side holds this at the href
abbrev pub HoldsAt : List ℕ → Held → SideState → Type 0
HoldsAt href held m = fin.get m.content href ≡ Some held

-- from s to t an edit from outside put this at the href
pub record PutOutside (s t : SideState) (href : List ℕ) (new : Option Held) : Type 0 where
  pub moment : SideState
  pub old : Option Held
  pub from : Since s moment
  pub is_true : IsTrueEvent moment (Edited href old new)
  pub until : Since (happens moment (Edited href old new)) t

-- each text of the ident that the side holds at the moment m was put there by an edit from outside since s
pub record Lacks (ident : List ℕ) (s m : SideState) : Type 0 where
  pub each : (href : List ℕ) (held : Held) (item : ItemValue) → fin.get m.content href ≡ Some held → item_of held.text ≡ Some item → item.ident ≡ ident → PutOutside s m href (Some held)

-- the side holds this text at some href
abbrev pub HoldsText : List ℕ → SideState → Type 0
HoldsText text m = (href : List ℕ) × (held : Held) × (fin.get m.content href ≡ Some held) × (held.text ≡ text)

-- the text of an item of this ident
abbrev pub IsTextOf : List ℕ → List ℕ → Type 0
IsTextOf ident text = (item : ItemValue) × (item_of text ≡ Some item) × (item.ident ≡ ident)

abbrev pub IsNotOf : List ℕ → Option Held → Type 0
IsNotOf ident None = Unit {0}
IsNotOf ident (Some held) = IsTextOf ident held.text → ⊥

-- no edit from outside touches the ident
abbrev pub IsUntouching : List ℕ → StoreEvent → Type 0
IsUntouching ident (Edited href old new) = IsNotOf ident old × IsNotOf ident new
IsUntouching ident Toggled = Unit {0}
IsUntouching ident (Wrote href old new sent) = Unit {0}
IsUntouching ident (Read href text) = Unit {0}

-- own writes only where nothing stood
abbrev pub IsAdding : StoreEvent → Type 0
IsAdding (Edited href old new) = Unit {0}
IsAdding Toggled = Unit {0}
IsAdding (Wrote href old new sent) = old ≡ None
IsAdding (Read href text) = Unit {0}

-- the side holds no text of the ident
abbrev pub HasNone : List ℕ → SideState → Type 0
HasNone ident m = (href : List ℕ) (held : Held) → fin.get m.content href ≡ Some held → IsTextOf ident held.text → ⊥

-- no own write of a text of this ident, nor over one
abbrev pub IsNotWriteOf : List ℕ → StoreEvent → Type 0
IsNotWriteOf ident (Wrote href old new sent) = IsNotOf ident old × IsNotOf ident new
IsNotWriteOf ident (Edited href old new) = Unit {0}
IsNotWriteOf ident Toggled = Unit {0}
IsNotWriteOf ident (Read href text) = Unit {0}
