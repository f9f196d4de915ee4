-- The children of an outfit: what is handed out, how many are out, and which came back (this project's own).
use Rattle.std.specs.Prelude.{◌≡◌, ℕ, ◌+◌, List, [], ◌∷◌, ◌++◌, Result, Ok, Err}
use Rattle.outside.specs.declared.folder.NoMemory.{NoMemory}
use Rattle.children.specs.Children.{ChildState, nothing_told}

-- what is known of a child: its count of faults, and its state, which says something where it is told
pub record Child : Type 0 where
  pub faults : ℕ
  pub state : ChildState

abbrev pub child_by : {C : Type 0} → (C → ℕ) → (C → ChildState) → C → Child
child_by count state c = record { faults = count c; state = state c }

pub record Children : Type 0 where
  -- what each child is that is handed out
  pub kind : Child
  -- how many are out
  pub out : ℕ
  -- those that came back, in this order, each as it then was
  pub back : List Child

-- one more is out
abbrev pub one_out : Children → Children
one_out c = record { kind = c.kind; out = c.out + 1; back = c.back }

-- a child is handed out
abbrev pub ChildOpened : {C : Type 0} → (C → Child) → Children → Children → Result C NoMemory → Type 0
ChildOpened child_of old new (Ok child) = (child_of child ≡ old.kind) × (new ≡ one_out old)
ChildOpened child_of old new (Err e) = new ≡ old

-- a child that was out came back
pub record ChildGiven (old new : Children) (child : Child) : Type 0 where
  pub kind : new.kind ≡ old.kind
  pub out : old.out ≡ new.out + 1
  pub back : new.back ≡ old.back ++ child ∷ []

-- none is out, and none came back
abbrev pub none_out : Child → Children
none_out kind = record { kind = kind; out = 0; back = [] }

-- a child that tells nothing and has no faults
abbrev pub silent_child : Child
silent_child = record { faults = 0; state = nothing_told }
