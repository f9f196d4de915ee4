-- One run of one job, whatever faults it meets, and a clean run: as relations between the versions of all idents before and after.
use Rattle.std.specs.Prelude.{◌≡◌, ◌⊎◌, ℕ, List, Option, Some, None, if◌then◌else◌}
use Rattle.std.specs.Str.{bytes_eq}
use Rattle.sync_plan.specs.declared.report.Side.{Side}
use Rattle.sync_plan.specs.declared.report.Side.TheVariants.{A, B}
use Rattle.sync_plan.specs.declared.rules.Partial.{Partial}
use Rattle.sync_plan.specs.declared.rules.Partial.TheVariants.{Error, Ignore, Revert}
use Rattle.sync_plan.specs.declared.rules.Rules.{Rules}
use Rattle.sync_plan.specs.declared.dues.Step.{Step}
use Rattle.sync_plan.specs.declared.dues.Step.TheVariants.{Forget, Keep, CopyTo, WriteOver, RemoveFrom, HandOver, Conflict, Held}
use Rattle.sync_plan.specs.declared.rules.ConflictRule.TheVariants.{Command}
use Rattle.sync_plan.specs.Verdicts.{Versions, Due, Gone, At, Unsettled, other_side, due_of, step_of, wins, IsNeither}

-- all idents
abbrev pub State : Type 0
State = List ℕ → Versions

-- the same on both sides and in the status
abbrev pub all_at : Option (List ℕ) → Versions
all_at o = record { a = o; b = o; s = o }

abbrev pub on_side : Side → Versions → Option (List ℕ)
on_side A v = v.a
on_side B v = v.b

abbrev pub if_on : Side → Side → Option (Option (List ℕ)) → Option (Option (List ℕ))
if_on A A o = o
if_on A B o = None
if_on B A o = None
if_on B B o = o

-- the command's answer goes over a side that has another version
abbrev pub answer_over : Option (List ℕ) → Option (List ℕ) → Option (Option (List ℕ))
answer_over None own = None
answer_over (Some m) None = Some (Some m)
answer_over (Some m) (Some v) = if bytes_eq m v then None else Some (Some m)

-- what the step writes on a side: nothing, or a version, or a removal; answer is what the command gave, if it did
abbrev pub written : Step → Option (List ℕ) → Side → Versions → Option (Option (List ℕ))
written (CopyTo to) answer side v = if_on to side (Some (on_side (other_side side) v))
written (WriteOver to) answer side v = if_on to side (Some (on_side (other_side side) v))
written (RemoveFrom from) answer side v = if_on from side (Some None)
written HandOver answer side v = answer_over answer (on_side side v)
written Forget answer side v = None
written Keep answer side v = None
written Conflict answer side v = None
written (Held to) answer side v = None

-- what may be written where this version stands: it is the row's, or neither side is at the row's version and the rule names what is written
abbrev pub IsNamed : Rules → Option (List ℕ) → Side → Versions → List ℕ → Option (List ℕ) → Type 0
IsNamed rules answer side v version to = (v.s ≡ Some version) ⊎ (IsNeither v × (((rules.conflict ≡ wins (other_side side)) × (to ≡ on_side (other_side side) v)) ⊎ ((rules.conflict ≡ Command) × ((m : List ℕ) × (answer ≡ Some m) × (to ≡ Some m)))))

-- a side is as before, or it is what the step writes there
abbrev pub SideStep : Step → Option (List ℕ) → Side → Versions → Option (List ℕ) → Type 0
SideStep step answer side v after = (after ≡ on_side side v) ⊎ (written step answer side v ≡ Some after)

-- the version at a moment of the run
abbrev pub IsWas : Option (List ℕ) → Option (List ℕ) → Option (List ℕ) → Type 0
IsWas before after o = (o ≡ before) ⊎ (o ≡ after)

-- a row that the run leaves for a held ident: the version of the side that may be written, or no row
pub record IsHeldBack (rules : Rules) (old new : Versions) : Type 0 where
  pub moment : Versions
  pub was_a : IsWas old.a new.a moment.a
  pub was_b : IsWas old.b new.b moment.b
  pub same_row : moment.s ≡ old.s
  pub side : Side
  pub is_held : step_of rules moment ≡ Held side
  pub is_revert : rules.partial ≡ Revert
  pub row : new.s ≡ on_side (other_side side) moment

-- the row is as before, or both sides are at it (which is also: both lack the ident, and there is no row), or the ident is held back
abbrev pub StatusStep : Rules → Versions → Versions → Type 0
StatusStep rules old new = (new.s ≡ old.s) ⊎ ((new.a ≡ new.s) × (new.b ≡ new.s)) ⊎ IsHeldBack rules old new

-- one ident that no edit from outside touches
pub record IdentStep (rules : Rules) (old new : Versions) (Wrote_a Wrote_b : Type 0) : Type 0 where
  -- what the command answered for the ident, if it did
  pub answer : Option (List ℕ)
  pub side_a : SideStep (step_of rules old) answer A old new.a
  pub side_b : SideStep (step_of rules old) answer B old new.b
  pub wrote_a : Wrote_a → (to : Option (List ℕ)) × (written (step_of rules old) answer A old ≡ Some to)
  pub wrote_b : Wrote_b → (to : Option (List ℕ)) × (written (step_of rules old) answer B old ≡ Some to)
  pub row : StatusStep rules old new

-- the step puts the ident on this side
abbrev pub IsPutOn : Side → Step → Type 0
IsPutOn side step = (step ≡ CopyTo side) ⊎ (step ≡ WriteOver side)

-- the ident was on the side and is not there any more
abbrev pub IsRemoved : Side → Versions → Versions → Type 0
IsRemoved side old new = ((version : List ℕ) × (on_side side old ≡ Some version)) × (on_side side new ≡ None)

-- one run: the idents that no edit from outside touches, the states before and after, and the idents of its own writes on each side
pub record JobStep (rules : Rules) (Untouched : List ℕ → Type 0) (old new : List ℕ → Versions) (wrote_a wrote_b : List ℕ → Type 0) : Type 0 where
  pub each : (ident : List ℕ) → Untouched ident → IdentStep rules (old ident) (new ident) (wrote_a ident) (wrote_b ident)
  -- where an ident went from a side, all that was to be put there is there
  pub puts_first : (side : Side) (gone put : List ℕ) → Untouched gone → IsRemoved side (old gone) (new gone) → Untouched put → IsPutOn side (step_of rules (old put)) → on_side side (new put) ≡ on_side (other_side side) (old put)

-- what a clean run leaves of an unsettled ident
abbrev pub held_row : Partial → Side → Versions → Versions
held_row Error side v = v
held_row Ignore side v = v
held_row Revert side v = record { a = v.a; b = v.b; s = on_side (other_side side) v }

abbrev pub answered : Option (List ℕ) → Versions → Versions
answered None v = v
answered (Some m) v = all_at (Some m)

abbrev pub unsettled_after : Rules → Option (List ℕ) → Step → Versions → Versions
unsettled_after rules answer (Held side) v = held_row rules.partial side v
unsettled_after rules answer HandOver v = answered answer v
unsettled_after rules answer Conflict v = v
unsettled_after rules answer Forget v = v
unsettled_after rules answer Keep v = v
unsettled_after rules answer (CopyTo side) v = v
unsettled_after rules answer (WriteOver side) v = v
unsettled_after rules answer (RemoveFrom side) v = v

-- what a clean run leaves of one ident; answer is what the command gave, if it did
abbrev pub clean_by : Rules → Option (List ℕ) → Due → Step → Versions → Versions
clean_by rules answer Gone step v = all_at None
clean_by rules answer (At version) step v = all_at (Some version)
clean_by rules answer Unsettled step v = unsettled_after rules answer step v

abbrev pub clean_of : Rules → Option (List ℕ) → Versions → Versions
clean_of rules answer v = clean_by rules answer (due_of rules v) (step_of rules v) v

-- a clean run
pub record CleanStep (rules : Rules) (old new : List ℕ → Versions) : Type 0 where
  pub answers : List ℕ → Option (List ℕ)
  pub each : (ident : List ℕ) → new ident ≡ clean_of rules (answers ident) (old ident)
