-- Lists of runs of one job.
use Rattle.std.specs.Prelude.{◌≡◌, ◌⊎◌, ℕ, List, [], ◌∷◌, Some, None, Contains}
use Rattle.sync_plan.specs.declared.report.Side.{Side}
use Rattle.sync_plan.specs.declared.report.Side.TheVariants.{A, B}
use Rattle.sync_plan.specs.declared.rules.Rules.{Rules}
use Rattle.sync_plan.specs.Verdicts.{Versions, other_side}
use Rattle.sync_plan.specs.JobSteps.{on_side, JobStep}

-- one run: the versions of all idents before and after, the idents of its own writes, and those that an edit from outside touches in the run, or between the run before and this one
pub record Run : Type 0 where
  pub before : List ℕ → Versions
  pub after : List ℕ → Versions
  pub writes_a : List (List ℕ)
  pub writes_b : List (List ℕ)
  pub touched : List (List ℕ)

abbrev pub IsRun : Rules → Run → Type 0
IsRun rules run = JobStep rules (λ ident. ¬ Contains run.touched ident) run.before run.after (λ ident. Contains run.writes_a ident) (λ ident. Contains run.writes_b ident)

-- runs one after the other, in and between which no edit from outside touches the ident
abbrev pub IsStory : Rules → List ℕ → (List ℕ → Versions) → List Run → (List ℕ → Versions) → Type 0
IsStory rules ident first [] last = first ident ≡ last ident
IsStory rules ident first (run ∷ runs) last = (first ident ≡ run.before ident) × (¬ Contains run.touched ident) × IsRun rules run × IsStory rules ident run.after runs last

-- runs in and between which no edit from outside touches anything
abbrev pub IsWholeStory : Rules → (List ℕ → Versions) → List Run → (List ℕ → Versions) → Type 0
IsWholeStory rules first runs last = (ident : List ℕ) → IsStory rules ident first runs last

-- some ident stands on the side
pub record HasSome (side : Side) (state : List ℕ → Versions) : Type 0 where
  pub ident : List ℕ
  pub version : List ℕ
  pub here : on_side side (state ident) ≡ Some version

pub record HasRow (state : List ℕ → Versions) : Type 0 where
  pub ident : List ℕ
  pub version : List ℕ
  pub here : (state ident).s ≡ Some version

-- a run is refused, as the side came to be empty
pub record IsEmptied (side : Side) (state : List ℕ → Versions) : Type 0 where
  pub row : HasRow state
  pub none : (ident : List ℕ) → on_side side (state ident) ≡ None
  pub other : HasSome (other_side side) state

-- the status has no row, or neither side is empty
abbrev pub IsFull : (List ℕ → Versions) → Type 0
IsFull state = ((ident : List ℕ) → (state ident).s ≡ None) ⊎ (HasSome A state × HasSome B state)
