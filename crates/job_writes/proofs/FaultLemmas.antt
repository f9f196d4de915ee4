-- As many faults of a side are told as it met, at most.
use Rattle.std.proofs.Common.{◌≡◌, ℕ, ◌+◌, ◌≤◌, List, [], ◌∷◌, ◌++◌, sym, ◌∙◌, ap, subst, arith}
use Rattle.outside.specs.Causes.{Rose}
use Rattle.store_model.specs.declared.store.StoreError.{StoreError}
use Rattle.store_model.specs.declared.store.StoreError.TheVariants as store
use Rattle.sync_plan.specs.declared.report.Side.{Side}
use Rattle.sync_plan.specs.declared.report.Side.TheVariants.{A, B}
use Rattle.job_writes.specs.declared.outcome.Outcome.{Outcome}
use Rattle.job_writes.specs.declared.outcome.Outcome.TheVariants.{Kept, Gone, Written, Left, Conflict, NotWritten, NotRemoved, Skipped}
use Rattle.job_writes.specs.Writings.{AtSide, IsToldError, IsCausedOutcome}
use Rattle.job_writes.specs.Faults.{RoseBy, fault_in, fault_at, faults_in, faults_of}

-- the count of a side among both
abbrev pub count_on : Side → ℕ → ℕ → ℕ
count_on A a b = a
count_on B a b = b

pub rose_none : (before now : ℕ) → before ≤ now → RoseBy before 0 now
rose_none before now le = omega (arith, le)

pub rose_more : (c0 c1 c2 n m : ℕ) → RoseBy c0 n c1 → RoseBy c1 m c2 → RoseBy c0 (n + m) c2
rose_more c0 c1 c2 n m first second = omega (arith, first, second)

pub rose_less : (c0 c1 n m : ℕ) → n ≤ m → RoseBy c0 m c1 → RoseBy c0 n c1
rose_less c0 c1 n m le more = omega (arith, le, more)

told_fault : (rose0 rose1 : ℕ) (error : StoreError) → rose0 ≤ rose1 → IsToldError (Rose rose0 rose1) error → RoseBy rose0 (fault_in error) rose1
told_fault c0 c1 store.Fault le cause = cause
told_fault c0 c1 store.Moved le cause = rose_none c0 c1 le
told_fault c0 c1 store.TooLong le cause = rose_none c0 c1 le
told_fault c0 c1 store.TooMany le cause = rose_none c0 c1 le
told_fault c0 c1 store.NotThere le cause = rose_none c0 c1 le
told_fault c0 c1 (store.Vanished href) le cause = rose_none c0 c1 le
told_fault c0 c1 (store.BadItem href error) le cause = rose_none c0 c1 le
told_fault c0 c1 store.NoMemory le cause = absurd cause

module _ (a0 a1 b0 b1 : ℕ) (le_a : a0 ≤ a1) (le_b : b0 ≤ b1) where
  pub side_fault : (side at : Side) (error : StoreError) → IsToldError (AtSide at (Rose a0 a1) (Rose b0 b1)) error → RoseBy (count_on side a0 b0) (fault_at side at error) (count_on side a1 b1)
  side_fault A A error cause = told_fault a0 a1 error le_a cause
  side_fault B B error cause = told_fault b0 b1 error le_b cause
  side_fault A B error cause = rose_none a0 a1 le_a
  side_fault B A error cause = rose_none b0 b1 le_b

  none : (side : Side) → RoseBy (count_on side a0 b0) 0 (count_on side a1 b1)
  none A = rose_none a0 a1 le_a
  none B = rose_none b0 b1 le_b

  pub outcome_fault : (side : Side) (o : Outcome) → IsCausedOutcome (Rose a0 a1) (Rose b0 b1) o → RoseBy (count_on side a0 b0) (faults_in side o) (count_on side a1 b1)
  outcome_fault side (NotWritten at error) cause = side_fault side at error cause
  outcome_fault side (NotRemoved at error) cause = side_fault side at error cause
  outcome_fault side Kept cause = none side
  outcome_fault side Gone cause = none side
  outcome_fault side (Written row) cause = none side
  outcome_fault side Left cause = none side
  outcome_fault side Conflict cause = none side
  outcome_fault side Skipped cause = none side

faults_push : (side : Side) (os : List Outcome) (o : Outcome) → faults_of side (os ++ o ∷ []) ≡ faults_of side os + faults_in side o
faults_push side [] o = omega arith
faults_push side (x ∷ os) o = let rest = faults_push side os o in omega (arith, rest)

-- one more outcome
pub faults_turn : (side : Side) (c0 c1 c2 : ℕ) (os now : List Outcome) (o : Outcome) → now ≡ os ++ o ∷ [] → RoseBy c0 (faults_of side os) c1 → RoseBy c1 (faults_in side o) c2 → RoseBy c0 (faults_of side now) c2
faults_turn side c0 c1 c2 os now o more before one = subst (λ (n : ℕ). RoseBy c0 n c2) (sym (ap (faults_of side) more ∙ faults_push side os o)) (rose_more c0 c1 c2 (faults_of side os) (faults_in side o) before one)
