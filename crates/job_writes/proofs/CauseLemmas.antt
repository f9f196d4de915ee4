-- Causes hold of the whole run.
use Rattle.std.proofs.Common.{◌≤◌, ℕ, List, [], ◌∷◌, arith}
use Rattle.std.specs.List.{AllByRecursion}
use Rattle.outside.specs.Causes.{Rose}
use Rattle.store_model.specs.declared.store.StoreError.{StoreError}
use Rattle.store_model.specs.declared.store.StoreError.TheVariants.{Fault, Moved, TooLong, TooMany, NotThere, Vanished, BadItem, NoMemory}
use Rattle.sync_plan.specs.declared.report.Side.{Side}
use Rattle.sync_plan.specs.declared.report.Side.TheVariants.{A, B}
use Rattle.job_writes.specs.declared.outcome.Outcome.{Outcome}
use Rattle.job_writes.specs.declared.outcome.Outcome.TheVariants.{Kept, Gone, Written, Left, Conflict, NotWritten, NotRemoved, Skipped}
use Rattle.job_writes.specs.Writings.{IsToldError, AtSide, IsCausedOutcome}

rose_extends : (first before now last : ℕ) → first ≤ before → now ≤ last → Rose before now → Rose first last
rose_extends first before now last earlier later rose = omega (arith, earlier, later, rose)

told_weaker : (rose rose' : Type 0) (error : StoreError) → (rose → rose') → IsToldError rose error → IsToldError rose' error
told_weaker rose rose' Fault f cause = f cause
told_weaker rose rose' Moved f cause = cause
told_weaker rose rose' TooLong f cause = cause
told_weaker rose rose' TooMany f cause = cause
told_weaker rose rose' NotThere f cause = cause
told_weaker rose rose' (Vanished href) f cause = cause
told_weaker rose rose' (BadItem href error) f cause = cause
told_weaker rose rose' NoMemory f cause = cause

at_weaker : (side : Side) (a a' b b' : Type 0) → (a → a') → (b → b') → AtSide side a b → AtSide side a' b'
at_weaker A a a' b b' f g h = f h
at_weaker B a a' b b' f g h = g h

outcome_weaker : (a a' b b' : Type 0) → (a → a') → (b → b') → (o : Outcome) → IsCausedOutcome a b o → IsCausedOutcome a' b' o
outcome_weaker a a' b b' f g (NotWritten at error) cause = told_weaker (AtSide at a b) (AtSide at a' b') error (at_weaker at a a' b b' f g) cause
outcome_weaker a a' b b' f g (NotRemoved at error) cause = told_weaker (AtSide at a b) (AtSide at a' b') error (at_weaker at a a' b b' f g) cause
outcome_weaker a a' b b' f g Kept cause = tt
outcome_weaker a a' b b' f g Gone cause = tt
outcome_weaker a a' b b' f g (Written row) cause = tt
outcome_weaker a a' b b' f g Left cause = tt
outcome_weaker a a' b b' f g Conflict cause = tt
outcome_weaker a a' b b' f g Skipped cause = tt

pub cause_extends : (a0 a1 a2 a3 b0 b1 b2 b3 : ℕ) → a0 ≤ a1 → a2 ≤ a3 → b0 ≤ b1 → b2 ≤ b3 → (o : Outcome) → IsCausedOutcome (Rose a1 a2) (Rose b1 b2) o → IsCausedOutcome (Rose a0 a3) (Rose b0 b3) o
cause_extends a0 a1 a2 a3 b0 b1 b2 b3 ea la eb lb o cause = outcome_weaker (Rose a1 a2) (Rose a0 a3) (Rose b1 b2) (Rose b0 b3) (rose_extends a0 a1 a2 a3 ea la) (rose_extends b0 b1 b2 b3 eb lb) o cause

pub causes_extend : (a0 a1 a2 b0 b1 b2 : ℕ) → a1 ≤ a2 → b1 ≤ b2 → (os : List Outcome) → AllByRecursion (IsCausedOutcome (Rose a0 a1) (Rose b0 b1)) os → AllByRecursion (IsCausedOutcome (Rose a0 a2) (Rose b0 b2)) os
causes_extend a0 a1 a2 b0 b1 b2 la lb [] all = tt
causes_extend a0 a1 a2 b0 b1 b2 la lb (o ∷ os) all = (cause_extends a0 a0 a1 a2 b0 b0 b1 b2 (omega arith) la (omega arith) lb o all.0, causes_extend a0 a1 a2 b0 b1 b2 la lb os all.1)

pub causes_begin : (a0 a1 a2 b0 b1 b2 : ℕ) → a0 ≤ a1 → b0 ≤ b1 → (os : List Outcome) → AllByRecursion (IsCausedOutcome (Rose a1 a2) (Rose b1 b2)) os → AllByRecursion (IsCausedOutcome (Rose a0 a2) (Rose b0 b2)) os
causes_begin a0 a1 a2 b0 b1 b2 ea eb [] all = tt
causes_begin a0 a1 a2 b0 b1 b2 ea eb (o ∷ os) all = (cause_extends a0 a1 a2 a2 b0 b1 b2 b2 ea (omega arith) eb (omega arith) o all.0, causes_begin a0 a1 a2 b0 b1 b2 ea eb os all.1)
