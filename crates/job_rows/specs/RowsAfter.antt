-- The rows that a run comes to, by its plan and what became of each step (this project's own).
use Rattle.std.specs.Prelude.{◌≡◌, ◌⊎◌, List, [], ◌∷◌, Option, Some, None}
use Rattle.std.specs.List.{cons_option}
use Rattle.status_keeper.specs.declared.row.Row.{Row}
use Rattle.status_keeper.specs.Rows.{row_of}
use Rattle.sync_plan.specs.declared.dues.Step.{Step}
use Rattle.sync_plan.specs.declared.dues.Step.TheVariants as step
use Rattle.sync_plan.specs.declared.seen.Seen.{Seen}
use Rattle.sync_plan.specs.declared.seen.Planned.{Planned}
use Rattle.job_writes.specs.declared.outcome.Outcome.{Outcome}
use Rattle.job_writes.specs.declared.outcome.Outcome.TheVariants.{Kept, Gone, Written, Left, Conflict, NotWritten, NotRemoved, Skipped}
use Rattle.job_writes.specs.Writings.{Sources, seen_at}

-- a removal's outcome comes in the second phase, any other step's in the first
abbrev pub outcome_of : Step → Outcome → Outcome → Outcome
outcome_of (step.RemoveFrom from) first second = second
outcome_of (step.CopyTo to) first second = first
outcome_of (step.WriteOver to) first second = first
outcome_of step.Forget first second = first
outcome_of step.Keep first second = first
outcome_of step.HandOver first second = first
outcome_of step.Conflict first second = first
outcome_of (step.Held to) first second = first

-- the row of an item that both sides have in one version
abbrev pub row_of_both : Seen → Seen → Row
row_of_both a b = record { ident = a.ident; fp = a.fp; href_a = Some a.href; etag_a = Some a.etag; href_b = Some b.href; etag_b = Some b.etag }

abbrev pub row_kept : Option Seen → Option Seen → Option Row
row_kept (Some a) (Some b) = Some (row_of_both a b)
row_kept (Some a) None = None
row_kept None b = None

-- the row of an ident at the end, or none
abbrev pub row_after : Sources → List Row → Planned → Outcome → Option Row
row_after x rows p Kept = row_kept (seen_at x.a p.a) (seen_at x.b p.b)
row_after x rows p Gone = None
row_after x rows p (Written row) = Some row
row_after x rows p Left = row_of (p.ident).now rows
row_after x rows p Conflict = row_of (p.ident).now rows
row_after x rows p (NotWritten at error) = row_of (p.ident).now rows
row_after x rows p (NotRemoved at error) = row_of (p.ident).now rows
row_after x rows p Skipped = row_of (p.ident).now rows

-- the rows of all idents of a plan, in its order
abbrev pub rows_after : Sources → List Row → List Planned → List Outcome → List Outcome → List Row
rows_after x rows [] firsts seconds = []
rows_after x rows (p ∷ ps) [] seconds = []
rows_after x rows (p ∷ ps) (f ∷ fs) [] = []
rows_after x rows (p ∷ ps) (f ∷ fs) (g ∷ gs) = cons_option (row_after x rows p (outcome_of p.step f g)) (rows_after x rows ps fs gs)

-- the row of each ident is the one before
abbrev pub IsUnchanged : Sources → List Row → List Planned → List Outcome → List Outcome → Type 0
IsUnchanged x rows [] firsts seconds = Unit {0}
IsUnchanged x rows (p ∷ ps) [] seconds = Unit {0}
IsUnchanged x rows (p ∷ ps) (f ∷ fs) [] = Unit {0}
IsUnchanged x rows (p ∷ ps) (f ∷ fs) (g ∷ gs) = (row_after x rows p (outcome_of p.step f g) ≡ row_of (p.ident).now rows) × IsUnchanged x rows ps fs gs

-- a step of a plan stands beside its outcomes of both phases
abbrev pub IsStepAt : Planned → Outcome → Outcome → List Planned → List Outcome → List Outcome → Type 0
IsStepAt p f g [] firsts seconds = ⊥
IsStepAt p f g (q ∷ ps) [] seconds = ⊥
IsStepAt p f g (q ∷ ps) (y ∷ fs) [] = ⊥
IsStepAt p f g (q ∷ ps) (y ∷ fs) (z ∷ gs) = ((p ≡ q) × (f ≡ y) × (g ≡ z)) ⊎ IsStepAt p f g ps fs gs
