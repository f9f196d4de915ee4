-- The lines of a report, by what became of each step, and the causes of their errors (this project's own).
use Rattle.std.specs.Prelude.{◌≡◌, ℕ, ◌+◌, List, [], ◌∷◌, Option, Some, None, option_map}
use Rattle.std.specs.List.{cons_option}
use Rattle.status_keeper.specs.declared.keeper.KeeperError.{KeeperError}
use Rattle.status_keeper.specs.declared.keeper.KeeperError.TheVariants as keeper
use Rattle.status_keeper.specs.KeeperCalls.{KeeperCause}
use Rattle.sync_plan.specs.declared.report.Side.{Side}
use Rattle.sync_plan.specs.declared.seen.Planned.{Planned}
use Rattle.job_writes.specs.declared.outcome.Outcome.{Outcome}
use Rattle.job_writes.specs.declared.outcome.Outcome.TheVariants as outcome
use Rattle.job_writes.specs.Writings.{AtSide, IsToldError}
use Rattle.job_writes.specs.Faults.{fault_at}
use Rattle.job_rows.specs.RowsAfter.{outcome_of}
use Rattle.sync_plan.specs.declared.report.What.{What}
use Rattle.sync_plan.specs.declared.report.What.TheVariants.{Conflict, NotWritten, NotRemoved, Skipped}
use Rattle.sync_plan.specs.declared.report.Line.{Line}
use Rattle.sync_plan.specs.declared.report.Refusal.{Refusal}
use Rattle.sync_plan.specs.declared.report.Refusal.TheVariants.{SameLocation, Status, Storage, StorageEmpty, SameIdent}
use Rattle.sync_plan.specs.declared.report.JobEnd.{JobEnd}
use Rattle.sync_plan.specs.declared.report.JobEnd.TheVariants.{Synced, Refused, NotFlushed, NotCommitted, NoMemory}
use Rattle.sync_plan.specs.declared.report.Report.{Report}

-- what is told of an outcome, if anything is
abbrev pub what_of : Outcome → Option What
what_of outcome.Kept = None
what_of outcome.Gone = None
what_of (outcome.Written row) = None
what_of outcome.Left = None
what_of outcome.Conflict = Some Conflict
what_of (outcome.NotWritten side error) = Some (NotWritten side error)
what_of (outcome.NotRemoved side error) = Some (NotRemoved side error)
what_of outcome.Skipped = Some Skipped

abbrev pub line_for : Planned → What → Line
line_for p what = record { ident = (p.ident).now; what = what }

-- the line of a step, by its outcomes of both phases
abbrev pub line_of : Planned → Outcome → Outcome → Option Line
line_of p first second = option_map (line_for p) (what_of (outcome_of p.step first second))

-- the lines of all steps of a plan, in its order
abbrev pub lines_of : List Planned → List Outcome → List Outcome → List Line
lines_of [] firsts seconds = []
lines_of (p ∷ ps) [] seconds = []
lines_of (p ∷ ps) (f ∷ fs) [] = []
lines_of (p ∷ ps) (f ∷ fs) (g ∷ gs) = cons_option (line_of p f g) (lines_of ps fs gs)

-- want of memory leaves no lines
abbrev pub LinesAt : JobEnd → List Line → List Line → Type 0
LinesAt NoMemory lines all = lines ≡ []
LinesAt Synced lines all = lines ≡ all
LinesAt (Refused refusal) lines all = lines ≡ all
LinesAt (NotFlushed side error) lines all = lines ≡ all
LinesAt (NotCommitted error) lines all = lines ≡ all

-- ---- causes: a fault where the count rose in this run, and want of memory is in no line and no end but its own

abbrev pub IsCausedWhat : Type 0 → Type 0 → What → Type 0
IsCausedWhat a b Conflict = Unit {0}
IsCausedWhat a b (NotWritten side error) = IsToldError (AtSide side a b) error
IsCausedWhat a b (NotRemoved side error) = IsToldError (AtSide side a b) error
IsCausedWhat a b Skipped = Unit {0}

abbrev pub IsCausedLine : Type 0 → Type 0 → Line → Type 0
IsCausedLine a b line = IsCausedWhat a b line.what

abbrev pub IsToldFailure : Type 0 → KeeperError → Type 0
IsToldFailure rose keeper.NoMemory = ⊥
IsToldFailure rose error = KeeperCause rose error

abbrev pub IsCausedRefusal : Type 0 → Type 0 → Type 0 → Refusal → Type 0
IsCausedRefusal a b k SameLocation = ⊥
IsCausedRefusal a b k (Status error) = IsToldFailure k error
IsCausedRefusal a b k (Storage side error) = IsToldError (AtSide side a b) error
IsCausedRefusal a b k (StorageEmpty side) = Unit {0}
IsCausedRefusal a b k (SameIdent side ident first second) = Unit {0}

abbrev pub IsCausedEnd : Type 0 → Type 0 → Type 0 → JobEnd → Type 0
IsCausedEnd a b k Synced = Unit {0}
IsCausedEnd a b k (Refused refusal) = IsCausedRefusal a b k refusal
IsCausedEnd a b k (NotFlushed side error) = IsToldError (AtSide side a b) error
IsCausedEnd a b k (NotCommitted error) = IsToldFailure k error
IsCausedEnd a b k NoMemory = Unit {0}

-- ---- how many faults of a side lines and an end tell

abbrev pub what_faults : Side → What → ℕ
what_faults side Conflict = 0
what_faults side (NotWritten at error) = fault_at side at error
what_faults side (NotRemoved at error) = fault_at side at error
what_faults side Skipped = 0

abbrev pub lines_faults : Side → List Line → ℕ
lines_faults side [] = 0
lines_faults side (line ∷ lines) = what_faults side line.what + lines_faults side lines

abbrev pub refusal_faults : Side → Refusal → ℕ
refusal_faults side SameLocation = 0
refusal_faults side (Status error) = 0
refusal_faults side (Storage at error) = fault_at side at error
refusal_faults side (StorageEmpty at) = 0
refusal_faults side (SameIdent at ident first second) = 0

abbrev pub end_faults : Side → JobEnd → ℕ
end_faults side Synced = 0
end_faults side (Refused refusal) = refusal_faults side refusal
end_faults side (NotFlushed at error) = fault_at side at error
end_faults side (NotCommitted error) = 0
end_faults side NoMemory = 0

abbrev pub report_faults : Side → Report → ℕ
report_faults side report = lines_faults side report.lines.items + end_faults side report.end
