-- A report tells no more faults of a side than it met.
use Rattle.std.proofs.Common.{◌≡◌, ◌⊎◌, inl, inr, ℕ, ◌+◌, ◌≤◌, List, [], ◌∷◌, option_map, refl, sym, ap, subst, arith}
use Rattle.std.specs.List.{cons_option}
use Rattle.outside.specs.Causes.{Rose}
use Rattle.store_model.specs.declared.store.StoreError.{StoreError}
use Rattle.store_model.specs.declared.store.StoreError.TheVariants as store
use Rattle.store_model.specs.StoreCalls.{StoreCause}
use Rattle.status_keeper.specs.declared.keeper.KeeperError.{KeeperError}
use Rattle.status_keeper.specs.declared.keeper.KeeperError.TheVariants as keeper
use Rattle.sync_plan.specs.declared.report.Side.{Side}
use Rattle.sync_plan.specs.declared.report.Side.TheVariants.{A, B}
use Rattle.sync_plan.specs.declared.dues.Step.{Step}
use Rattle.sync_plan.specs.declared.dues.Step.TheVariants as step
use Rattle.sync_plan.specs.declared.seen.Planned.{Planned}
use Rattle.sync_plan.specs.declared.seen.PlanError.{PlanError}
use Rattle.sync_plan.specs.declared.seen.PlanError.TheVariants as plan_error
use Rattle.job_reads.specs.declared.stop.Stop.{Stop}
use Rattle.job_reads.specs.declared.stop.Stop.TheVariants as stop
use Rattle.job_reads.specs.Readings.{IsCausedStop}
use Rattle.job_writes.specs.declared.outcome.Outcome.{Outcome}
use Rattle.job_writes.specs.declared.outcome.Outcome.TheVariants as outcome
use Rattle.job_writes.specs.declared.phases.Outcomes.{Outcomes}
use Rattle.job_writes.specs.Faults.{RoseBy, fault_in, fault_at, faults_in, faults_of}
use Rattle.job_writes.proofs.FaultLemmas.{count_on, rose_none, rose_more, rose_less, side_fault}
use Rattle.job_rows.specs.RowsAfter.{outcome_of}
use Rattle.sync_plan.specs.declared.report.Line.{Line}
use Rattle.sync_plan.specs.declared.report.Refusal.TheVariants.{SameLocation, Status, Storage, StorageEmpty, SameIdent}
use Rattle.sync_plan.specs.declared.report.JobEnd.{JobEnd}
use Rattle.sync_plan.specs.declared.report.JobEnd.TheVariants.{Synced, Refused, NotFlushed, NotCommitted, NoMemory}
use Rattle.sync_plan.specs.declared.report.Report.{Report}
use Rattle.sync_run.specs.Lines.{what_of, line_for, lines_of, IsCausedEnd, lines_faults, end_faults, report_faults}
use Rattle.sync_run.specs.Ends.{end_of_reading, end_of_load, end_of_stop, end_of_plan}

-- ---- lines

line_faults : (side : Side) (p : Planned) (o : Outcome) (rest : List Line) → lines_faults side (cons_option (option_map (line_for p) (what_of o)) rest) ≡ faults_in side o + lines_faults side rest
line_faults side p outcome.Kept rest = omega arith
line_faults side p outcome.Gone rest = omega arith
line_faults side p (outcome.Written row) rest = omega arith
line_faults side p outcome.Left rest = omega arith
line_faults side p outcome.Conflict rest = refl
line_faults side p (outcome.NotWritten at error) rest = refl
line_faults side p (outcome.NotRemoved at error) rest = refl
line_faults side p outcome.Skipped rest = refl

which_faults : (side : Side) (st : Step) (f g : Outcome) → faults_in side (outcome_of st f g) ≤ faults_in side f + faults_in side g
which_faults side (step.RemoveFrom from) f g = omega arith
which_faults side (step.CopyTo to) f g = omega arith
which_faults side (step.WriteOver to) f g = omega arith
which_faults side step.Forget f g = omega arith
which_faults side step.Keep f g = omega arith
which_faults side step.HandOver f g = omega arith
which_faults side step.Conflict f g = omega arith
which_faults side (step.Held to) f g = omega arith

of_lines : (side : Side) (ps : List Planned) (fs gs : List Outcome) → lines_faults side (lines_of ps fs gs) ≤ faults_of side fs + faults_of side gs
of_lines side [] fs gs = omega arith
of_lines side (p ∷ ps) [] gs = omega arith
of_lines side (p ∷ ps) (f ∷ fs) [] = omega arith
of_lines side (p ∷ ps) (f ∷ fs) (g ∷ gs) =
    let rest = of_lines side ps fs gs in
    let one = which_faults side p.step f g in
    let all = line_faults side p (outcome_of p.step f g) (lines_of ps fs gs) in
    omega (arith, rest, one, all)

-- what the lines of a report tell, by all outcomes
told_faults : (side : Side) (lines : List Line) (ps : List Planned) (os : Outcomes) → (lines ≡ []) ⊎ (lines ≡ lines_of ps os.put.items os.removed.items) → lines_faults side lines ≤ faults_of side os.put.items + faults_of side os.removed.items
told_faults side lines ps os (inl none) = subst (λ (l : List Line). lines_faults side l ≤ faults_of side os.put.items + faults_of side os.removed.items) (sym none) (omega arith)
told_faults side lines ps os (inr all) = subst (λ (l : List Line). lines_faults side l ≤ faults_of side os.put.items + faults_of side os.removed.items) (sym all) (of_lines side ps os.put.items os.removed.items)

-- ---- ends

module _ (a0 a1 b0 b1 : ℕ) (le_a : a0 ≤ a1) (le_b : b0 ≤ b1) (k : Type 0) where
  nothing : (side : Side) → RoseBy (count_on side a0 b0) 0 (count_on side a1 b1)
  nothing A = rose_none a0 a1 le_a
  nothing B = rose_none b0 b1 le_b

  pub end_fault : (side : Side) (end : JobEnd) → IsCausedEnd (Rose a0 a1) (Rose b0 b1) k end → RoseBy (count_on side a0 b0) (end_faults side end) (count_on side a1 b1)
  end_fault side Synced cause = nothing side
  end_fault side NoMemory cause = nothing side
  end_fault side (NotCommitted error) cause = nothing side
  end_fault side (NotFlushed at error) cause = side_fault a0 a1 b0 b1 le_a le_b side at error cause
  end_fault side (Refused (Storage at error)) cause = side_fault a0 a1 b0 b1 le_a le_b side at error cause
  end_fault side (Refused (Status error)) cause = nothing side
  end_fault side (Refused SameLocation) cause = nothing side
  end_fault side (Refused (StorageEmpty at)) cause = nothing side
  end_fault side (Refused (SameIdent at ident first second)) cause = nothing side

  abbrev pub count_rose : Side → Type 0
  count_rose A = Rose a0 a1
  count_rose B = Rose b0 b1

  -- an error that is no fault
  other : (side at : Side) (error : StoreError) → fault_in error ≡ 0 → RoseBy (count_on side a0 b0) (fault_at side at error) (count_on side a1 b1)
  other A A error none = subst (λ (n : ℕ). RoseBy a0 n a1) (sym none) (nothing A)
  other B B error none = subst (λ (n : ℕ). RoseBy b0 n b1) (sym none) (nothing B)
  other A B error none = nothing A
  other B A error none = nothing B

  reading_fault : (side at : Side) (error : StoreError) → StoreCause (count_rose at) error → RoseBy (count_on side a0 b0) (end_faults side (end_of_reading at error)) (count_on side a1 b1)
  reading_fault A A store.Fault cause = cause
  reading_fault B B store.Fault cause = cause
  reading_fault A B store.Fault cause = nothing A
  reading_fault B A store.Fault cause = nothing B
  reading_fault side at store.NoMemory cause = nothing side
  reading_fault side at store.Moved cause = other side at store.Moved refl
  reading_fault side at store.TooLong cause = other side at store.TooLong refl
  reading_fault side at store.TooMany cause = other side at store.TooMany refl
  reading_fault side at store.NotThere cause = other side at store.NotThere refl
  reading_fault side at (store.Vanished href) cause = other side at (store.Vanished href) refl
  reading_fault side at (store.BadItem href error) cause = other side at (store.BadItem href error) refl

  load_fault : (side : Side) (error : KeeperError) → RoseBy (count_on side a0 b0) (end_faults side (end_of_load error)) (count_on side a1 b1)
  load_fault side keeper.Fault = nothing side
  load_fault side keeper.Moved = nothing side
  load_fault side (keeper.Damaged n) = nothing side
  load_fault side keeper.TooLong = nothing side
  load_fault side keeper.NoMemory = nothing side

  pub stop_fault : (Loads : KeeperError → Type 0) (side : Side) (why : Stop) → IsCausedStop (StoreCause (Rose a0 a1)) (StoreCause (Rose b0 b1)) Loads why → RoseBy (count_on side a0 b0) (end_faults side (end_of_stop why)) (count_on side a1 b1)
  stop_fault Loads side (stop.Unloaded error) cause = load_fault side error
  stop_fault Loads side (stop.Unlisted A error) cause = reading_fault side A error cause
  stop_fault Loads side (stop.Unlisted B error) cause = reading_fault side B error cause
  stop_fault Loads side (stop.Emptied at) cause = nothing side
  stop_fault Loads side (stop.Unfetched A error) cause = reading_fault side A error cause
  stop_fault Loads side (stop.Unfetched B error) cause = reading_fault side B error cause
  stop_fault Loads side stop.NoMemory cause = nothing side

  pub plan_fault : (side : Side) (error : PlanError) → RoseBy (count_on side a0 b0) (end_faults side (end_of_plan error)) (count_on side a1 b1)
  plan_fault side (plan_error.SameIdent at ident first second) = nothing side
  plan_fault side plan_error.NoMemory = nothing side

-- ---- reports

-- a report without lines
pub bare_faults : (side : Side) (c0 c1 : ℕ) (report : Report) (end : JobEnd) → report.lines.items ≡ [] → report.end ≡ end → RoseBy c0 (end_faults side end) c1 → RoseBy c0 (report_faults side report) c1
bare_faults side c0 c1 report end none is rose =
    let lines : lines_faults side report.lines.items ≡ 0 = ap (lines_faults side) none in
    let ends : end_faults side report.end ≡ end_faults side end = ap (end_faults side) is in
    rose_less c0 c1 (report_faults side report) (end_faults side end) (omega (arith, lines, ends)) rose

pub wrote_faults : (side : Side) (c0 c1 c2 : ℕ) (report : Report) (ps : List Planned) (os : Outcomes) → (report.lines.items ≡ []) ⊎ (report.lines.items ≡ lines_of ps os.put.items os.removed.items) → RoseBy c0 (faults_of side os.put.items + faults_of side os.removed.items) c1 → RoseBy c1 (end_faults side report.end) c2 → RoseBy c0 (report_faults side report) c2
wrote_faults side c0 c1 c2 report ps os lines wrote ended = rose_more c0 c1 c2 (lines_faults side report.lines.items) (end_faults side report.end) (rose_less c0 c1 (lines_faults side report.lines.items) (faults_of side os.put.items + faults_of side os.removed.items) (told_faults side report.lines.items ps os lines) wrote) ended

pub later_faults : (c0 c1 c2 n : ℕ) → c0 ≤ c1 → RoseBy c1 n c2 → RoseBy c0 n c2
later_faults c0 c1 c2 n le rose = omega (arith, le, rose)
