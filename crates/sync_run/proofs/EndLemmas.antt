-- What flushes and the commit leave, and the report of it.
use Rattle.std.proofs.Common.{◌≡◌, ◌⊎◌, inl, inr, ℕ, ◌≤◌, Bool, true, false, List, [], ◌∷◌, ◌++◌, length, append-nil, Option, option_map, refl, sym, ap, ◌∙◌, subst, arith}
use Rattle.std.proofs.lemmas.Bool.{false≢true}
use Rattle.std.specs.List.{AllByRecursion, cons_option}
use Rattle.outside.specs.Causes.{Rose}
use Rattle.store_model.specs.declared.store.StoreError.{StoreError}
use Rattle.store_model.specs.declared.store.StoreError.TheVariants as store
use Rattle.store_model.specs.Waits.{ActsOrWaits}
use Rattle.status_keeper.specs.declared.row.Row.{Row}
use Rattle.status_keeper.specs.Kept.{KeeperEvent, Edited, Toggled, Made, Committed, Spoiled, IsCommitOf, IsEdit, IsMaking}
use Rattle.status_keeper.specs.KeeperCalls.{found_at}
use Rattle.sync_plan.specs.declared.report.Side.{Side}
use Rattle.sync_plan.specs.declared.report.Side.TheVariants.{A, B}
use Rattle.sync_plan.specs.declared.rules.Rules.{Rules}
use Rattle.sync_plan.specs.declared.dues.Step.{Step}
use Rattle.sync_plan.specs.declared.dues.Step.TheVariants as step
use Rattle.sync_plan.specs.declared.seen.Planned.{Planned}
use Rattle.sync_plan.specs.Plans.{IsPlan}
use Rattle.job_writes.specs.declared.outcome.Outcome.{Outcome}
use Rattle.job_writes.specs.declared.outcome.Outcome.TheVariants as outcome
use Rattle.job_writes.specs.declared.phases.Outcomes.{Outcomes}
use Rattle.job_writes.specs.Knowns.{AllMoveByEdit}
use Rattle.job_writes.specs.Writings.{SideNow, now_of, Sources, sources, WritesDid, IsWhole, IsCausedOutcome, IsToldError, AtSide}
use Rattle.job_writes.proofs.OrderLemmas.{did_tried}
use Rattle.job_rows.specs.RowsAfter.{outcome_of, rows_after, IsUnchanged}
use Rattle.sync_plan.specs.declared.report.What.{What}
use Rattle.sync_plan.specs.declared.report.What.TheVariants.{Conflict, NotWritten, NotRemoved, Skipped}
use Rattle.sync_plan.specs.declared.report.Line.{Line}
use Rattle.sync_plan.specs.declared.report.JobEnd.{JobEnd}
use Rattle.sync_plan.specs.declared.report.JobEnd.TheVariants.{Synced, Refused, NotFlushed, NotCommitted, NoMemory}
use Rattle.sync_plan.specs.declared.report.Report.{Report}
use Rattle.sync_run.specs.Lines.{what_of, line_for, lines_of, LinesAt, IsCausedWhat, IsCausedLine}
use Rattle.sync_run.specs.Ends.{IsKeeping, Closing, closing, BreaksAt, EndsBy, Closes, ClosesAs, Going, Finishes, BreaksOff, GoesOn}

pub commit_is_keeping : (rows : List Row) (e : KeeperEvent) → IsCommitOf rows e → IsKeeping e
commit_is_keeping rows (Edited kept stamp) h = tt
commit_is_keeping rows Toggled h = tt
commit_is_keeping rows Made h = tt
commit_is_keeping rows (Committed committed) h = tt
commit_is_keeping rows (Spoiled kept stamp) h = h

pub making_is_keeping : (e : KeeperEvent) → IsMaking e → IsKeeping e
making_is_keeping (Edited kept stamp) h = tt
making_is_keeping Toggled h = tt
making_is_keeping Made h = tt
making_is_keeping (Committed rows) h = tt
making_is_keeping (Spoiled kept stamp) h = h

pub edit_is_keeping : (e : KeeperEvent) → IsEdit e → IsKeeping e
edit_is_keeping (Edited kept stamp) h = tt
edit_is_keeping Toggled h = tt
edit_is_keeping Made h = tt
edit_is_keeping (Committed committed) h = tt
edit_is_keeping (Spoiled kept stamp) h = h

-- a choice as a flag
pub flag_of : (E K : Type 0) → E ⊎ K → (b : Bool) × (E ⊎ (b ≡ true)) × (b ≡ true → K)
flag_of E K (inl edited) = (false, inl edited, λ h. absurd (false≢true h))
flag_of E K (inr known) = (true, inr refl, λ h. known)

-- ---- lines

pub empty_by : {X : Type 0} (xs : List X) (n : ℕ) → n ≡ length xs → n ≡ 0 → xs ≡ []
empty_by [] n is none = refl
empty_by (x ∷ xs) n is none = let clash : length (x ∷ xs) ≡ 0 = sym is ∙ none in absurd (omega (arith, clash))

no_firsts : (ps : List Planned) (gs : List Outcome) → lines_of ps [] gs ≡ []
no_firsts [] gs = refl
no_firsts (p ∷ ps) gs = refl

no_seconds : (ps : List Planned) (fs : List Outcome) → lines_of ps fs [] ≡ []
no_seconds [] fs = refl
no_seconds (p ∷ ps) [] = refl
no_seconds (p ∷ ps) (f ∷ fs) = refl

pub firsts_end : (done whole : List Line) (ps : List Planned) (fs gs : List Outcome) → fs ≡ [] → done ++ lines_of ps fs gs ≡ whole → done ≡ whole
firsts_end done whole ps fs gs none h = sym (append-nil done) ∙ (ap (λ (l : List Line). done ++ l) (sym (ap (λ (xs : List Outcome). lines_of ps xs gs) none ∙ no_firsts ps gs)) ∙ h)

pub seconds_end : (done whole : List Line) (ps : List Planned) (fs gs : List Outcome) → gs ≡ [] → done ++ lines_of ps fs gs ≡ whole → done ≡ whole
seconds_end done whole ps fs gs none h = sym (append-nil done) ∙ (ap (λ (l : List Line). done ++ l) (sym (ap (λ (xs : List Outcome). lines_of ps fs xs) none ∙ no_seconds ps fs)) ∙ h)

line_caused : (a b : Type 0) (p : Planned) (o : Outcome) (rest : List Line) → IsCausedOutcome a b o → AllByRecursion (IsCausedLine a b) rest → AllByRecursion (IsCausedLine a b) (cons_option (option_map (line_for p) (what_of o)) rest)
line_caused a b p outcome.Kept rest cause all = all
line_caused a b p outcome.Gone rest cause all = all
line_caused a b p (outcome.Written row) rest cause all = all
line_caused a b p outcome.Left rest cause all = all
line_caused a b p outcome.Conflict rest cause all = (tt, all)
line_caused a b p (outcome.NotWritten side error) rest cause all = (cause, all)
line_caused a b p (outcome.NotRemoved side error) rest cause all = (cause, all)
line_caused a b p outcome.Skipped rest cause all = (tt, all)

which_caused : (a b : Type 0) (st : Step) (f g : Outcome) → IsCausedOutcome a b f → IsCausedOutcome a b g → IsCausedOutcome a b (outcome_of st f g)
which_caused a b (step.RemoveFrom from) f g first second = second
which_caused a b (step.CopyTo to) f g first second = first
which_caused a b (step.WriteOver to) f g first second = first
which_caused a b step.Forget f g first second = first
which_caused a b step.Keep f g first second = first
which_caused a b step.HandOver f g first second = first
which_caused a b step.Conflict f g first second = first
which_caused a b (step.Held to) f g first second = first

pub lines_caused : (a b : Type 0) (ps : List Planned) (fs gs : List Outcome) → AllByRecursion (IsCausedOutcome a b) fs → AllByRecursion (IsCausedOutcome a b) gs → AllByRecursion (IsCausedLine a b) (lines_of ps fs gs)
lines_caused a b [] fs gs first second = tt
lines_caused a b (p ∷ ps) [] gs first second = tt
lines_caused a b (p ∷ ps) (f ∷ fs) [] first second = tt
lines_caused a b (p ∷ ps) (f ∷ fs) (g ∷ gs) first second = line_caused a b p (outcome_of p.step f g) (lines_of ps fs gs) (which_caused a b p.step f g first.0 second.0) (lines_caused a b ps fs gs first.1 second.1)

-- the lines of a report, by the causes of all outcomes
pub told_caused : (a b : Type 0) (lines : List Line) (ps : List Planned) (os : Outcomes) → (lines ≡ []) ⊎ (lines ≡ lines_of ps os.put.items os.removed.items) → AllByRecursion (IsCausedOutcome a b) os.put.items → AllByRecursion (IsCausedOutcome a b) os.removed.items → AllByRecursion (IsCausedLine a b) lines
told_caused a b lines ps os (inl none) first second = subst (λ (l : List Line). AllByRecursion (IsCausedLine a b) l) (sym none) tt
told_caused a b lines ps os (inr all) first second = subst (λ (l : List Line). AllByRecursion (IsCausedLine a b) l) (sym all) (lines_caused a b ps os.put.items os.removed.items first second)

told_begins : (a0 a1 b0 b1 a2 b2 : ℕ) → a0 ≤ a1 → b0 ≤ b1 → (side : Side) (error : StoreError) → IsToldError (AtSide side (Rose a1 a2) (Rose b1 b2)) error → IsToldError (AtSide side (Rose a0 a2) (Rose b0 b2)) error
told_begins a0 a1 b0 b1 a2 b2 la lb A store.Fault h = omega (arith, la, h)
told_begins a0 a1 b0 b1 a2 b2 la lb B store.Fault h = omega (arith, lb, h)
told_begins a0 a1 b0 b1 a2 b2 la lb side store.Moved h = tt
told_begins a0 a1 b0 b1 a2 b2 la lb side store.TooLong h = tt
told_begins a0 a1 b0 b1 a2 b2 la lb side store.TooMany h = tt
told_begins a0 a1 b0 b1 a2 b2 la lb side store.NotThere h = tt
told_begins a0 a1 b0 b1 a2 b2 la lb side (store.Vanished href) h = tt
told_begins a0 a1 b0 b1 a2 b2 la lb side (store.BadItem href error) h = h
told_begins a0 a1 b0 b1 a2 b2 la lb side store.NoMemory h = h

pub lines_begin : (a0 a1 a2 b0 b1 b2 : ℕ) → a0 ≤ a1 → b0 ≤ b1 → (lines : List Line) → AllByRecursion (IsCausedLine (Rose a1 a2) (Rose b1 b2)) lines → AllByRecursion (IsCausedLine (Rose a0 a2) (Rose b0 b2)) lines
lines_begin a0 a1 a2 b0 b1 b2 la lb [] all = tt
lines_begin a0 a1 a2 b0 b1 b2 la lb (line ∷ lines) all = (one line.what all.0, lines_begin a0 a1 a2 b0 b1 b2 la lb lines all.1)
  where
    one : (what : What) → IsCausedWhat (Rose a1 a2) (Rose b1 b2) what → IsCausedWhat (Rose a0 a2) (Rose b0 b2) what
    one Conflict h = tt
    one (NotWritten side error) h = told_begins a0 a1 b0 b1 a2 b2 la lb side error h
    one (NotRemoved side error) h = told_begins a0 a1 b0 b1 a2 b2 la lb side error h
    one Skipped h = tt

-- ---- ends

-- where no row differs none is read
unread : (found : Option (List ℕ)) (y : Closing) (some other : List Row) (end : JobEnd) → EndsBy false found y some end → EndsBy false found y other end
unread found y some other Synced ends = ends
unread found y some other (NotFlushed side error) ends = ends
unread found y some other (NotCommitted error) ends = absurd (false≢true ((ends.2).0))
unread found y some other NoMemory ends = ends
unread found y some other (Refused refusal) ends = ends

-- the ends are of the rows that the run comes to
ends_of_rows : (found : Option (List ℕ)) (y : Closing) (changed : Bool) (made rows : List Row) (end : JobEnd) → (changed ≡ true → made ≡ rows) → EndsBy changed found y made end → EndsBy changed found y rows end
ends_of_rows found y true made rows end is ends = subst (λ (l : List Row). EndsBy true found y l end) (is refl) ends
ends_of_rows found y false made rows end is ends = unread found y made rows end ends

pub closes_as : (x : Sources) (rows : List Row) (plan : List Planned) (os : Outcomes) (found : Option (List ℕ)) (y : Closing) (report : Report) (changed : Bool) (made : List Row) (lines : List Line) (end : JobEnd) → (changed ≡ true → made ≡ rows_after x rows plan os.put.items os.removed.items) → (changed ≡ false → IsUnchanged x rows plan os.put.items os.removed.items) → (changed ≡ true → IsUnchanged x rows plan os.put.items os.removed.items → ⊥) → lines ≡ lines_of plan os.put.items os.removed.items → LinesAt end report.lines.items lines → EndsBy changed found y made end → ClosesAs x rows plan os found y report end
closes_as x rows plan os found y report changed made lines end is same differs all at ends = by end at (ends_of_rows found y changed made (rows_after x rows plan os.put.items os.removed.items) end is ends)
  where
    by : (end : JobEnd) → LinesAt end report.lines.items lines → EndsBy changed found y (rows_after x rows plan os.put.items os.removed.items) end → ClosesAs x rows plan os found y report end
    by Synced at ends = record { changed = changed; same = same; differs = differs; lines = at ∙ all; ends = ends }
    by (NotFlushed side error) at ends = record { changed = changed; same = same; differs = differs; lines = at ∙ all; ends = ends }
    by (NotCommitted error) at ends = record { changed = changed; same = same; differs = differs; lines = at ∙ all; ends = ends }
    by NoMemory at ends = (ends, at)
    by (Refused refusal) at ends = ends

module _ (rules : Rules) (waits_a waits_b : Bool) (y : Going) (report : Report) (plan : List Planned) (is_plan : IsPlan y.r.a.seen.items y.r.b.seen.items y.r.rows.items rules plan) (os : Outcomes) (end_a end_b : SideNow) (did_a : WritesDid waits_a A (sources y.r.a y.r.b) plan (now_of y.a []) end_a os) (did_b : WritesDid waits_b B (sources y.r.a y.r.b) plan (now_of y.b []) end_b os) (acts_a : ActsOrWaits waits_a y.a end_a.state) (acts_b : ActsOrWaits waits_b y.b end_b.state) (whole : IsWhole (sources y.r.a y.r.b) plan os) (copies_a : y.known_a ≡ true → AllMoveByEdit A y.a end_a.state plan os.put.items) (copies_b : y.known_b ≡ true → AllMoveByEdit B y.b end_b.state plan os.put.items) where
  finishes : (end : JobEnd) → Closes (sources y.r.a y.r.b) y.r.rows.items plan os (found_at y.k.stamp) (closing end_a y.exit_a end_b y.exit_b y.k y.exit_k) report end → Finishes rules waits_a waits_b y report end
  finishes end closes = record { plan = plan; is_plan = is_plan; os = os; end_a = end_a; end_b = end_b; did_a = did_a; did_b = did_b; acts_a = acts_a; acts_b = acts_b; whole = whole; copies_a = copies_a; copies_b = copies_b; closes = closes }

  breaks : BreaksAt (closing end_a y.exit_a end_b y.exit_b y.k y.exit_k) → BreaksOff rules waits_a waits_b y
  breaks at = record {
    plan = plan;
    is_plan = is_plan;
    wrote_a = record { end = end_a; tried = did_tried waits_a A (sources y.r.a y.r.b) plan (now_of y.a []) end_a os did_a; acts = acts_a; flush = at.flush_a };
    wrote_b = record { end = end_b; tried = did_tried waits_b B (sources y.r.a y.r.b) plan (now_of y.b []) end_b os did_b; acts = acts_b; flush = at.flush_b };
    kept = at.kept;
  }

  pub goes_on_as : (end : JobEnd) → ClosesAs (sources y.r.a y.r.b) y.r.rows.items plan os (found_at y.k.stamp) (closing end_a y.exit_a end_b y.exit_b y.k y.exit_k) report end → GoesOn rules waits_a waits_b y report end
  goes_on_as Synced closes = finishes Synced closes
  goes_on_as (NotFlushed side error) closes = finishes (NotFlushed side error) closes
  goes_on_as (NotCommitted error) closes = finishes (NotCommitted error) closes
  goes_on_as NoMemory closes = (inr (breaks closes.0), closes.1)
  goes_on_as (Refused refusal) closes = absurd closes
