-- A run that nothing disturbs tells conflicts alone.
use Rattle.std.proofs.Common.{◌≡◌, ◌⊎◌, inl, inr, ℕ, Bool, true, false, ◌||◌, List, [], ◌∷◌, length, Option, Some, None, Ok, option_map, refl, sym, ap, ◌∙◌, subst, arith}
use Rattle.std.proofs.lemmas.Bool.{false≢true}
use Rattle.std.proofs.lemmas.List.Elements.{recursion_from_All}
use Rattle.std.specs.List.{AllByRecursion, cons_option}
use Rattle.store_model.specs.declared.store.StoreError.{StoreError}
use Rattle.store_model.specs.declared.store.StoreError.TheVariants as store
use Rattle.store_model.specs.declared.event.StoreEvent.TheVariants.{Wrote}
use Rattle.store_model.specs.Sides.{SideState, happens, Since, WasEdited}
use Rattle.store_model.specs.Waits.{Change, ActAll, new_at, over_at, gone_at}
use Rattle.store_model.proofs.Moments.{Evolves-refl, Evolves-trans, Evolves-one, Since-from_evolves}
use Rattle.store_model.proofs.Known.{edited_extends}
use Rattle.status_keeper.specs.Kept.{KeeperState}
use Rattle.sync_plan.specs.declared.report.Side.{Side}
use Rattle.sync_plan.specs.declared.report.Side.TheVariants.{A, B}
use Rattle.sync_plan.specs.declared.rules.Rules.{Rules}
use Rattle.sync_plan.specs.declared.dues.Step.{Step}
use Rattle.sync_plan.specs.declared.dues.Step.TheVariants as step
use Rattle.sync_plan.specs.declared.seen.Planned.{Planned}
use Rattle.sync_plan.specs.Plans.{IsPlannedFor}
use Rattle.job_reads.specs.declared.reading.ReadJob.{ReadJob}
use Rattle.job_reads.specs.Readings.{Span, span, IsRead, course_of_a, course_of_b}
use Rattle.job_writes.specs.declared.outcome.Outcome.{Outcome}
use Rattle.job_writes.specs.declared.outcome.Outcome.TheVariants as outcome
use Rattle.job_writes.specs.Knowns.{IsMovedError, IsCopyMoved, CopiesMoveByEdit}
use Rattle.job_writes.specs.Writings.{SideNow, now_of, Sources, sources, AtSide, IsToldError, IsUnsent, IsEarly, NewFails, IsPut, IsRemoval, RemovalAnswer, RemovalDid, PutBy, PutDid, RemovalBy, RemovalDone, InOrder, AllFit, FitsPut, FitsRemoval, held_on, place_on, is_failure, failed_after}
use Rattle.job_rows.specs.RowsAfter.{outcome_of, IsStepAt}
use Rattle.job_rows.proofs.RowLemmas.{fit_length}
use Rattle.job_writes.proofs.OrderLemmas.{did_tried}
use Rattle.job_traces.specs.Traces.{HasMoved, IsFlushed, Ran}
use Rattle.job_traces.proofs.JobLemmas.{course_a, course_b}
use Rattle.job_traces.proofs.MadeLemmas.{IsAt}
use Rattle.job_traces.proofs.RowsMade.{first_at, second_at, fits_at}
use Rattle.job_traces.proofs.PlaceLemmas.{moved_by_edit}
use Rattle.sync_plan.specs.declared.report.What.{What}
use Rattle.sync_plan.specs.declared.report.What.TheVariants.{Conflict, NotWritten, NotRemoved}
use Rattle.sync_plan.specs.declared.report.Line.{Line}
use Rattle.sync_plan.specs.declared.report.JobEnd.{JobEnd}
use Rattle.sync_plan.specs.declared.report.Report.{Report}
use Rattle.sync_run.specs.Lines.{what_of, line_for, lines_of, IsCausedWhat, IsCausedLine}
use Rattle.sync_run.specs.Ends.{going, Finishes}
use Rattle.sync_run.specs.Quiet.{IsQuiet, AreConflicts}

-- ---- steps and their outcomes, place by place

fit_map : (F G : Bool → Planned → Outcome → Type 0) → ((ψ : Bool) (p : Planned) (o : Outcome) → F ψ p o → G ψ p o) → (φ : Bool) (ps : List Planned) (os : List Outcome) → AllFit F φ ps os → AllFit G φ ps os
fit_map F G f φ [] [] all = all
fit_map F G f φ (p ∷ ps) (o ∷ os) all = (f φ p o all.0, fit_map F G f (φ || is_failure o) ps os all.1)
fit_map F G f φ [] (o ∷ os) all = absurd all
fit_map F G f φ (p ∷ ps) [] all = absurd all

fit_both : (F G : Bool → Planned → Outcome → Type 0) (φ : Bool) (ps : List Planned) (os : List Outcome) → AllFit F φ ps os → AllFit G φ ps os → AllFit (λ ψ p o. F ψ p o × G ψ p o) φ ps os
fit_both F G φ [] [] one two = one
fit_both F G φ (p ∷ ps) (o ∷ os) one two = ((one.0, two.0), fit_both F G (φ || is_failure o) ps os one.1 two.1)
fit_both F G φ [] (o ∷ os) one two = absurd one
fit_both F G φ (p ∷ ps) [] one two = absurd one

-- with its place
fit_here : (F : Bool → Planned → Outcome → Type 0) (φ : Bool) (ps : List Planned) (os : List Outcome) → AllFit F φ ps os → AllFit (λ ψ p o. F ψ p o × IsAt p o ps os) φ ps os
fit_here F φ ps os all = from ps os (λ p o at. at) φ ps os (λ p o at. at) all
  where
    from : (ps0 : List Planned) (os0 : List Outcome) → ((p : Planned) (o : Outcome) → IsAt p o ps0 os0 → IsAt p o ps os) → (φ : Bool) (qs : List Planned) (xs : List Outcome) → ((p : Planned) (o : Outcome) → IsAt p o qs xs → IsAt p o ps os) → AllFit F φ qs xs → AllFit (λ ψ p o. F ψ p o × IsAt p o ps os) φ qs xs
    from ps0 os0 same φ [] [] emb all = all
    from ps0 os0 same φ (q ∷ qs) (y ∷ xs) emb all = ((all.0, emb q y (inl (refl, refl))), from ps0 os0 same (φ || is_failure y) qs xs (λ p o at. emb p o (inr at)) all.1)
    from ps0 os0 same φ [] (y ∷ xs) emb all = absurd all
    from ps0 os0 same φ (q ∷ qs) [] emb all = absurd all

order_fit : (Did : Bool → Planned → SideNow → SideNow → Outcome → Type 0) (φ : Bool) (ps : List Planned) (os : List Outcome) (s t : SideNow) → InOrder Did φ ps os s t → AllFit (λ ψ p o. (m : SideNow) × (n : SideNow) × Did ψ p m n o) φ ps os
order_fit Did φ [] [] s t done = tt
order_fit Did φ (p ∷ ps) (o ∷ os) s t (m, did, rest) = ((s, m, did), order_fit Did (φ || is_failure o) ps os m t rest)
order_fit Did φ [] (o ∷ os) s t done = absurd done
order_fit Did φ (p ∷ ps) [] s t done = absurd done

-- where none fails as long as none has failed, none fails
fine_all : (φ : Bool) (ps : List Planned) (os : List Outcome) → φ ≡ false → AllFit (λ ψ p o. ψ ≡ false → is_failure o ≡ false) φ ps os → AllFit (λ ψ p o. (ψ ≡ false) × (is_failure o ≡ false)) φ ps os × (failed_after φ os ≡ false)
fine_all φ [] [] none all = (tt, none)
fine_all φ (p ∷ ps) (o ∷ os) none all =
    let one : is_failure o ≡ false = all.0 none in
    let next : (φ || is_failure o) ≡ false = λ j. none j || one j in
    let rest = fine_all (φ || is_failure o) ps os next all.1 in
    (((none, one), rest.0), rest.1)
fine_all φ [] (o ∷ os) none all = absurd all
fine_all φ (p ∷ ps) [] none all = absurd all

at_second : (p : Planned) (f : Outcome) (ps : List Planned) (fs gs : List Outcome) → length gs ≡ length ps → IsAt p f ps fs → (g : Outcome) × IsStepAt p f g ps fs gs
at_second p f [] fs gs same at = absurd at
at_second p f (q ∷ ps) [] gs same at = absurd at
at_second p f (q ∷ ps) (y ∷ fs) [] same at = absurd (omega (arith, same))
at_second p f (q ∷ ps) (y ∷ fs) (z ∷ gs) same (inl (here, is)) = (z, inl (here, is, refl))
at_second p f (q ∷ ps) (y ∷ fs) (z ∷ gs) same (inr at) = let rest = at_second p f ps fs gs (omega (arith, same)) at in (rest.0, inr rest.1)

at_first : (p : Planned) (g : Outcome) (ps : List Planned) (fs gs : List Outcome) → length fs ≡ length ps → IsAt p g ps gs → (f : Outcome) × IsStepAt p f g ps fs gs
at_first p g [] fs gs same at = absurd at
at_first p g (q ∷ ps) fs [] same at = absurd at
at_first p g (q ∷ ps) [] (z ∷ gs) same at = absurd (omega (arith, same))
at_first p g (q ∷ ps) (y ∷ fs) (z ∷ gs) same (inl (here, is)) = (y, inl (here, refl, is))
at_first p g (q ∷ ps) (y ∷ fs) (z ∷ gs) same (inr at) = let rest = at_first p g ps fs gs (omega (arith, same)) at in (rest.0, inr rest.1)

-- ---- what a line tells

told_here : (p q : Planned) (f g y z : Outcome) (what : What) → p ≡ q → f ≡ y → g ≡ z → what_of (outcome_of p.step f g) ≡ Some what → what_of (outcome_of q.step y z) ≡ Some what
told_here p q f g y z what same is_f is_g is = subst (λ (r : Planned). what_of (outcome_of r.step y z) ≡ Some what) same (subst (λ (o : Outcome). what_of (outcome_of p.step o z) ≡ Some what) is_f (subst (λ (o : Outcome). what_of (outcome_of p.step f o) ≡ Some what) is_g is))

-- a property of all lines, at a step that has one
module _ (P : Line → Type 0) where
  cons_head : (q : Planned) (o : Option What) (what : What) (rest : List Line) → o ≡ Some what → AllByRecursion P (cons_option (option_map (line_for q) o) rest) → P (line_for q what)
  cons_head q None what rest is all = absurd (let clash : None ≡ Some what = is in cc)
  cons_head q (Some told) what rest is all = let one : told ≡ what = cc in subst (λ (w : What). P (line_for q w)) one all.0

  cons_tail : (line : Option Line) (rest : List Line) → AllByRecursion P (cons_option line rest) → AllByRecursion P rest
  cons_tail None rest all = all
  cons_tail (Some line) rest all = all.1

  line_at : (p : Planned) (f g : Outcome) (what : What) (ps : List Planned) (fs gs : List Outcome) → AllByRecursion P (lines_of ps fs gs) → IsStepAt p f g ps fs gs → what_of (outcome_of p.step f g) ≡ Some what → (q : Planned) × P (line_for q what)
  line_at p f g what [] fs gs all at is = absurd at
  line_at p f g what (q ∷ ps) [] gs all at is = absurd at
  line_at p f g what (q ∷ ps) (y ∷ fs) [] all at is = absurd at
  line_at p f g what (q ∷ ps) (y ∷ fs) (z ∷ gs) all (inl (same, is_f, is_g)) is = (q, cons_head q (what_of (outcome_of q.step y z)) what (lines_of ps fs gs) (told_here p q f g y z what same is_f is_g is) all)
  line_at p f g what (q ∷ ps) (y ∷ fs) (z ∷ gs) all (inr at) is = line_at p f g what ps fs gs (cons_tail (option_map (line_for q) (what_of (outcome_of q.step y z))) (lines_of ps fs gs) all) at is

-- all lines are conflicts where each step's are
all_conflicts : (ps : List Planned) (fs gs : List Outcome) → ((p : Planned) (f g : Outcome) (what : What) → IsStepAt p f g ps fs gs → what_of (outcome_of p.step f g) ≡ Some what → what ≡ Conflict) → AreConflicts (lines_of ps fs gs)
all_conflicts [] fs gs each = tt
all_conflicts (p ∷ ps) [] gs each = tt
all_conflicts (p ∷ ps) (f ∷ fs) [] each = tt
all_conflicts (p ∷ ps) (f ∷ fs) (g ∷ gs) each = add (what_of (outcome_of p.step f g)) refl (all_conflicts ps fs gs (λ q y z what at is. each q y z what (inr at) is))
  where
    add : (o : Option What) → what_of (outcome_of p.step f g) ≡ o → AreConflicts (lines_of ps fs gs) → AreConflicts (cons_option (option_map (line_for p) o) (lines_of ps fs gs))
    add None is rest = rest
    add (Some what) is rest = (each p f g what (inl (refl, refl, refl)) is, rest)

-- ---- an error that nothing caused

error_absurd : (error : StoreError) → (error ≡ store.Fault → ⊥) → (error ≡ store.NoMemory → ⊥) → (IsMovedError error → ⊥) → IsEarly error ⊎ ((ch : Change) × (s : SideNow) × (t : SideNow) × IsUnsent ch error s t) → ⊥
error_absurd store.Fault fault memory moved cause = fault refl
error_absurd store.NoMemory fault memory moved cause = memory refl
error_absurd store.Moved fault memory moved cause = moved tt
error_absurd store.TooLong fault memory moved (inl early) = early
error_absurd store.TooLong fault memory moved (inr (ch, s, t, unsent)) = unsent
error_absurd store.TooMany fault memory moved (inl early) = early
error_absurd store.TooMany fault memory moved (inr (ch, s, t, unsent)) = unsent
error_absurd store.NotThere fault memory moved (inl early) = early
error_absurd store.NotThere fault memory moved (inr (ch, s, t, unsent)) = unsent
error_absurd (store.Vanished href) fault memory moved (inl early) = early
error_absurd (store.Vanished href) fault memory moved (inr (ch, s, t, unsent)) = unsent
error_absurd (store.BadItem href error) fault memory moved (inl early) = early
error_absurd (store.BadItem href error) fault memory moved (inr (ch, s, t, unsent)) = unsent

not_fault : (at : Side) (error : StoreError) → IsToldError (AtSide at ⊥ ⊥) error → error ≡ store.Fault → ⊥
not_fault A error told is = subst (λ (e : StoreError). IsToldError ⊥ e) is told
not_fault B error told is = subst (λ (e : StoreError). IsToldError ⊥ e) is told

not_memory : (at : Side) (error : StoreError) → IsToldError (AtSide at ⊥ ⊥) error → error ≡ store.NoMemory → ⊥
not_memory at error told is = subst (λ (e : StoreError). IsToldError (AtSide at ⊥ ⊥) e) is told

all_since : (w : List Change) (s t : SideState) → ActAll w s t → Since s t
all_since [] s t same = subst (λ (y : SideState). Since s y) (sym same) (Evolves-refl s)
all_since (ch ∷ w) s t (old, new, fit, is_true, rest) = Evolves-trans (Evolves-one s (Wrote ch.href old new ch.sent) tt is_true) (all_since w (happens s (Wrote ch.href old new ch.sent)) t rest)

flushed_since : (s : SideNow) (exit : SideState) → IsFlushed s exit → Since s.state exit
flushed_since s exit (inl outside) = Since-from_evolves outside
flushed_since s exit (inr flush) = Evolves-trans (Since-from_evolves flush.before) (Evolves-trans (all_since s.waiting flush.first flush.last flush.all) (Since-from_evolves flush.after))

-- ---- the run

module _ (force : Bool) (rules : Rules) (waits_a waits_b : Bool) (x : Span) (report : Report) (r : ReadJob) (k : KeeperState) (a b : SideState) (read : IsRead force (span x.k k x.a a x.b b) r) (known_a known_b : Bool) (knows_a : WasEdited x.a a ⊎ (known_a ≡ true)) (knows_b : WasEdited x.b b ⊎ (known_b ≡ true)) (end : JobEnd) (f : Finishes rules waits_a waits_b (going known_a known_b r k x.k_now a x.a_now b x.b_now) report end) (quiet : IsQuiet x report) (flush_a : IsFlushed f.end_a x.a_now) (flush_b : IsFlushed f.end_b x.b_now) where
  abbrev pub plan : List Planned
  plan = f.plan

  abbrev pub firsts : List Outcome
  firsts = (f.os).put.items

  abbrev pub seconds : List Outcome
  seconds = (f.os).removed.items

  abbrev pub src : Sources
  src = sources r.a r.b

  abbrev pub read_span : Span
  read_span = span x.k k x.a a x.b b

  planned : AllByRecursion (IsPlannedFor r.a.seen.items r.b.seen.items r.rows.items rules) plan
  planned = recursion_from_All (IsPlannedFor r.a.seen.items r.b.seen.items r.rows.items rules) plan (f.is_plan).each

  -- ---- no edit came

  wrote : Ran force rules read_span r (f.end_a).state (f.end_b).state r.rows.items
  wrote = record {
    read = read;
    plan = plan;
    is_plan = f.is_plan;
    waits_a = waits_a;
    waits_b = waits_b;
    wrote_a = record { end = f.end_a; tried = did_tried waits_a A src plan (now_of a []) f.end_a f.os f.did_a; acts = f.acts_a; flush = inl (Evolves-refl (f.end_a).state) };
    wrote_b = record { end = f.end_b; tried = did_tried waits_b B src plan (now_of b []) f.end_b f.os f.did_b; acts = f.acts_b; flush = inl (Evolves-refl (f.end_b).state) };
    rows = inl refl;
  }

  calm_a : WasEdited x.a (f.end_a).state → ⊥
  calm_a edited = quiet.calm_a (edited_extends (Evolves-refl x.a) edited (flushed_since f.end_a x.a_now flush_a))

  calm_b : WasEdited x.b (f.end_b).state → ⊥
  calm_b edited = quiet.calm_b (edited_extends (Evolves-refl x.b) edited (flushed_since f.end_b x.b_now flush_b))

  is_known_a : known_a ≡ true
  is_known_a = elim knows_a [
    | inl edited ↦ absurd (calm_a (edited_extends (Evolves-refl x.a) edited (course_a force rules read_span r (f.end_a).state (f.end_b).state r.rows.items wrote).later))
    | inr known ↦ known
  ]

  is_known_b : known_b ≡ true
  is_known_b = elim knows_b [
    | inl edited ↦ absurd (calm_b (edited_extends (Evolves-refl x.b) edited (course_b force rules read_span r (f.end_a).state (f.end_b).state r.rows.items wrote).later))
    | inr known ↦ known
  ]

  still_a : WasEdited a (f.end_a).state → ⊥
  still_a edited = calm_a (edited_extends (Evolves-trans (Since-from_evolves (read.reads_a).from) (Since-from_evolves (read.reads_a).until)) edited (Evolves-refl (f.end_a).state))

  still_b : WasEdited b (f.end_b).state → ⊥
  still_b edited = calm_b (edited_extends (Evolves-trans (Since-from_evolves (read.reads_b).from) (Since-from_evolves (read.reads_b).until)) edited (Evolves-refl (f.end_b).state))

  -- a change or removal of what was taken isn't answered `moved`
  moved_on : (side : Side) (p : Planned) (first second : Outcome) → IsStepAt p first second plan firsts seconds → HasMoved side p.step (outcome_of p.step first second) → ⊥
  moved_on A p first second at moved = calm_a (moved_by_edit (course_of_a read_span r (f.end_a).state) (course_of_b read_span r b) A src r.rows.items rules read.entries_a read.fetched_a read.reads_a read.taken_a waits_a p first second plan f.os f.end_a (f.is_plan).rising planned f.whole f.did_a at moved)
  moved_on B p first second at moved = calm_b (moved_by_edit (course_of_b read_span r (f.end_b).state) (course_of_a read_span r a) B src r.rows.items rules read.entries_b read.fetched_b read.reads_b read.taken_b waits_b p first second plan f.os f.end_b (f.is_plan).rising planned f.whole f.did_b at moved)

  -- ---- what the lines say

  told : AllByRecursion (IsCausedLine ⊥ ⊥) (lines_of plan firsts seconds)
  told = subst (λ (l : List Line). AllByRecursion (IsCausedLine ⊥ ⊥) l) (f.closes).lines quiet.told

  no_error : (side : Side) (p : Planned) (first second : Outcome) (error : StoreError) (what : What) → IsStepAt p first second plan firsts seconds → what_of (outcome_of p.step first second) ≡ Some what → IsCausedWhat ⊥ ⊥ what ≡ IsToldError (AtSide side ⊥ ⊥) error → (IsMovedError error → ⊥) → IsEarly error ⊎ ((ch : Change) × (s : SideNow) × (t : SideNow) × IsUnsent ch error s t) → ⊥
  no_error side p first second error what at is cause moved reason =
      let line = line_at (IsCausedLine ⊥ ⊥) p first second what plan firsts seconds told at is in
      let says : IsToldError (AtSide side ⊥ ⊥) error = subst (λ (X : Type 0). X) cause line.1 in
      error_absurd error (not_fault side error says) (not_memory side error says) moved reason

  -- ---- the steps but removals

  count_seconds : length seconds ≡ length plan
  count_seconds = fit_length (λ failed q. FitsRemoval failed q.step) (failed_after false firsts) plan seconds (f.whole).removed

  count_firsts : length firsts ≡ length plan
  count_firsts = fit_length (λ failed q. FitsPut q.step) false plan firsts (f.whole).put

  -- an error of a step that puts
  put_error : (p : Planned) (at : Side) (error : StoreError) (st : Step) → p.step ≡ st → IsAt p (outcome.NotWritten at error) plan firsts → ((g : Outcome) → outcome_of st (outcome.NotWritten at error) g ≡ outcome.NotWritten at error) → (IsMovedError error → ⊥) → IsEarly error ⊎ ((ch : Change) × (s : SideNow) × (t : SideNow) × IsUnsent ch error s t) → ⊥
  put_error p at error st is here same moved reason =
      let two = at_second p (outcome.NotWritten at error) plan firsts seconds count_seconds here in
      no_error at p (outcome.NotWritten at error) two.0 error (NotWritten at error) two.1 (ap what_of (ap (λ (q : Step). outcome_of q (outcome.NotWritten at error) two.0) is ∙ same two.0)) refl moved reason

  over_moved : (p : Planned) (side at : Side) (error : StoreError) → p.step ≡ step.WriteOver side → IsAt p (outcome.NotWritten at error) plan firsts → IsMovedError error → ⊥
  over_moved p side at error is here moved =
      let two = at_second p (outcome.NotWritten at error) plan firsts seconds count_seconds here in
      moved_on side p (outcome.NotWritten at error) two.0 two.1 (subst (λ (q : Step). HasMoved side q (outcome_of q (outcome.NotWritten at error) two.0)) (sym is) (refl, moved))

  new_reason : (text : List ℕ) (error : StoreError) (s t : SideNow) → NewFails text error s t → IsEarly error ⊎ ((ch : Change) × (s : SideNow) × (t : SideNow) × IsUnsent ch error s t)
  new_reason text error s t (inl early) = inl early.1
  new_reason text error s t (inr (href, unsent)) = inr (new_at href text, s, t, unsent)

  record PutFacts (ψ : Bool) (p : Planned) (o : Outcome) : Type 0 where
    pub fits : FitsPut p.step o
    pub copies_a : CopiesMoveByEdit A a (f.end_a).state ψ p o
    pub copies_b : CopiesMoveByEdit B b (f.end_b).state ψ p o
    pub did_a : (m : SideNow) × (n : SideNow) × PutDid waits_a A src p m n o
    pub did_b : (m : SideNow) × (n : SideNow) × PutDid waits_b B src p m n o
    pub here : IsAt p o plan firsts

  not_written : (ψ : Bool) (p : Planned) (at : Side) (error : StoreError) → PutFacts ψ p (outcome.NotWritten at error) → ψ ≡ false → (st : Step) → p.step ≡ st → ⊥
  not_written ψ p at error facts none (step.CopyTo A) is =
      let did = subst (λ (q : Step). PutBy q waits_a A src p (facts.did_a).0 (facts.did_a).1 (outcome.NotWritten at error)) is (facts.did_a).2 in
      put_error p at error (step.CopyTo A) is facts.here (λ g. refl) (λ moved. still_a (facts.copies_a none (subst (λ (q : Step). IsCopyMoved A q (outcome.NotWritten at error)) (sym is) (refl, moved)))) (new_reason did.item.text error (facts.did_a).0 (facts.did_a).1 did.answer.1)
  not_written ψ p at error facts none (step.CopyTo B) is =
      let did = subst (λ (q : Step). PutBy q waits_b B src p (facts.did_b).0 (facts.did_b).1 (outcome.NotWritten at error)) is (facts.did_b).2 in
      put_error p at error (step.CopyTo B) is facts.here (λ g. refl) (λ moved. still_b (facts.copies_b none (subst (λ (q : Step). IsCopyMoved B q (outcome.NotWritten at error)) (sym is) (refl, moved)))) (new_reason did.item.text error (facts.did_b).0 (facts.did_b).1 did.answer.1)
  not_written ψ p at error facts none (step.WriteOver A) is =
      let did = subst (λ (q : Step). PutBy q waits_a A src p (facts.did_a).0 (facts.did_a).1 (outcome.NotWritten at error)) is (facts.did_a).2 in
      put_error p at error (step.WriteOver A) is facts.here (λ g. refl) (over_moved p A at error is facts.here) (inr (over_at (did.over).href (did.over).etag did.item.text, (facts.did_a).0, (facts.did_a).1, did.answer.1))
  not_written ψ p at error facts none (step.WriteOver B) is =
      let did = subst (λ (q : Step). PutBy q waits_b B src p (facts.did_b).0 (facts.did_b).1 (outcome.NotWritten at error)) is (facts.did_b).2 in
      put_error p at error (step.WriteOver B) is facts.here (λ g. refl) (over_moved p B at error is facts.here) (inr (over_at (did.over).href (did.over).etag did.item.text, (facts.did_b).0, (facts.did_b).1, did.answer.1))
  not_written ψ p at error facts none (step.RemoveFrom from) is = let clash : outcome.NotWritten at error ≡ outcome.Left = subst (λ (q : Step). FitsPut q (outcome.NotWritten at error)) is facts.fits in cc
  not_written ψ p at error facts none step.Forget is = let clash : outcome.NotWritten at error ≡ outcome.Gone = subst (λ (q : Step). FitsPut q (outcome.NotWritten at error)) is facts.fits in cc
  not_written ψ p at error facts none step.Keep is = let clash : outcome.NotWritten at error ≡ outcome.Kept = subst (λ (q : Step). FitsPut q (outcome.NotWritten at error)) is facts.fits in cc
  not_written ψ p at error facts none step.HandOver is = let clash : outcome.NotWritten at error ≡ outcome.Left = subst (λ (q : Step). FitsPut q (outcome.NotWritten at error)) is facts.fits in cc
  not_written ψ p at error facts none step.Conflict is = let clash : outcome.NotWritten at error ≡ outcome.Conflict = subst (λ (q : Step). FitsPut q (outcome.NotWritten at error)) is facts.fits in cc
  not_written ψ p at error facts none (step.Held to) is = let clash : outcome.NotWritten at error ≡ outcome.Left = subst (λ (q : Step). FitsPut q (outcome.NotWritten at error)) is facts.fits in cc

  no_removal_yet : (st : Step) (at : Side) (error : StoreError) → FitsPut st (outcome.NotRemoved at error) → ⊥
  no_removal_yet (step.CopyTo to) at error fits = fits
  no_removal_yet (step.WriteOver to) at error fits = fits
  no_removal_yet (step.RemoveFrom from) at error fits = let clash : outcome.NotRemoved at error ≡ outcome.Left = fits in cc
  no_removal_yet step.Forget at error fits = let clash : outcome.NotRemoved at error ≡ outcome.Gone = fits in cc
  no_removal_yet step.Keep at error fits = let clash : outcome.NotRemoved at error ≡ outcome.Kept = fits in cc
  no_removal_yet step.HandOver at error fits = let clash : outcome.NotRemoved at error ≡ outcome.Left = fits in cc
  no_removal_yet step.Conflict at error fits = let clash : outcome.NotRemoved at error ≡ outcome.Conflict = fits in cc
  no_removal_yet (step.Held to) at error fits = let clash : outcome.NotRemoved at error ≡ outcome.Left = fits in cc

  put_fine : (ψ : Bool) (p : Planned) (o : Outcome) → PutFacts ψ p o → ψ ≡ false → is_failure o ≡ false
  put_fine ψ p (outcome.NotWritten at error) facts none = absurd (not_written ψ p at error facts none p.step refl)
  put_fine ψ p (outcome.NotRemoved at error) facts none = absurd (no_removal_yet p.step at error facts.fits)
  put_fine ψ p outcome.Kept facts none = refl
  put_fine ψ p outcome.Gone facts none = refl
  put_fine ψ p (outcome.Written row) facts none = refl
  put_fine ψ p outcome.Left facts none = refl
  put_fine ψ p outcome.Conflict facts none = refl
  put_fine ψ p outcome.Skipped facts none = refl

  abbrev pub IsFine : Bool → Planned → Outcome → Type 0
  IsFine ψ p o = (ψ ≡ false) × (is_failure o ≡ false)

  puts_fine : AllFit IsFine false plan firsts × (failed_after false firsts ≡ false)
  puts_fine =
      let DidA : Bool → Planned → Outcome → Type 0 = λ ψ p o. (m : SideNow) × (n : SideNow) × PutDid waits_a A src p m n o in
      let DidB : Bool → Planned → Outcome → Type 0 = λ ψ p o. (m : SideNow) × (n : SideNow) × PutDid waits_b B src p m n o in
      let CopyA = CopiesMoveByEdit A a (f.end_a).state in
      let CopyB = CopiesMoveByEdit B b (f.end_b).state in
      let Fit : Bool → Planned → Outcome → Type 0 = λ ψ p o. FitsPut p.step o in
      let did_a : AllFit DidA false plan firsts = order_fit (λ ψ. PutDid waits_a A src) false plan firsts (now_of a []) (f.did_a).between (f.did_a).puts in
      let did_b : AllFit DidB false plan firsts = order_fit (λ ψ. PutDid waits_b B src) false plan firsts (now_of b []) (f.did_b).between (f.did_b).puts in
      let both = fit_both DidA DidB false plan firsts did_a did_b in
      let copies = fit_both CopyA CopyB false plan firsts (f.copies_a is_known_a) (f.copies_b is_known_b) in
      let most = fit_both (λ ψ p o. DidA ψ p o × DidB ψ p o) (λ ψ p o. CopyA ψ p o × CopyB ψ p o) false plan firsts both copies in
      let All : Bool → Planned → Outcome → Type 0 = λ ψ p o. Fit ψ p o × ((DidA ψ p o × DidB ψ p o) × (CopyA ψ p o × CopyB ψ p o)) in
      let all : AllFit All false plan firsts = fit_both Fit (λ ψ p o. (DidA ψ p o × DidB ψ p o) × (CopyA ψ p o × CopyB ψ p o)) false plan firsts (f.whole).put most in
      fine_all false plan firsts refl (fit_map (λ ψ p o. All ψ p o × IsAt p o plan firsts) (λ ψ p o. ψ ≡ false → is_failure o ≡ false) (λ ψ p o h. put_fine ψ p o (record { fits = h.0.0; did_a = h.0.1.0.0; did_b = h.0.1.0.1; copies_a = h.0.1.1.0; copies_b = h.0.1.1.1; here = h.1 })) false plan firsts (fit_here All false plan firsts all))

  -- ---- the removals

  removal_error : (p : Planned) (side at : Side) (error : StoreError) → p.step ≡ step.RemoveFrom side → at ≡ side → IsAt p (outcome.NotRemoved at error) plan seconds → ((ch : Change) × (s : SideNow) × (t : SideNow) × IsUnsent ch error s t) → ⊥
  removal_error p side at error is same here reason =
      let two = at_first p (outcome.NotRemoved at error) plan firsts seconds count_firsts here in
      no_error at p two.0 (outcome.NotRemoved at error) error (NotRemoved at error) two.1 (ap what_of (ap (λ (q : Step). outcome_of q two.0 (outcome.NotRemoved at error)) is)) refl
      (λ moved. moved_on side p two.0 (outcome.NotRemoved at error) two.1 (subst (λ (q : Step). HasMoved side q (outcome_of q two.0 (outcome.NotRemoved at error))) (sym is) (refl, moved)))
      (inr reason)

  record RemovalFacts (ψ : Bool) (p : Planned) (o : Outcome) : Type 0 where
    pub fits : FitsRemoval ψ p.step o
    pub did_a : (m : SideNow) × (n : SideNow) × RemovalDone waits_a A src ψ p m n o
    pub did_b : (m : SideNow) × (n : SideNow) × RemovalDone waits_b B src ψ p m n o
    pub here : IsAt p o plan seconds

  left_fine : (o : Outcome) → o ≡ outcome.Left → is_failure o ≡ false
  left_fine o is = ap is_failure is

  removed : (p : Planned) (side : Side) (o : Outcome) → p.step ≡ step.RemoveFrom side → IsRemoval side o → IsAt p o plan seconds → ((at : Side) (error : StoreError) → o ≡ outcome.NotRemoved at error → (ch : Change) × (s : SideNow) × (t : SideNow) × IsUnsent ch error s t) → is_failure o ≡ false
  removed p side outcome.Gone is fits here reason = refl
  removed p side (outcome.NotRemoved at error) is fits here reason = absurd (removal_error p side at error is fits here (reason at error refl))
  removed p side outcome.Kept is fits here reason = absurd fits
  removed p side (outcome.Written row) is fits here reason = absurd fits
  removed p side outcome.Left is fits here reason = absurd fits
  removed p side outcome.Conflict is fits here reason = absurd fits
  removed p side (outcome.NotWritten at error) is fits here reason = absurd fits
  removed p side outcome.Skipped is fits here reason = absurd fits

  removal_fine : (ψ : Bool) (p : Planned) (o : Outcome) → RemovalFacts ψ p o → ψ ≡ false → (st : Step) → p.step ≡ st → is_failure o ≡ false
  removal_fine ψ p o facts none (step.RemoveFrom A) is =
      let m = (facts.did_a).0 in
      let n = (facts.did_a).1 in
      let did : RemovalDid waits_a A (held_on A src) (place_on A p) m n o = subst (λ (φ : Bool). RemovalBy (step.RemoveFrom A) φ waits_a A src p m n o) none (subst (λ (q : Step). RemovalBy q ψ waits_a A src p m n o) is (facts.did_a).2) in
      removed p A o is (subst (λ (φ : Bool). FitsRemoval φ (step.RemoveFrom A) o) none (subst (λ (q : Step). FitsRemoval ψ q o) is facts.fits)) facts.here
      (λ at error same. (gone_at (did.over).href (did.over).etag, m, n, (subst (λ (y : Outcome). RemovalAnswer waits_a A did.over m n (Ok y)) same did.answer).1))
  removal_fine ψ p o facts none (step.RemoveFrom B) is =
      let m = (facts.did_b).0 in
      let n = (facts.did_b).1 in
      let did : RemovalDid waits_b B (held_on B src) (place_on B p) m n o = subst (λ (φ : Bool). RemovalBy (step.RemoveFrom B) φ waits_b B src p m n o) none (subst (λ (q : Step). RemovalBy q ψ waits_b B src p m n o) is (facts.did_b).2) in
      removed p B o is (subst (λ (φ : Bool). FitsRemoval φ (step.RemoveFrom B) o) none (subst (λ (q : Step). FitsRemoval ψ q o) is facts.fits)) facts.here
      (λ at error same. (gone_at (did.over).href (did.over).etag, m, n, (subst (λ (y : Outcome). RemovalAnswer waits_b B did.over m n (Ok y)) same did.answer).1))
  removal_fine ψ p o facts none (step.CopyTo to) is = left_fine o (subst (λ (q : Step). FitsRemoval ψ q o) is facts.fits)
  removal_fine ψ p o facts none (step.WriteOver to) is = left_fine o (subst (λ (q : Step). FitsRemoval ψ q o) is facts.fits)
  removal_fine ψ p o facts none step.Forget is = left_fine o (subst (λ (q : Step). FitsRemoval ψ q o) is facts.fits)
  removal_fine ψ p o facts none step.Keep is = left_fine o (subst (λ (q : Step). FitsRemoval ψ q o) is facts.fits)
  removal_fine ψ p o facts none step.HandOver is = left_fine o (subst (λ (q : Step). FitsRemoval ψ q o) is facts.fits)
  removal_fine ψ p o facts none step.Conflict is = left_fine o (subst (λ (q : Step). FitsRemoval ψ q o) is facts.fits)
  removal_fine ψ p o facts none (step.Held to) is = left_fine o (subst (λ (q : Step). FitsRemoval ψ q o) is facts.fits)

  abbrev pub start : Bool
  start = failed_after false firsts

  removals_fine : AllFit IsFine start plan seconds
  removals_fine =
      let DidA : Bool → Planned → Outcome → Type 0 = λ ψ p o. (m : SideNow) × (n : SideNow) × RemovalDone waits_a A src ψ p m n o in
      let DidB : Bool → Planned → Outcome → Type 0 = λ ψ p o. (m : SideNow) × (n : SideNow) × RemovalDone waits_b B src ψ p m n o in
      let Fit : Bool → Planned → Outcome → Type 0 = λ ψ p o. FitsRemoval ψ p.step o in
      let did_a : AllFit DidA start plan seconds = order_fit (RemovalDone waits_a A src) start plan seconds (f.did_a).between f.end_a (f.did_a).removals in
      let did_b : AllFit DidB start plan seconds = order_fit (RemovalDone waits_b B src) start plan seconds (f.did_b).between f.end_b (f.did_b).removals in
      let All : Bool → Planned → Outcome → Type 0 = λ ψ p o. Fit ψ p o × (DidA ψ p o × DidB ψ p o) in
      let all : AllFit All start plan seconds = fit_both Fit (λ ψ p o. DidA ψ p o × DidB ψ p o) start plan seconds (f.whole).removed (fit_both DidA DidB start plan seconds did_a did_b) in
      (fine_all start plan seconds puts_fine.1 (fit_map (λ ψ p o. All ψ p o × IsAt p o plan seconds) (λ ψ p o. ψ ≡ false → is_failure o ≡ false) (λ ψ p o h none. removal_fine ψ p o (record { fits = h.0.0; did_a = h.0.1.0; did_b = h.0.1.1; here = h.1 }) none p.step refl) start plan seconds (fit_here All start plan seconds all))).0

  -- ---- the lines

  silent : {T : Type 0} (o other : Outcome) (what : What) → o ≡ other → what_of other ≡ None → what_of o ≡ Some what → T
  silent o other what is none has = absurd (let clash : None ≡ Some what = sym none ∙ (sym (ap what_of is) ∙ has) in cc)

  by_put : (side : Side) (o : Outcome) (what : What) → IsPut side o → is_failure o ≡ false → what_of o ≡ Some what → what ≡ Conflict
  by_put side (outcome.Written row) what fits fine has = absurd (let clash : None ≡ Some what = has in cc)
  by_put side (outcome.NotWritten at error) what fits fine has = absurd (false≢true (sym fine))
  by_put side outcome.Kept what fits fine has = absurd fits
  by_put side outcome.Gone what fits fine has = absurd fits
  by_put side outcome.Left what fits fine has = absurd fits
  by_put side outcome.Conflict what fits fine has = absurd fits
  by_put side (outcome.NotRemoved at error) what fits fine has = absurd fits
  by_put side outcome.Skipped what fits fine has = absurd fits

  by_removal : (side : Side) (o : Outcome) (what : What) → IsRemoval side o → is_failure o ≡ false → what_of o ≡ Some what → what ≡ Conflict
  by_removal side outcome.Gone what fits fine has = absurd (let clash : None ≡ Some what = has in cc)
  by_removal side (outcome.NotRemoved at error) what fits fine has = absurd (false≢true (sym fine))
  by_removal side outcome.Kept what fits fine has = absurd fits
  by_removal side (outcome.Written row) what fits fine has = absurd fits
  by_removal side outcome.Left what fits fine has = absurd fits
  by_removal side outcome.Conflict what fits fine has = absurd fits
  by_removal side (outcome.NotWritten at error) what fits fine has = absurd fits
  by_removal side outcome.Skipped what fits fine has = absurd fits

  by_step : (st : Step) (first second : Outcome) (what : What) → FitsPut st first → FitsRemoval false st second → is_failure first ≡ false → is_failure second ≡ false → what_of (outcome_of st first second) ≡ Some what → what ≡ Conflict
  by_step (step.CopyTo to) first second what put removal fine_first fine_second has = by_put to first what put fine_first has
  by_step (step.WriteOver to) first second what put removal fine_first fine_second has = by_put to first what put fine_first has
  by_step (step.RemoveFrom from) first second what put removal fine_first fine_second has = by_removal from second what removal fine_second has
  by_step step.Forget first second what put removal fine_first fine_second has = silent first outcome.Gone what put refl has
  by_step step.Keep first second what put removal fine_first fine_second has = silent first outcome.Kept what put refl has
  by_step step.HandOver first second what put removal fine_first fine_second has = silent first outcome.Left what put refl has
  by_step (step.Held to) first second what put removal fine_first fine_second has = silent first outcome.Left what put refl has
  by_step step.Conflict first second what put removal fine_first fine_second has = let same : Some Conflict ≡ Some what = sym (ap what_of put) ∙ has in cc

  each : (p : Planned) (first second : Outcome) (what : What) → IsStepAt p first second plan firsts seconds → what_of (outcome_of p.step first second) ≡ Some what → what ≡ Conflict
  each p first second what at has =
      let put = fits_at (λ ψ q. FitsPut q.step) false p first plan firsts (f.whole).put (first_at p first second plan firsts seconds at) in
      let fine_put = fits_at IsFine false p first plan firsts puts_fine.0 (first_at p first second plan firsts seconds at) in
      let Both : Bool → Planned → Outcome → Type 0 = λ ψ q o. FitsRemoval ψ q.step o × IsFine ψ q o in
      let removal = fits_at Both start p second plan seconds (fit_both (λ ψ q. FitsRemoval ψ q.step) IsFine start plan seconds (f.whole).removed removals_fine) (second_at p first second plan firsts seconds at) in
      by_step p.step first second what put.1 (subst (λ (φ : Bool). FitsRemoval φ p.step second) (removal.1).1.0 (removal.1).0) (fine_put.1).1 (removal.1).1.1 has

  pub conflicts_alone : AreConflicts report.lines.items
  conflicts_alone = subst AreConflicts (sym (f.closes).lines) (all_conflicts plan firsts seconds each)
