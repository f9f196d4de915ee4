-- A run that has read does a job.
use Rattle.std.proofs.Common.{◌≡◌, ◌⊎◌, inl, inr, ℕ, Bool, false, List, [], Option, Some, None, IsSome, refl, sym, ap, ◌∙◌, subst}
use Rattle.std.proofs.lemmas.List.Elements.{recursion_from_All}
use Rattle.std.specs.List.{AllByRecursion}
use Rattle.store_model.specs.Sides.{SideState, Since}
use Rattle.store_model.proofs.Moments.{Evolves-refl, Evolves-trans, Evolves-weaker, Evolves-one, Since-from_evolves, outside_is_no_write}
use Rattle.store_model.specs.declared.event.StoreEvent.TheVariants.{Wrote}
use Rattle.status_keeper.specs.declared.row.Row.{Row}
use Rattle.status_keeper.specs.Rows.{row_of}
use Rattle.sync_plan.specs.declared.report.Side.{Side}
use Rattle.sync_plan.specs.declared.report.Side.TheVariants.{A, B}
use Rattle.sync_plan.specs.declared.rules.Rules.{Rules}
use Rattle.sync_plan.specs.declared.seen.Planned.{Planned}
use Rattle.sync_plan.specs.Plans.{IsPlannedFor, planned_idents, versions_of}
use Rattle.sync_plan.specs.Verdicts.{Versions, other_side, step_of}
use Rattle.sync_plan.specs.JobSteps.{on_side, written, IsPutOn}
use Rattle.sync_plan.proofs.Rising.{within_all, within_from_contains}
use Rattle.job_runs.specs.Courses.{Course, IsCourse}
use Rattle.job_runs.specs.Taken.{Took}
use Rattle.job_runs.specs.Writes.{WroteFor, WroteAll, WroteSome}
use Rattle.job_runs.specs.Jobs.{course_at, IsMade, IsRowOfHeld, IdentRun, JobOf}
use Rattle.job_reads.specs.declared.reading.ReadJob.{ReadJob}
use Rattle.job_reads.specs.Readings.{Span, course_of_a, course_of_b}
use Rattle.job_reads.proofs.TookLemmas.{each_taken, found_alone, text_read, took}
use Rattle.job_writes.specs.Writings.{Sources, now_of, sources, failed_after}
use Rattle.job_writes.specs.declared.outcome.Outcome.{Outcome}
use Rattle.job_rows.specs.RowsAfter.{outcome_of, row_after, IsStepAt}
use Rattle.job_rows.proofs.RowLemmas.{fit_length}
use Rattle.job_rows.proofs.NextLemmas.{HasStep, AreSteps, find_step, no_row, are_steps, row_of_step}
use Rattle.job_traces.specs.Traces.{IsUndone, Ran, CameTo}
use Rattle.job_traces.proofs.WriteLemmas.{IsFresh}
use Rattle.job_traces.proofs.StepLemmas.{Knows}
use Rattle.job_traces.proofs.RunLemmas.{wrote_tried}
use Rattle.job_traces.proofs.RowsMade.{row_ends}
use Rattle.job_traces.proofs.PhaseLemmas.{puts_come_first}

module _ (force : Bool) (rules : Rules) (x : Span) (r : ReadJob) (exit_a exit_b : SideState) (after : List Row) (ran : Ran force rules x r exit_a exit_b after) where
  abbrev pub a : Course
  a = course_of_a x r exit_a

  abbrev pub b : Course
  b = course_of_b x r exit_b

  abbrev pub src : Sources
  src = sources r.a r.b

  abbrev pub before : List Row
  before = r.rows.items

  abbrev pub saw : List ℕ → Versions
  saw ident = versions_of ident r.a.seen.items r.b.seen.items before

  abbrev pub says : Side → List ℕ → Option (Option (List ℕ))
  says side ident = written (step_of rules (saw ident)) None side (saw ident)

  knows_a : Knows a b A src before rules
  knows_a = record {
    taken = λ s within. each_taken a (ran.read).entries_a (ran.read).fetched_a (ran.read).reads_a r.a.seen.items r.a.items.items (ran.read).taken_a s within;
    alone = λ s within. found_alone a (ran.read).entries_a (ran.read).fetched_a (ran.read).reads_a r.a.seen.items r.a.items.items (ran.read).taken_a (ran.is_plan).once_a s within;
    texts = λ index s item is_seen is_text. text_read b (ran.read).entries_b (ran.read).fetched_b (ran.read).reads_b r.b.seen.items r.b.items.items index s item (ran.read).taken_b is_seen is_text;
  }

  knows_b : Knows b a B src before rules
  knows_b = record {
    taken = λ s within. each_taken b (ran.read).entries_b (ran.read).fetched_b (ran.read).reads_b r.b.seen.items r.b.items.items (ran.read).taken_b s within;
    alone = λ s within. found_alone b (ran.read).entries_b (ran.read).fetched_b (ran.read).reads_b r.b.seen.items r.b.items.items (ran.read).taken_b (ran.is_plan).once_b s within;
    texts = λ index s item is_seen is_text. text_read a (ran.read).entries_a (ran.read).fetched_a (ran.read).reads_a r.a.seen.items r.a.items.items index s item (ran.read).taken_a is_seen is_text;
  }

  planned : AllByRecursion (IsPlannedFor r.a.seen.items r.b.seen.items before rules) ran.plan
  planned = recursion_from_All (IsPlannedFor r.a.seen.items r.b.seen.items before rules) ran.plan (ran.is_plan).each

  fresh_a : (ident : List ℕ) → IsFresh a b ident (now_of x.a_now [])
  fresh_a ident = record { run = Evolves-refl x.a_now; waits = tt }

  fresh_b : (ident : List ℕ) → IsFresh b a ident (now_of x.b_now [])
  fresh_b ident = record { run = Evolves-refl x.b_now; waits = tt }

  pub wrote_a : (ident : List ℕ) → WroteSome a b ident (saw ident).a (says A ident)
  wrote_a ident = wrote_tried a b A src before rules ident ran.waits_a ran.plan (now_of x.a_now []) (ran.wrote_a).end knows_a (ran.is_plan).rising planned (ran.wrote_a).tried (fresh_a ident) (ran.wrote_a).flush

  pub wrote_b : (ident : List ℕ) → WroteSome b a ident (saw ident).b (says B ident)
  wrote_b ident = wrote_tried b a B src before rules ident ran.waits_b ran.plan (now_of x.b_now []) (ran.wrote_b).end knows_b (ran.is_plan).rising planned (ran.wrote_b).tried (fresh_b ident) (ran.wrote_b).flush

  -- ---- the courses of both sides

  since_wrote : (c peer : Course) (ident : List ℕ) (o : Option (List ℕ)) (says : Option (Option (List ℕ))) → WroteSome c peer ident o says → Since c.read c.exit
  since_wrote c peer ident o says (inl others) = Since-from_evolves others
  since_wrote c peer ident o None (inr others) = Since-from_evolves others
  since_wrote c peer ident o (Some to) (inr w) = Evolves-trans (Since-from_evolves w.before) (Evolves-trans (Evolves-one w.moment (Wrote w.href w.old w.new w.sent) tt w.is_true) (Since-from_evolves w.after))

  pub course_a : IsCourse a
  course_a = record { reads = Evolves-trans (Evolves-weaker outside_is_no_write ((ran.read).reads_a).from) ((ran.read).reads_a).until; later = since_wrote a b [] (saw []).a (says A []) (wrote_a []) }

  pub course_b : IsCourse b
  course_b = record { reads = Evolves-trans (Evolves-weaker outside_is_no_write ((ran.read).reads_b).from) ((ran.read).reads_b).until; later = since_wrote b a [] (saw []).b (says B []) (wrote_b []) }

  -- ---- the rows

  abbrev pub RowComes : List ℕ → Type 0
  RowComes ident = (row_of ident after ≡ row_of ident before) ⊎ IsMade a b ident (saw ident) (says A ident) (says B ident) (row_of ident after)

  module _ (came : CameTo ran.waits_a ran.waits_b src before ran.plan x.a_now exit_a x.b_now exit_b after) (ident : List ℕ) where
    abbrev pub firsts : List Outcome
    firsts = (came.os).put.items

    abbrev pub seconds : List Outcome
    seconds = (came.os).removed.items

    -- the row of a step at the end
    abbrev pub StepEnds : Planned → Outcome → Outcome → Type 0
    StepEnds p f g = (IsUndone (outcome_of p.step f g) × (row_after src before p (outcome_of p.step f g) ≡ row_of (p.ident).now before)) ⊎ IsMade a b (p.ident).now (saw (p.ident).now) (says A (p.ident).now) (says B (p.ident).now) (row_after src before p (outcome_of p.step f g))

    pub step_ends : (p : Planned) (f g : Outcome) → IsStepAt p f g ran.plan firsts seconds → StepEnds p f g
    step_ends p f g at =
        row_ends a b src before rules ran.waits_a ran.waits_b ran.plan came.os (now_of x.a_now []) (now_of x.b_now []) came.end_a came.end_b
        (record {
          side_a = refl;
          side_b = refl;
          knows_a = knows_a;
          knows_b = knows_b;
          rising = (ran.is_plan).rising;
          planned = planned;
          did_a = came.did_a;
          did_b = came.did_b;
          fits = came.whole;
          fresh_a = fresh_a;
          fresh_b = fresh_b;
          flush_a = came.flush_a;
          flush_b = came.flush_b;
          wrote_a = wrote_a;
          wrote_b = wrote_b;
        })
        p f g at

    -- an ident has a step, or no row at all
    pub find : HasStep src before rules ident ran.plan firsts seconds ⊎ AllByRecursion (λ z. z ≡ ident → ⊥) (planned_idents ran.plan)
    find = find_step src before rules ident ran.plan firsts seconds (fit_length _ false ran.plan firsts (came.whole).put) (fit_length _ (failed_after false firsts) ran.plan seconds (came.whole).removed)

    are_all : AreSteps src before rules ran.plan firsts seconds
    are_all = are_steps src before rules false false (failed_after false firsts) ran.plan firsts seconds planned (came.whole).put (came.whole).named (came.whole).removed

    pub row_at : (p : Planned) (f g : Outcome) → IsStepAt p f g ran.plan firsts seconds → row_of (p.ident).now after ≡ row_after src before p (outcome_of p.step f g)
    row_at p f g at = ap (row_of (p.ident).now) came.comes ∙ row_of_step src before rules p f g ran.plan firsts seconds are_all (ran.is_plan).rising at

    at_step : HasStep src before rules ident ran.plan firsts seconds → RowComes ident
    at_step has =
        let same : row_of (has.p.ident).now after ≡ row_after src before has.p (outcome_of has.p.step has.f has.g) = row_at has.p has.f has.g has.at in
        subst RowComes has.here (elim (step_ends has.p has.f has.g has.at) [
          | inl kept ↦ inl (same ∙ kept.1)
          | inr made ↦ inr (subst (λ (o : Option Row). IsMade a b (has.p.ident).now (saw (has.p.ident).now) (says A (has.p.ident).now) (says B (has.p.ident).now) o) (sym same) made)
        ])

    pub none_before : AllByRecursion (λ z. z ≡ ident → ⊥) (planned_idents ran.plan) → (o : Option Row) → row_of ident before ≡ o → row_of ident before ≡ None
    none_before others None is = is
    none_before others (Some row) is = absurd (within_all (λ z. z ≡ ident → ⊥) (planned_idents ran.plan) others ident (within_from_contains (planned_idents ran.plan) ident ((ran.is_plan).whole ident (inr (inr (subst IsSome (sym is) refl))))) refl)

    pub none_at : AllByRecursion (λ z. z ≡ ident → ⊥) (planned_idents ran.plan) → row_of ident after ≡ None
    none_at others = ap (row_of ident) came.comes ∙ no_row src before rules ident ran.plan firsts seconds are_all others

    comes : RowComes ident
    comes = elim find [
      | inl has ↦ at_step has
      | inr others ↦ inl (none_at others ∙ sym (none_before others (row_of ident before) refl))
    ]

  pub row_comes : (ident : List ℕ) → RowComes ident
  row_comes ident = elim ran.rows [
    | inl same ↦ inl (ap (row_of ident) same)
    | inr came ↦ comes came ident
  ]

  -- ---- each ident

  pub took_a : (ident : List ℕ) → Took a ident (saw ident).a
  took_a ident = took a (ran.read).entries_a (ran.read).fetched_a (ran.read).reads_a r.a.seen.items r.a.items.items (ran.read).taken_a ident

  pub took_b : (ident : List ℕ) → Took b ident (saw ident).b
  took_b ident = took b (ran.read).entries_b (ran.read).fetched_b (ran.read).reads_b r.b.seen.items r.b.items.items (ran.read).taken_b ident

  pub to_inner : (ident : List ℕ) → RowComes ident → (row_of ident after ≡ row_of ident before) ⊎ IsMade a b ident (saw ident) (says A ident) (says B ident) (row_of ident after) ⊎ IsRowOfHeld rules (saw ident) (row_of ident after)
  to_inner ident (inl same) = inl same
  to_inner ident (inr made) = inr (inl made)

  abbrev pub each : (ident : List ℕ) → IdentRun rules a b ident (row_of ident before) (row_of ident after)
  each ident = record {
    saw = saw ident;
    saw_row = refl;
    took_a = took_a ident;
    took_b = took_b ident;
    answer = None;
    writes_a = wrote_a ident;
    writes_b = wrote_b ident;
    row = to_inner ident (row_comes ident);
  }

  pub puts_first : (side : Side) (gone put : List ℕ) → WroteFor (course_at side a b) (course_at (other_side side) a b) gone (on_side side (saw gone)) None → IsPutOn side (step_of rules (saw put)) → WroteAll (course_at side a b) (course_at (other_side side) a b) put (on_side side (saw put)) (says side put)
  puts_first A gone put w kind = puts_come_first a b A src before rules ran.plan knows_a ran.is_plan planned ran.waits_a ran.wrote_a gone put (saw gone).a w kind
  puts_first B gone put w kind = puts_come_first b a B src before rules ran.plan knows_b ran.is_plan planned ran.waits_b ran.wrote_b gone put (saw gone).b w kind

  pub job_of : JobOf rules a b before after
  job_of = record { course_a = course_a; course_b = course_b; each = each; puts_first = puts_first }
