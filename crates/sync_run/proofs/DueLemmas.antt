-- An ident that is settled, and neither told nor left, is at its due.
use Rattle.std.proofs.Common.{◌≡◌, inl, inr, ℕ, Bool, List, Option, Some, None, refl, sym, ap, ◌∙◌, subst}
use Rattle.status_keeper.specs.declared.row.Row.{Row}
use Rattle.status_keeper.specs.Rows.{row_of}
use Rattle.sync_plan.specs.declared.report.Side.TheVariants.{A, B}
use Rattle.sync_plan.specs.declared.rules.Rules.{Rules}
use Rattle.sync_plan.specs.declared.dues.Step.{Step}
use Rattle.sync_plan.specs.declared.dues.Step.TheVariants as step
use Rattle.sync_plan.specs.Plans.{versions_of}
use Rattle.sync_plan.specs.Verdicts.{Versions, Due, Gone, At, Unsettled, due_of, step_of}
use Rattle.sync_plan.specs.JobSteps.{all_at, written, clean_by, clean_of}
use Rattle.sync_plan.proofs.Facts.{Fits, verdict_fits}
use Rattle.job_runs.specs.Courses.{Course, IsCourse}
use Rattle.job_runs.specs.Taken.{Took}
use Rattle.job_runs.specs.Writes.{after_all}
use Rattle.job_runs.specs.Jobs.{IsMade, state_of, version_by, IsHonest, IsUntouched}
use Rattle.job_runs.proofs.TakenLemmas.{took_saw}
use Rattle.job_runs.proofs.SideLemmas.{saw_is_view, all_to, all_stands}
use Rattle.job_reads.specs.Readings.{Span, span, course_of_a, course_of_b}
use Rattle.job_reads.proofs.TookLemmas.{took}
use Rattle.sync_plan.specs.declared.report.Report.{Report}
use Rattle.sync_run.specs.Settled.{IsTold, IsLeft, IsSettled, InSync}

-- a step that is left is of an unsettled ident
left_unsettled : (st : Step) (due : Due) (v : Versions) → IsLeft st → Fits st due v → due ≡ Unsettled
left_unsettled step.HandOver due v left fits = fits
left_unsettled (step.Held side) due v left fits = fits
left_unsettled step.Forget due v left fits = absurd left
left_unsettled step.Keep due v left fits = absurd left
left_unsettled (step.CopyTo side) due v left fits = absurd left
left_unsettled (step.WriteOver side) due v left fits = absurd left
left_unsettled (step.RemoveFrom side) due v left fits = absurd left
left_unsettled step.Conflict due v left fits = absurd left

one_version : (new : Versions) (o : Option (List ℕ)) → new.a ≡ o → new.a ≡ new.b → new.a ≡ new.s → new ≡ all_at o
one_version new o at b s = λ j. record { a = at j; b = (sym b ∙ at) j; s = (sym s ∙ at) j }

gone_due : (rules : Rules) (st : Step) (due : Due) (v new : Versions) → due ≡ Gone → new.a ≡ None → new.a ≡ new.b → new.a ≡ new.s → new ≡ clean_by rules None due st v
gone_due rules st due v new is at b s = subst (λ (d : Due). new ≡ clean_by rules None d st v) (sym is) (one_version new None at b s)

at_due : (rules : Rules) (st : Step) (due : Due) (v new : Versions) (version : List ℕ) → due ≡ At version → new.a ≡ Some version → new.a ≡ new.b → new.a ≡ new.s → new ≡ clean_by rules None due st v
at_due rules st due v new version is at b s = subst (λ (d : Due). new ≡ clean_by rules None d st v) (sym is) (one_version new (Some version) at b s)

-- where a step is done, side a is at the due
due_on_a : (rules : Rules) (st : Step) (due : Due) (v new : Versions) → Fits st due v → (due ≡ Unsettled → ⊥) → new.a ≡ after_all (written st None A v) v.a → new.a ≡ new.b → new.a ≡ new.s → new ≡ clean_by rules None due st v
due_on_a rules step.Forget due v new fits settled at b s = gone_due rules step.Forget due v new fits.0 (at ∙ fits.1) b s
due_on_a rules step.Keep due v new fits settled at b s = at_due rules step.Keep due v new fits.0 fits.1 (at ∙ fits.2) b s
due_on_a rules (step.CopyTo A) due v new fits settled at b s = at_due rules (step.CopyTo A) due v new fits.0 fits.1 (at ∙ fits.3) b s
due_on_a rules (step.CopyTo B) due v new fits settled at b s = at_due rules (step.CopyTo B) due v new fits.0 fits.1 (at ∙ fits.3) b s
due_on_a rules (step.WriteOver A) due v new fits settled at b s = at_due rules (step.WriteOver A) due v new fits.0 fits.1 (at ∙ fits.3) b s
due_on_a rules (step.WriteOver B) due v new fits settled at b s = at_due rules (step.WriteOver B) due v new fits.0 fits.1 (at ∙ fits.3) b s
due_on_a rules (step.RemoveFrom A) due v new fits settled at b s = gone_due rules (step.RemoveFrom A) due v new fits.0 at b s
due_on_a rules (step.RemoveFrom B) due v new fits settled at b s = gone_due rules (step.RemoveFrom B) due v new fits.0 (at ∙ fits.2) b s
due_on_a rules step.HandOver due v new fits settled at b s = absurd (settled fits)
due_on_a rules step.Conflict due v new fits settled at b s = absurd (settled fits)
due_on_a rules (step.Held side) due v new fits settled at b s = absurd (settled fits)

-- ---- from the events of a run to the versions at its end

module _ (rules : Rules) (a b : Course) (before after : List Row) (ident : List ℕ) (saw : Versions) (course_a : IsCourse a) (course_b : IsCourse b) (honest_a : IsHonest a) (honest_b : IsHonest b) (took_a : Took a ident saw.a) (took_b : Took b ident saw.b) (saw_row : saw.s ≡ version_by before ident) (quiet : IsUntouched ident a b) where
  abbrev pub at_entry : Versions
  at_entry = state_of a.entry b.entry before ident

  abbrev pub at_exit : Versions
  at_exit = state_of a.exit b.exit after ident

  saw_is : saw ≡ at_entry
  saw_is =
      let on_a : saw.a ≡ at_entry.a = sym (saw_is_view ident a b quiet.on_a course_a honest_a saw.a (took_saw a ident saw.a course_a honest_a.rows took_a)) in
      let on_b : saw.b ≡ at_entry.b = sym (saw_is_view ident b a quiet.on_b course_b honest_b saw.b (took_saw b ident saw.b course_b honest_b.rows took_b)) in
      λ j. record { a = on_a j; b = on_b j; s = saw_row j }

  abbrev pub to_a : Option (Option (List ℕ))
  to_a = written (step_of rules saw) None A saw

  abbrev pub to_b : Option (Option (List ℕ))
  to_b = written (step_of rules saw) None B saw

  pub made_is_due : IsMade a b ident saw to_a to_b (row_of ident after) → (due_of rules at_entry ≡ Unsettled → ⊥) → at_exit ≡ clean_of rules None at_entry
  made_is_due made settled =
      let on_a : at_exit.a ≡ after_all to_a at_entry.a = all_stands ident a b quiet.on_a course_a honest_a to_a (all_to ident a b quiet.on_a course_a honest_a saw.a to_a took_a made.all_a) in
      let on_b : at_exit.b ≡ after_all to_b at_entry.b = all_stands ident b a quiet.on_b course_b honest_b to_b (all_to ident b a quiet.on_b course_b honest_b saw.b to_b took_b made.all_b) in
      let row_a : at_exit.a ≡ at_exit.s = on_a ∙ (ap (λ (v : Versions). after_all to_a v.a) (sym saw_is) ∙ made.came_a) in
      let row_b : at_exit.b ≡ at_exit.s = on_b ∙ (ap (λ (v : Versions). after_all to_b v.b) (sym saw_is) ∙ made.came_b) in
      let at : at_exit.a ≡ after_all (written (step_of rules at_entry) None A at_entry) at_entry.a = on_a ∙ ap (λ (v : Versions). after_all (written (step_of rules v) None A v) at_entry.a) saw_is in
      due_on_a rules (step_of rules at_entry) (due_of rules at_entry) at_entry at_exit (verdict_fits rules at_entry) settled at (row_a ∙ sym row_b) row_a

  pub left_is_unsettled : IsLeft (step_of rules saw) → due_of rules at_entry ≡ Unsettled
  left_is_unsettled left = left_unsettled (step_of rules at_entry) (due_of rules at_entry) at_entry (subst (λ (v : Versions). IsLeft (step_of rules v)) saw_is left) (verdict_fits rules at_entry)

-- ---- a run that ended in sync

module _ (force : Bool) (rules : Rules) (x : Span) (report : Report) (s : InSync force rules x report) (ident : List ℕ) where
  abbrev pub side_a : Course
  side_a = course_of_a (span x.k s.k x.a s.a x.b s.b) s.r x.a_now

  abbrev pub side_b : Course
  side_b = course_of_b (span x.k s.k x.a s.a x.b s.b) s.r x.b_now

  abbrev pub sees : Versions
  sees = versions_of ident s.r.a.seen.items s.r.b.seen.items s.r.rows.items

  took_a : Took side_a ident sees.a
  took_a = took side_a (s.read).entries_a (s.read).fetched_a (s.read).reads_a s.r.a.seen.items s.r.a.items.items (s.read).taken_a ident

  took_b : Took side_b ident sees.b
  took_b = took side_b (s.read).entries_b (s.read).fetched_b (s.read).reads_b s.r.b.seen.items s.r.b.items.items (s.read).taken_b ident

  pub settled_is_due : IsHonest side_a → IsHonest side_b → IsUntouched ident side_a side_b → (IsTold ident report.lines.items → ⊥) → (due_of rules (state_of x.a x.b s.r.rows.items ident) ≡ Unsettled → ⊥) → state_of x.a_now x.b_now s.after ident ≡ clean_of rules None (state_of x.a x.b s.r.rows.items ident)
  settled_is_due honest_a honest_b quiet untold settled = by (s.each ident)
    where
      by : IsSettled rules side_a side_b ident sees (row_of ident s.after) report.lines.items → state_of x.a_now x.b_now s.after ident ≡ clean_of rules None (state_of x.a x.b s.r.rows.items ident)
      by (inl told) = absurd (untold told)
      by (inr (inl left)) = absurd (settled (left_is_unsettled rules side_a side_b s.r.rows.items s.after ident sees (s.job).course_a (s.job).course_b honest_a honest_b took_a took_b refl quiet left))
      by (inr (inr made)) = made_is_due rules side_a side_b s.r.rows.items s.after ident sees (s.job).course_a (s.job).course_b honest_a honest_b took_a took_b refl quiet made settled
