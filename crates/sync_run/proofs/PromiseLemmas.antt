-- A run keeps its promise.
use Rattle.std.proofs.Common.{inl, inr, List, Bool}
use Rattle.status_keeper.specs.declared.row.Row.{Row}
use Rattle.sync_plan.specs.declared.report.Side.TheVariants.{A, B}
use Rattle.sync_plan.specs.declared.report.Report.{Report}
use Rattle.sync_plan.specs.declared.rules.Rules.{Rules}
use Rattle.sync_plan.specs.Verdicts.{step_of}
use Rattle.sync_plan.specs.JobSteps.{written}
use Rattle.sync_plan.proofs.Keeping.{ident_keeps, undisputed_along}
use Rattle.job_runs.specs.Courses.{Course}
use Rattle.job_runs.specs.Jobs.{JobOf, state_of, IsHonest, OwnWrite}
use Rattle.job_runs.proofs.StepLemmas.{job_step}
use Rattle.job_runs.proofs.HeldLemmas.{by_step}
use Rattle.job_runs.proofs.NamedLemmas.{named_on_a, named_on_b, source_on}
use Rattle.job_reads.specs.Readings.{Span}
use Rattle.sync_run.specs.Ends.{IsJob, JobRun}
use Rattle.sync_run.specs.Promise.{Keeps, KeepsPromise, IsPromised}
use Rattle.sync_run.proofs.RunLemmas.{run_of}

keeps_all : (rules : Rules) (a b : Course) (before after : List Row) → JobOf rules a b before after → IsHonest a → IsHonest b → Keeps rules a b before after
keeps_all rules a b before after job honest_a honest_b =
    let step = job_step rules a b before after honest_a honest_b job in
    record {
      named_a = named_on_a rules a b before after honest_a honest_b job;
      named_b = named_on_b rules a b before after honest_a honest_b job;
      source_a = λ href old new text own. source_on a b href old new text job.course_a honest_a (λ ident. let one = job.each ident in (one.saw.a, written (step_of rules one.saw) one.answer A one.saw, one.writes_a)) own;
      source_b = λ href old new text own. source_on b a href old new text job.course_b honest_b (λ ident. let one = job.each ident in (one.saw.b, written (step_of rules one.saw) one.answer B one.saw, one.writes_b)) own;
      step = step;
      rows = by_step rules a b before after honest_a honest_b job;
      due = λ ident untouched undisputed.
          let same = ident_keeps rules (state_of a.entry b.entry before ident) (state_of a.exit b.exit after ident) (OwnWrite ident a) (OwnWrite ident b) (step.each ident untouched) undisputed in
          record { undisputed = undisputed_along rules (state_of a.entry b.entry before ident) (state_of a.exit b.exit after ident) same undisputed; same = same };
    }

kept_by : (force : Bool) (rules : Rules) (x : Span) → JobRun force rules x → KeepsPromise force rules x
kept_by force rules x run = record { run = run; keeps = keeps_all rules _ _ _ _ run.job }

pub promise_kept : (force : Bool) (rules : Rules) (waits_a waits_b : Bool) (x : Span) (report : Report) → IsJob force rules waits_a waits_b x report → IsPromised force rules x
promise_kept force rules waits_a waits_b x report job = elim (run_of force rules waits_a waits_b x report job) [
  | inl only ↦ inl only
  | inr run ↦ inr (kept_by force rules x run)
]
