use Rattle.sync_plan.specs.declared.report.Side.TheVariants.{A, B}
use Rattle.sync_plan.specs.Verdicts.{step_of}
use Rattle.sync_plan.specs.JobSteps.{written}
use Rattle.job_runs.proofs.NamedLemmas.{source_on}
use Rattle.job_runs.proofs.laws.writes_have_sources.Goals as goal

pub returns-clause-on_a : goal.returns-clause-on_a
returns-clause-on_a c rules a b before after href old new text honest job own = source_on a b href old new text job.course_a honest (λ ident. let one = job.each ident in (one.saw.a, written (step_of rules one.saw) one.answer A one.saw, one.writes_a)) own

pub returns-clause-on_b : goal.returns-clause-on_b
returns-clause-on_b c rules a b before after href old new text honest job own = source_on b a href old new text job.course_b honest (λ ident. let one = job.each ident in (one.saw.b, written (step_of rules one.saw) one.answer B one.saw, one.writes_b)) own
