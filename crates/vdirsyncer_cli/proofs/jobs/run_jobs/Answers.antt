use Rattle.std.proofs.Common.{◌+◌, ◌∙◌, drop, refl}
use Rattle.vdirsyncer_cli.proofs.JobListLaws.{none_yet, turn, all_ran, stopped, at_job, at_end, may_run_at}
use Rattle.vdirsyncer_cli.proofs.jobs.run_jobs.Goals as goal

pub loop-job-init : goal.loop-job-init
loop-job-init g c = record { whole = c.requires.whole; children = refl; so_far = none_yet _ _ _ _ _ _ _ _ _ _ c.new.ensures.items refl }

pub run_next-requires-clause-may_run : goal.run_next-requires-clause-may_run
run_next-requires-clause-may_run g c κs within = may_run_at c.args.jobs.now c.loop-job.job-index c.job-item.result c.loop-job-test.true c.job-item.is c.requires.may_run

pub loop-job-preserved : goal.loop-job-preserved
loop-job-preserved g c =
    record {
      whole = c.in-Ok.ensures.whole;
      children = c.in-Ok.ensures.children ∙ c.loop-job.invariant.children;
      so_far = turn _ _ _ _ _ _ _ (drop (c.loop-job.job-index + 1) c.args.jobs.now) c.job-item.result _ _ _ _ _ _ _ _
          (at_job _ _ _ _ _ c.args.jobs.now c.loop-job.job-index c.job-item.result _ _ _ _ _ _ c.loop-job-test.true c.job-item.is c.loop-job.invariant.so_far)
          c.in-Ok.ensures.ran c.in-Ok.ensures.spoke;
    }

pub returns-in-Err-clause-ran : goal.returns-in-Err-clause-ran
returns-in-Err-clause-ran g c =
    stopped _ _ _ _ _ _ _ (drop (c.loop-job.job-index + 1) c.args.jobs.now) c.job-item.result _ _ _ _ _ _ _ c.run_next.new.progress _
    (at_job _ _ _ _ _ c.args.jobs.now c.loop-job.job-index c.job-item.result _ _ _ _ _ _ c.loop-job-test.true c.job-item.is c.loop-job.invariant.so_far)
    c.in-Err.ensures.stopped refl refl refl

pub returns-clause-ran : goal.returns-clause-ran
returns-clause-ran g c = all_ran _ _ _ _ _ _ _ _ _ _ _ _ (at_end _ _ _ _ _ c.args.jobs.now c.loop-job.job-index _ _ _ _ _ _ c.loop-job-test.false c.loop-job.invariant.so_far)
