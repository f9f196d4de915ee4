use Rattle.config_fetch.specs.Filling.{world}
use Rattle.vdirsyncer_cli.proofs.WordsLaws.{silent, refused_file, was_read, refused_config, jobs_run}
use Rattle.vdirsyncer_cli.proofs.top_call.sync.Goals as goal

pub returns-in-Err-clause-run : goal.returns-in-Err-clause-run
returns-in-Err-clause-run g c =
    refused_file _ _ _ _ _ (world c.args.outfit.now c.args.input.now c.args.err.now) _ c.args.wanted.now c.in-Err.error _ _ _ (rw c.as_str-file.ensures at c.in-Err.ensures.read) c.in-Err.ensures.stay_told c.in-Err.ensures.children (silent g.S.Sink.count g.S.Sink.tells g.S.Sink.held c.args.out.now) (rw c.as_str-file.ensures at c.refuse_file.ensures)

pub returns-in-Err-settle-clause-run : goal.returns-in-Err-settle-clause-run
returns-in-Err-settle-clause-run g c =
    refused_config _ _ _ _ _ (world c.args.outfit.now c.args.input.now c.args.err.now) (world c.settle.new.outfit c.settle.new.input c.settle.new.err) c.read_through.new.outfit c.args.wanted.now c.in-Ok.bytes c.in-Err-settle.reason _ _ _
    (was_read _ _ _ _ _ _ _ _ _ (rw c.as_str-file.ensures at c.in-Ok.ensures.read) c.in-Ok.ensures.stay_told c.in-Ok.ensures.children c.in-Ok.ensures.child_told c.in-Err-settle.ensures.same c.in-Err-settle.ensures.stay_told)
    c.in-Err-settle.ensures.settles (silent g.S.Sink.count g.S.Sink.tells g.S.Sink.held c.args.out.now) c.refuse.ensures

pub run_jobs-progress-requires-clause-may_run : goal.run_jobs-progress-requires-clause-may_run
run_jobs-progress-requires-clause-may_run g c κs within = rw c.as_slice.ensures c.in-Ok-settle.ensures.may_run

pub returns-clause-run : goal.returns-clause-run
returns-clause-run g c =
    jobs_run _ _ _ _ _ (world c.args.outfit.now c.args.input.now c.args.err.now) (world c.settle.new.outfit c.settle.new.input c.settle.new.err) c.read_through.new.outfit _ c.args.wanted.now c.in-Ok.bytes c.in-Ok-settle.jobs c.run_jobs-progress.result _ _ _
    (was_read _ _ _ _ _ _ _ _ _ (rw c.as_str-file.ensures at c.in-Ok.ensures.read) c.in-Ok.ensures.stay_told c.in-Ok.ensures.children c.in-Ok.ensures.child_told c.in-Ok-settle.ensures.same c.in-Ok-settle.ensures.stay_told)
    c.in-Ok-settle.ensures.settles (rw c.as_slice.ensures at c.run_jobs-progress.ensures.ran) c.run_jobs-progress.ensures.children c.finish.ensures
