use Rattle.std.proofs.Common.{◌≤◌, length, arith}
use Rattle.cli_jobs.proofs.JobLists.{start, turn, refused, whole}
use Rattle.cli_jobs.proofs.jobs.jobs_over.Goals as goal

pub loop-pair-init : goal.loop-pair-init
loop-pair-init c = start _ _ _ _ _ c.new-jobs.result c.new-jobs.ensures

pub returns-in-Err : goal.returns-in-Err
returns-in-Err c not_memory = refused _ _ _ _ c.args.pairs.now c.loop-pair.pair-index c.pair-item.result c.loop-pair.jobs c.in-Err.refusal c.loop-pair-test.true c.pair-item.is (c.in-Err.ensures not_memory) c.loop-pair.invariant

pub loop-pair-preserved : goal.loop-pair-preserved
loop-pair-preserved c = turn _ _ _ _ c.args.pairs.now c.loop-pair.pair-index c.pair-item.result c.loop-pair.jobs c.add.new.jobs c.in-Ok.job c.loop-pair-test.true c.pair-item.is c.in-Ok.ensures c.in_ok-add-in-Ok.ensures c.loop-pair.invariant

pub returns : goal.returns
returns c =
    let past : length c.args.pairs.now ≤ c.loop-pair.pair-index = omega arith in
    whole _ _ _ _ c.args.pairs.now c.loop-pair.pair-index c.loop-pair.jobs past c.loop-pair.invariant
