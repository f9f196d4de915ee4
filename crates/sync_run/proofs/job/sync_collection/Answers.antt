use Rattle.sync_run.proofs.job.sync_collection.Goals as goal

pub returns-clause-step : goal.returns-clause-step
returns-clause-step g c =
    let job = c.read_and_go_on.ensures in
    record {
      later_a = job.changes_a.later;
      later_b = job.changes_b.later;
      later_k = job.keeper.later;
      told_a = job.changes_a.told;
      told_b = job.changes_b.told;
      told_k = job.keeper.told;
      lines = job.lines;
      cause = job.cause;
      faults_a = job.faults_a;
      faults_b = job.faults_b;
      job = job.job;
    }
