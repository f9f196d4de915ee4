use Rattle.status_keeper.specs.FileStatus.{state_of}
use Rattle.status_keeper.proofs.Committing.{commit_run}
use Rattle.status_keeper.proofs.file_keeper.FileKeeperKeeper.commit.Goals as goal

pub returns-clause-changes : goal.returns-clause-changes
returns-clause-changes g c =
    record {
      later = c.commit_rows.ensures.later;
      told = λ told. (c.commit_rows.ensures.told told, commit_run c.args.self.now.found (state_of (g.F.Folder.state c.args.self.now.folder)) (state_of (g.F.Folder.state c.commit_rows.new.folder)) c.args.rows.now c.commit_rows.result (c.commit_rows.ensures.answer told));
    }
