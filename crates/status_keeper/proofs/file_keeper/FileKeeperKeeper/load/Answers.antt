use Rattle.status_keeper.specs.FileStatus.{state_of}
use Rattle.status_keeper.proofs.Committing.{load_run}
use Rattle.status_keeper.proofs.file_keeper.FileKeeperKeeper.load.Goals as goal

pub returns-in-Ok-clause-changes : goal.returns-in-Ok-clause-changes
returns-in-Ok-clause-changes g c =
    record {
      later = c.load_rows.ensures.later;
      told = λ told. (c.load_rows.ensures.told told, load_run (state_of (g.F.Folder.state c.args.self.now.folder)) (state_of (g.F.Folder.state c.load_rows.new.folder)) c.load_rows.result (c.load_rows.ensures.answer told));
    }

pub returns-in-Err-clause-changes : goal.returns-in-Err-clause-changes
returns-in-Err-clause-changes g c =
    record {
      later = c.load_rows.ensures.later;
      told = λ told. (c.load_rows.ensures.told told, load_run (state_of (g.F.Folder.state c.args.self.now.folder)) (state_of (g.F.Folder.state c.load_rows.new.folder)) c.load_rows.result (c.load_rows.ensures.answer told));
    }
