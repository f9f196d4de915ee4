use Rattle.std.proofs.Common.{◌≤◌, Ok, Err, sym, subst, inr}
use Rattle.outside.specs.declared.planned.Planned.{Planned}
use Rattle.status_keeper.specs.declared.keeper.KeeperError.TheVariants.{Fault}
use Rattle.status_keeper.specs.MemStatus.{mem_state, found_of, commits_of}
use Rattle.status_keeper.proofs.Committing.{commit_run}
use Rattle.status_keeper.proofs.Memory.{rows_kept}
use Rattle.status_keeper.proofs.mem_keeper.MemKeeperKeeper.commit.Goals as goal

pub returns-in-Ok-clause-answer : goal.returns-in-Ok-clause-answer
returns-in-Ok-clause-answer c told = rows_kept c.args.self.now.rows.items c.keep.new.self.rows.items c.args.rows.now (commits_of c.args.self.now.past.items) (commits_of c.keep.new.self.past.items) c.in-Ok.ensures.rows c.in-Ok.ensures.past

pub returns-in-Ok-clause-changes : goal.returns-in-Ok-clause-changes
returns-in-Ok-clause-changes c =
    record {
      later = subst (λ (p : Planned). ((c.args.self.now).planned.faults).count ≤ (p.faults).count) (sym c.keep.ensures.planned) c.begin.ensures.later;
      told = λ told. (told, commit_run (found_of c.args.self.now.rows.items) (mem_state c.args.self.now) (mem_state c.keep.new.self) c.args.rows.now (Ok tt) (returns-in-Ok-clause-answer c told));
    }

pub returns-in-Ok-keep-clause-answer : goal.returns-in-Ok-keep-clause-answer
returns-in-Ok-keep-clause-answer c told = inr (rows_kept c.args.self.now.rows.items c.keep-in-ActsAndFails.new.self.rows.items c.args.rows.now (commits_of c.args.self.now.past.items) (commits_of c.keep-in-ActsAndFails.new.self.past.items) c.in-Ok-keep.ensures.rows c.in-Ok-keep.ensures.past)

pub returns-in-Ok-keep-clause-changes : goal.returns-in-Ok-keep-clause-changes
returns-in-Ok-keep-clause-changes c =
    record {
      later = subst (λ (p : Planned). ((c.args.self.now).planned.faults).count ≤ (p.faults).count) (sym c.keep-in-ActsAndFails.ensures.planned) c.begin.ensures.later;
      told = λ told. (told, commit_run (found_of c.args.self.now.rows.items) (mem_state c.args.self.now) (mem_state c.keep-in-ActsAndFails.new.self) c.args.rows.now (Err Fault) (returns-in-Ok-keep-clause-answer c told));
    }
