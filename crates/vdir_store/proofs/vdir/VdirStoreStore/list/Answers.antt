use Rattle.std.proofs.Common.{Ok, Err}
use Rattle.store_model.proofs.Moments.{listed_anew}
use Rattle.vdir_store.specs.Vdir.{side_of}
use Rattle.vdir_store.proofs.vdir.VdirStoreStore.list.Goals as goal

pub returns-in-Ok-clause-answer : goal.returns-in-Ok-clause-answer
returns-in-Ok-clause-answer g c told =
    listed_anew (λ c. ⊥) (side_of c.args.self.now.ending (g.F.Folder.state c.args.self.now.folder)) (side_of c.args.self.now.ending (g.F.Folder.state c.refresh.new.folder)) (Ok c.in-Ok.entries) (λ c never. never) (rw (c.as_str.ensures, c.in-Ok.is) at (c.refresh.ensures.answer told.1))

pub returns-in-Err-clause-answer : goal.returns-in-Err-clause-answer
returns-in-Err-clause-answer g c told =
    listed_anew (λ c. ⊥) (side_of c.args.self.now.ending (g.F.Folder.state c.args.self.now.folder)) (side_of c.args.self.now.ending (g.F.Folder.state c.refresh.new.folder)) (Err c.in-Err.error) (λ c never. never) (rw (c.as_str.ensures, c.in-Err.is) at (c.refresh.ensures.answer told.1))

pub returns-in-Ok-clause-changes : goal.returns-in-Ok-clause-changes
returns-in-Ok-clause-changes g c = let e = rw c.as_str.ensures at c.refresh.ensures.changes in record { later = e.later; told = λ told. let end = e.told told.1 in ((told.0, end.0), end.1) }

pub returns-in-Err-clause-changes : goal.returns-in-Err-clause-changes
returns-in-Err-clause-changes g c = let e = rw c.as_str.ensures at c.refresh.ensures.changes in record { later = e.later; told = λ told. let end = e.told told.1 in ((told.0, end.0), end.1) }
