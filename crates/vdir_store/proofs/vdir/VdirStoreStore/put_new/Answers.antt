use Rattle.std.proofs.Common.{[]}
use Rattle.std.specs.BTreeSet.{contains_text}
use Rattle.store_model.proofs.Once.{put_run}
use Rattle.store_model.specs.Names.{file_stem, IsFreeName}
use Rattle.vdir_store.specs.Vdir.{side_of}
use Rattle.vdir_store.proofs.vdir.VdirStoreStore.put_new.Goals as goal

pub returns-clause-answer : goal.returns-clause-answer
returns-clause-answer g c told = let answer = rw c.as_str.ensures at c.put_item.ensures.answer in answer told.0 told.1

pub returns-clause-changes : goal.returns-clause-changes
returns-clause-changes g c = record { later = c.put_item.ensures.later; told = λ told. let answer = rw c.as_str.ensures at c.put_item.ensures.answer in ((told.0, c.put_item.ensures.told told.1), put_run (λ href. IsFreeName (contains_text c.args.self.now.names) (file_stem c.args.item.now.ident) c.args.self.now.ending href) (side_of c.args.self.now.ending (g.F.Folder.state c.args.self.now.folder)) (side_of c.args.self.now.ending (g.F.Folder.state c.put_item.new.folder)) c.args.item.now [] [] c.put_item.result (answer told.0 told.1)) }
