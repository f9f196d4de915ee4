use Rattle.vdir_store.proofs.vdir.VdirStoreStore.get.Goals as goal

pub returns-clause-answer : goal.returns-clause-answer
returns-clause-answer g c told = let answer = rw c.as_str.ensures at c.fetch_all.ensures.answer in answer told.1
