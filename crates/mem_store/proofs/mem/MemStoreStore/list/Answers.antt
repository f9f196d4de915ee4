use Rattle.std.proofs.Common.{Ok}
use Rattle.store_model.proofs.Moments.{listed_anew}
use Rattle.mem_store.specs.Desks.{desk_side}
use Rattle.mem_store.proofs.mem.MemStoreStore.list.Goals as goal

pub returns-in-Ok-clause-answer : goal.returns-in-Ok-clause-answer
returns-in-Ok-clause-answer c told =
    listed_anew (λ c. ⊥) (desk_side c.args.self.now.desk) (desk_side c.list.new.desk) (Ok c.in-Ok.entries) (λ c never. never) (rw c.in-Ok.is at (c.list.ensures.answer told))
