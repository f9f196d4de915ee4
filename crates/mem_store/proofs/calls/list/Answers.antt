use Rattle.std.proofs.Common.{Err}
use Rattle.store_model.specs.StoreCalls.{IsListing}
use Rattle.store_model.specs.declared.store.StoreError.TheVariants.{Fault}
use Rattle.mem_store.specs.Desks.{desk_side}
use Rattle.mem_store.proofs.AnswerLemmas.{listed_still, stop_listed}
use Rattle.mem_store.proofs.calls.list.Goals as goal

pub returns-in-Err-clause-answer : goal.returns-in-Err-clause-answer
returns-in-Err-clause-answer c = λ sound. stop_listed (desk_side c.args.desk.now) (desk_side c.begin.new.self) c.in-Err.error c.in-Err.ensures.stops (c.begin.ensures.changes.told sound).1

pub returns-then-fails-clause-answer : goal.returns-then-fails-clause-answer
returns-then-fails-clause-answer c = λ sound. listed_still (desk_side c.args.desk.now) (desk_side c.begin.new.self) (IsListing (Err Fault)) (c.begin.ensures.changes.told sound).1 tt

pub returns-else-fails-clause-answer : goal.returns-else-fails-clause-answer
returns-else-fails-clause-answer c = λ sound. listed_still (desk_side c.args.desk.now) (desk_side c.begin.new.self) (IsListing c.refresh.result) (c.begin.ensures.changes.told sound).1 (rw c.shelf.ensures at c.refresh.ensures.answer)
