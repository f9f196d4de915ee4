use Rattle.std.proofs.Common.{◌≡◌, length, ap, arith}
use Rattle.std.proofs.lemmas.Grind.{common_steps}
use Rattle.store_model.proofs.Moments.{Changes-weaker, Changes-trans}
use Rattle.store_model.specs.declared.store.StoreError.TheVariants.{Fault}
use Rattle.mem_store.specs.Desks.{desk_side}
use Rattle.mem_store.proofs.AnswerLemmas.{outside_is_get, get_after, stop_get}
use Rattle.mem_store.proofs.calls.get.Goals as goal

pub returns-in-Err-clause-changes : goal.returns-in-Err-clause-changes
returns-in-Err-clause-changes c = Changes-weaker (outside_is_get c.args.hrefs.now) c.begin.ensures.changes

pub returns-then-fails-clause-changes : goal.returns-then-fails-clause-changes
returns-then-fails-clause-changes c = Changes-weaker (outside_is_get c.args.hrefs.now) c.begin.ensures.changes

pub returns-else-fails-clause-changes : goal.returns-else-fails-clause-changes
returns-else-fails-clause-changes c = Changes-trans (Changes-weaker (outside_is_get c.args.hrefs.now) c.begin.ensures.changes) c.fetch_all-in-Ok.ensures.changes

pub returns-in-Err-clause-answer : goal.returns-in-Err-clause-answer
returns-in-Err-clause-answer c = λ sound. stop_get (λ _. ⊥) (desk_side c.args.desk.now) (desk_side c.begin.new.self) c.args.hrefs.now c.in-Err.error (λ e. let none : length c.args.hrefs.now ≡ 0 = ap length e in grind (arith, common_steps)) c.in-Err.ensures.stops (c.begin.ensures.changes.told sound).1

pub returns-then-fails-clause-answer : goal.returns-then-fails-clause-answer
returns-then-fails-clause-answer c = λ sound. stop_get (λ _. ⊥) (desk_side c.args.desk.now) (desk_side c.begin.new.self) c.args.hrefs.now Fault (λ e. let none : length c.args.hrefs.now ≡ 0 = ap length e in grind (arith, common_steps)) tt (c.begin.ensures.changes.told sound).1

pub returns-else-fails-clause-answer : goal.returns-else-fails-clause-answer
returns-else-fails-clause-answer c = λ sound.
    let mid = c.begin.ensures.changes.told sound in
    get_after (λ _. ⊥) (desk_side c.args.desk.now) (desk_side c.begin.new.self) (desk_side c.fetch_all-in-Ok.new.desk) c.args.hrefs.now c.fetch_all-in-Ok.result mid.1 (c.fetch_all-in-Ok.ensures.answer mid.0)
