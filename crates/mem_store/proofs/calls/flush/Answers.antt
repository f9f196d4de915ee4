use Rattle.std.proofs.Common.{◌≡◌, [], map, ap, arith}
use Rattle.std.proofs.lemmas.Grind.{common_steps}
use Rattle.store_model.proofs.Moments.{Changes-weaker}
use Rattle.mem_store.specs.Desks.{desk_side, waiting_of, pending_change}
use Rattle.mem_store.proofs.AnswerLemmas.{outside_is_of_these, flush_after, flush_run, stop_flush, none_pending}
use Rattle.mem_store.proofs.calls.flush.Goals as goal

pub returns-in-Err-clause-changes : goal.returns-in-Err-clause-changes
returns-in-Err-clause-changes c = Changes-weaker (outside_is_of_these (waiting_of c.args.desk.now)) c.begin.ensures.changes

pub returns-in-Err-clause-answer : goal.returns-in-Err-clause-answer
returns-in-Err-clause-answer c = λ sound.
    stop_flush (desk_side c.args.desk.now) (desk_side c.begin.new.self) (waiting_of c.args.desk.now) (waiting_of c.begin.new.self) c.is_empty-idle.result c.in-Err.error c.stopped.result
    (λ h. let none : c.args.desk.now.waiting.items ≡ [] = grind (arith, common_steps) in ap (map pending_change) none)
    (λ h empty. let none = none_pending c.args.desk.now.waiting.items empty in grind (arith, common_steps))
    c.begin.ensures.waiting c.in-Err.ensures.stops c.stopped.ensures (c.begin.ensures.changes.told sound).1

pub returns-in-Ok-clause-changes : goal.returns-in-Ok-clause-changes
returns-in-Ok-clause-changes c = record {
  later = omega (arith, c.begin.ensures.changes.later, c.flush.ensures.count);
  told = λ sound.
      let mid = c.begin.ensures.changes.told sound in
      let answer = flush_after (desk_side c.args.desk.now) (desk_side c.begin.new.self) (desk_side c.flush.new.self) (waiting_of c.args.desk.now) (waiting_of c.begin.new.self) (waiting_of c.flush.new.self) c.flush.result c.begin.ensures.waiting mid.1 (c.flush.ensures.answer mid.0) in
      (c.flush.ensures.sound mid.0, flush_run (desk_side c.args.desk.now) (desk_side c.flush.new.self) (waiting_of c.args.desk.now) (waiting_of c.flush.new.self) c.flush.result answer);
}

pub returns-in-Ok-clause-answer : goal.returns-in-Ok-clause-answer
returns-in-Ok-clause-answer c = λ sound.
    let mid = c.begin.ensures.changes.told sound in
    flush_after (desk_side c.args.desk.now) (desk_side c.begin.new.self) (desk_side c.flush.new.self) (waiting_of c.args.desk.now) (waiting_of c.begin.new.self) (waiting_of c.flush.new.self) c.flush.result c.begin.ensures.waiting mid.1 (c.flush.ensures.answer mid.0)
