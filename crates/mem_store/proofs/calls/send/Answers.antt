use Rattle.std.proofs.Common.{[], ◌∷◌, arith}
use Rattle.std.specs.Prelude.{option_copied}
use Rattle.store_model.proofs.Moments.{Changes-weaker}
use Rattle.store_model.proofs.Waits.{over_run, acts_none, acts_trans}
use Rattle.vdir_store.specs.VdirCalls.{change_of}
use Rattle.mem_store.specs.Desks.{desk_side, waiting_of}
use Rattle.mem_store.proofs.AnswerLemmas.{outside_is_of_these, over_after, stop_over}
use Rattle.mem_store.proofs.calls.send.Goals as goal

pub returns-in-Err-clause-changes : goal.returns-in-Err-clause-changes
returns-in-Err-clause-changes c = Changes-weaker (outside_is_of_these (change_of c.args.href.now c.args.expect (option_copied c.args.new) ∷ [])) c.begin.ensures.changes

pub returns-in-Err-clause-answer : goal.returns-in-Err-clause-answer
returns-in-Err-clause-answer c = λ sound.
    stop_over c.args.waits (change_of c.args.href.now c.args.expect (option_copied c.args.new)) (desk_side c.args.desk.now) (desk_side c.begin.new.self) (waiting_of c.args.desk.now) (waiting_of c.begin.new.self) c.in-Err.error c.in-Err.ensures.stops c.begin.ensures.waiting (c.begin.ensures.changes.told sound).1

pub returns-in-Ok-clause-changes : goal.returns-in-Ok-clause-changes
returns-in-Ok-clause-changes c =
    let change = change_of c.args.href.now c.args.expect (option_copied c.args.new) in
    record {
      later = omega (arith, c.begin.ensures.changes.later, c.send.ensures.count);
      told = λ sound.
          let mid = c.begin.ensures.changes.told sound in
          let answer = over_after c.args.waits change (desk_side c.args.desk.now) (desk_side c.begin.new.self) (desk_side c.send.new.self) (waiting_of c.args.desk.now) (waiting_of c.begin.new.self) (waiting_of c.send.new.self) c.send.result c.begin.ensures.waiting mid.1 c.send.ensures.answer in
          (c.send.ensures.sound mid.0, over_run c.args.waits change (desk_side c.args.desk.now) (desk_side c.send.new.self) (waiting_of c.args.desk.now) (waiting_of c.send.new.self) c.send.result answer);
    }

pub returns-in-Ok-clause-answer : goal.returns-in-Ok-clause-answer
returns-in-Ok-clause-answer c = λ sound.
    let mid = c.begin.ensures.changes.told sound in
    over_after c.args.waits (change_of c.args.href.now c.args.expect (option_copied c.args.new)) (desk_side c.args.desk.now) (desk_side c.begin.new.self) (desk_side c.send.new.self) (waiting_of c.args.desk.now) (waiting_of c.begin.new.self) (waiting_of c.send.new.self) c.send.result c.begin.ensures.waiting mid.1 c.send.ensures.answer

pub returns-in-Ok-clause-acts : goal.returns-in-Ok-clause-acts
returns-in-Ok-clause-acts c sound = acts_trans (acts_none (c.begin.ensures.changes.told sound).1) c.send.ensures.acts
