use Rattle.std.proofs.Common.{ℕ, List, arith}
use Rattle.std.specs.BTreeSet.{contains_text}
use Rattle.store_model.specs.Names.{file_stem, IsFreeName}
use Rattle.store_model.proofs.Moments.{Changes-weaker}
use Rattle.store_model.proofs.Waits.{acts_none, acts_trans}
use Rattle.mem_store.specs.Memory.{vcf_ending}
use Rattle.mem_store.specs.Desks.{desk_side, waiting_of}
use Rattle.mem_store.proofs.AnswerLemmas.{outside_is_put, new_after, new_run, stop_new}
use Rattle.mem_store.proofs.calls.put_new.Goals as goal

pub returns-in-Err-clause-changes : goal.returns-in-Err-clause-changes
returns-in-Err-clause-changes c = Changes-weaker (outside_is_put c.args.item.now) c.begin.ensures.changes

pub returns-in-Err-clause-answer : goal.returns-in-Err-clause-answer
returns-in-Err-clause-answer c = λ sound.
    let may : List ℕ → Type 0 = λ href. IsFreeName (contains_text c.args.names.now) (file_stem c.args.item.now.ident) vcf_ending href in
    stop_new c.args.waits may c.args.item.now (desk_side c.args.desk.now) (desk_side c.begin.new.self) (waiting_of c.args.desk.now) (waiting_of c.begin.new.self) c.in-Err.error c.in-Err.ensures.stops c.begin.ensures.waiting (c.begin.ensures.changes.told sound).1

pub returns-in-Ok-clause-changes : goal.returns-in-Ok-clause-changes
returns-in-Ok-clause-changes c =
    let may : List ℕ → Type 0 = λ href. IsFreeName (contains_text c.args.names.now) (file_stem c.args.item.now.ident) vcf_ending href in
    record {
      later = omega (arith, c.begin.ensures.changes.later, c.put_item.ensures.count);
      told = λ sound.
          let mid = c.begin.ensures.changes.told sound in
          let answer = new_after c.args.waits may c.args.item.now (desk_side c.args.desk.now) (desk_side c.begin.new.self) (desk_side c.put_item.new.desk) (waiting_of c.args.desk.now) (waiting_of c.begin.new.self) (waiting_of c.put_item.new.desk) c.put_item.result c.begin.ensures.waiting mid.1 c.put_item.ensures.answer in
          (c.put_item.ensures.sound mid.0, new_run c.args.waits may c.args.item.now (desk_side c.args.desk.now) (desk_side c.put_item.new.desk) (waiting_of c.args.desk.now) (waiting_of c.put_item.new.desk) c.put_item.result answer);
    }

pub returns-in-Ok-clause-answer : goal.returns-in-Ok-clause-answer
returns-in-Ok-clause-answer c = λ sound.
    let may : List ℕ → Type 0 = λ href. IsFreeName (contains_text c.args.names.now) (file_stem c.args.item.now.ident) vcf_ending href in
    let mid = c.begin.ensures.changes.told sound in
    new_after c.args.waits may c.args.item.now (desk_side c.args.desk.now) (desk_side c.begin.new.self) (desk_side c.put_item.new.desk) (waiting_of c.args.desk.now) (waiting_of c.begin.new.self) (waiting_of c.put_item.new.desk) c.put_item.result c.begin.ensures.waiting mid.1 c.put_item.ensures.answer

pub returns-in-Ok-clause-acts : goal.returns-in-Ok-clause-acts
returns-in-Ok-clause-acts c sound = acts_trans (acts_none (c.begin.ensures.changes.told sound).1) c.put_item.ensures.acts
