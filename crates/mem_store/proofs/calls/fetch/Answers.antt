use Rattle.std.proofs.Common.{ap, ◌∙◌, Ok, arith}
use Rattle.outside.specs.Etag.{etag}
use Rattle.mem_store.specs.Desks.{desk_side}
use Rattle.mem_store.proofs.AnswerLemmas.{read_run, same_run, none_there, no_item, item_there}
use Rattle.mem_store.proofs.calls.fetch.Goals as goal

pub returns-in-Ok-None-clause-changes : goal.returns-in-Ok-None-clause-changes
returns-in-Ok-None-clause-changes c =
    let answer = rw (c.in-Ok-None.is ∙ ap Ok c.in-Ok-None.field-0-is) at c.read.ensures.answer in
    record { later = omega (arith, c.read.ensures.count); told = λ sound. (c.read.ensures.sound sound, same_run (desk_side c.args.desk.now) (desk_side c.read.new.self) answer.0) }

pub returns-in-Ok-None-clause-answer : goal.returns-in-Ok-None-clause-answer
returns-in-Ok-None-clause-answer c = λ sound.
    let answer = rw (c.in-Ok-None.is ∙ ap Ok c.in-Ok-None.field-0-is) at c.read.ensures.answer in
    none_there (desk_side c.args.desk.now) (desk_side c.read.new.self) c.args.name.now c.vanished.result c.vanished.ensures answer.0 answer.1

pub returns-in-Err-read-clause-changes : goal.returns-in-Err-read-clause-changes
returns-in-Err-read-clause-changes c =
    let answer = rw (c.in-Ok-Some.is ∙ ap Ok c.in-Ok-Some.field-0-is) at c.read.ensures.answer in
    record { later = omega (arith, c.read.ensures.count); told = λ sound. (c.read.ensures.sound sound, read_run (desk_side c.args.desk.now) (desk_side c.read.new.self) c.args.name.now c.in-Ok-Some.bytes.items answer.1) }

pub returns-in_err-etag-clause-changes : goal.returns-in_err-etag-clause-changes
returns-in_err-etag-clause-changes c =
    let answer = rw (c.in-Ok-Some.is ∙ ap Ok c.in-Ok-Some.field-0-is) at c.read.ensures.answer in
    record { later = omega (arith, c.read.ensures.count); told = λ sound. (c.read.ensures.sound sound, read_run (desk_side c.args.desk.now) (desk_side c.read.new.self) c.args.name.now c.in-Ok-Some.bytes.items answer.1) }

pub returns-in_err-href-clause-changes : goal.returns-in_err-href-clause-changes
returns-in_err-href-clause-changes c =
    let answer = rw (c.in-Ok-Some.is ∙ ap Ok c.in-Ok-Some.field-0-is) at c.read.ensures.answer in
    record { later = omega (arith, c.read.ensures.count); told = λ sound. (c.read.ensures.sound sound, read_run (desk_side c.args.desk.now) (desk_side c.read.new.self) c.args.name.now c.in-Ok-Some.bytes.items answer.1) }

pub returns-clause-changes : goal.returns-clause-changes
returns-clause-changes c =
    let answer = rw (c.in-Ok-Some.is ∙ ap Ok c.in-Ok-Some.field-0-is) at c.read.ensures.answer in
    record { later = omega (arith, c.read.ensures.count); told = λ sound. (c.read.ensures.sound sound, read_run (desk_side c.args.desk.now) (desk_side c.read.new.self) c.args.name.now c.in-Ok-Some.bytes.items answer.1) }

pub returns-in-Err-read-clause-answer : goal.returns-in-Err-read-clause-answer
returns-in-Err-read-clause-answer c = λ sound.
    let answer = rw (c.in-Ok-Some.is ∙ ap Ok c.in-Ok-Some.field-0-is) at c.read.ensures.answer in
    no_item (desk_side c.args.desk.now) (desk_side c.read.new.self) c.args.name.now c.in-Ok-Some.bytes.items c.bad_item.result c.in-Err-read.error c.bad_item.ensures (rw c.as_slice.ensures.value at c.in-Err-read.ensures.answer) answer.0 answer.1

pub returns-clause-answer : goal.returns-clause-answer
returns-clause-answer c = λ sound.
    let answer = rw (c.in-Ok-Some.is ∙ ap Ok c.in-Ok-Some.field-0-is) at c.read.ensures.answer in
    item_there (desk_side c.args.desk.now) (desk_side c.read.new.self) c.args.name.now c.in-Ok-Some.bytes.items _ c.in_ok-href.ensures (c.in_ok-etag.ensures ∙ ap etag c.as_slice-2.ensures.value) (c.in-Ok.ensures.kept.0 ∙ c.as_slice.ensures.value) c.in-Ok.ensures.kept.1 answer.0 answer.1
