use Rattle.std.proofs.Common.{ap, ◌∙◌, Ok}
use Rattle.std.specs.Prelude.{option_copied}
use Rattle.vdir_store.specs.VdirCalls.{change_of}
use Rattle.mem_store.specs.Desks.{desk_side}
use Rattle.mem_store.proofs.DraftLemmas.{moved_at, still}
use Rattle.mem_store.proofs.desk.Desk.send_later.Goals as goal

pub returns-in-Moved-clause-answer : goal.returns-in-Moved-clause-answer
returns-in-Moved-clause-answer c =
    let does = rw (c.in_ok-wait.was ∙ ap Ok c.in-Moved.is) at c.wait.ensures.answer in
    let s = desk_side c.args.self.now in
    let t = desk_side c.wait.new.self in
    (still s t does.1, moved_at (change_of c.args.href.now c.args.expect (option_copied c.args.new)) s t does.0 does.1, does.2)
