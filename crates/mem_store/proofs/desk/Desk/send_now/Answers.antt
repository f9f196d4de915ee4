use Rattle.std.proofs.Common.{refl, ap, ◌∙◌, Ok, inr}
use Rattle.std.specs.Prelude.{option_copied}
use Rattle.std.specs.Option.{option_map}
use Rattle.vdir_store.specs.Vdir.{held_of}
use Rattle.vdir_store.specs.VdirCalls.{change_of}
use Rattle.mem_store.specs.Memory.{side_of}
use Rattle.mem_store.proofs.DraftLemmas.{acted_now, etag_left, moved_at, still}
use Rattle.mem_store.proofs.desk.Desk.send_now.Goals as goal

pub returns-then-fails-clause-answer : goal.returns-then-fails-clause-answer
returns-then-fails-clause-answer c =
    let does = rw (c.in_ok-change.was ∙ ap Ok c.in-Done.is) at c.change.ensures in
    let acts = acted_now (change_of c.args.href.now c.args.expect (option_copied c.args.new)) (side_of c.args.self.now.shelf) (side_of c.change.new.self) c.requires does.0 does.1 in
    (inr acts.0, refl)

pub returns-else-fails-clause-answer : goal.returns-else-fails-clause-answer
returns-else-fails-clause-answer c =
    let does = rw (c.in_ok-change.was ∙ ap Ok c.in-Done.is) at c.change.ensures in
    let acts = acted_now (change_of c.args.href.now c.args.expect (option_copied c.args.new)) (side_of c.args.self.now.shelf) (side_of c.change.new.self) c.requires does.0 does.1 in
    (acts.0, etag_left acts.0.new (option_map held_of (option_copied c.args.new)) c.in_ok-etag.etag c.in_ok-etag.ensures acts.1, refl)

pub returns-else-fails-2-clause-answer : goal.returns-else-fails-2-clause-answer
returns-else-fails-2-clause-answer c =
    let does = rw (c.in_ok-change.was ∙ ap Ok c.in-Moved.is) at c.change.ensures in
    let s = side_of c.args.self.now.shelf in
    let t = side_of c.change.new.self in
    (still s t does.1, moved_at (change_of c.args.href.now c.args.expect (option_copied c.args.new)) s t does.0 does.1, refl)
