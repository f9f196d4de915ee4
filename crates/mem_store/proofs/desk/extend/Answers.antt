use Rattle.std.proofs.Common.{ap, sym, subst, ◌∙◌, Ok, Option}
use Rattle.std.specs.Prelude.{option_copied}
use Rattle.vdir_store.specs.VdirCalls.{change_of}
use Rattle.mem_store.specs.Memory.{side_of, bare}
use Rattle.mem_store.specs.Desks.{IsDraft}
use Rattle.mem_store.specs.declared.shelf.Shelf.{Shelf}
use Rattle.mem_store.proofs.DraftLemmas.{drafted}
use Rattle.mem_store.proofs.desk.extend.Goals as goal

pub returns-in-Done-clause-ok : goal.returns-in-Done-clause-ok
returns-in-Done-clause-ok c = λ w content draft.
    let does = rw (c.in-Ok.is ∙ ap Ok c.in-Done.is) at c.change.ensures in
    let at = subst (λ (d : Option Shelf). IsDraft w content d) (sym c.take.ensures.value ∙ c.in-Some.is) draft in
    drafted w (change_of c.args.href.now c.args.expect (option_copied c.args.new)) (bare content) (side_of c.in-Some.held) (side_of c.change.new.self) c.requires at does.0 does.1
