use Rattle.std.proofs.Common.{◌≡◌, ap, refl, arith, subst, ◌∙◌, sym, map, [], Option}
use Rattle.std.proofs.lemmas.Grind.{common_steps}
use Rattle.mem_store.specs.Memory.{side_of}
use Rattle.mem_store.specs.Desks.{pending_change, waiting_of, desk_side, IsDraft}
use Rattle.mem_store.specs.declared.shelf.Shelf.{Shelf}
use Rattle.mem_store.proofs.DraftLemmas.{flushes, flushes_none}
use Rattle.mem_store.proofs.desk.Desk.let_act.Goals as goal

pub returns-then-is_empty-clause-answer : goal.returns-then-is_empty-clause-answer
returns-then-is_empty-clause-answer c sound =
    let empty : c.args.self.now.waiting.items ≡ [] = grind (arith, common_steps) in
    let none : waiting_of c.args.self.now ≡ [] = ap (map pending_change) empty in
    (flushes_none (waiting_of c.args.self.now) (desk_side c.args.self.now) none, none)

pub returns-clause-answer : goal.returns-clause-answer
returns-clause-answer c sound =
    let w = waiting_of c.args.self.now in
    let s = desk_side c.args.self.now in
    let at = subst (λ (d : Option Shelf). IsDraft w s.content d) (sym c.take.ensures.value ∙ c.in-Some.is) sound in
    (flushes w s (side_of c.in-Some.draft) (side_of c.take_over.new.self) refl at c.in_ok-take_over.ensures.ok, ap (map pending_change) c.clear.ensures.items)
