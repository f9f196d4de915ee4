use Rattle.std.proofs.Common.{List, subst, sym}
use Rattle.std.specs.Prelude.{Vec}
use Rattle.std.specs.declared.alloc.Global.{Global}
use Rattle.std.proofs.lemmas.Result.{IfOk-weaker}
use Rattle.sync_plan.specs.declared.placing.Placed.{Placed}
use Rattle.sync_plan.specs.declared.seen.Planned.{Planned}
use Rattle.sync_plan.specs.Merging.{IsMerged}
use Rattle.sync_plan.specs.Placing.{IsIndexInOrder}
use Rattle.sync_plan.specs.Plans.{IsPlan}
use Rattle.sync_plan.proofs.Finds.{is_plan, refused_b}
use Rattle.sync_plan.proofs.Indexes.{no_twin}
use Rattle.sync_plan.proofs.planning.plan.Goals as goal

pub returns-in-Err-by_ident-clause-refused : goal.returns-in-Err-by_ident-clause-refused
returns-in-Err-by_ident-clause-refused c =
    refused_b c.args.a.now c.args.b.now c.in-Err-by_ident.error (no_twin c.args.a.now c.in-Ok.sorted.items c.in-Ok.ensures.ok) c.in-Err-by_ident.ensures.refused

pub returns-clause-ok : goal.returns-clause-ok
returns-clause-ok c =
    let index_a : IsIndexInOrder c.args.a.now c.deref.result.now = subst (λ (l : List Placed). IsIndexInOrder c.args.a.now l) (sym c.deref.ensures.value) c.in-Ok.ensures.ok in
    let index_b : IsIndexInOrder c.args.b.now c.deref-2.result.now = subst (λ (l : List Placed). IsIndexInOrder c.args.b.now l) (sym c.deref-2.ensures.value) c.in-Ok-by_ident.ensures.ok in
    let Merged : Vec Planned Global → Type 0 = λ steps. IsMerged c.deref.result.now c.deref-2.result.now c.args.rows.now c.args.rules.now steps.items in
    let Planning : Vec Planned Global → Type 0 = λ steps. IsPlan c.args.a.now c.args.b.now c.args.rows.now c.args.rules.now steps.items in
    IfOk-weaker c.merge.result Merged Planning (λ steps merged. is_plan c.args.a.now c.args.b.now c.deref.result.now c.deref-2.result.now c.args.rows.now c.args.rules.now steps.items index_a index_b merged) c.merge.ensures.ok
