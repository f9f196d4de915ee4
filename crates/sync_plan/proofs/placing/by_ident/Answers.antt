use Rattle.std.proofs.Common.{◌<◌, ◌-◌, List, length, refl, sym, ◌∙◌, subst, arith}
use Rattle.std.proofs.lemmas.Option.{slice_get_read}
use Rattle.status_keeper.specs.Idents.{IsRising}
use Rattle.sync_plan.specs.declared.placing.Placed.{Placed}
use Rattle.sync_plan.specs.Placing.{place_in, placed_idents}
use Rattle.sync_plan.proofs.Indexes.{when_ok, IsSortedIndex, sorted_index, place_below, in_order, twin_found}
use Rattle.sync_plan.proofs.placing.by_ident.Goals as goal

pub bounds-list-first : goal.bounds-list-first
bounds-list-first c =
    let index : IsSortedIndex c.args.list.now c.sort_by_ident.new.placed.items = sorted_index c.args.list.now c.in-Ok.placed.items c.sort_by_ident.new.placed.items c.in-Ok.ensures c.sort_by_ident.ensures.permutation (when_ok c.sort_by_ident.result _ (sym c.is_err.ensures.value ∙ c.if-is_err.false) c.sort_by_ident.ensures.sorted) in
    let high : c.in-Some.i < length c.sort_by_ident.new.placed.items = subst (λ (l : List Placed). c.in-Some.i < length l) c.deref.ensures.value c.in-Some.ensures.place.1 in
    place_below c.args.list.now c.sort_by_ident.new.placed.items c.index-in-Some.result.now index.each (c.in-Some.i - 1, omega (arith, high, c.in-Some.ensures.place.0), sym c.index-in-Some.ensures)

pub bounds-list-second : goal.bounds-list-second
bounds-list-second c =
    let index : IsSortedIndex c.args.list.now c.sort_by_ident.new.placed.items = sorted_index c.args.list.now c.in-Ok.placed.items c.sort_by_ident.new.placed.items c.in-Ok.ensures c.sort_by_ident.ensures.permutation (when_ok c.sort_by_ident.result _ (sym c.is_err.ensures.value ∙ c.if-is_err.false) c.sort_by_ident.ensures.sorted) in
    let high : c.in-Some.i < length c.sort_by_ident.new.placed.items = subst (λ (l : List Placed). c.in-Some.i < length l) c.deref.ensures.value c.in-Some.ensures.place.1 in
    place_below c.args.list.now c.sort_by_ident.new.placed.items c.index-in-Some-2.result.now index.each (c.in-Some.i, high, sym c.index-in-Some-2.ensures)

pub returns-in-Some-clause-refused : goal.returns-in-Some-clause-refused
returns-in-Some-clause-refused c =
    let index : IsSortedIndex c.args.list.now c.sort_by_ident.new.placed.items = sorted_index c.args.list.now c.in-Ok.placed.items c.sort_by_ident.new.placed.items c.in-Ok.ensures c.sort_by_ident.ensures.permutation (when_ok c.sort_by_ident.result _ (sym c.is_err.ensures.value ∙ c.if-is_err.false) c.sort_by_ident.ensures.sorted) in
    let high : c.in-Some.i < length c.sort_by_ident.new.placed.items = subst (λ (l : List Placed). c.in-Some.i < length l) c.deref.ensures.value c.in-Some.ensures.place.1 in
    let low_place : place_in c.index-in-Some.result.now < length c.args.list.now = place_below c.args.list.now c.sort_by_ident.new.placed.items c.index-in-Some.result.now index.each (c.in-Some.i - 1, omega (arith, high, c.in-Some.ensures.place.0), sym c.index-in-Some.ensures) in
    let high_place : place_in c.index-in-Some-2.result.now < length c.args.list.now = place_below c.args.list.now c.sort_by_ident.new.placed.items c.index-in-Some-2.result.now index.each (c.in-Some.i, high, sym c.index-in-Some-2.ensures) in
    twin_found c.args.side c.args.list.now c.sort_by_ident.new.placed.items c.deref.result.now c.in-Some.i c.index-in-Some.result.now c.index-in-Some-2.result.now c.index-list-first.result c.index-list-second.result c.same_ident.result
    c.deref.ensures.value index c.in-Some.ensures.place.0 c.in-Some.ensures.place.1 c.in-Some.ensures.not_rising c.in-Some.ensures.before (sym c.index-in-Some.ensures) (sym c.index-in-Some-2.ensures)
    (slice_get_read c.args.list.now (length c.args.list.now) (place_in c.index-in-Some.result.now) c.index-list-first.result refl low_place c.index-list-first.is)
    (slice_get_read c.args.list.now (length c.args.list.now) (place_in c.index-in-Some-2.result.now) c.index-list-second.result refl high_place c.index-list-second.is)
    c.same_ident.ensures

pub returns-clause-ok : goal.returns-clause-ok
returns-clause-ok c =
    let index : IsSortedIndex c.args.list.now c.sort_by_ident.new.placed.items = sorted_index c.args.list.now c.in-Ok.placed.items c.sort_by_ident.new.placed.items c.in-Ok.ensures c.sort_by_ident.ensures.permutation (when_ok c.sort_by_ident.result _ (sym c.is_err.ensures.value ∙ c.if-is_err.false) c.sort_by_ident.ensures.sorted) in
    in_order c.args.list.now c.sort_by_ident.new.placed.items index (subst (λ (l : List Placed). IsRising (placed_idents l)) c.deref.ensures.value c.in-None.ensures.none)
