use Rattle.std.proofs.Common.{◌+◌, take, drop, refl, ◌∙◌}
use Rattle.store_model.proofs.Moments.{Changes-refl, Changes-trans, Changes-weaker, Since-from_changes}
use Rattle.mem_store.specs.Desks.{desk_side}
use Rattle.vdir_store.proofs.GetLemmas.{get_none, get_stops, get_end, get_turn, at_turn, get_of_these, asked_none, asked_turn, asked_end}
use Rattle.mem_store.proofs.calls.fetch_all.Goals as goal

pub loop-href-init : goal.loop-href-init
loop-href-init c = record { changes = Changes-refl c.args.desk.now; asked = asked_none c.new-fetched.result.items c.new-fetched.ensures.items; waiting = refl; so_far = λ told. get_none (desk_side c.args.desk.now) c.new-fetched.result.items c.new-fetched.ensures.items }

pub returns-in_default-clause-changes : goal.returns-in_default-clause-changes
returns-in_default-clause-changes c = Changes-trans c.loop-href.invariant.changes (Changes-weaker (get_of_these c.args.hrefs.now c.loop-href.href-index c.href-item.result c.as_str.result.now c.loop-href-test.true c.href-item.is c.as_str.ensures) c.fetch.ensures.changes)

pub returns-in-Err-clause-changes : goal.returns-in-Err-clause-changes
returns-in-Err-clause-changes c = Changes-trans c.loop-href.invariant.changes (Changes-weaker (get_of_these c.args.hrefs.now c.loop-href.href-index c.href-item.result c.as_str.result.now c.loop-href-test.true c.href-item.is c.as_str.ensures) c.fetch.ensures.changes)

pub returns-in-Err-clause-answer : goal.returns-in-Err-clause-answer
returns-in-Err-clause-answer c told = let inv = c.loop-href.invariant in let s = desk_side c.args.desk.now in let m = desk_side c.loop-href.desk in let t = desk_side c.fetch.new.desk in let all = c.args.hrefs.now in let i = c.loop-href.href-index in let mid = (inv.changes.told told).0 in let first = Since-from_changes inv.changes told in let second = Since-from_changes c.fetch.ensures.changes mid in get_stops (take i all) all (drop (i + 1) all) c.loop-href.fetched.items s m t c.as_str.result.now c.in-Err.error first second (inv.so_far told) (rw c.in-Err.is at (c.fetch.ensures.answer mid)) (at_turn all i c.href-item.result c.as_str.result.now c.loop-href-test.true c.href-item.is c.as_str.ensures)

pub loop-href-preserved : goal.loop-href-preserved
loop-href-preserved c = record { changes = Changes-trans c.loop-href.invariant.changes (Changes-weaker (get_of_these c.args.hrefs.now c.loop-href.href-index c.href-item.result c.as_str.result.now c.loop-href-test.true c.href-item.is c.as_str.ensures) c.fetch.ensures.changes); asked = asked_turn c.args.hrefs.now c.loop-href.href-index c.href-item.result c.as_str.result.now c.loop-href.fetched.items c.push.new.self.items c.in-Ok.one c.loop-href-test.true c.href-item.is c.as_str.ensures c.in-Ok-push.ensures.items c.loop-href.invariant.asked c.in-Ok.ensures.asked; waiting = c.fetch.ensures.waiting ∙ c.loop-href.invariant.waiting; so_far = λ told. let inv = c.loop-href.invariant in let s = desk_side c.args.desk.now in let m = desk_side c.loop-href.desk in let t = desk_side c.fetch.new.desk in let all = c.args.hrefs.now in let i = c.loop-href.href-index in let mid = (inv.changes.told told).0 in let first = Since-from_changes inv.changes told in let second = Since-from_changes c.fetch.ensures.changes mid in get_turn all i c.href-item.result c.as_str.result.now c.loop-href.fetched.items c.push.new.self.items s m t c.in-Ok.one c.loop-href-test.true c.href-item.is c.as_str.ensures c.in-Ok-push.ensures.items first second (inv.so_far told) (rw c.in-Ok.is at (c.fetch.ensures.answer mid)) }

pub returns-clause-answer : goal.returns-clause-answer
returns-clause-answer c told = get_end c.args.hrefs.now c.loop-href.href-index (desk_side c.args.desk.now) (desk_side c.loop-href.desk) c.loop-href.fetched c.loop-href-test.false (c.loop-href.invariant.so_far told)

pub returns-clause-asked : goal.returns-clause-asked
returns-clause-asked c = asked_end c.args.hrefs.now c.loop-href.href-index c.loop-href.fetched.items c.loop-href-test.false c.loop-href.invariant.asked
