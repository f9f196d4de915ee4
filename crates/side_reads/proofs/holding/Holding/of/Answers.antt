use Rattle.std.proofs.Common.{sym, subst, List, [], ◌∷◌, ◌++◌, Option}
use Rattle.item_text.specs.Items.{ItemValue}
use Rattle.sync_plan.specs.declared.seen.Seen.{Seen}
use Rattle.side_reads.proofs.HoldingLemmas.{TakenSoFar, next}
use Rattle.side_reads.proofs.holding.Holding.of.Goals as goal

pub loop-entry-preserved : goal.loop-entry-preserved
loop-entry-preserved c =
    let more = next c.args.places.now.side c.args.places.now.rows c.args.entries.items c.args.fetched.items c.loop-entry.fetched.items c.take_last.new.fetched.items c.loop-entry.entries.items c.pop.new.self.items c.in-Some.entry c.loop-entry.seen.items c.loop-entry.items.items c.in_ok-taken.taken.seen c.in_ok-taken.taken.item c.in-Some.ensures.items c.in_ok-taken.ensures c.loop-entry.invariant in
    subst (λ (l : List Seen). TakenSoFar c.args.places.now.side c.args.places.now.rows c.args.entries.items c.args.fetched.items c.pop.new.self.items c.take_last.new.fetched.items l c.push-in-Some.new.self.items) (sym c.in_ok-push.ensures.items)
    (subst (λ (l : List (Option ItemValue)). TakenSoFar c.args.places.now.side c.args.places.now.rows c.args.entries.items c.args.fetched.items c.pop.new.self.items c.take_last.new.fetched.items (c.loop-entry.seen.items ++ c.in_ok-taken.taken.seen ∷ []) l) (sym c.in_ok-push-2.ensures.items) more)
