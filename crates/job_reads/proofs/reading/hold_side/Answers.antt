use Rattle.std.proofs.Common.{refl}
use Rattle.store_model.proofs.Moments.{Changes-weaker}
use Rattle.side_reads.specs.Holdings.{asked}
use Rattle.job_reads.proofs.ReadLemmas.{taken_count, get_same}
use Rattle.job_reads.proofs.reading.hold_side.Goals as goal

pub returns-in-Ok-of-clause-changes : goal.returns-in-Ok-of-clause-changes
returns-in-Ok-of-clause-changes g c = Changes-weaker (get_same c.deref-2.result.now (asked c.args.side c.args.rows.now c.args.entries.items) (rw (c.deref-2.ensures.value, c.in-Ok-asked.ensures, c.in-Ok.ensures, c.deref.ensures.value) refl)) c.get.ensures.changes

pub returns-in-Ok-of-clause-answer : goal.returns-in-Ok-of-clause-answer
returns-in-Ok-of-clause-answer g c told =
    (c.in-Ok-get.fetched, rw (c.deref-2.ensures.value, c.in-Ok-asked.ensures, c.in-Ok.ensures, c.deref.ensures.value) at (c.in-Ok-get.ensures.answer told), rw c.in-Ok.ensures at c.in-Ok-of.ensures)

pub returns-in-Ok-of-clause-count : goal.returns-in-Ok-of-clause-count
returns-in-Ok-of-clause-count g c = taken_count c.in-Ok.places.side c.in-Ok.places.rows c.in-Ok-get.fetched.items c.args.entries.items c.in-Ok-of.holding.seen.items c.in-Ok-of.holding.items.items c.in-Ok-of.ensures

pub returns-in-Ok-get-clause-changes : goal.returns-in-Ok-get-clause-changes
returns-in-Ok-get-clause-changes g c = Changes-weaker (get_same c.deref-2.result.now (asked c.args.side c.args.rows.now c.args.entries.items) (rw (c.deref-2.ensures.value, c.in-Ok-asked.ensures, c.in-Ok.ensures, c.deref.ensures.value) refl)) c.get.ensures.changes

pub returns-clause-changes : goal.returns-clause-changes
returns-clause-changes g c = Changes-weaker (get_same c.deref-2.result.now (asked c.args.side c.args.rows.now c.args.entries.items) (rw (c.deref-2.ensures.value, c.in-Ok-asked.ensures, c.in-Ok.ensures, c.deref.ensures.value) refl)) c.get.ensures.changes
