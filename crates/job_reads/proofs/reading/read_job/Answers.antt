use Rattle.std.proofs.Common.{List, Err, refl, sym, subst}
use Rattle.store_model.proofs.Known.{listed_known, read_known}
use Rattle.sync_plan.specs.declared.report.Side.TheVariants.{A, B}
use Rattle.store_model.proofs.Moments.{Changes-trans, Changes-weaker, Evolves-weaker, Since-from_evolves, outside_is_no_write, get_is_no_write}
use Rattle.status_keeper.specs.declared.row.Row.{Row}
use Rattle.store_model.specs.StoreCalls.{GetAnswer}
use Rattle.side_reads.specs.Holdings.{asked}
use Rattle.job_reads.specs.Readings.{span, IsFetchStop}
use Rattle.job_reads.proofs.ReadLemmas.{list_fails, lists, gets_of, reads, stopped_at_a, stopped_at_b}
use Rattle.job_reads.proofs.reading.read_job.Goals as goal

pub returns-in-Err-list-clause-a : goal.returns-in-Err-list-clause-a
returns-in-Err-list-clause-a g c = Changes-weaker outside_is_no_write c.list.ensures.changes

pub returns-in-Err-list-clause-stopped : goal.returns-in-Err-list-clause-stopped
returns-in-Err-list-clause-stopped g c a b k = ((c.in-Ok.rows, c.in-Ok.ensures.answer k), list_fails (g.A.Store.recalls c.list.new.self) c.in-Err-list.error _ _ (c.list.ensures.changes.told a).1 (c.in-Err-list.ensures.answer a), refl)

pub returns-in-Err-list-2-clause-a : goal.returns-in-Err-list-2-clause-a
returns-in-Err-list-2-clause-a g c = Changes-weaker outside_is_no_write c.list.ensures.changes

pub returns-in-Err-list-2-clause-b : goal.returns-in-Err-list-2-clause-b
returns-in-Err-list-2-clause-b g c = Changes-weaker outside_is_no_write c.list-2.ensures.changes

pub returns-in-Err-list-2-clause-stopped : goal.returns-in-Err-list-2-clause-stopped
returns-in-Err-list-2-clause-stopped g c a b k =
    ((c.in-Ok.rows, c.in-Ok.ensures.answer k), (c.in-Ok-list.entries, lists (g.A.Store.recalls c.list.new.self) c.in-Ok-list.entries _ _ (c.list.ensures.changes.told a).1 (c.in-Ok-list.ensures.answer a)), list_fails (g.B.Store.recalls c.list-2.new.self) c.in-Err-list-2.error _ _ (c.list-2.ensures.changes.told b).1 (c.in-Err-list-2.ensures.answer b))

pub returns-in-Some-clause-a : goal.returns-in-Some-clause-a
returns-in-Some-clause-a g c = Changes-weaker outside_is_no_write c.list.ensures.changes

pub returns-in-Some-clause-b : goal.returns-in-Some-clause-b
returns-in-Some-clause-b g c = Changes-weaker outside_is_no_write c.list-2.ensures.changes

pub returns-in-Some-clause-stopped : goal.returns-in-Some-clause-stopped
returns-in-Some-clause-stopped g c a b k =
    record {
      rows = c.in-Ok.rows;
      load = c.in-Ok.ensures.answer k;
      entries_a = c.in-Ok-list.entries;
      entries_b = c.in-Ok-list-2.entries;
      lists_a = lists (g.A.Store.recalls c.list.new.self) c.in-Ok-list.entries _ _ (c.list.ensures.changes.told a).1 (c.in-Ok-list.ensures.answer a);
      lists_b = lists (g.B.Store.recalls c.list-2.new.self) c.in-Ok-list-2.entries _ _ (c.list-2.ensures.changes.told b).1 (c.in-Ok-list-2.ensures.answer b);
      emptied = rw (c.deref.ensures.value, c.deref-2.ensures.value, c.deref-3.ensures.value) at (sym c.in-Some.ensures);
    }

pub returns-in-Err-hold_side-clause-a : goal.returns-in-Err-hold_side-clause-a
returns-in-Err-hold_side-clause-a g c = Changes-trans (Changes-weaker outside_is_no_write c.list.ensures.changes) (Changes-weaker (get_is_no_write (asked A c.deref-4.result.now c.in-Ok-list.entries.items)) c.hold_side.ensures.changes)

pub returns-in-Err-hold_side-clause-b : goal.returns-in-Err-hold_side-clause-b
returns-in-Err-hold_side-clause-b g c = Changes-weaker outside_is_no_write c.list-2.ensures.changes

pub returns-in-Err-hold_side-clause-stopped : goal.returns-in-Err-hold_side-clause-stopped
returns-in-Err-hold_side-clause-stopped g c a b k =
    let first = c.list.ensures.changes.told a in
    let second = c.hold_side.ensures.changes.told first.0 in
    let other = c.list-2.ensures.changes.told b in
    let gets_a = gets_of A c.deref-4.result.now c.in-Ok.rows.items c.in-Ok-list.entries.items _ _ c.deref-4.ensures.value second.1 in
    stopped_at_a c.args.force_delete
    (span (g.K.Keeper.state c.args.keeper.now) (g.K.Keeper.state c.load.new.self) (g.A.Store.side c.args.a.now) (g.A.Store.side c.hold_side.new.store) (g.B.Store.side c.args.b.now) (g.B.Store.side c.list-2.new.self))
    c.in-Ok.rows (c.in-Ok.ensures.answer k) c.in-Ok-list.entries c.in-Ok-list-2.entries
    (rw (c.deref.ensures.value, c.deref-2.ensures.value, c.deref-3.ensures.value) at (sym c.in_default.ensures))
    (c.load.ensures.changes.told k).1
    (g.A.Store.recalls c.list.new.self) (g.A.Store.side c.list.new.self) c.in-Err-hold_side.stop first.1 (c.in-Ok-list.ensures.answer a) gets_a
    (lists (g.B.Store.recalls c.list-2.new.self) c.in-Ok-list-2.entries _ _ other.1 (c.in-Ok-list-2.ensures.answer b))
    (subst (λ (rows : List Row). IsFetchStop A (λ error. GetAnswer (g.A.Store.recalls c.list.new.self) (g.A.Store.side c.list.new.self) (g.A.Store.side c.hold_side.new.store) (asked A rows c.in-Ok-list.entries.items) (Err error)) c.in-Err-hold_side.stop) c.deref-4.ensures.value (c.in-Err-hold_side.ensures.answer first.0))

pub returns-in-Err-hold_side-2-clause-a : goal.returns-in-Err-hold_side-2-clause-a
returns-in-Err-hold_side-2-clause-a g c = Changes-trans (Changes-weaker outside_is_no_write c.list.ensures.changes) (Changes-weaker (get_is_no_write (asked A c.deref-4.result.now c.in-Ok-list.entries.items)) c.hold_side.ensures.changes)

pub returns-in-Err-hold_side-2-clause-b : goal.returns-in-Err-hold_side-2-clause-b
returns-in-Err-hold_side-2-clause-b g c = Changes-trans (Changes-weaker outside_is_no_write c.list-2.ensures.changes) (Changes-weaker (get_is_no_write (asked B c.deref-5.result.now c.in-Ok-list-2.entries.items)) c.hold_side-2.ensures.changes)

pub returns-in-Err-hold_side-2-clause-stopped : goal.returns-in-Err-hold_side-2-clause-stopped
returns-in-Err-hold_side-2-clause-stopped g c a b k =
    let first = c.list.ensures.changes.told a in
    let second = c.hold_side.ensures.changes.told first.0 in
    let third = c.list-2.ensures.changes.told b in
    let fourth = c.hold_side-2.ensures.changes.told third.0 in
    let gets_a = gets_of A c.deref-4.result.now c.in-Ok.rows.items c.in-Ok-list.entries.items _ _ c.deref-4.ensures.value second.1 in
    let gets_b = gets_of B c.deref-5.result.now c.in-Ok.rows.items c.in-Ok-list-2.entries.items _ _ c.deref-5.ensures.value fourth.1 in
    let held = rw c.deref-4.ensures.value at (c.in-Ok-hold_side.ensures.answer first.0) in
    stopped_at_b c.args.force_delete
    (span (g.K.Keeper.state c.args.keeper.now) (g.K.Keeper.state c.load.new.self) (g.A.Store.side c.args.a.now) (g.A.Store.side c.hold_side.new.store) (g.B.Store.side c.args.b.now) (g.B.Store.side c.hold_side-2.new.store))
    c.in-Ok.rows (c.in-Ok.ensures.answer k) c.in-Ok-list.entries c.in-Ok-list-2.entries
    (rw (c.deref.ensures.value, c.deref-2.ensures.value, c.deref-3.ensures.value) at (sym c.in_default.ensures))
    (c.load.ensures.changes.told k).1
    (g.B.Store.recalls c.list-2.new.self) (g.B.Store.side c.list-2.new.self) c.in-Err-hold_side-2.stop held.0
    (reads A c.in-Ok.rows.items (g.A.Store.recalls c.list.new.self) c.in-Ok-list.entries held.0 _ _ _ first.1 (c.in-Ok-list.ensures.answer a) gets_a held.1)
    third.1 (c.in-Ok-list-2.ensures.answer b) gets_b
    (subst (λ (rows : List Row). IsFetchStop B (λ error. GetAnswer (g.B.Store.recalls c.list-2.new.self) (g.B.Store.side c.list-2.new.self) (g.B.Store.side c.hold_side-2.new.store) (asked B rows c.in-Ok-list-2.entries.items) (Err error)) c.in-Err-hold_side-2.stop) c.deref-5.ensures.value (c.in-Err-hold_side-2.ensures.answer third.0))

pub returns-clause-a : goal.returns-clause-a
returns-clause-a g c = Changes-trans (Changes-weaker outside_is_no_write c.list.ensures.changes) (Changes-weaker (get_is_no_write (asked A c.deref-4.result.now c.in-Ok-list.entries.items)) c.hold_side.ensures.changes)

pub returns-clause-b : goal.returns-clause-b
returns-clause-b g c = Changes-trans (Changes-weaker outside_is_no_write c.list-2.ensures.changes) (Changes-weaker (get_is_no_write (asked B c.deref-5.result.now c.in-Ok-list-2.entries.items)) c.hold_side-2.ensures.changes)

pub returns-clause-read : goal.returns-clause-read
returns-clause-read g c a b k =
    let first = c.list.ensures.changes.told a in
    let second = c.hold_side.ensures.changes.told first.0 in
    let third = c.list-2.ensures.changes.told b in
    let fourth = c.hold_side-2.ensures.changes.told third.0 in
    let gets_a = gets_of A c.deref-4.result.now c.in-Ok.rows.items c.in-Ok-list.entries.items _ _ c.deref-4.ensures.value second.1 in
    let gets_b = gets_of B c.deref-5.result.now c.in-Ok.rows.items c.in-Ok-list-2.entries.items _ _ c.deref-5.ensures.value fourth.1 in
    let held_a = rw c.deref-4.ensures.value at (c.in-Ok-hold_side.ensures.answer first.0) in
    let held_b = rw c.deref-5.ensures.value at (c.in-Ok-hold_side-2.ensures.answer third.0) in
    record {
      load = c.in-Ok.ensures.answer k;
      entries_a = c.in-Ok-list.entries;
      entries_b = c.in-Ok-list-2.entries;
      full = rw (c.deref.ensures.value, c.deref-2.ensures.value, c.deref-3.ensures.value) at (sym c.in_default.ensures);
      fetched_a = held_a.0;
      fetched_b = held_b.0;
      reads_a = reads A c.in-Ok.rows.items (g.A.Store.recalls c.list.new.self) c.in-Ok-list.entries held_a.0 _ _ _ first.1 (c.in-Ok-list.ensures.answer a) gets_a held_a.1;
      reads_b = reads B c.in-Ok.rows.items (g.B.Store.recalls c.list-2.new.self) c.in-Ok-list-2.entries held_b.0 _ _ _ third.1 (c.in-Ok-list-2.ensures.answer b) gets_b held_b.1;
      taken_a = held_a.2;
      taken_b = held_b.2;
    }

pub returns-clause-known_a : goal.returns-clause-known_a
returns-clause-known_a g c told =
    let first = c.list.ensures.changes.told told in
    let second = c.hold_side.ensures.changes.told first.0 in
    read_known (g.A.Store.taken c.list.new.self) (g.A.Store.taken c.hold_side.new.store) _ _ _ (Evolves-weaker (get_is_no_write (asked A c.deref-4.result.now c.in-Ok-list.entries.items)) second.1) c.hold_side.ensures.taken (listed_known (g.A.Store.recalls c.list.new.self) (g.A.Store.taken c.args.a.now) (g.A.Store.taken c.list.new.self) (g.A.Store.side c.args.a.now) (g.A.Store.side c.list.new.self) c.in-Ok-list.entries first.1 (c.in-Ok-list.ensures.answer told) c.in-Ok-list.ensures.hrefs) (Since-from_evolves first.1)

pub returns-clause-known_b : goal.returns-clause-known_b
returns-clause-known_b g c told =
    let first = c.list-2.ensures.changes.told told in
    let second = c.hold_side-2.ensures.changes.told first.0 in
    read_known (g.B.Store.taken c.list-2.new.self) (g.B.Store.taken c.hold_side-2.new.store) _ _ _ (Evolves-weaker (get_is_no_write (asked B c.deref-5.result.now c.in-Ok-list-2.entries.items)) second.1) c.hold_side-2.ensures.taken (listed_known (g.B.Store.recalls c.list-2.new.self) (g.B.Store.taken c.args.b.now) (g.B.Store.taken c.list-2.new.self) (g.B.Store.side c.args.b.now) (g.B.Store.side c.list-2.new.self) c.in-Ok-list-2.entries first.1 (c.in-Ok-list-2.ensures.answer told) c.in-Ok-list-2.ensures.hrefs) (Since-from_evolves first.1)
