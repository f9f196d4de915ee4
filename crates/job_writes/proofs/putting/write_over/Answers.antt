use Rattle.job_writes.proofs.KnownLemmas.{over_known}
use Rattle.job_writes.proofs.CallLemmas.{any_change}
use Rattle.job_writes.proofs.putting.write_over.Goals as goal

pub returns-in_default-clause-changes : goal.returns-in_default-clause-changes
returns-in_default-clause-changes g c = any_change c.put_over.ensures.changes

pub returns-in-Ok-row_beside-clause-changes : goal.returns-in-Ok-row_beside-clause-changes
returns-in-Ok-row_beside-clause-changes g c = any_change c.put_over.ensures.changes

pub returns-in-Err-row_beside-clause-changes : goal.returns-in-Err-row_beside-clause-changes
returns-in-Err-row_beside-clause-changes g c = any_change c.put_over.ensures.changes

pub returns-in-Err-clause-changes : goal.returns-in-Err-clause-changes
returns-in-Err-clause-changes g c = any_change c.put_over.ensures.changes

pub returns-in-Ok-row_beside-clause-known : goal.returns-in-Ok-row_beside-clause-known
returns-in-Ok-row_beside-clause-known g c told known not_failed =
    over_known (g.S.Store.waits c.args.store.now) (g.S.Store.taken c.args.store.now) (g.S.Store.taken c.put_over.new.self) c.as_str.result.now c.as_str-2.result.now c.args.from.item.now.text c.in-Ok.etag (g.S.Store.side c.args.store.now) (g.S.Store.side c.put_over.new.self) (g.S.Store.waiting c.args.store.now) (g.S.Store.waiting c.put_over.new.self) c.in-Ok.ensures.hrefs known (c.in-Ok.ensures.answer told)
