use Rattle.std.proofs.Common.{◌≡◌, Result, Ok, Err, IfOk, subst}
use Rattle.std.specs.declared.alloc.AllocError.{AllocError}
use Rattle.store_model.specs.Sides.{WasEdited}
use Rattle.job_writes.specs.declared.outcome.Outcome.{Outcome}
use Rattle.job_writes.specs.declared.outcome.Outcome.TheVariants.{NotWritten}
use Rattle.job_writes.specs.Knowns.{IsMovedOut}
use Rattle.job_writes.proofs.KnownLemmas.{put_known, put_moved}
use Rattle.job_writes.specs.Writings.{now_of}
use Rattle.job_writes.proofs.CallLemmas.{any_change, copy_fails}
use Rattle.job_writes.proofs.putting.copy_to.Goals as goal

pub returns-in-Ok-row_beside-clause-changes : goal.returns-in-Ok-row_beside-clause-changes
returns-in-Ok-row_beside-clause-changes g c = any_change c.put_new.ensures.changes

pub returns-in-Err-row_beside-clause-changes : goal.returns-in-Err-row_beside-clause-changes
returns-in-Err-row_beside-clause-changes g c = any_change c.put_new.ensures.changes

pub returns-in-Err-clause-changes : goal.returns-in-Err-clause-changes
returns-in-Err-clause-changes g c = any_change c.put_new.ensures.changes

pub returns-in-Err-clause-answer : goal.returns-in-Err-clause-answer
returns-in-Err-clause-answer g c told =
    copy_fails (g.S.Store.waits c.args.store.now) (g.S.Store.may_name c.args.store.now c.args.from.item.now) c.args.side c.args.from.seen.now c.args.from.item.now (now_of (g.S.Store.side c.args.store.now) (g.S.Store.waiting c.args.store.now)) (now_of (g.S.Store.side c.put_new.new.self) (g.S.Store.waiting c.put_new.new.self)) c.in-Err.error c.not_written.result c.not_written.ensures.told (c.in-Err.ensures.answer told)

pub returns-in-Ok-row_beside-clause-known : goal.returns-in-Ok-row_beside-clause-known
returns-in-Ok-row_beside-clause-known g c told known not_failed = put_known (g.S.Store.may_name c.args.store.now c.args.from.item.now) (g.S.Store.taken c.args.store.now) (g.S.Store.taken c.put_new.new.self) c.args.from.item.now (g.S.Store.side c.args.store.now) (g.S.Store.side c.put_new.new.self) (g.S.Store.waiting c.args.store.now) (g.S.Store.waiting c.put_new.new.self) (g.met.S.Store.new_is_free c.args.store.now c.args.from.item.now) known (g.S.Store.waits c.args.store.now) c.in-Ok.put c.in-Ok.ensures.hrefs (c.in-Ok.ensures.answer told) (c.in-Ok.ensures.acts told)

pub returns-in-Err-clause-moved : goal.returns-in-Err-clause-moved
returns-in-Err-clause-moved g c told known = by c.not_written.result c.not_written.ensures.told
  where
    by : (result : Result Outcome AllocError) → IfOk result (λ o. o ≡ NotWritten c.args.side c.in-Err.error) → IfOk result (λ o. IsMovedOut o → WasEdited (g.S.Store.side c.args.store.now) (g.S.Store.side c.put_new.new.self))
    by (Ok o) is = λ moved. put_moved (g.S.Store.may_name c.args.store.now c.args.from.item.now) (g.S.Store.taken c.args.store.now) (g.S.Store.taken c.put_new.new.self) c.args.from.item.now (g.S.Store.side c.args.store.now) (g.S.Store.side c.put_new.new.self) (g.S.Store.waiting c.args.store.now) (g.S.Store.waiting c.put_new.new.self) (g.met.S.Store.new_is_free c.args.store.now c.args.from.item.now) known (g.S.Store.waits c.args.store.now) c.in-Err.error (subst IsMovedOut is moved) c.in-Err.ensures.hrefs (c.in-Err.ensures.answer told)
    by (Err e) is = tt
