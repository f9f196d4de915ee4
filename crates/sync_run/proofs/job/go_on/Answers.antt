use Rattle.std.proofs.Common.{◌∙◌, arith, inl, inr, sym, subst, false, List, [], ℕ, Option}
use Rattle.std.proofs.lemmas.List.Elements.{recursion_from_All}
use Rattle.store_model.proofs.Moments.{Changes-trans, Evolves-refl}
use Rattle.status_keeper.specs.Idents.{IsRising}
use Rattle.status_keeper.specs.Rows.{row_idents}
use Rattle.outside.proofs.Runs.{Runs-refl}
use Rattle.sync_plan.specs.declared.report.Side.TheVariants.{A, B}
use Rattle.sync_plan.specs.declared.seen.Planned.{Planned}
use Rattle.sync_plan.specs.Plans.{IsPlan, IsPlannedFor}
use Rattle.outside.specs.Causes.{Rose}
use Rattle.job_writes.specs.declared.outcome.Outcome.{Outcome}
use Rattle.job_rows.specs.RowsAfter.{rows_after}
use Rattle.job_writes.specs.Writings.{now_of, sources, failed_after, IsWhole, WritesDid, WritesTried}
use Rattle.job_writes.proofs.CauseLemmas.{causes_extend}
use Rattle.job_rows.proofs.NextLemmas.{are_steps, rows_rise}
use Rattle.sync_plan.specs.declared.report.JobEnd.{JobEnd}
use Rattle.sync_run.specs.Ends.{end_of_plan, going, closing, ClosesAs, BreaksOff, GoesOn}
use Rattle.sync_run.proofs.EndLemmas.{goes_on_as, told_caused}
use Rattle.job_writes.proofs.FaultLemmas.{rose_none}
use Rattle.sync_plan.specs.declared.report.JobEnd.TheVariants.{NoMemory}
use Rattle.sync_run.proofs.FaultLemmas.{end_fault, plan_fault, bare_faults, wrote_faults}
use Rattle.sync_run.proofs.job.go_on.Goals as goal

pub close-requires-clause-rise : goal.close-requires-clause-rise
close-requires-clause-rise g c =
    let x = sources c.args.read.now.a c.args.read.now.b in
    let plan = c.in-Ok.plan.items in
    let os = c.in-Ok-write_all.outcomes in
    let rows = c.args.read.now.rows.items in
    let is_plan : IsPlan c.args.read.now.a.seen.items c.args.read.now.b.seen.items rows c.args.rules.now plan = rw (c.deref.ensures.value, c.deref-2.ensures.value, c.deref-3.ensures.value) at c.in-Ok.ensures.ok in
    let whole : IsWhole x plan os = rw c.deref-4.ensures.value at c.in-Ok-write_all.ensures.fits in
    subst (λ (ps : List Planned). IsRising (row_idents (rows_after x rows ps os.put.items os.removed.items))) (sym c.deref-in-Ok-write_all.ensures.value)
    (rows_rise x rows c.args.rules.now plan os.put.items os.removed.items (are_steps x rows c.args.rules.now false false (failed_after false os.put.items) plan os.put.items os.removed.items (recursion_from_All (IsPlannedFor c.args.read.now.a.seen.items c.args.read.now.b.seen.items rows c.args.rules.now) plan is_plan.each) whole.put whole.named whole.removed) is_plan.rising)

pub returns-in-Ok-write_all-clause-changes_a : goal.returns-in-Ok-write_all-clause-changes_a
returns-in-Ok-write_all-clause-changes_a g c = Changes-trans c.write_all.ensures.changes_a c.close.ensures.changes_a

pub returns-in-Ok-write_all-clause-changes_b : goal.returns-in-Ok-write_all-clause-changes_b
returns-in-Ok-write_all-clause-changes_b g c = Changes-trans c.write_all.ensures.changes_b c.close.ensures.changes_b

pub returns-in-Ok-write_all-clause-goes_on : goal.returns-in-Ok-write_all-clause-goes_on
returns-in-Ok-write_all-clause-goes_on g c told_a told_b told_k found flag_a flag_b known_a known_b =
    let y = going flag_a flag_b c.args.read.now (g.K.Keeper.state c.args.keeper.now) (g.K.Keeper.state c.close.new.keeper) (g.A.Store.side c.args.a.now) (g.A.Store.side c.close.new.a) (g.B.Store.side c.args.b.now) (g.B.Store.side c.close.new.b) in
    let x = sources c.args.read.now.a c.args.read.now.b in
    let plan = c.in-Ok.plan.items in
    let os = c.in-Ok-write_all.outcomes in
    let rows = c.args.read.now.rows.items in
    let end_a = now_of (g.A.Store.side c.write_all.new.a) (g.A.Store.waiting c.write_all.new.a) in
    let end_b = now_of (g.B.Store.side c.write_all.new.b) (g.B.Store.waiting c.write_all.new.b) in
    let is_plan : IsPlan c.args.read.now.a.seen.items c.args.read.now.b.seen.items rows c.args.rules.now plan = rw (c.deref.ensures.value, c.deref-2.ensures.value, c.deref-3.ensures.value) at c.in-Ok.ensures.ok in
    let whole : IsWhole x plan os = rw c.deref-4.ensures.value at c.in-Ok-write_all.ensures.fits in
    let did_a : WritesDid (g.A.Store.waits c.args.a.now) A x plan (now_of (g.A.Store.side c.args.a.now) []) end_a os = rw (c.deref-4.ensures.value, c.requires.idle_a) at (c.in-Ok-write_all.ensures.answer_a told_a) in
    let did_b : WritesDid (g.B.Store.waits c.args.b.now) B x plan (now_of (g.B.Store.side c.args.b.now) []) end_b os = rw (c.deref-4.ensures.value, c.requires.idle_b) at (c.in-Ok-write_all.ensures.answer_b told_b) in
    let closed : ClosesAs x rows plan os (g.K.Keeper.found c.args.keeper.now) (closing end_a (g.A.Store.side c.close.new.a) end_b (g.B.Store.side c.close.new.b) (g.K.Keeper.state c.args.keeper.now) (g.K.Keeper.state c.close.new.keeper)) c.close.result c.close.result.end = rw c.deref-in-Ok-write_all.ensures.value at (c.close.ensures.closes (c.write_all.ensures.changes_a.told told_a).0 (c.write_all.ensures.changes_b.told told_b).0 told_k) in
    goes_on_as c.args.rules.now (g.A.Store.waits c.args.a.now) (g.B.Store.waits c.args.b.now) y c.close.result plan is_plan os end_a end_b did_a did_b (c.write_all.ensures.acts_a told_a) (c.write_all.ensures.acts_b told_b) whole
    (λ h. rw c.deref-4.ensures.value at (c.in-Ok-write_all.ensures.moved_a told_a (known_a h))) (λ h. rw c.deref-4.ensures.value at (c.in-Ok-write_all.ensures.moved_b told_b (known_b h))) c.close.result.end
    (subst (λ (f : Option (List ℕ)). ClosesAs x rows plan os f (closing end_a (g.A.Store.side c.close.new.a) end_b (g.B.Store.side c.close.new.b) (g.K.Keeper.state c.args.keeper.now) (g.K.Keeper.state c.close.new.keeper)) c.close.result c.close.result.end) found closed)

pub returns-in-Ok-write_all-clause-lines : goal.returns-in-Ok-write_all-clause-lines
returns-in-Ok-write_all-clause-lines g c =
    let os = c.in-Ok-write_all.outcomes in
    let extend = λ (outcomes : List Outcome). causes_extend (g.A.Store.count c.args.a.now) (g.A.Store.count c.write_all.new.a) (g.A.Store.count c.close.new.a) (g.B.Store.count c.args.b.now) (g.B.Store.count c.write_all.new.b) (g.B.Store.count c.close.new.b) c.close.ensures.changes_a.later c.close.ensures.changes_b.later outcomes in
    told_caused (Rose (g.A.Store.count c.args.a.now) (g.A.Store.count c.close.new.a)) (Rose (g.B.Store.count c.args.b.now) (g.B.Store.count c.close.new.b)) c.close.result.lines.items c.deref-in-Ok-write_all.result.now os c.close.ensures.lines (extend os.put.items c.in-Ok-write_all.ensures.causes.put) (extend os.removed.items c.in-Ok-write_all.ensures.causes.removed)

pub returns-clause-goes_on : goal.returns-clause-goes_on
returns-clause-goes_on g c told_a told_b told_k found flag_a flag_b known_a known_b =
    let y = going flag_a flag_b c.args.read.now (g.K.Keeper.state c.args.keeper.now) (g.K.Keeper.state c.args.keeper.now) (g.A.Store.side c.args.a.now) (g.A.Store.side c.write_all.new.a) (g.B.Store.side c.args.b.now) (g.B.Store.side c.write_all.new.b) in
    let x = sources c.args.read.now.a c.args.read.now.b in
    let plan = c.in-Ok.plan.items in
    let rows = c.args.read.now.rows.items in
    let end_a = now_of (g.A.Store.side c.write_all.new.a) (g.A.Store.waiting c.write_all.new.a) in
    let end_b = now_of (g.B.Store.side c.write_all.new.b) (g.B.Store.waiting c.write_all.new.b) in
    let is_plan : IsPlan c.args.read.now.a.seen.items c.args.read.now.b.seen.items rows c.args.rules.now plan = rw (c.deref.ensures.value, c.deref-2.ensures.value, c.deref-3.ensures.value) at c.in-Ok.ensures.ok in
    let tried_a : WritesTried (g.A.Store.waits c.args.a.now) A x plan (now_of (g.A.Store.side c.args.a.now) []) end_a = rw (c.deref-4.ensures.value, c.requires.idle_a) at (c.in-Err-write_all.ensures.answer_a told_a) in
    let tried_b : WritesTried (g.B.Store.waits c.args.b.now) B x plan (now_of (g.B.Store.side c.args.b.now) []) end_b = rw (c.deref-4.ensures.value, c.requires.idle_b) at (c.in-Err-write_all.ensures.answer_b told_b) in
    let off : BreaksOff c.args.rules.now (g.A.Store.waits c.args.a.now) (g.B.Store.waits c.args.b.now) y = record {
      plan = plan;
      is_plan = is_plan;
      wrote_a = record { end = end_a; tried = tried_a; acts = c.write_all.ensures.acts_a told_a; flush = inl (Evolves-refl (g.A.Store.side c.write_all.new.a)) };
      wrote_b = record { end = end_b; tried = tried_b; acts = c.write_all.ensures.acts_b told_b; flush = inl (Evolves-refl (g.B.Store.side c.write_all.new.b)) };
      kept = Runs-refl (g.K.Keeper.state c.args.keeper.now);
    } in
    subst (λ (end : JobEnd). GoesOn c.args.rules.now (g.A.Store.waits c.args.a.now) (g.B.Store.waits c.args.b.now) y c.ended-in-Err-write_all.result end) (sym c.ended-in-Err-write_all.ensures.end) (inr off, c.ended-in-Err-write_all.ensures.lines)

pub returns-in-Ok-write_all-clause-faults_a : goal.returns-in-Ok-write_all-clause-faults_a
returns-in-Ok-write_all-clause-faults_a g c =
    wrote_faults A (g.A.Store.count c.args.a.now) (g.A.Store.count c.write_all.new.a) (g.A.Store.count c.close.new.a) c.close.result c.deref-in-Ok-write_all.result.now c.in-Ok-write_all.outcomes c.close.ensures.lines c.in-Ok-write_all.ensures.faults_a
    (end_fault (g.A.Store.count c.write_all.new.a) (g.A.Store.count c.close.new.a) (g.B.Store.count c.write_all.new.b) (g.B.Store.count c.close.new.b) c.close.ensures.changes_a.later c.close.ensures.changes_b.later (Rose (g.K.Keeper.count c.args.keeper.now) (g.K.Keeper.count c.close.new.keeper)) A c.close.result.end c.close.ensures.cause)

pub returns-in-Err-clause-faults_a : goal.returns-in-Err-clause-faults_a
returns-in-Err-clause-faults_a g c =
    bare_faults A (g.A.Store.count c.args.a.now) (g.A.Store.count c.args.a.now) c.ended.result (end_of_plan c.in-Err.error) c.ended.ensures.lines (c.ended.ensures.end ∙ c.end_of_plan.ensures)
    (plan_fault (g.A.Store.count c.args.a.now) (g.A.Store.count c.args.a.now) (g.B.Store.count c.args.b.now) (g.B.Store.count c.args.b.now) (omega arith) (omega arith) ⊥ A c.in-Err.error)

pub returns-clause-faults_a : goal.returns-clause-faults_a
returns-clause-faults_a g c = bare_faults A (g.A.Store.count c.args.a.now) (g.A.Store.count c.write_all.new.a) c.ended-in-Err-write_all.result NoMemory c.ended-in-Err-write_all.ensures.lines c.ended-in-Err-write_all.ensures.end (rose_none (g.A.Store.count c.args.a.now) (g.A.Store.count c.write_all.new.a) c.write_all.ensures.changes_a.later)

pub returns-in-Ok-write_all-clause-faults_b : goal.returns-in-Ok-write_all-clause-faults_b
returns-in-Ok-write_all-clause-faults_b g c =
    wrote_faults B (g.B.Store.count c.args.b.now) (g.B.Store.count c.write_all.new.b) (g.B.Store.count c.close.new.b) c.close.result c.deref-in-Ok-write_all.result.now c.in-Ok-write_all.outcomes c.close.ensures.lines c.in-Ok-write_all.ensures.faults_b
    (end_fault (g.A.Store.count c.write_all.new.a) (g.A.Store.count c.close.new.a) (g.B.Store.count c.write_all.new.b) (g.B.Store.count c.close.new.b) c.close.ensures.changes_a.later c.close.ensures.changes_b.later (Rose (g.K.Keeper.count c.args.keeper.now) (g.K.Keeper.count c.close.new.keeper)) B c.close.result.end c.close.ensures.cause)

pub returns-in-Err-clause-faults_b : goal.returns-in-Err-clause-faults_b
returns-in-Err-clause-faults_b g c =
    bare_faults B (g.B.Store.count c.args.b.now) (g.B.Store.count c.args.b.now) c.ended.result (end_of_plan c.in-Err.error) c.ended.ensures.lines (c.ended.ensures.end ∙ c.end_of_plan.ensures)
    (plan_fault (g.A.Store.count c.args.a.now) (g.A.Store.count c.args.a.now) (g.B.Store.count c.args.b.now) (g.B.Store.count c.args.b.now) (omega arith) (omega arith) ⊥ B c.in-Err.error)

pub returns-clause-faults_b : goal.returns-clause-faults_b
returns-clause-faults_b g c = bare_faults B (g.B.Store.count c.args.b.now) (g.B.Store.count c.write_all.new.b) c.ended-in-Err-write_all.result NoMemory c.ended-in-Err-write_all.ensures.lines c.ended-in-Err-write_all.ensures.end (rose_none (g.B.Store.count c.args.b.now) (g.B.Store.count c.write_all.new.b) c.write_all.ensures.changes_b.later)
