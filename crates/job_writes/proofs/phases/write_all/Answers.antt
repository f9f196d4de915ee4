use Rattle.std.proofs.Common.{subst, Bool, inl, inr}
use Rattle.store_model.proofs.Moments.{Changes-trans, Since-from_changes}
use Rattle.store_model.proofs.Waits.{acts_more}
use Rattle.sync_plan.specs.declared.report.Side.TheVariants.{A, B}
use Rattle.job_writes.specs.Faults.{faults_of}
use Rattle.job_writes.specs.Writings.{now_of, sources, FitsRemoval, AllFit, AllTried, InOrder, RemovalDone, RemovalTried}
use Rattle.job_writes.proofs.KnownLemmas.{all_later}
use Rattle.job_writes.proofs.FaultLemmas.{rose_more}
use Rattle.job_writes.proofs.CauseLemmas.{causes_extend, causes_begin}
use Rattle.job_writes.proofs.phases.write_all.Goals as goal

pub returns-in-Err-clause-answer_a : goal.returns-in-Err-clause-answer_a
returns-in-Err-clause-answer_a g c told = inl (c.in-Err.ensures.answer_a told)

pub returns-in-Err-clause-answer_b : goal.returns-in-Err-clause-answer_b
returns-in-Err-clause-answer_b g c told = inl (c.in-Err.ensures.answer_b told)

pub returns-in-Ok-remove_all-clause-changes_a : goal.returns-in-Ok-remove_all-clause-changes_a
returns-in-Ok-remove_all-clause-changes_a g c = Changes-trans c.put_all.ensures.changes_a c.remove_all.ensures.changes_a

pub returns-in-Ok-remove_all-clause-changes_b : goal.returns-in-Ok-remove_all-clause-changes_b
returns-in-Ok-remove_all-clause-changes_b g c = Changes-trans c.put_all.ensures.changes_b c.remove_all.ensures.changes_b

pub returns-in-Err-remove_all-clause-changes_a : goal.returns-in-Err-remove_all-clause-changes_a
returns-in-Err-remove_all-clause-changes_a g c = Changes-trans c.put_all.ensures.changes_a c.remove_all.ensures.changes_a

pub returns-in-Err-remove_all-clause-changes_b : goal.returns-in-Err-remove_all-clause-changes_b
returns-in-Err-remove_all-clause-changes_b g c = Changes-trans c.put_all.ensures.changes_b c.remove_all.ensures.changes_b

pub returns-in-Ok-remove_all-clause-answer_a : goal.returns-in-Ok-remove_all-clause-answer_a
returns-in-Ok-remove_all-clause-answer_a g c told =
    let mid = c.put_all.ensures.changes_a.told told in
    let done = subst (λ (w : Bool). InOrder (RemovalDone w A (sources c.args.held_a.now c.args.held_b.now)) c.any_failure-failed.result c.args.plan.now c.in-Ok-remove_all.removed.items (now_of (g.A.Store.side c.put_all.new.a) (g.A.Store.waiting c.put_all.new.a)) (now_of (g.A.Store.side c.remove_all.new.a) (g.A.Store.waiting c.remove_all.new.a))) c.put_all.ensures.kind_a.0 (c.in-Ok-remove_all.ensures.answer_a mid.0) in
    record {
      between = (now_of (g.A.Store.side c.put_all.new.a) (g.A.Store.waiting c.put_all.new.a));
      puts = c.in-Ok.ensures.answer_a told;
      removals = subst (λ (h : Bool). InOrder (RemovalDone (g.A.Store.waits c.args.a.now) A (sources c.args.held_a.now c.args.held_b.now)) h c.args.plan.now c.in-Ok-remove_all.removed.items (now_of (g.A.Store.side c.put_all.new.a) (g.A.Store.waiting c.put_all.new.a)) (now_of (g.A.Store.side c.remove_all.new.a) (g.A.Store.waiting c.remove_all.new.a))) (rw c.deref.ensures.value at c.any_failure-failed.ensures) done;
    }

pub returns-in-Err-remove_all-clause-answer_a : goal.returns-in-Err-remove_all-clause-answer_a
returns-in-Err-remove_all-clause-answer_a g c told =
    let mid = c.put_all.ensures.changes_a.told told in
    let tried = c.in-Err-remove_all.ensures.answer_a mid.0 in
    inr (record {
      between = (now_of (g.A.Store.side c.put_all.new.a) (g.A.Store.waiting c.put_all.new.a));
      put = c.in-Ok.put.items;
      puts = c.in-Ok.ensures.answer_a told;
      removals = subst (λ (h : Bool). AllTried (RemovalTried A (sources c.args.held_a.now c.args.held_b.now) h) c.args.plan.now (now_of (g.A.Store.side c.put_all.new.a) (g.A.Store.waiting c.put_all.new.a)) (now_of (g.A.Store.side c.remove_all.new.a) (g.A.Store.waiting c.remove_all.new.a))) (rw c.deref.ensures.value at c.any_failure-failed.ensures) tried;
    })

pub returns-in-Ok-remove_all-clause-answer_b : goal.returns-in-Ok-remove_all-clause-answer_b
returns-in-Ok-remove_all-clause-answer_b g c told =
    let mid = c.put_all.ensures.changes_b.told told in
    let done = subst (λ (w : Bool). InOrder (RemovalDone w B (sources c.args.held_a.now c.args.held_b.now)) c.any_failure-failed.result c.args.plan.now c.in-Ok-remove_all.removed.items (now_of (g.B.Store.side c.put_all.new.b) (g.B.Store.waiting c.put_all.new.b)) (now_of (g.B.Store.side c.remove_all.new.b) (g.B.Store.waiting c.remove_all.new.b))) c.put_all.ensures.kind_b.0 (c.in-Ok-remove_all.ensures.answer_b mid.0) in
    record {
      between = (now_of (g.B.Store.side c.put_all.new.b) (g.B.Store.waiting c.put_all.new.b));
      puts = c.in-Ok.ensures.answer_b told;
      removals = subst (λ (h : Bool). InOrder (RemovalDone (g.B.Store.waits c.args.b.now) B (sources c.args.held_a.now c.args.held_b.now)) h c.args.plan.now c.in-Ok-remove_all.removed.items (now_of (g.B.Store.side c.put_all.new.b) (g.B.Store.waiting c.put_all.new.b)) (now_of (g.B.Store.side c.remove_all.new.b) (g.B.Store.waiting c.remove_all.new.b))) (rw c.deref.ensures.value at c.any_failure-failed.ensures) done;
    }

pub returns-in-Err-remove_all-clause-answer_b : goal.returns-in-Err-remove_all-clause-answer_b
returns-in-Err-remove_all-clause-answer_b g c told =
    let mid = c.put_all.ensures.changes_b.told told in
    let tried = c.in-Err-remove_all.ensures.answer_b mid.0 in
    inr (record {
      between = (now_of (g.B.Store.side c.put_all.new.b) (g.B.Store.waiting c.put_all.new.b));
      put = c.in-Ok.put.items;
      puts = c.in-Ok.ensures.answer_b told;
      removals = subst (λ (h : Bool). AllTried (RemovalTried B (sources c.args.held_a.now c.args.held_b.now) h) c.args.plan.now (now_of (g.B.Store.side c.put_all.new.b) (g.B.Store.waiting c.put_all.new.b)) (now_of (g.B.Store.side c.remove_all.new.b) (g.B.Store.waiting c.remove_all.new.b))) (rw c.deref.ensures.value at c.any_failure-failed.ensures) tried;
    })

pub returns-in-Ok-remove_all-clause-fits : goal.returns-in-Ok-remove_all-clause-fits
returns-in-Ok-remove_all-clause-fits g c =
    record { named = c.in-Ok.ensures.named; put = c.in-Ok.ensures.fits; removed = subst (λ (h : Bool). AllFit (λ failed p. FitsRemoval failed p.step) h c.args.plan.now c.in-Ok-remove_all.removed.items) (rw c.deref.ensures.value at c.any_failure-failed.ensures) c.in-Ok-remove_all.ensures.fits }

pub returns-in-Ok-remove_all-clause-causes : goal.returns-in-Ok-remove_all-clause-causes
returns-in-Ok-remove_all-clause-causes g c =
    record {
      put = causes_extend (g.A.Store.count c.args.a.now) (g.A.Store.count c.put_all.new.a) (g.A.Store.count c.remove_all.new.a) (g.B.Store.count c.args.b.now) (g.B.Store.count c.put_all.new.b) (g.B.Store.count c.remove_all.new.b) c.remove_all.ensures.changes_a.later c.remove_all.ensures.changes_b.later c.in-Ok.put.items c.in-Ok.ensures.causes;
      removed = causes_begin (g.A.Store.count c.args.a.now) (g.A.Store.count c.put_all.new.a) (g.A.Store.count c.remove_all.new.a) (g.B.Store.count c.args.b.now) (g.B.Store.count c.put_all.new.b) (g.B.Store.count c.remove_all.new.b) c.put_all.ensures.changes_a.later c.put_all.ensures.changes_b.later c.in-Ok-remove_all.removed.items c.in-Ok-remove_all.ensures.causes;
    }

pub returns-in-Ok-remove_all-clause-acts_a : goal.returns-in-Ok-remove_all-clause-acts_a
returns-in-Ok-remove_all-clause-acts_a g c told = acts_more c.put_all.ensures.kind_a.0 (c.put_all.ensures.acts_a told) (c.remove_all.ensures.acts_a (c.put_all.ensures.changes_a.told told).0)

pub returns-in-Ok-remove_all-clause-acts_b : goal.returns-in-Ok-remove_all-clause-acts_b
returns-in-Ok-remove_all-clause-acts_b g c told = acts_more c.put_all.ensures.kind_b.0 (c.put_all.ensures.acts_b told) (c.remove_all.ensures.acts_b (c.put_all.ensures.changes_b.told told).0)

pub returns-in-Err-remove_all-clause-acts_a : goal.returns-in-Err-remove_all-clause-acts_a
returns-in-Err-remove_all-clause-acts_a g c told = acts_more c.put_all.ensures.kind_a.0 (c.put_all.ensures.acts_a told) (c.remove_all.ensures.acts_a (c.put_all.ensures.changes_a.told told).0)

pub returns-in-Err-remove_all-clause-acts_b : goal.returns-in-Err-remove_all-clause-acts_b
returns-in-Err-remove_all-clause-acts_b g c told = acts_more c.put_all.ensures.kind_b.0 (c.put_all.ensures.acts_b told) (c.remove_all.ensures.acts_b (c.put_all.ensures.changes_b.told told).0)

pub returns-in-Ok-remove_all-clause-faults_a : goal.returns-in-Ok-remove_all-clause-faults_a
returns-in-Ok-remove_all-clause-faults_a g c = rose_more (g.A.Store.count c.args.a.now) (g.A.Store.count c.put_all.new.a) (g.A.Store.count c.remove_all.new.a) (faults_of A c.in-Ok.put.items) (faults_of A c.in-Ok-remove_all.removed.items) c.in-Ok.ensures.faults_a c.in-Ok-remove_all.ensures.faults_a

pub returns-in-Ok-remove_all-clause-faults_b : goal.returns-in-Ok-remove_all-clause-faults_b
returns-in-Ok-remove_all-clause-faults_b g c = rose_more (g.B.Store.count c.args.b.now) (g.B.Store.count c.put_all.new.b) (g.B.Store.count c.remove_all.new.b) (faults_of B c.in-Ok.put.items) (faults_of B c.in-Ok-remove_all.removed.items) c.in-Ok.ensures.faults_b c.in-Ok-remove_all.ensures.faults_b

pub returns-in-Ok-remove_all-clause-moved_a : goal.returns-in-Ok-remove_all-clause-moved_a
returns-in-Ok-remove_all-clause-moved_a g c told known =
    all_later A (g.A.Store.side c.args.a.now) (g.A.Store.side c.put_all.new.a) (g.A.Store.side c.remove_all.new.a) c.args.plan.now c.in-Ok.put.items (Since-from_changes c.remove_all.ensures.changes_a (c.put_all.ensures.changes_a.told told).0) (c.in-Ok.ensures.moved_a told known)

pub returns-in-Ok-remove_all-clause-moved_b : goal.returns-in-Ok-remove_all-clause-moved_b
returns-in-Ok-remove_all-clause-moved_b g c told known =
    all_later B (g.B.Store.side c.args.b.now) (g.B.Store.side c.put_all.new.b) (g.B.Store.side c.remove_all.new.b) c.args.plan.now c.in-Ok.put.items (Since-from_changes c.remove_all.ensures.changes_b (c.put_all.ensures.changes_b.told told).0) (c.in-Ok.ensures.moved_b told known)
