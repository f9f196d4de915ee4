use Rattle.std.proofs.Common.{◌∙◌, subst, get_or, Bool, arith}
use Rattle.store_model.proofs.Moments.{Changes-trans}
use Rattle.store_model.proofs.Waits.{acts_more}
use Rattle.sync_plan.specs.declared.report.Side.TheVariants.{A, B}
use Rattle.job_writes.specs.Writings.{now_of, sources, FitsRemoval, RemovalDone, IsCausedOutcome}
use Rattle.job_writes.proofs.CauseLemmas.{cause_extends, causes_extend}
use Rattle.job_writes.proofs.FaultLemmas.{outcome_fault, faults_turn}
use Rattle.job_writes.proofs.OrderLemmas.{no_step, order_turn, fit_turn, all_turn, failed_turn, removal_tried, removals_end}
use Rattle.job_writes.proofs.phases.remove_all.Goals as goal

pub returns-in_default-clause-changes_a : goal.returns-in_default-clause-changes_a
returns-in_default-clause-changes_a g c = Changes-trans c.loop-planned.invariant.changes_a c.removal_turn.ensures.changes_a

pub returns-in_default-clause-changes_b : goal.returns-in_default-clause-changes_b
returns-in_default-clause-changes_b g c = Changes-trans c.loop-planned.invariant.changes_b c.removal_turn.ensures.changes_b

pub returns-in_default-clause-answer_a : goal.returns-in_default-clause-answer_a
returns-in_default-clause-answer_a g c told =
    let mid = c.loop-planned.invariant.changes_a.told told in
    removals_end (g.A.Store.waits c.args.a.now) A (sources c.args.held_a.now c.args.held_b.now) c.args.failed c.loop-planned.halted c.args.plan.now c.loop-planned.planned-index no_step c.loop-planned.outcomes.items (now_of (g.A.Store.side c.args.a.now) (g.A.Store.waiting c.args.a.now)) (now_of (g.A.Store.side c.loop-planned.a) (g.A.Store.waiting c.loop-planned.a)) (now_of (g.A.Store.side c.removal_turn.new.a) (g.A.Store.waiting c.removal_turn.new.a)) c.loop-planned-test.true c.loop-planned.invariant.halted (c.loop-planned.invariant.done_a told) (removal_tried (g.A.Store.waits c.loop-planned.a) A (sources c.args.held_a.now c.args.held_b.now) c.loop-planned.halted (get_or c.args.plan.now c.loop-planned.planned-index no_step) (now_of (g.A.Store.side c.loop-planned.a) (g.A.Store.waiting c.loop-planned.a)) (now_of (g.A.Store.side c.removal_turn.new.a) (g.A.Store.waiting c.removal_turn.new.a)) c.in-Ok.outcome (c.in-Ok.ensures.answer_a mid.0))

pub returns-in_default-clause-answer_b : goal.returns-in_default-clause-answer_b
returns-in_default-clause-answer_b g c told =
    let mid = c.loop-planned.invariant.changes_b.told told in
    removals_end (g.B.Store.waits c.args.b.now) B (sources c.args.held_a.now c.args.held_b.now) c.args.failed c.loop-planned.halted c.args.plan.now c.loop-planned.planned-index no_step c.loop-planned.outcomes.items (now_of (g.B.Store.side c.args.b.now) (g.B.Store.waiting c.args.b.now)) (now_of (g.B.Store.side c.loop-planned.b) (g.B.Store.waiting c.loop-planned.b)) (now_of (g.B.Store.side c.removal_turn.new.b) (g.B.Store.waiting c.removal_turn.new.b)) c.loop-planned-test.true c.loop-planned.invariant.halted (c.loop-planned.invariant.done_b told) (removal_tried (g.B.Store.waits c.loop-planned.b) B (sources c.args.held_a.now c.args.held_b.now) c.loop-planned.halted (get_or c.args.plan.now c.loop-planned.planned-index no_step) (now_of (g.B.Store.side c.loop-planned.b) (g.B.Store.waiting c.loop-planned.b)) (now_of (g.B.Store.side c.removal_turn.new.b) (g.B.Store.waiting c.removal_turn.new.b)) c.in-Ok.outcome (c.in-Ok.ensures.answer_b mid.0))

pub returns-in-Err-clause-changes_a : goal.returns-in-Err-clause-changes_a
returns-in-Err-clause-changes_a g c = Changes-trans c.loop-planned.invariant.changes_a c.removal_turn.ensures.changes_a

pub returns-in-Err-clause-changes_b : goal.returns-in-Err-clause-changes_b
returns-in-Err-clause-changes_b g c = Changes-trans c.loop-planned.invariant.changes_b c.removal_turn.ensures.changes_b

pub returns-in-Err-clause-answer_a : goal.returns-in-Err-clause-answer_a
returns-in-Err-clause-answer_a g c told =
    let mid = c.loop-planned.invariant.changes_a.told told in
    removals_end (g.A.Store.waits c.args.a.now) A (sources c.args.held_a.now c.args.held_b.now) c.args.failed c.loop-planned.halted c.args.plan.now c.loop-planned.planned-index no_step c.loop-planned.outcomes.items (now_of (g.A.Store.side c.args.a.now) (g.A.Store.waiting c.args.a.now)) (now_of (g.A.Store.side c.loop-planned.a) (g.A.Store.waiting c.loop-planned.a)) (now_of (g.A.Store.side c.removal_turn.new.a) (g.A.Store.waiting c.removal_turn.new.a)) c.loop-planned-test.true c.loop-planned.invariant.halted (c.loop-planned.invariant.done_a told) (c.in-Err.ensures.answer_a mid.0)

pub returns-in-Err-clause-answer_b : goal.returns-in-Err-clause-answer_b
returns-in-Err-clause-answer_b g c told =
    let mid = c.loop-planned.invariant.changes_b.told told in
    removals_end (g.B.Store.waits c.args.b.now) B (sources c.args.held_a.now c.args.held_b.now) c.args.failed c.loop-planned.halted c.args.plan.now c.loop-planned.planned-index no_step c.loop-planned.outcomes.items (now_of (g.B.Store.side c.args.b.now) (g.B.Store.waiting c.args.b.now)) (now_of (g.B.Store.side c.loop-planned.b) (g.B.Store.waiting c.loop-planned.b)) (now_of (g.B.Store.side c.removal_turn.new.b) (g.B.Store.waiting c.removal_turn.new.b)) c.loop-planned-test.true c.loop-planned.invariant.halted (c.loop-planned.invariant.done_b told) (c.in-Err.ensures.answer_b mid.0)

pub returns-in_default-clause-acts_a : goal.returns-in_default-clause-acts_a
returns-in_default-clause-acts_a g c told = let inv = c.loop-planned.invariant in acts_more inv.kind_a.0 (inv.acts_a told) (c.removal_turn.ensures.acts_a (inv.changes_a.told told).0)

pub returns-in_default-clause-acts_b : goal.returns-in_default-clause-acts_b
returns-in_default-clause-acts_b g c told = let inv = c.loop-planned.invariant in acts_more inv.kind_b.0 (inv.acts_b told) (c.removal_turn.ensures.acts_b (inv.changes_b.told told).0)

pub returns-in-Err-clause-acts_a : goal.returns-in-Err-clause-acts_a
returns-in-Err-clause-acts_a g c told = let inv = c.loop-planned.invariant in acts_more inv.kind_a.0 (inv.acts_a told) (c.removal_turn.ensures.acts_a (inv.changes_a.told told).0)

pub returns-in-Err-clause-acts_b : goal.returns-in-Err-clause-acts_b
returns-in-Err-clause-acts_b g c told = let inv = c.loop-planned.invariant in acts_more inv.kind_b.0 (inv.acts_b told) (c.removal_turn.ensures.acts_b (inv.changes_b.told told).0)

pub loop-planned-preserved : goal.loop-planned-preserved
loop-planned-preserved g c =
    let inv = c.loop-planned.invariant in
    record {
      halted = c.fails-halted.ensures ∙ failed_turn c.args.failed c.loop-planned.halted c.loop-planned.outcomes.items c.add.new.outcomes.items c.in-Ok.outcome inv.halted c.in-Ok-add.ensures;
      changes_a = Changes-trans inv.changes_a c.removal_turn.ensures.changes_a;
      changes_b = Changes-trans inv.changes_b c.removal_turn.ensures.changes_b;
      done_a = λ told.
          let mid = inv.changes_a.told told in
          order_turn (RemovalDone (g.A.Store.waits c.args.a.now) A (sources c.args.held_a.now c.args.held_b.now)) c.args.failed c.args.plan.now c.loop-planned.planned-index no_step c.loop-planned.outcomes.items c.add.new.outcomes.items c.in-Ok.outcome (now_of (g.A.Store.side c.args.a.now) (g.A.Store.waiting c.args.a.now)) (now_of (g.A.Store.side c.loop-planned.a) (g.A.Store.waiting c.loop-planned.a)) (now_of (g.A.Store.side c.removal_turn.new.a) (g.A.Store.waiting c.removal_turn.new.a)) c.loop-planned-test.true c.in-Ok-add.ensures (inv.done_a told)
          (subst (λ (h : Bool). RemovalDone (g.A.Store.waits c.args.a.now) A (sources c.args.held_a.now c.args.held_b.now) h (get_or c.args.plan.now c.loop-planned.planned-index no_step) (now_of (g.A.Store.side c.loop-planned.a) (g.A.Store.waiting c.loop-planned.a)) (now_of (g.A.Store.side c.removal_turn.new.a) (g.A.Store.waiting c.removal_turn.new.a)) c.in-Ok.outcome) inv.halted (subst (λ (w : Bool). RemovalDone w A (sources c.args.held_a.now c.args.held_b.now) c.loop-planned.halted (get_or c.args.plan.now c.loop-planned.planned-index no_step) (now_of (g.A.Store.side c.loop-planned.a) (g.A.Store.waiting c.loop-planned.a)) (now_of (g.A.Store.side c.removal_turn.new.a) (g.A.Store.waiting c.removal_turn.new.a)) c.in-Ok.outcome) inv.kind_a.0 (c.in-Ok.ensures.answer_a mid.0)));
      done_b = λ told.
          let mid = inv.changes_b.told told in
          order_turn (RemovalDone (g.B.Store.waits c.args.b.now) B (sources c.args.held_a.now c.args.held_b.now)) c.args.failed c.args.plan.now c.loop-planned.planned-index no_step c.loop-planned.outcomes.items c.add.new.outcomes.items c.in-Ok.outcome (now_of (g.B.Store.side c.args.b.now) (g.B.Store.waiting c.args.b.now)) (now_of (g.B.Store.side c.loop-planned.b) (g.B.Store.waiting c.loop-planned.b)) (now_of (g.B.Store.side c.removal_turn.new.b) (g.B.Store.waiting c.removal_turn.new.b)) c.loop-planned-test.true c.in-Ok-add.ensures (inv.done_b told)
          (subst (λ (h : Bool). RemovalDone (g.B.Store.waits c.args.b.now) B (sources c.args.held_a.now c.args.held_b.now) h (get_or c.args.plan.now c.loop-planned.planned-index no_step) (now_of (g.B.Store.side c.loop-planned.b) (g.B.Store.waiting c.loop-planned.b)) (now_of (g.B.Store.side c.removal_turn.new.b) (g.B.Store.waiting c.removal_turn.new.b)) c.in-Ok.outcome) inv.halted (subst (λ (w : Bool). RemovalDone w B (sources c.args.held_a.now c.args.held_b.now) c.loop-planned.halted (get_or c.args.plan.now c.loop-planned.planned-index no_step) (now_of (g.B.Store.side c.loop-planned.b) (g.B.Store.waiting c.loop-planned.b)) (now_of (g.B.Store.side c.removal_turn.new.b) (g.B.Store.waiting c.removal_turn.new.b)) c.in-Ok.outcome) inv.kind_b.0 (c.in-Ok.ensures.answer_b mid.0)));
      fits = fit_turn (λ failed p. FitsRemoval failed p.step) c.args.failed c.args.plan.now c.loop-planned.planned-index no_step c.loop-planned.outcomes.items c.add.new.outcomes.items c.in-Ok.outcome c.loop-planned-test.true c.in-Ok-add.ensures inv.fits (subst (λ (h : Bool). FitsRemoval h (get_or c.args.plan.now c.loop-planned.planned-index no_step).step c.in-Ok.outcome) inv.halted c.in-Ok.ensures.fits);
      causes = all_turn (IsCausedOutcome _ _) c.loop-planned.outcomes.items c.add.new.outcomes.items c.in-Ok.outcome c.in-Ok-add.ensures
          (causes_extend (g.A.Store.count c.args.a.now) (g.A.Store.count c.loop-planned.a) (g.A.Store.count c.removal_turn.new.a) (g.B.Store.count c.args.b.now) (g.B.Store.count c.loop-planned.b) (g.B.Store.count c.removal_turn.new.b) c.removal_turn.ensures.changes_a.later c.removal_turn.ensures.changes_b.later c.loop-planned.outcomes.items inv.causes)
          (cause_extends (g.A.Store.count c.args.a.now) (g.A.Store.count c.loop-planned.a) (g.A.Store.count c.removal_turn.new.a) (g.A.Store.count c.removal_turn.new.a) (g.B.Store.count c.args.b.now) (g.B.Store.count c.loop-planned.b) (g.B.Store.count c.removal_turn.new.b) (g.B.Store.count c.removal_turn.new.b) inv.changes_a.later (omega arith) inv.changes_b.later (omega arith) c.in-Ok.outcome c.in-Ok.ensures.cause);
      faults_a = faults_turn A (g.A.Store.count c.args.a.now) (g.A.Store.count c.loop-planned.a) (g.A.Store.count c.removal_turn.new.a) c.loop-planned.outcomes.items c.add.new.outcomes.items c.in-Ok.outcome c.in-Ok-add.ensures inv.faults_a
          (outcome_fault (g.A.Store.count c.loop-planned.a) (g.A.Store.count c.removal_turn.new.a) (g.B.Store.count c.loop-planned.b) (g.B.Store.count c.removal_turn.new.b) c.removal_turn.ensures.changes_a.later c.removal_turn.ensures.changes_b.later A c.in-Ok.outcome c.in-Ok.ensures.cause);
      faults_b = faults_turn B (g.B.Store.count c.args.b.now) (g.B.Store.count c.loop-planned.b) (g.B.Store.count c.removal_turn.new.b) c.loop-planned.outcomes.items c.add.new.outcomes.items c.in-Ok.outcome c.in-Ok-add.ensures inv.faults_b
          (outcome_fault (g.A.Store.count c.loop-planned.a) (g.A.Store.count c.removal_turn.new.a) (g.B.Store.count c.loop-planned.b) (g.B.Store.count c.removal_turn.new.b) c.removal_turn.ensures.changes_a.later c.removal_turn.ensures.changes_b.later B c.in-Ok.outcome c.in-Ok.ensures.cause);
      acts_a = λ told. acts_more inv.kind_a.0 (inv.acts_a told) (c.removal_turn.ensures.acts_a (inv.changes_a.told told).0);
      kind_a = (c.removal_turn.ensures.kind_a.0 ∙ inv.kind_a.0, c.removal_turn.ensures.kind_a.1 ∙ inv.kind_a.1);
      acts_b = λ told. acts_more inv.kind_b.0 (inv.acts_b told) (c.removal_turn.ensures.acts_b (inv.changes_b.told told).0);
      kind_b = (c.removal_turn.ensures.kind_b.0 ∙ inv.kind_b.0, c.removal_turn.ensures.kind_b.1 ∙ inv.kind_b.1);
      listed_a = c.removal_turn.ensures.listed_a ∙ inv.listed_a;
      listed_b = c.removal_turn.ensures.listed_b ∙ inv.listed_b;
      same_a = c.removal_turn.ensures.same_a ∙ inv.same_a;
      same_b = c.removal_turn.ensures.same_b ∙ inv.same_b;
    }
