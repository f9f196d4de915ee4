use Rattle.std.proofs.Common.{ap, ◌∙◌, subst, get_or, Bool, false, arith}
use Rattle.store_model.proofs.Moments.{Changes-trans, Since-from_changes}
use Rattle.store_model.proofs.Waits.{acts_more}
use Rattle.sync_plan.specs.declared.report.Side.TheVariants.{A, B}
use Rattle.job_writes.specs.Writings.{now_of, sources, IsNamedFor, FitsPut, PutDid, IsCausedOutcome, failed_after}
use Rattle.job_writes.proofs.CauseLemmas.{cause_extends, causes_extend}
use Rattle.job_writes.proofs.KnownLemmas.{known_turn, moved_turn}
use Rattle.job_writes.proofs.FaultLemmas.{outcome_fault, faults_turn}
use Rattle.job_writes.proofs.OrderLemmas.{failed_push, no_step, order_turn, fit_turn, all_turn, put_tried, puts_end}
use Rattle.job_writes.proofs.phases.put_all.Goals as goal

pub returns-in_default-clause-changes_a : goal.returns-in_default-clause-changes_a
returns-in_default-clause-changes_a g c = Changes-trans c.loop-planned.invariant.changes_a c.put_step.ensures.changes_a

pub returns-in_default-clause-changes_b : goal.returns-in_default-clause-changes_b
returns-in_default-clause-changes_b g c = Changes-trans c.loop-planned.invariant.changes_b c.put_step.ensures.changes_b

pub returns-in_default-clause-answer_a : goal.returns-in_default-clause-answer_a
returns-in_default-clause-answer_a g c told =
    let mid = c.loop-planned.invariant.changes_a.told told in
    puts_end (g.A.Store.waits c.args.a.now) A (sources c.args.held_a.now c.args.held_b.now) c.args.plan.now c.loop-planned.planned-index no_step c.loop-planned.outcomes.items (now_of (g.A.Store.side c.args.a.now) (g.A.Store.waiting c.args.a.now)) (now_of (g.A.Store.side c.loop-planned.a) (g.A.Store.waiting c.loop-planned.a)) (now_of (g.A.Store.side c.put_step.new.a) (g.A.Store.waiting c.put_step.new.a)) c.loop-planned-test.true (c.loop-planned.invariant.done_a told) (put_tried (g.A.Store.waits c.loop-planned.a) A (sources c.args.held_a.now c.args.held_b.now) (get_or c.args.plan.now c.loop-planned.planned-index no_step) (now_of (g.A.Store.side c.loop-planned.a) (g.A.Store.waiting c.loop-planned.a)) (now_of (g.A.Store.side c.put_step.new.a) (g.A.Store.waiting c.put_step.new.a)) c.in-Ok.outcome (c.in-Ok.ensures.answer_a mid.0))

pub returns-in_default-clause-answer_b : goal.returns-in_default-clause-answer_b
returns-in_default-clause-answer_b g c told =
    let mid = c.loop-planned.invariant.changes_b.told told in
    puts_end (g.B.Store.waits c.args.b.now) B (sources c.args.held_a.now c.args.held_b.now) c.args.plan.now c.loop-planned.planned-index no_step c.loop-planned.outcomes.items (now_of (g.B.Store.side c.args.b.now) (g.B.Store.waiting c.args.b.now)) (now_of (g.B.Store.side c.loop-planned.b) (g.B.Store.waiting c.loop-planned.b)) (now_of (g.B.Store.side c.put_step.new.b) (g.B.Store.waiting c.put_step.new.b)) c.loop-planned-test.true (c.loop-planned.invariant.done_b told) (put_tried (g.B.Store.waits c.loop-planned.b) B (sources c.args.held_a.now c.args.held_b.now) (get_or c.args.plan.now c.loop-planned.planned-index no_step) (now_of (g.B.Store.side c.loop-planned.b) (g.B.Store.waiting c.loop-planned.b)) (now_of (g.B.Store.side c.put_step.new.b) (g.B.Store.waiting c.put_step.new.b)) c.in-Ok.outcome (c.in-Ok.ensures.answer_b mid.0))

pub returns-in-Err-clause-changes_a : goal.returns-in-Err-clause-changes_a
returns-in-Err-clause-changes_a g c = Changes-trans c.loop-planned.invariant.changes_a c.put_step.ensures.changes_a

pub returns-in-Err-clause-changes_b : goal.returns-in-Err-clause-changes_b
returns-in-Err-clause-changes_b g c = Changes-trans c.loop-planned.invariant.changes_b c.put_step.ensures.changes_b

pub returns-in-Err-clause-answer_a : goal.returns-in-Err-clause-answer_a
returns-in-Err-clause-answer_a g c told =
    let mid = c.loop-planned.invariant.changes_a.told told in
    puts_end (g.A.Store.waits c.args.a.now) A (sources c.args.held_a.now c.args.held_b.now) c.args.plan.now c.loop-planned.planned-index no_step c.loop-planned.outcomes.items (now_of (g.A.Store.side c.args.a.now) (g.A.Store.waiting c.args.a.now)) (now_of (g.A.Store.side c.loop-planned.a) (g.A.Store.waiting c.loop-planned.a)) (now_of (g.A.Store.side c.put_step.new.a) (g.A.Store.waiting c.put_step.new.a)) c.loop-planned-test.true (c.loop-planned.invariant.done_a told) (c.in-Err.ensures.answer_a mid.0)

pub returns-in-Err-clause-answer_b : goal.returns-in-Err-clause-answer_b
returns-in-Err-clause-answer_b g c told =
    let mid = c.loop-planned.invariant.changes_b.told told in
    puts_end (g.B.Store.waits c.args.b.now) B (sources c.args.held_a.now c.args.held_b.now) c.args.plan.now c.loop-planned.planned-index no_step c.loop-planned.outcomes.items (now_of (g.B.Store.side c.args.b.now) (g.B.Store.waiting c.args.b.now)) (now_of (g.B.Store.side c.loop-planned.b) (g.B.Store.waiting c.loop-planned.b)) (now_of (g.B.Store.side c.put_step.new.b) (g.B.Store.waiting c.put_step.new.b)) c.loop-planned-test.true (c.loop-planned.invariant.done_b told) (c.in-Err.ensures.answer_b mid.0)

pub returns-in_default-clause-acts_a : goal.returns-in_default-clause-acts_a
returns-in_default-clause-acts_a g c told = let inv = c.loop-planned.invariant in acts_more inv.kind_a.0 (inv.acts_a told) (c.put_step.ensures.acts_a (inv.changes_a.told told).0)

pub returns-in_default-clause-acts_b : goal.returns-in_default-clause-acts_b
returns-in_default-clause-acts_b g c told = let inv = c.loop-planned.invariant in acts_more inv.kind_b.0 (inv.acts_b told) (c.put_step.ensures.acts_b (inv.changes_b.told told).0)

pub returns-in-Err-clause-acts_a : goal.returns-in-Err-clause-acts_a
returns-in-Err-clause-acts_a g c told = let inv = c.loop-planned.invariant in acts_more inv.kind_a.0 (inv.acts_a told) (c.put_step.ensures.acts_a (inv.changes_a.told told).0)

pub returns-in-Err-clause-acts_b : goal.returns-in-Err-clause-acts_b
returns-in-Err-clause-acts_b g c told = let inv = c.loop-planned.invariant in acts_more inv.kind_b.0 (inv.acts_b told) (c.put_step.ensures.acts_b (inv.changes_b.told told).0)

pub loop-planned-preserved : goal.loop-planned-preserved
loop-planned-preserved g c =
    let inv = c.loop-planned.invariant in
    record {
      changes_a = Changes-trans inv.changes_a c.put_step.ensures.changes_a;
      changes_b = Changes-trans inv.changes_b c.put_step.ensures.changes_b;
      done_a = λ told.
          let mid = inv.changes_a.told told in
          order_turn (λ failed. PutDid (g.A.Store.waits c.args.a.now) A (sources c.args.held_a.now c.args.held_b.now)) false c.args.plan.now c.loop-planned.planned-index no_step c.loop-planned.outcomes.items c.add.new.outcomes.items c.in-Ok.outcome (now_of (g.A.Store.side c.args.a.now) (g.A.Store.waiting c.args.a.now)) (now_of (g.A.Store.side c.loop-planned.a) (g.A.Store.waiting c.loop-planned.a)) (now_of (g.A.Store.side c.put_step.new.a) (g.A.Store.waiting c.put_step.new.a)) c.loop-planned-test.true c.in-Ok-add.ensures (inv.done_a told)
          (subst (λ (w : Bool). PutDid w A (sources c.args.held_a.now c.args.held_b.now) (get_or c.args.plan.now c.loop-planned.planned-index no_step) (now_of (g.A.Store.side c.loop-planned.a) (g.A.Store.waiting c.loop-planned.a)) (now_of (g.A.Store.side c.put_step.new.a) (g.A.Store.waiting c.put_step.new.a)) c.in-Ok.outcome) inv.kind_a.0 (c.in-Ok.ensures.answer_a mid.0));
      done_b = λ told.
          let mid = inv.changes_b.told told in
          order_turn (λ failed. PutDid (g.B.Store.waits c.args.b.now) B (sources c.args.held_a.now c.args.held_b.now)) false c.args.plan.now c.loop-planned.planned-index no_step c.loop-planned.outcomes.items c.add.new.outcomes.items c.in-Ok.outcome (now_of (g.B.Store.side c.args.b.now) (g.B.Store.waiting c.args.b.now)) (now_of (g.B.Store.side c.loop-planned.b) (g.B.Store.waiting c.loop-planned.b)) (now_of (g.B.Store.side c.put_step.new.b) (g.B.Store.waiting c.put_step.new.b)) c.loop-planned-test.true c.in-Ok-add.ensures (inv.done_b told)
          (subst (λ (w : Bool). PutDid w B (sources c.args.held_a.now c.args.held_b.now) (get_or c.args.plan.now c.loop-planned.planned-index no_step) (now_of (g.B.Store.side c.loop-planned.b) (g.B.Store.waiting c.loop-planned.b)) (now_of (g.B.Store.side c.put_step.new.b) (g.B.Store.waiting c.put_step.new.b)) c.in-Ok.outcome) inv.kind_b.0 (c.in-Ok.ensures.answer_b mid.0));
      fits = fit_turn (λ failed p. FitsPut p.step) false c.args.plan.now c.loop-planned.planned-index no_step c.loop-planned.outcomes.items c.add.new.outcomes.items c.in-Ok.outcome c.loop-planned-test.true c.in-Ok-add.ensures inv.fits c.in-Ok.ensures.fits;
      named = fit_turn (λ failed. IsNamedFor (sources c.args.held_a.now c.args.held_b.now)) false c.args.plan.now c.loop-planned.planned-index no_step c.loop-planned.outcomes.items c.add.new.outcomes.items c.in-Ok.outcome c.loop-planned-test.true c.in-Ok-add.ensures inv.named c.in-Ok.ensures.named;
      causes = all_turn (IsCausedOutcome _ _) c.loop-planned.outcomes.items c.add.new.outcomes.items c.in-Ok.outcome c.in-Ok-add.ensures
          (causes_extend (g.A.Store.count c.args.a.now) (g.A.Store.count c.loop-planned.a) (g.A.Store.count c.put_step.new.a) (g.B.Store.count c.args.b.now) (g.B.Store.count c.loop-planned.b) (g.B.Store.count c.put_step.new.b) c.put_step.ensures.changes_a.later c.put_step.ensures.changes_b.later c.loop-planned.outcomes.items inv.causes)
          (cause_extends (g.A.Store.count c.args.a.now) (g.A.Store.count c.loop-planned.a) (g.A.Store.count c.put_step.new.a) (g.A.Store.count c.put_step.new.a) (g.B.Store.count c.args.b.now) (g.B.Store.count c.loop-planned.b) (g.B.Store.count c.put_step.new.b) (g.B.Store.count c.put_step.new.b) inv.changes_a.later (omega arith) inv.changes_b.later (omega arith) c.in-Ok.outcome c.in-Ok.ensures.cause);
      faults_a = faults_turn A (g.A.Store.count c.args.a.now) (g.A.Store.count c.loop-planned.a) (g.A.Store.count c.put_step.new.a) c.loop-planned.outcomes.items c.add.new.outcomes.items c.in-Ok.outcome c.in-Ok-add.ensures inv.faults_a
          (outcome_fault (g.A.Store.count c.loop-planned.a) (g.A.Store.count c.put_step.new.a) (g.B.Store.count c.loop-planned.b) (g.B.Store.count c.put_step.new.b) c.put_step.ensures.changes_a.later c.put_step.ensures.changes_b.later A c.in-Ok.outcome c.in-Ok.ensures.cause);
      faults_b = faults_turn B (g.B.Store.count c.args.b.now) (g.B.Store.count c.loop-planned.b) (g.B.Store.count c.put_step.new.b) c.loop-planned.outcomes.items c.add.new.outcomes.items c.in-Ok.outcome c.in-Ok-add.ensures inv.faults_b
          (outcome_fault (g.A.Store.count c.loop-planned.a) (g.A.Store.count c.put_step.new.a) (g.B.Store.count c.loop-planned.b) (g.B.Store.count c.put_step.new.b) c.put_step.ensures.changes_a.later c.put_step.ensures.changes_b.later B c.in-Ok.outcome c.in-Ok.ensures.cause);
      acts_a = λ told. acts_more inv.kind_a.0 (inv.acts_a told) (c.put_step.ensures.acts_a (inv.changes_a.told told).0);
      known_a = λ told known none.
          let mid = inv.changes_a.told told in
          known_turn (g.A.Store.taken c.loop-planned.a) (g.A.Store.taken c.put_step.new.a) (g.A.Store.side c.args.a.now) (g.A.Store.side c.loop-planned.a) (g.A.Store.side c.put_step.new.a) (failed_after false c.add.new.outcomes.items) (failed_after false c.loop-planned.outcomes.items) c.in-Ok.outcome (ap (failed_after false) c.in-Ok-add.ensures ∙ failed_push false c.loop-planned.outcomes.items c.in-Ok.outcome) (Since-from_changes inv.changes_a told) (Since-from_changes c.put_step.ensures.changes_a mid.0) (inv.known_a told known) (c.in-Ok.ensures.known_a mid.0) none;
      moved_a = λ told known.
          let mid = inv.changes_a.told told in
          moved_turn A (g.A.Store.taken c.loop-planned.a) (g.A.Store.side c.args.a.now) (g.A.Store.side c.loop-planned.a) (g.A.Store.side c.put_step.new.a) c.args.plan.now c.loop-planned.planned-index no_step c.loop-planned.outcomes.items c.add.new.outcomes.items c.in-Ok.outcome c.loop-planned-test.true c.in-Ok-add.ensures (Since-from_changes inv.changes_a told) (Since-from_changes c.put_step.ensures.changes_a mid.0) (inv.known_a told known) (c.in-Ok.ensures.moved_a mid.0) (inv.moved_a told known);
      known_b = λ told known none.
          let mid = inv.changes_b.told told in
          known_turn (g.B.Store.taken c.loop-planned.b) (g.B.Store.taken c.put_step.new.b) (g.B.Store.side c.args.b.now) (g.B.Store.side c.loop-planned.b) (g.B.Store.side c.put_step.new.b) (failed_after false c.add.new.outcomes.items) (failed_after false c.loop-planned.outcomes.items) c.in-Ok.outcome (ap (failed_after false) c.in-Ok-add.ensures ∙ failed_push false c.loop-planned.outcomes.items c.in-Ok.outcome) (Since-from_changes inv.changes_b told) (Since-from_changes c.put_step.ensures.changes_b mid.0) (inv.known_b told known) (c.in-Ok.ensures.known_b mid.0) none;
      moved_b = λ told known.
          let mid = inv.changes_b.told told in
          moved_turn B (g.B.Store.taken c.loop-planned.b) (g.B.Store.side c.args.b.now) (g.B.Store.side c.loop-planned.b) (g.B.Store.side c.put_step.new.b) c.args.plan.now c.loop-planned.planned-index no_step c.loop-planned.outcomes.items c.add.new.outcomes.items c.in-Ok.outcome c.loop-planned-test.true c.in-Ok-add.ensures (Since-from_changes inv.changes_b told) (Since-from_changes c.put_step.ensures.changes_b mid.0) (inv.known_b told known) (c.in-Ok.ensures.moved_b mid.0) (inv.moved_b told known);
      kind_a = (c.put_step.ensures.kind_a.0 ∙ inv.kind_a.0, c.put_step.ensures.kind_a.1 ∙ inv.kind_a.1);
      acts_b = λ told. acts_more inv.kind_b.0 (inv.acts_b told) (c.put_step.ensures.acts_b (inv.changes_b.told told).0);
      kind_b = (c.put_step.ensures.kind_b.0 ∙ inv.kind_b.0, c.put_step.ensures.kind_b.1 ∙ inv.kind_b.1);
      listed_a = c.put_step.ensures.listed_a ∙ inv.listed_a;
      listed_b = c.put_step.ensures.listed_b ∙ inv.listed_b;
      same_a = c.put_step.ensures.same_a ∙ inv.same_a;
      same_b = c.put_step.ensures.same_b ∙ inv.same_b;
    }
