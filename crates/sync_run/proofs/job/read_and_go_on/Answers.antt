use Rattle.std.proofs.Common.{◌∙◌, inr}
use Rattle.outside.proofs.Runs.{ChangesBy-weaker, ChangesBy-trans}
use Rattle.store_model.proofs.Moments.{Changes-trans}
use Rattle.job_writes.proofs.CallLemmas.{any_change}
use Rattle.sync_run.proofs.EndLemmas.{edit_is_keeping, lines_begin, flag_of}
use Rattle.sync_plan.specs.declared.report.Side.TheVariants.{A, B}
use Rattle.sync_run.specs.Lines.{report_faults}
use Rattle.sync_run.specs.Ends.{end_of_stop}
use Rattle.store_model.specs.Sides.{WasEdited}
use Rattle.store_model.specs.StoreCalls.{IsKnown}
use Rattle.sync_run.proofs.FaultLemmas.{stop_fault, bare_faults, later_faults}
use Rattle.sync_run.proofs.job.read_and_go_on.Goals as goal

pub returns-in-Ok-clause-changes_a : goal.returns-in-Ok-clause-changes_a
returns-in-Ok-clause-changes_a g c = Changes-trans (any_change c.read_job.ensures.a) c.go_on.ensures.changes_a

pub returns-in-Ok-clause-changes_b : goal.returns-in-Ok-clause-changes_b
returns-in-Ok-clause-changes_b g c = Changes-trans (any_change c.read_job.ensures.b) c.go_on.ensures.changes_b

pub returns-in-Ok-clause-keeper : goal.returns-in-Ok-clause-keeper
returns-in-Ok-clause-keeper g c = ChangesBy-trans (ChangesBy-weaker edit_is_keeping c.read_job.ensures.keeper) c.go_on.ensures.keeper

pub returns-in-Ok-clause-job : goal.returns-in-Ok-clause-job
returns-in-Ok-clause-job g c told_a told_b told_k =
    let mid_a = c.read_job.ensures.a.told told_a in
    let mid_b = c.read_job.ensures.b.told told_b in
    let mid_k = c.read_job.ensures.keeper.told told_k in
    let known_a = flag_of (WasEdited (g.A.Store.side c.args.a.now) (g.A.Store.side c.read_job.new.a)) (IsKnown (g.A.Store.taken c.read_job.new.a) (g.A.Store.side c.read_job.new.a)) (c.in-Ok.ensures.known_a told_a) in
    let known_b = flag_of (WasEdited (g.B.Store.side c.args.b.now) (g.B.Store.side c.read_job.new.b)) (IsKnown (g.B.Store.taken c.read_job.new.b) (g.B.Store.side c.read_job.new.b)) (c.in-Ok.ensures.known_b told_b) in
    inr (record {
      r = c.in-Ok.read;
      k = g.K.Keeper.state c.read_job.new.keeper;
      a = g.A.Store.side c.read_job.new.a;
      b = g.B.Store.side c.read_job.new.b;
      read = c.in-Ok.ensures.read told_a told_b told_k;
      known_a = known_a.0;
      known_b = known_b.0;
      knows_a = known_a.1;
      knows_b = known_b.1;
      goes_on = rw (c.read_job.ensures.kind_a.0, c.read_job.ensures.kind_b.0) at (c.go_on.ensures.goes_on mid_a.0 mid_b.0 mid_k.0 (c.in-Ok.ensures.found told_k) known_a.0 known_b.0 known_a.2 known_b.2);
    })

pub returns-in-Ok-clause-lines : goal.returns-in-Ok-clause-lines
returns-in-Ok-clause-lines g c = lines_begin (g.A.Store.count c.args.a.now) (g.A.Store.count c.read_job.new.a) (g.A.Store.count c.go_on.new.a) (g.B.Store.count c.args.b.now) (g.B.Store.count c.read_job.new.b) (g.B.Store.count c.go_on.new.b) c.read_job.ensures.a.later c.read_job.ensures.b.later c.go_on.result.lines.items c.go_on.ensures.lines

pub returns-in-Err-clause-changes_a : goal.returns-in-Err-clause-changes_a
returns-in-Err-clause-changes_a g c = any_change c.read_job.ensures.a

pub returns-in-Err-clause-changes_b : goal.returns-in-Err-clause-changes_b
returns-in-Err-clause-changes_b g c = any_change c.read_job.ensures.b

pub returns-in-Err-clause-keeper : goal.returns-in-Err-clause-keeper
returns-in-Err-clause-keeper g c = ChangesBy-weaker edit_is_keeping c.read_job.ensures.keeper

pub returns-in-Ok-clause-faults_a : goal.returns-in-Ok-clause-faults_a
returns-in-Ok-clause-faults_a g c = later_faults (g.A.Store.count c.args.a.now) (g.A.Store.count c.read_job.new.a) (g.A.Store.count c.go_on.new.a) (report_faults A c.go_on.result) c.read_job.ensures.a.later c.go_on.ensures.faults_a

pub returns-in-Err-clause-faults_a : goal.returns-in-Err-clause-faults_a
returns-in-Err-clause-faults_a g c =
    bare_faults A (g.A.Store.count c.args.a.now) (g.A.Store.count c.read_job.new.a) c.ended.result (end_of_stop c.in-Err.stop) c.ended.ensures.lines (c.ended.ensures.end ∙ c.end_of_stop.ensures)
    (stop_fault (g.A.Store.count c.args.a.now) (g.A.Store.count c.read_job.new.a) (g.B.Store.count c.args.b.now) (g.B.Store.count c.read_job.new.b) c.read_job.ensures.a.later c.read_job.ensures.b.later ⊥ _ A c.in-Err.stop c.in-Err.ensures.cause)

pub returns-in-Ok-clause-faults_b : goal.returns-in-Ok-clause-faults_b
returns-in-Ok-clause-faults_b g c = later_faults (g.B.Store.count c.args.b.now) (g.B.Store.count c.read_job.new.b) (g.B.Store.count c.go_on.new.b) (report_faults B c.go_on.result) c.read_job.ensures.b.later c.go_on.ensures.faults_b

pub returns-in-Err-clause-faults_b : goal.returns-in-Err-clause-faults_b
returns-in-Err-clause-faults_b g c =
    bare_faults B (g.B.Store.count c.args.b.now) (g.B.Store.count c.read_job.new.b) c.ended.result (end_of_stop c.in-Err.stop) c.ended.ensures.lines (c.ended.ensures.end ∙ c.end_of_stop.ensures)
    (stop_fault (g.A.Store.count c.args.a.now) (g.A.Store.count c.read_job.new.a) (g.B.Store.count c.args.b.now) (g.B.Store.count c.read_job.new.b) c.read_job.ensures.a.later c.read_job.ensures.b.later ⊥ _ B c.in-Err.stop c.in-Err.ensures.cause)
