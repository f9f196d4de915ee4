use Rattle.std.proofs.Common.{◌≡◌, false, take}
use Rattle.std.specs.List.{AllByRecursion}
use Rattle.outside.specs.Causes.{Rose}
use Rattle.store_model.specs.Sides.{IsAnyEvent}
use Rattle.store_model.specs.Waits.{ActsOrWaits}
use Rattle.store_model.specs.StoreCalls.{Changes, Stays, IsKnown}
use Rattle.sync_plan.specs.declared.report.Side.TheVariants.{A, B}
use Rattle.job_writes.specs.Knowns.{StillKnown, AllMoveByEdit}
use Rattle.job_writes.specs.Faults.{RoseBy, faults_of}
use Rattle.job_writes.specs.Writings.{now_of, sources, IsNamedFor, FitsPut, AllFit, InOrder, PutDid, IsCausedOutcome, failed_after}
use Rattle.job_writes.proofs.phases.put_all.Given as goal

abbrev pub invariant-loop-planned : goal.invariant-loop-planned
invariant-loop-planned g l = record {
  changes_a : Changes g.A.Store.count g.A.Store.tells g.A.Store.side IsAnyEvent l.fn.a l.a;
  changes_b : Changes g.B.Store.count g.B.Store.tells g.B.Store.side IsAnyEvent l.fn.b l.b;
  done_a : g.A.Store.tells l.fn.a → InOrder (λ failed. PutDid (g.A.Store.waits l.fn.a) A (sources l.held_a l.held_b)) false (take l.planned-index l.plan) l.outcomes.items (now_of (g.A.Store.side l.fn.a) (g.A.Store.waiting l.fn.a)) (now_of (g.A.Store.side l.a) (g.A.Store.waiting l.a));
  done_b : g.B.Store.tells l.fn.b → InOrder (λ failed. PutDid (g.B.Store.waits l.fn.b) B (sources l.held_a l.held_b)) false (take l.planned-index l.plan) l.outcomes.items (now_of (g.B.Store.side l.fn.b) (g.B.Store.waiting l.fn.b)) (now_of (g.B.Store.side l.b) (g.B.Store.waiting l.b));
  fits : AllFit (λ failed p. FitsPut p.step) false (take l.planned-index l.plan) l.outcomes.items;
  named : AllFit (λ failed. IsNamedFor (sources l.held_a l.held_b)) false (take l.planned-index l.plan) l.outcomes.items;
  causes : AllByRecursion (IsCausedOutcome (Rose (g.A.Store.count l.fn.a) (g.A.Store.count l.a)) (Rose (g.B.Store.count l.fn.b) (g.B.Store.count l.b))) l.outcomes.items;
  faults_a : RoseBy (g.A.Store.count l.fn.a) (faults_of A l.outcomes.items) (g.A.Store.count l.a);
  faults_b : RoseBy (g.B.Store.count l.fn.b) (faults_of B l.outcomes.items) (g.B.Store.count l.b);
  acts_a : g.A.Store.tells l.fn.a → ActsOrWaits (g.A.Store.waits l.fn.a) (g.A.Store.side l.fn.a) (g.A.Store.side l.a);
  acts_b : g.B.Store.tells l.fn.b → ActsOrWaits (g.B.Store.waits l.fn.b) (g.B.Store.side l.fn.b) (g.B.Store.side l.b);
  known_a : g.A.Store.tells l.fn.a → IsKnown (g.A.Store.taken l.fn.a) (g.A.Store.side l.fn.a) → failed_after false l.outcomes.items ≡ false → StillKnown (g.A.Store.side l.fn.a) (g.A.Store.taken l.a) (g.A.Store.side l.a);
  moved_a : g.A.Store.tells l.fn.a → IsKnown (g.A.Store.taken l.fn.a) (g.A.Store.side l.fn.a) → AllMoveByEdit A (g.A.Store.side l.fn.a) (g.A.Store.side l.a) (take l.planned-index l.plan) l.outcomes.items;
  known_b : g.B.Store.tells l.fn.b → IsKnown (g.B.Store.taken l.fn.b) (g.B.Store.side l.fn.b) → failed_after false l.outcomes.items ≡ false → StillKnown (g.B.Store.side l.fn.b) (g.B.Store.taken l.b) (g.B.Store.side l.b);
  moved_b : g.B.Store.tells l.fn.b → IsKnown (g.B.Store.taken l.fn.b) (g.B.Store.side l.fn.b) → AllMoveByEdit B (g.B.Store.side l.fn.b) (g.B.Store.side l.b) (take l.planned-index l.plan) l.outcomes.items;
  kind_a : Stays g.A.Store.waits g.A.Store.is_sure l.fn.a l.a;
  kind_b : Stays g.B.Store.waits g.B.Store.is_sure l.fn.b l.b;
  listed_a : g.A.Store.is_listed l.a ≡ g.A.Store.is_listed l.fn.a;
  listed_b : g.B.Store.is_listed l.b ≡ g.B.Store.is_listed l.fn.b;
  same_a : g.A.Store.setting l.a ≡ g.A.Store.setting l.fn.a;
  same_b : g.B.Store.setting l.b ≡ g.B.Store.setting l.fn.b;
}
