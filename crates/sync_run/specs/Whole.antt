-- All that is said of one job, whether or not its devices tell what they hold (this project's own).
use Rattle.std.specs.Prelude.{◌≤◌, ℕ, Bool}
use Rattle.std.specs.List.{AllByRecursion}
use Rattle.outside.specs.Causes.{Rose}
use Rattle.store_model.specs.Sides.{Since}
use Rattle.status_keeper.specs.Kept as status
use Rattle.sync_plan.specs.declared.report.Side.TheVariants.{A, B}
use Rattle.sync_plan.specs.declared.report.Report.{Report}
use Rattle.job_reads.specs.Readings.{Span}
use Rattle.job_writes.specs.Faults.{RoseBy}
use Rattle.sync_run.specs.declared.job.SyncOrder.{SyncOrder}
use Rattle.sync_run.specs.Lines.{IsCausedLine, IsCausedEnd, report_faults}
use Rattle.sync_run.specs.Ends.{IsKeeping, IsJob}

-- the counts of faults of both sides and of the status, at entry and at exit
pub record Counts : Type 0 where
  pub a : ℕ
  pub a_now : ℕ
  pub b : ℕ
  pub b_now : ℕ
  pub k : ℕ
  pub k_now : ℕ

abbrev pub counts : ℕ → ℕ → ℕ → ℕ → ℕ → ℕ → Counts
counts a a_now b b_now k k_now = record { a = a; a_now = a_now; b = b; b_now = b_now; k = k; k_now = k_now }

-- one run of one job: the counts, whether each device tells its state at entry and at exit, and the states of those that do
pub record WholeRun (order : SyncOrder) (waits_a waits_b : Bool) (c : Counts) (tells_a tells_a' tells_b tells_b' tells_k tells_k' : Type 0) (x : Span) (report : Report) : Type 0 where
  pub later_a : c.a ≤ c.a_now
  pub later_b : c.b ≤ c.b_now
  pub later_k : c.k ≤ c.k_now
  pub told_a : tells_a → tells_a' × Since x.a x.a_now
  pub told_b : tells_b → tells_b' × Since x.b x.b_now
  pub told_k : tells_k → tells_k' × status.Evolves IsKeeping x.k x.k_now
  -- each fault that the report tells has its cause, and of each side it tells no more than its count rose by
  pub lines : AllByRecursion (IsCausedLine (Rose c.a c.a_now) (Rose c.b c.b_now)) report.lines.items
  pub cause : IsCausedEnd (Rose c.a c.a_now) (Rose c.b c.b_now) (Rose c.k c.k_now) report.end
  pub faults_a : RoseBy c.a (report_faults A report) c.a_now
  pub faults_b : RoseBy c.b (report_faults B report) c.b_now
  -- all that is said of what it did
  pub job : tells_a → tells_b → tells_k → IsJob order.force_delete order.rules waits_a waits_b x report
