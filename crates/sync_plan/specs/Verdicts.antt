-- The table: what one ident is due on both sides and in the status, and the step that brings it there (this project's own, after vdirsyncer).
use Rattle.std.specs.Prelude.{◌≡◌, ◌&&◌, ◌||◌, ℕ, Bool, false, List, Option, Some, None, option_map, if◌then◌else◌}
use Rattle.std.specs.Str.{bytes_eq}
use Rattle.item_text.specs.declared.fp.Fp.{Fp}
use Rattle.sync_plan.specs.declared.report.Side.{Side}
use Rattle.sync_plan.specs.declared.report.Side.TheVariants.{A, B}
use Rattle.sync_plan.specs.declared.rules.ConflictRule.{ConflictRule}
use Rattle.sync_plan.specs.declared.rules.ConflictRule.TheVariants.{Null, AWins, BWins, Command}
use Rattle.sync_plan.specs.declared.rules.Rules.{Rules}
use Rattle.sync_plan.specs.declared.dues.Step.{Step}
use Rattle.sync_plan.specs.declared.dues.Step.TheVariants.{Forget, Keep, CopyTo, WriteOver, RemoveFrom, HandOver, Conflict, Held}
use Rattle.sync_plan.specs.declared.dues.Due as code
use Rattle.sync_plan.specs.declared.dues.Due.TheVariants as due
use Rattle.sync_plan.specs.declared.table.Verdict as both

-- what stands of one ident: its version on side a, on side b, and in its row of the status; each a version or none
pub record Versions : Type 0 where
  pub a : Option (List ℕ)
  pub b : Option (List ℕ)
  pub s : Option (List ℕ)

-- what both sides and the status are to hold of an ident: nothing, a version, or it isn't settled
pub data Due : Type 0 where
  Gone : Due
  At : List ℕ → Due
  Unsettled : Due

pub record Verdict : Type 0 where
  pub due : Due
  pub step : Step

abbrev pub verdict : Due → Step → Verdict
verdict due step = record { due = due; step = step }

-- both sides have the ident, in two versions, and the status has neither: the rule says
abbrev pub by_rule : ConflictRule → List ℕ → List ℕ → Verdict
by_rule AWins v w = verdict (At v) (WriteOver B)
by_rule BWins v w = verdict (At w) (WriteOver A)
by_rule Command v w = verdict Unsettled HandOver
by_rule Null v w = verdict Unsettled Conflict

-- both sides have the ident, in two versions: the one that the status has is the older
abbrev pub differing : ConflictRule → List ℕ → List ℕ → Option (List ℕ) → Verdict
differing rule v w None = by_rule rule v w
differing rule v w (Some s) = if bytes_eq v s then verdict (At w) (WriteOver A) else (if bytes_eq w s then verdict (At v) (WriteOver B) else by_rule rule v w)

abbrev pub other_side : Side → Side
other_side A = B
other_side B = A

-- side `here` alone has the ident: it is new there or changed, or it is gone from the other
abbrev pub lone : Side → List ℕ → Option (List ℕ) → Verdict
lone here v None = verdict (At v) (CopyTo (other_side here))
lone here v (Some s) = if bytes_eq v s then verdict Gone (RemoveFrom here) else verdict (At v) (CopyTo (other_side here))

abbrev pub by_sides : ConflictRule → Option (List ℕ) → Option (List ℕ) → Option (List ℕ) → Verdict
by_sides rule None None s = verdict Gone Forget
by_sides rule (Some v) None s = lone A v s
by_sides rule None (Some w) s = lone B w s
by_sides rule (Some v) (Some w) s = if bytes_eq v w then verdict (At v) Keep else differing rule v w s

-- of all that stands of the ident, where both sides may be written
abbrev pub table : ConflictRule → Versions → Verdict
table rule v = by_sides rule v.a v.b v.s

abbrev pub is_read_only : Rules → Side → Bool
is_read_only rules A = rules.a_read_only
is_read_only rules B = rules.b_read_only

-- one side at least may be written
abbrev pub IsWritable : Rules → Type 0
IsWritable rules = (rules.a_read_only && rules.b_read_only) ≡ false

-- a step that would write to a read-only side is held, and a command's answer is to go over both
abbrev pub hold : Rules → Due → Step → Verdict
hold rules due Forget = verdict due Forget
hold rules due Keep = verdict due Keep
hold rules due (CopyTo side) = if is_read_only rules side then verdict Unsettled (Held side) else verdict due (CopyTo side)
hold rules due (WriteOver side) = if is_read_only rules side then verdict Unsettled (Held side) else verdict due (WriteOver side)
hold rules due (RemoveFrom side) = if is_read_only rules side then verdict Unsettled (Held side) else verdict due (RemoveFrom side)
hold rules due HandOver = if rules.a_read_only || rules.b_read_only then verdict Unsettled Conflict else verdict due HandOver
hold rules due Conflict = verdict due Conflict
hold rules due (Held side) = verdict due (Held side)

abbrev pub held : Rules → Verdict → Verdict
held rules v = hold rules v.due v.step

abbrev pub verdict_of : Rules → Versions → Verdict
verdict_of rules v = held rules (table rules.conflict v)

abbrev pub due_of : Rules → Versions → Due
due_of rules v = (verdict_of rules v).due

abbrev pub step_of : Rules → Versions → Step
step_of rules v = (verdict_of rules v).step

-- what both sides and the status hold at a due
abbrev pub version_of : Due → Option (List ℕ)
version_of Gone = None
version_of (At v) = Some v
version_of Unsettled = None

abbrev pub IsSettled : Due → Type 0
IsSettled Gone = Unit {0}
IsSettled (At v) = Unit {0}
IsSettled Unsettled = ⊥

abbrev pub IsUndisputed : Rules → Versions → Type 0
IsUndisputed rules v = IsSettled (due_of rules v)

-- the steps of what isn't settled
abbrev pub IsOpen : Step → Type 0
IsOpen Forget = ⊥
IsOpen Keep = ⊥
IsOpen (CopyTo side) = ⊥
IsOpen (WriteOver side) = ⊥
IsOpen (RemoveFrom side) = ⊥
IsOpen HandOver = Unit {0}
IsOpen Conflict = Unit {0}
IsOpen (Held side) = Unit {0}

-- the rule by which this side wins
abbrev pub wins : Side → ConflictRule
wins A = AWins
wins B = BWins

-- neither side is at the version that the status has
pub record IsNeither (v : Versions) : Type 0 where
  pub not_a : v.a ≡ v.s → ⊥
  pub not_b : v.b ≡ v.s → ⊥

-- ---- the same of the code's values

abbrev pub version_in : Option Fp → Option (List ℕ)
version_in fp = option_map (λ f. f.0) fp

-- what stands of an ident by three fingerprints
abbrev pub versions_in : Option Fp → Option Fp → Option Fp → Versions
versions_in a b s = record { a = version_in a; b = version_in b; s = version_in s }

abbrev pub due_in : code.Due → Due
due_in due.Gone = Gone
due_in (due.Version fp) = At fp.0
due_in due.Unsettled = Unsettled

abbrev pub verdict_in : both.Verdict → Verdict
verdict_in v = verdict (due_in v.due) v.step
