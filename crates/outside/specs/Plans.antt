-- Which calls of a device in memory fail, by its plan (this project's own).
use Rattle.std.specs.Prelude.{◌≡◌, ℕ, ◌+◌, ◌-◌, ◌^◌, min, ◌==◌, nat_le, Bool, true, false, List, [], ◌∷◌, Option, Some, None, if◌then◌else◌}
use Rattle.outside.specs.Causes.{risen}
use Rattle.outside.specs.declared.plan.FaultPlan.{FaultPlan}
use Rattle.outside.specs.declared.plan.FaultPlace.{FaultPlace}
use Rattle.outside.specs.declared.plan.Fate.{Fate}
use Rattle.outside.specs.declared.plan.Fate.TheVariants.{Acts, Fails, ActsAndFails}

-- what the first place of this call says
abbrev pub fate_at : List FaultPlace → ℕ → Fate
fate_at [] call = Acts
fate_at (p ∷ ps) call = if p.call == call then (if p.acted then ActsAndFails else Fails) else fate_at ps call

-- from the stop on each call fails
abbrev pub fate_before : Option ℕ → Fate → ℕ → Fate
fate_before None fate call = fate
fate_before (Some stop) fate call = if nat_le stop call then Fails else fate

-- what the plan says of a call
abbrev pub fate_of : FaultPlan → ℕ → Fate
fate_of plan call = fate_before plan.stop_at (fate_at plan.places.items call) call

-- a plan, and how many calls have begun
pub record Course : Type 0 where
  pub plan : FaultPlan
  pub calls : ℕ

-- a plan before the first call
abbrev pub begun : FaultPlan → Course
begun plan = record { plan = plan; calls = 0 }

-- the number of the call that begins. It stays at the last value of a u64
abbrev pub next_call : Course → ℕ
next_call course = min (course.calls + 1) (2 ^ 64 - 1)

-- the course once that call has begun
abbrev pub next : Course → Course
next course = record { plan = course.plan; calls = next_call course }

-- what becomes of that call
abbrev pub next_fate : Course → Fate
next_fate course = fate_of course.plan (next_call course)

-- no call is to fail
abbrev pub IsQuiet : Option Course → Type 0
IsQuiet None = ⊥
IsQuiet (Some course) = (call : ℕ) → fate_of course.plan call ≡ Acts

-- the count rises by one exactly where the call is to fail
abbrev pub CountsFate : Fate → ℕ → ℕ → Type 0
CountsFate Acts before now = now ≡ before
CountsFate Fails before now = now ≡ risen before
CountsFate ActsAndFails before now = now ≡ risen before

-- and then it has failed
abbrev pub FailsBy : Fate → Type 0 → Type 0
FailsBy Acts failed = Unit {0}
FailsBy Fails failed = failed
FailsBy ActsAndFails failed = failed

-- a call that was to act fails where something besides the plan stops it
abbrev pub unless_stopped : Bool → Fate → Fate
unless_stopped false fate = fate
unless_stopped true Acts = Fails
unless_stopped true Fails = Fails
unless_stopped true ActsAndFails = ActsAndFails

-- a call of a device that tells its plan goes by it: it counts a fault, and fails, exactly where the plan says so or
-- something besides stops it
abbrev pub GoesBeside : Bool → Option Course → Option Course → ℕ → ℕ → Type 0 → Type 0
GoesBeside stopped None new before now failed = Unit {0}
GoesBeside stopped (Some course) new before now failed = (new ≡ Some (next course)) × CountsFate (unless_stopped stopped (next_fate course)) before now × FailsBy (unless_stopped stopped (next_fate course)) failed

abbrev pub GoesBy : Option Course → Option Course → ℕ → ℕ → Type 0 → Type 0
GoesBy old new before now failed = GoesBeside false old new before now failed
