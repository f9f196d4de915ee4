use Rattle.std.proofs.Common.{◌≡◌, drop}
use Rattle.outside.specs.Plans.{fate_at}
use Rattle.outside.proofs.plan.FaultPlan.fate.Given as goal

-- the places so far say nothing of the call
abbrev pub invariant-loop-place : goal.invariant-loop-place
invariant-loop-place l = fate_at (drop l.place-index l.self.places.items) l.call ≡ fate_at l.self.places.items l.call
