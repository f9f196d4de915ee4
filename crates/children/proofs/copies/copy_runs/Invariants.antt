use Rattle.std.proofs.Common.{◌≡◌, take}
use Rattle.children.proofs.copies.copy_runs.Given as goal

-- what is copied so far
abbrev pub invariant-loop-ended : goal.invariant-loop-ended
invariant-loop-ended l = l.copied.items ≡ take l.ended-index l.runs
