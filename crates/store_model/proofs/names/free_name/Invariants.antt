use Rattle.std.proofs.Common.{◌≡◌, ℕ, ◌<◌, true}
use Rattle.std.specs.BTreeSet.{contains_text}
use Rattle.store_model.specs.Names.{candidate}
use Rattle.store_model.proofs.names.free_name.Given as goal

-- each name tried so far is taken
abbrev pub invariant-loop-number : goal.invariant-loop-number
invariant-loop-number l = (k : ℕ) → k < l.number → contains_text l.taken (candidate l.stem l.ending k) ≡ true
