use Rattle.std.proofs.Common.{◌≡◌, drop}
use Rattle.config_model.specs.Keys.{bad_in}
use Rattle.config_model.proofs.keys.find_bad.Given as goal

abbrev pub invariant-loop-entry : goal.invariant-loop-entry
invariant-loop-entry l = bad_in l.place (drop l.entry-index l.entries) ≡ bad_in l.place l.entries
