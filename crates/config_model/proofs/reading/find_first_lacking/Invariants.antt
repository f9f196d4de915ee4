use Rattle.std.proofs.Common.{◌≡◌, drop}
use Rattle.config_ini.specs.Repeats.{has}
use Rattle.config_model.specs.Reading.{first_lacking}
use Rattle.config_model.proofs.reading.find_first_lacking.Given as goal

abbrev pub invariant-loop-pair : goal.invariant-loop-pair
invariant-loop-pair l = first_lacking (has l.names.keys) (drop l.pair-index l.pairs) ≡ first_lacking (has l.names.keys) l.pairs
