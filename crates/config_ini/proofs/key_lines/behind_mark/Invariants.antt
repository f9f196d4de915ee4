use Rattle.std.proofs.Common.{◌≡◌, length}
use Rattle.config_ini.specs.Lines as spec
use Rattle.config_ini.proofs.key_lines.behind_mark.Given as goal

abbrev pub invariant-loop-left : goal.invariant-loop-left
invariant-loop-left l = spec.behind_mark l.left ≡ spec.behind_mark l.fn.rest

abbrev pub decreases-loop-left : goal.decreases-loop-left
decreases-loop-left l = length l.left
