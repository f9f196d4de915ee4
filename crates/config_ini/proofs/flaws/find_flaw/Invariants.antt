use Rattle.std.proofs.Common.{◌≡◌, drop}
use Rattle.config_ini.specs.Flaws as spec
use Rattle.config_ini.specs.Repeats.{flaw_left}
use Rattle.config_ini.proofs.flaws.find_flaw.Given as goal

abbrev pub invariant-loop-line : goal.invariant-loop-line
invariant-loop-line l = flaw_left l.seen (drop l.line-index l.lines) ≡ spec.flaw_of l.lines
