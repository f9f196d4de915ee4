use Rattle.std.proofs.Common.{◌≡◌, drop}
use Rattle.config_ini.specs.Lines as spec
use Rattle.config_ini.proofs.lines.first_visible.Given as goal

abbrev pub invariant-loop-byte : goal.invariant-loop-byte
invariant-loop-byte l = spec.first_visible (drop l.byte-index l.bytes) ≡ spec.first_visible l.bytes
