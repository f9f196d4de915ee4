use Rattle.std.proofs.Common.{◌≡◌, ◌+◌, ◌<◌, ◌^◌, length}
use Rattle.std.specs.Str.Lines.{lines}
use Rattle.config_ini.specs.Logical as spec
use Rattle.config_ini.specs.Seen.{to_come}
use Rattle.config_ini.proofs.logical.logical_lines.Given as goal

abbrev pub invariant-lines : goal.invariant-lines
invariant-lines l = record {
  found : to_come l.so_far l.number (lines l.rest) ≡ spec.logical_lines l.fn.bytes;
  small : l.number + length l.rest < 2 ^ 32;
}

abbrev pub decreases-lines : goal.decreases-lines
decreases-lines l = length l.rest
