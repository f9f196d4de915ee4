use Rattle.std.proofs.Common.{◌≡◌, ◌≤◌, drop}
use Rattle.multistatus.proofs.Escapes.{char_behind}
use Rattle.multistatus.proofs.references.number_of.Given as goal

abbrev pub invariant-loop-digit : goal.invariant-loop-digit
invariant-loop-digit l = record { small : l.number ≤ 0x10_FFFF; same : char_behind l.base l.number (drop l.digit-index l.digits) ≡ char_behind l.base 0 l.digits }
