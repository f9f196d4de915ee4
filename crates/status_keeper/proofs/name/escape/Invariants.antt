use Rattle.std.proofs.Common.{◌≡◌, ◌++◌, true, drop, string_bytes}
use Rattle.status_keeper.specs.StatusName.{escaped_from}
use Rattle.status_keeper.proofs.name.escape.Given as goal

-- the escaped rest, behind what is escaped
abbrev pub invariant-loop-byte : goal.invariant-loop-byte
invariant-loop-byte l = string_bytes l.text ++ escaped_from l.first (drop l.byte-index l.name) ≡ escaped_from true l.name
