use Rattle.std.proofs.Common.{◌≡◌, ◌++◌, drop}
use Rattle.outside.proofs.subfolders.copied.Given as goal

-- the copies so far and what is left are all the names
abbrev pub invariant-loop-name : goal.invariant-loop-name
invariant-loop-name l = l.copies.items ++ drop l.name-index l.names ≡ l.names
