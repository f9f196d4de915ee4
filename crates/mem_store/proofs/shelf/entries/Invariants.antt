use Rattle.std.proofs.Common.{◌≡◌, ◌++◌}
use Rattle.mem_store.proofs.FileLemmas.{listed}
use Rattle.mem_store.proofs.shelf.entries.Given as goal

-- the entries so far and those of what is left are those of all
abbrev pub invariant-loop-name : goal.invariant-loop-name
invariant-loop-name l = l.found.items ++ listed l.name-iterator ≡ listed l.files.entries
