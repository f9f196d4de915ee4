use Rattle.std.proofs.Common.{◌≡◌, take}
use Rattle.side_reads.specs.Holdings.{asked}
use Rattle.side_reads.proofs.holding.asked.Given as goal

abbrev pub invariant-loop-entry : goal.invariant-loop-entry
invariant-loop-entry l = l.hrefs.items ≡ asked l.places.side l.places.rows (take l.entry-index l.entries)
