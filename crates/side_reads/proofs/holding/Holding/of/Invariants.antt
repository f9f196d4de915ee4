use Rattle.std.proofs.Common.{vec_len}
use Rattle.side_reads.proofs.HoldingLemmas.{TakenSoFar}
use Rattle.side_reads.proofs.holding.Holding.of.Given as goal

abbrev pub invariant-loop-entry : goal.invariant-loop-entry
invariant-loop-entry l = TakenSoFar l.places.side l.places.rows l.fn.entries.items l.fn.fetched.items l.entries.items l.fetched.items l.seen.items l.items.items

abbrev pub decreases-loop-entry : goal.decreases-loop-entry
decreases-loop-entry l = vec_len l.entries
