use Rattle.std.proofs.Common.{◌≡◌, ℕ, ◌+◌, ◌*◌}
use Rattle.worked_rows.proofs.json.+read.Given as goal

abbrev pub decreases-read : goal.decreases-read
decreases-read g l = 2 * l.depth

abbrev pub decreases-read_list : goal.decreases-read_list
decreases-read_list g l = 2 * l.depth + 1

abbrev pub decreases-read_object : goal.decreases-read_object
decreases-read_object g l = 2 * l.depth + 1

abbrev pub invariant-read_list-loop : goal.invariant-read_list-loop
invariant-read_list-loop g l = l.depth ≡ l.fn.depth

abbrev pub invariant-read_object-loop : goal.invariant-read_object-loop
invariant-read_object-loop g l = l.depth ≡ l.fn.depth
