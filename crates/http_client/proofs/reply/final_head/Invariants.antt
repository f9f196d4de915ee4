use Rattle.std.proofs.Common.{◌≡◌, ◌≤◌, List, length}
use Rattle.http_client.specs.Heads.{HeadParts, HeadStep}
use Rattle.http_client.proofs.Walks.{Leads}
use Rattle.http_client.proofs.reply.final_head.Given as goal

abbrev pub invariant-heads : goal.invariant-heads
invariant-heads l = (interim : List HeadParts) × Leads HeadStep l.bytes l.rest interim × (length l.rest ≤ length l.bytes) × (length l.fields ≡ 100)

abbrev pub decreases-heads : goal.decreases-heads
decreases-heads l = length l.rest
