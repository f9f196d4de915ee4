use Rattle.std.proofs.Common.{◌≡◌, ℕ, ◌≤◌, List, length}
use Rattle.std.specs.List.{concat}
use Rattle.http_client.specs.Chunks.{ChunkStep}
use Rattle.http_client.proofs.Walks.{Leads}
use Rattle.http_client.proofs.chunks.chunked_body.Given as goal

abbrev pub invariant-chunks : goal.invariant-chunks
invariant-chunks l = (chunks : List (List ℕ)) × Leads ChunkStep l.bytes l.rest chunks × (l.body ≡ concat chunks) × (length l.rest ≤ length l.bytes)

abbrev pub decreases-chunks : goal.decreases-chunks
decreases-chunks l = length l.rest
