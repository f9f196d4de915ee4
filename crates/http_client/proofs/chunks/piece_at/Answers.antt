use Rattle.std.proofs.Common.{◌≡◌}
use Rattle.http_client.specs.Frames.{got}
use Rattle.http_client.specs.Chunks.{chunk_of_size, ChunkStep}
use Rattle.http_client.proofs.Passing.{StepIs-weaker}
use Rattle.http_client.proofs.chunks.piece_at.Goals as goal

pub returns-in-Ok-clause-step : goal.returns-in-Ok-clause-step
returns-in-Ok-clause-step c =
    StepIs-weaker c.piece_of_size.result (λ s. s ≡ chunk_of_size c.in-Ok.found.0 c.in-Ok.found.1.now) (ChunkStep c.args.bytes.now)
    (λ s is. (got (c.in-Ok.found.0, c.in-Ok.found.1.now), c.in-Ok.ensures.found, is))
    c.piece_of_size.ensures.step
