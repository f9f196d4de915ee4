use Rattle.std.proofs.Common.{refl, sym, ◌∙◌, ap, ◌<◌, ◌++◌, ◌∷◌, [], length, arith}
use Rattle.http_client.specs.Frames.{got, short, bad, onward, ended}
use Rattle.http_client.specs.Chunks.{ChunkStep, ReadsChunked}
use Rattle.http_client.proofs.Walks.{Leads-more, Leads-end}
use Rattle.http_client.proofs.Passing.{OnRefusal-weaker}
use Rattle.http_client.proofs.Rests.{concat-push}
use Rattle.http_client.proofs.chunks.chunked_body.Goals as goal

pub returns-in-Err-clause-found : goal.returns-in-Err-clause-found
returns-in-Err-clause-found c =
    let so_far = c.chunks.invariant in
    OnRefusal-weaker c.in-Err.error (ChunkStep c.chunks.rest.now (ended short)) (ChunkStep c.chunks.rest.now (ended bad))
    (ReadsChunked c.args.bytes.now short) (ReadsChunked c.args.bytes.now bad)
    (λ step. record { chunks = so_far.0; end = short; steps = Leads-end ChunkStep c.args.bytes.now c.chunks.rest.now so_far.0 short so_far.1 step; found_is = refl })
    (λ step. record { chunks = so_far.0; end = bad; steps = Leads-end ChunkStep c.args.bytes.now c.chunks.rest.now so_far.0 bad so_far.1 step; found_is = refl })
    c.in-Err.ensures.step

pub returns-in-Last-clause-found : goal.returns-in-Last-clause-found
returns-in-Last-clause-found c =
    let so_far = c.chunks.invariant in
    let step : ChunkStep c.chunks.rest.now (ended (got c.in-Last.behind.now)) = rw c.in-Last.is at c.in-Ok.ensures.step in
    record {
      chunks = so_far.0;
      end = got c.in-Last.behind.now;
      steps = Leads-end ChunkStep c.args.bytes.now c.chunks.rest.now so_far.0 (got c.in-Last.behind.now) so_far.1 step;
      found_is = ap (λ body. got (body, c.in-Last.behind.now)) so_far.2;
    }

pub chunks-preserved : goal.chunks-preserved
chunks-preserved c =
    let so_far = c.chunks.invariant in
    let step : ChunkStep c.chunks.rest.now (onward c.in-Chunk.data.now c.in-Chunk.behind.now) = rw c.in-Chunk.is at c.in-Ok.ensures.step in
    let less : length c.in-Chunk.behind.now < length c.chunks.rest.now = rw c.in-Chunk.is at c.in-Ok.ensures.shorter in (
      so_far.0 ++ c.in-Chunk.data.now ∷ [],
      Leads-more ChunkStep c.args.bytes.now c.chunks.rest.now c.in-Chunk.behind.now so_far.0 c.in-Chunk.data.now so_far.1 step,
      c.in-Ok-with_piece.ensures ∙ ap (λ body. body ++ c.in-Chunk.data.now) so_far.2 ∙ sym (concat-push so_far.0 c.in-Chunk.data.now),
      omega (arith, so_far.3),
    )
