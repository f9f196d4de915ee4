use Rattle.http_client.proofs.Rests.{size_line_shorter}
use Rattle.http_client.proofs.chunks.size_line.Goals as goal

pub returns-in-Complete-clause-shorter : goal.returns-in-Complete-clause-shorter
returns-in-Complete-clause-shorter c =
    let read = rw c.in-Complete.is at c.in-Ok.ensures.complete in
    size_line_shorter c.args.bytes.now c.in-Complete.found.0 c.in-Complete.found.1 read.0 read.1
