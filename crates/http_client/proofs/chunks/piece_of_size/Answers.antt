use Rattle.std.proofs.Common.{sym}
use Rattle.std.proofs.lemmas.List.{take_rest}
use Rattle.http_client.proofs.Rests.{ends_there}
use Rattle.http_client.proofs.chunks.piece_of_size.Goals as goal

pub returns-in-Some-clause-step : goal.returns-in-Some-clause-step
returns-in-Some-clause-step c =
    sym (ends_there c.args.size c.in-Some.len c.args.bytes.now _ c.if-size-eq0.true c.in-Some.ensures.value (take_rest c.args.bytes.now c.in-Some.len))
