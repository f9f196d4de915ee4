use Rattle.outside.proofs.KnownBytes.{read_tells, read_lost}
use Rattle.outside.proofs.std_streams.StdSourceSource.read.Goals as goal

pub returns-in-Ok-clause-told : goal.returns-in-Ok-clause-told
returns-in-Ok-clause-told g c = λ told. read_tells _ _ c.in-Ok.n _ _ c.read_once.auto.piece told c.in-Ok.ensures.bytes

pub returns-in-Err-clause-told : goal.returns-in-Err-clause-told
returns-in-Err-clause-told g c = λ told. read_lost _ _ c.args.piece.now c.args.piece.now _ told c.in-Err.ensures.bytes
