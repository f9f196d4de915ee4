use Rattle.outside.proofs.KnownBytes.{write_tells, write_lost, write_failed, appends_keeps}
use Rattle.outside.proofs.std_streams.StdSinkSink.write.Goals as goal

pub returns-in-Ok-flush_once-clause-told : goal.returns-in-Ok-flush_once-clause-told
returns-in-Ok-flush_once-clause-told g c = λ told. write_tells _ _ c.in-Ok.n _ told (appends_keeps _ _ _ _ c.in-Ok.ensures.bytes c.flush_once.ensures.bytes)

pub returns-in-Err-flush_once-clause-told : goal.returns-in-Err-flush_once-clause-told
returns-in-Err-flush_once-clause-told g c = λ told. write_lost _ _ c.in-Ok.n c.args.piece.now _ told (appends_keeps _ _ _ _ c.in-Ok.ensures.bytes c.flush_once.ensures.bytes)

pub returns-in-Err-clause-told : goal.returns-in-Err-clause-told
returns-in-Err-clause-told g c = λ told. write_failed _ _ c.args.piece.now _ told c.in-Err.ensures.bytes
