use Rattle.outside.proofs.KnownBytes.{keeps_itself, keeps_then, keeps_consumes}
use Rattle.outside.proofs.std_streams.read_once.Goals as goal

pub loop-init : goal.loop-init
loop-init g c = keeps_itself _

pub loop-preserved : goal.loop-preserved
loop-preserved g c = keeps_then _ _ _ c.loop.invariant c.in-Err.ensures.bytes

pub returns-in-Err-2-clause-bytes : goal.returns-in-Err-2-clause-bytes
returns-in-Err-2-clause-bytes g c = keeps_then _ _ _ c.loop.invariant c.in-Err.ensures.bytes

pub returns-in-Ok-clause-bytes : goal.returns-in-Ok-clause-bytes
returns-in-Ok-clause-bytes g c = (keeps_consumes _ _ _ _ c.loop.invariant c.in-Ok.ensures.bytes.0, c.in-Ok.ensures.bytes.1)
