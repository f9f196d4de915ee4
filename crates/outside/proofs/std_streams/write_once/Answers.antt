use Rattle.outside.proofs.KnownBytes.{keeps_itself, keeps_then}
use Rattle.outside.proofs.std_streams.write_once.Goals as goal

pub loop-init : goal.loop-init
loop-init g c = keeps_itself _

pub loop-preserved : goal.loop-preserved
loop-preserved g c = keeps_then _ _ _ c.loop.invariant c.in-Err.ensures.bytes

pub returns-in-Err-2-clause-bytes : goal.returns-in-Err-2-clause-bytes
returns-in-Err-2-clause-bytes g c = keeps_then _ _ _ c.loop.invariant c.in-Err.ensures.bytes
