use Rattle.outside.proofs.KnownBytes.{keeps_itself, keeps_then}
use Rattle.outside.proofs.std_streams.flush_once.Goals as goal

pub loop-init : goal.loop-init
loop-init g c = keeps_itself _

pub loop-preserved : goal.loop-preserved
loop-preserved g c = keeps_then _ _ _ c.loop.invariant c.flush.ensures.bytes

pub returns-in-Err-2 : goal.returns-in-Err-2
returns-in-Err-2 g c = record { bytes = keeps_then _ _ _ c.loop.invariant c.flush.ensures.bytes }

pub returns-in-Ok : goal.returns-in-Ok
returns-in-Ok g c = record { bytes = keeps_then _ _ _ c.loop.invariant c.flush.ensures.bytes }
