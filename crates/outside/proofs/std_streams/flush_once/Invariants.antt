use Rattle.std.specs.Io.KnownBytes.{Keeps}
use Rattle.outside.proofs.std_streams.flush_once.Given as goal

-- nothing is written yet
abbrev pub invariant-loop : goal.invariant-loop
invariant-loop g l = Keeps (g.O.Write.contents l.fn.stream) (g.O.Write.contents l.stream)
