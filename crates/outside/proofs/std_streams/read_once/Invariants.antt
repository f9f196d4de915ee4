use Rattle.std.specs.Io.KnownBytes.{Keeps}
use Rattle.outside.proofs.std_streams.read_once.Given as goal

-- nothing is consumed yet
abbrev pub invariant-loop : goal.invariant-loop
invariant-loop g l = Keeps (g.I.Read.remaining l.fn.stream) (g.I.Read.remaining l.stream)
