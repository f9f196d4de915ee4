use Rattle.std.proofs.Common.{◌≡◌, ◌≤◌, ◌++◌, ◌-◌, take, length}
use Rattle.outside.specs.Plans.{IsQuiet}
use Rattle.outside.specs.StreamCalls.{HasRoom}
use Rattle.outside.proofs.streams.write_all.Given as goal

-- a front of this length is written
abbrev pub invariant-loop-done : goal.invariant-loop-done
invariant-loop-done g l = record {
  inside : l.done ≤ length l.bytes;
  later : g.S.Sink.count l.fn.out ≤ g.S.Sink.count l.out;
  told : g.S.Sink.tells l.fn.out → g.S.Sink.tells l.out × (g.S.Sink.held l.out ≡ g.S.Sink.held l.fn.out ++ take l.done l.bytes);
  room : g.S.Sink.room l.out ≡ g.S.Sink.room l.fn.out;
  well : g.S.Sink.tells l.fn.out → IsQuiet (g.S.Sink.course l.fn.out) → HasRoom (g.S.Sink.room l.fn.out) (g.S.Sink.held l.fn.out) l.bytes → IsQuiet (g.S.Sink.course l.out) × (g.S.Sink.count l.out ≡ g.S.Sink.count l.fn.out);
}

abbrev pub decreases-loop-done : goal.decreases-loop-done
decreases-loop-done g l = length l.bytes - l.done
