use Rattle.std.proofs.Common.{sym, take, drop}
use Rattle.std.proofs.lemmas.List.{take-append-drop}
use Rattle.outside.proofs.mem_streams.MemSinkSink.write.Goals as goal

pub returns-in-ActsAndFails-clause-told : goal.returns-in-ActsAndFails-clause-told
returns-in-ActsAndFails-clause-told c = λ told. (
  told,
  record {
    front = take c.add-in-ActsAndFails.result c.args.piece.now;
    rest = drop c.add-in-ActsAndFails.result c.args.piece.now;
    is_front = sym (take-append-drop c.add-in-ActsAndFails.result c.args.piece.now);
    adds = c.add-in-ActsAndFails.ensures.added;
  },
)
