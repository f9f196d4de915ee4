use Rattle.std.proofs.Common.{arith, ap, ◌∙◌, ◌≡◌, ◌-◌, take, drop, length}
use Rattle.std.proofs.lemmas.List.{take_rest}
use Rattle.outside.proofs.StreamLemmas.{moved}
use Rattle.outside.proofs.mem_streams.MemSource.take_into.Goals as goal

pub returns-clause-given : goal.returns-clause-given
returns-clause-given c =
    let items = c.args.self.now.bytes.items in
    let done = c.args.self.now.done in
    let rest = take_rest items done in
    let copied : c.copy_from_slice.new.self ≡ take c.min-taken.result (take (length items - done) (drop done items)) = rw c.deref.ensures.value at c.copy_from_slice.ensures.after in
    let taken = rw c.deref.ensures.value at c.min-taken.ensures in
    moved items c.args.piece.now c.copy_from_slice.new.self done c.min-taken.result (copied ∙ ap (λ l. take c.min-taken.result l) rest) (omega (arith, taken, ap length rest))
