use Rattle.std.proofs.Common.{◌≡◌, ◌∷◌, ◌++◌, [], arith}
use Rattle.child_cmd.proofs.LineLemmas.{no_feed-more, taken-more, lost-more}
use Rattle.child_cmd.proofs.input_line.take_raw.Goals as goal

pub bytes-preserved : goal.bytes-preserved
bytes-preserved g c =
    let items : c.push.new.self.items ≡ c.bytes.bytes.items ++ c.in-Byte.byte ∷ [] = rw c.unwrap.ensures at c.push.ensures.items in
    record {
      room = omega (arith, c.bytes.invariant.room, c.push.ensures.capacity);
      few = omega (arith, c.push.ensures.upper_bound);
      later = omega (arith, c.bytes.invariant.later, c.in-Byte.ensures.later);
      told = λ tells.
          let before = c.bytes.invariant.told tells in
          let now = c.in-Byte.ensures.told before.0 in
          (now.0, taken-more _ _ _ c.bytes.bytes.items _ c.in-Byte.byte items before.1 now.1.0, no_feed-more c.bytes.bytes.items _ c.in-Byte.byte items before.2 now.1.1);
    }

pub returns-in-Fault-clause-told : goal.returns-in-Fault-clause-told
returns-in-Fault-clause-told g c = λ tells.
    let before = c.bytes.invariant.told tells in
    let now = c.in-Fault.ensures.told before.0 in
    (now.0, lost-more _ _ _ c.bytes.bytes.items before.1 now.1)

pub returns-clause-told : goal.returns-clause-told
returns-clause-told g c = λ tells.
    let now = c.bytes.invariant.told tells in
    (now.0, record { front = c.bytes.bytes.items; no_feed = now.2; taken = now.1; long = omega (arith, c.bytes.invariant.few) })
