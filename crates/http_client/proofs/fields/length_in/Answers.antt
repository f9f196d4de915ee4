use Rattle.std.proofs.Common.{◌∙◌, ap, ℕ, ◌+◌, ◌*◌, ◌<◌, length, arith}
use Rattle.http_client.proofs.Lengths.{number_step}
use Rattle.http_client.proofs.fields.length_in.Goals as goal

pub overflow_mul-number : goal.overflow_mul-number
overflow_mul-number c =
    let lt : c.loop-byte.byte-index < length c.args.value.now = omega arith in
    let step = number_step c.args.value.now c.loop-byte.byte-index c.loop-byte.number c.requires lt c.loop-byte.invariant in
    let small = step.small in
    omega arith

pub overflow_add-number : goal.overflow_add-number
overflow_add-number c =
    let lt : c.loop-byte.byte-index < length c.args.value.now = omega arith in
    let step = number_step c.args.value.now c.loop-byte.byte-index c.loop-byte.number c.requires lt c.loop-byte.invariant in
    let small = step.small in
    let digit = c.from.ensures in
    omega arith

pub loop-byte-preserved : goal.loop-byte-preserved
loop-byte-preserved c =
    let lt : c.loop-byte.byte-index < length c.args.value.now = omega arith in
    let step = number_step c.args.value.now c.loop-byte.byte-index c.loop-byte.number c.requires lt c.loop-byte.invariant in
    ap (λ (digit : ℕ). c.loop-byte.number * 10 + digit) c.from.ensures ∙ step.next
