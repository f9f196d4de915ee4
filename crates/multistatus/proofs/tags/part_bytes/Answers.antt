use Rattle.std.proofs.Common.{◌≡◌, ◌<◌, false, get_or, length, sym, ◌∙◌, ap, arith}
use Rattle.multistatus.specs.Tags.{is_part_byte}
use Rattle.multistatus.proofs.Fronts.{front_is, behind_is, stop_boundary, stop_is_ascii}
use Rattle.multistatus.proofs.tags.part_bytes.Goals as goal
use Rattle.multistatus.proofs.tags.part_bytes.Goals.{then-loop-n-test+else-is_part_byte, else-loop-n-test}

stops : (c : goal.After-split_at) → c.loop-n.n < length c.args.text.now → is_part_byte (get_or c.args.text.now c.loop-n.n 0) ≡ false
stops c =
    elim c.loop-n-test.branch [
      | then-loop-n-test+else-is_part_byte w ↦ λ h. ap (λ bytes. is_part_byte (get_or bytes c.loop-n.n 0)) (sym c.as_bytes-bytes.ensures.value) ∙ sym w.is_part_byte.ensures ∙ w.if-is_part_byte.false
      | else-loop-n-test w ↦ λ h. absurd (omega (arith, c.as_bytes-bytes.ensures.len))
    ]

pub split_at-requires : goal.split_at-requires
split_at-requires c =
    stop_boundary c.args.text.now c.loop-n.n c.loop-n.invariant.within
    (elim c.loop-n-test.branch [
      | then-loop-n-test+else-is_part_byte w ↦ λ h. stop_is_ascii _ (ap (λ bytes. is_part_byte (get_or bytes c.loop-n.n 0)) (sym c.as_bytes-bytes.ensures.value) ∙ sym w.is_part_byte.ensures ∙ w.if-is_part_byte.false)
      | else-loop-n-test w ↦ λ h. absurd (omega (arith, c.as_bytes-bytes.ensures.len))
    ])

pub returns-clause-part : goal.returns-clause-part
returns-clause-part c = c.split_at.ensures.front ∙ sym (front_is is_part_byte c.args.text.now c.loop-n.n c.loop-n.invariant.within c.loop-n.invariant.pass (stops c))

pub returns-clause-rest : goal.returns-clause-rest
returns-clause-rest c = c.split_at.ensures.back ∙ sym (behind_is is_part_byte c.args.text.now c.loop-n.n c.loop-n.invariant.within c.loop-n.invariant.pass (stops c))
