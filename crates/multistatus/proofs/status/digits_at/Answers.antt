use Rattle.std.proofs.Common.{◌≡◌, ◌<◌, false, get_or, length, sym, ◌∙◌, ap, arith}
use Rattle.std.specs.Char.{is_ascii_digit}
use Rattle.multistatus.proofs.Fronts.{front_is, behind_is, past_ascii_or_none, digit_is_ascii}
use Rattle.multistatus.proofs.status.digits_at.Goals as goal
use Rattle.multistatus.proofs.status.digits_at.Goals.{then-loop-n-test+else-is_digit, else-loop-n-test}

stops : (c : goal.After-split_at) → c.loop-n.n < length c.args.text.now → is_ascii_digit (get_or c.args.text.now c.loop-n.n 0) ≡ false
stops c =
    elim c.loop-n-test.branch [
      | then-loop-n-test+else-is_digit w ↦ λ h. ap (λ bytes. is_ascii_digit (get_or bytes c.loop-n.n 0)) (sym c.as_bytes-bytes.ensures.value) ∙ sym w.is_digit.ensures ∙ w.if-is_digit.false
      | else-loop-n-test w ↦ λ h. absurd (omega (arith, c.as_bytes-bytes.ensures.len))
    ]

pub split_at-requires : goal.split_at-requires
split_at-requires c = past_ascii_or_none is_ascii_digit digit_is_ascii c.args.text.now c.loop-n.n c.utf8.text c.loop-n.invariant.within c.loop-n.invariant.pass

pub returns-clause-digits : goal.returns-clause-digits
returns-clause-digits c = c.split_at.ensures.front ∙ sym (front_is is_ascii_digit c.args.text.now c.loop-n.n c.loop-n.invariant.within c.loop-n.invariant.pass (stops c))

pub returns-clause-rest : goal.returns-clause-rest
returns-clause-rest c = c.split_at.ensures.back ∙ sym (behind_is is_ascii_digit c.args.text.now c.loop-n.n c.loop-n.invariant.within c.loop-n.invariant.pass (stops c))
