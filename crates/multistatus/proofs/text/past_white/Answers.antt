use Rattle.std.proofs.Common.{◌≡◌, ◌<◌, false, get_or, length, sym, ◌∙◌, ap, arith}
use Rattle.multistatus.specs.Texts.{is_white}
use Rattle.multistatus.proofs.Fronts.{behind_is, past_ascii, white_is_ascii}
use Rattle.multistatus.proofs.text.past_white.Goals as goal
use Rattle.multistatus.proofs.text.past_white.Goals.{then-loop-n-test+else-is_white, else-loop-n-test}

pub range_from-requires : goal.range_from-requires
range_from-requires c = λ some. past_ascii is_white white_is_ascii c.args.text.now c.loop-n.n c.utf8.text c.loop-n.invariant.within c.loop-n.invariant.pass some

pub returns-clause-rest : goal.returns-clause-rest
returns-clause-rest c =
    let stop : c.loop-n.n < length c.args.text.now → is_white (get_or c.args.text.now c.loop-n.n 0) ≡ false =
    elim c.loop-n-test.branch [
      | then-loop-n-test+else-is_white w ↦ λ h. ap (λ bytes. is_white (get_or bytes c.loop-n.n 0)) (sym c.as_bytes-bytes.ensures.value) ∙ sym w.is_white.ensures ∙ w.if-is_white.false
      | else-loop-n-test w ↦ λ h. absurd (omega (arith, c.as_bytes-bytes.ensures.len))
    ] in
    c.range_from.ensures.value ∙ sym (behind_is is_white c.args.text.now c.loop-n.n c.loop-n.invariant.within c.loop-n.invariant.pass stop)
