use Rattle.std.proofs.Common.{◌≡◌, ◌-◌, ℕ, suc, false, get_or, take, sym, ◌∙◌, ap, arith}
use Rattle.multistatus.specs.Texts.{is_white}
use Rattle.multistatus.proofs.Fronts.{without_end_is}
use Rattle.multistatus.proofs.text.without_end.Goals as goal
use Rattle.multistatus.proofs.text.without_end.Goals.{then-loop-n-test+else-is_white, else-loop-n-test}

pub returns : goal.returns
returns c =
    let stop : (m : ℕ) → c.loop-n.n ≡ suc m → is_white (get_or c.args.text.now m 0) ≡ false =
    elim c.loop-n-test.branch [
      | then-loop-n-test+else-is_white w ↦ λ m h. let at : c.loop-n.n - 1 ≡ m = omega arith in
          ap (λ bytes. is_white (get_or bytes m 0)) (sym c.as_bytes-bytes.ensures.value) ∙ ap (λ k. is_white (get_or c.as_bytes-bytes.result.now k 0)) (sym at) ∙ sym w.is_white.ensures ∙ w.if-is_white.false
      | else-loop-n-test w ↦ λ m h. absurd (omega arith)
    ] in
    let same : c.loop-n.n - 0 ≡ c.loop-n.n = omega arith in
    c.range.ensures.value ∙ ap (λ k. take k c.args.text.now) same ∙ sym (without_end_is c.args.text.now c.loop-n.n c.loop-n.invariant.within c.loop-n.invariant.white stop)
