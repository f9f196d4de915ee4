use Rattle.std.proofs.Common.{◌∙◌, arith, ap, refl, subst, sym, length, length-drop}
use Rattle.std.proofs.lemmas.List.{take_rest}
use Rattle.outside.specs.StreamCalls.{HasRoom}
use Rattle.outside.proofs.PlanLemmas.{quiet_goes, not_full}
use Rattle.outside.proofs.StreamLemmas.{pieces_added, front_added}
use Rattle.outside.proofs.streams.write_all.Goals as goal

pub loop-done-preserved : goal.loop-done-preserved
loop-done-preserved g c = record {
  inside = omega (arith, c.in-Ok.ensures.fits, ap length (take_rest c.args.bytes.now c.loop-done.done), length-drop c.loop-done.done c.args.bytes.now);
  later = omega (arith, c.in-Ok.ensures.later);
  told = λ tells.
      let before = c.loop-done.invariant.told tells in
      let now = c.in-Ok.ensures.told before.0 in
      (now.0, pieces_added _ _ _ c.args.bytes.now _ c.loop-done.done c.in-Ok.taken (take_rest c.args.bytes.now c.loop-done.done) before.1 now.1);
  room = c.in-Ok.ensures.room ∙ c.loop-done.invariant.room;
  well = λ tells quiet fits.
      let before = c.loop-done.invariant.told tells in
      let well = c.loop-done.invariant.well tells quiet fits in
      let room = subst (λ r. HasRoom r (g.S.Sink.held c.args.out.now) c.args.bytes.now) (sym c.loop-done.invariant.room) fits in
      let free = not_full _ (g.S.Sink.held c.args.out.now) _ c.args.bytes.now _ c.loop-done.done room c.loop-done-test.true before.1 in
      let goes = quiet_goes _ _ _ _ _ _ free well.0 c.in-Ok.ensures.goes in
      (goes.0, goes.1 ∙ well.1);
}

pub returns-in-Err-clause-well : goal.returns-in-Err-clause-well
returns-in-Err-clause-well g c = λ tells quiet fits below.
    let before = c.loop-done.invariant.told tells in
    let well = c.loop-done.invariant.well tells quiet fits in
    let room = subst (λ r. HasRoom r (g.S.Sink.held c.args.out.now) c.args.bytes.now) (sym c.loop-done.invariant.room) fits in
    let free = not_full _ (g.S.Sink.held c.args.out.now) _ c.args.bytes.now _ c.loop-done.done room c.loop-done-test.true before.1 in
    let goes = quiet_goes _ _ _ _ _ _ free well.0 c.in-Err.ensures.goes in
    absurd (omega (arith, goes.1, well.1, below, c.in-Err.ensures.cause refl))

pub returns-in-Err-clause-told : goal.returns-in-Err-clause-told
returns-in-Err-clause-told g c = λ tells.
    let before = c.loop-done.invariant.told tells in
    let now = c.in-Err.ensures.told before.0 in
    (now.0, front_added _ _ _ c.args.bytes.now _ c.loop-done.done (take_rest c.args.bytes.now c.loop-done.done) before.1 now.1)
