use Rattle.std.proofs.Common.{rules, arith, ◌≡◌, ◌+◌, suc, subst, add-zero}
use Rattle.outfits.specs.Slots.{IsAt}
use Rattle.outfits.proofs.SlotLemmas.{at_first, at_next, absent_next}
use Rattle.outfits.proofs.slots.find.Goals as goal

pub returns-then-eq-clause-found : goal.returns-then-eq-clause-found
returns-then-eq-clause-found g c =
    rw add-zero at (c.loop-i.invariant.found 0 (at_first _ _ c.loop-i.i c.index-slots-i.result (omega arith) c.index-slots-i.is (search rules)))

pub loop-i-preserved : goal.loop-i-preserved
loop-i-preserved g c = record {
  found = λ k r.
      let e : c.loop-i.i + suc k ≡ c.loop-i.i + 1 + k = omega arith in
      subst (λ j. IsAt c.args.slots.now c.args.path.now j) e (c.loop-i.invariant.found (suc k) (at_next _ _ c.loop-i.i k c.index-slots-i.result (omega arith) c.index-slots-i.is (search rules) r));
  absent = λ r. c.loop-i.invariant.absent (absent_next _ _ c.loop-i.i c.index-slots-i.result (omega arith) c.index-slots-i.is (search rules) r);
}
