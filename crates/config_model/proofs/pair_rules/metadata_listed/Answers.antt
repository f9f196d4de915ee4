use Rattle.std.proofs.Common.{◌≤◌, length, sym, arith}
use Rattle.config_model.specs.Meanings as spec
use Rattle.config_model.proofs.Founds.{part_found, part_missed, parts_found}
use Rattle.config_model.proofs.pair_rules.metadata_listed.Goals as goal

pub returns-in-None : goal.returns-in-None
returns-in-None c =
    part_missed spec.meta_of c.loop-part.all c.args.parts.now c.loop-part.part-index c.part-item.result c.loop-part-test.true c.part-item.is (sym c.in-None.ensures) c.loop-part.invariant

pub loop-part-preserved : goal.loop-part-preserved
loop-part-preserved c =
    part_found spec.meta_of c.loop-part.all c.push.new.self c.in-Some.key c.args.parts.now c.loop-part.part-index c.part-item.result c.loop-part-test.true c.part-item.is c.in_ok-push-in-Some.ensures.ok (sym c.in-Some.ensures) c.loop-part.invariant

pub returns : goal.returns
returns c =
    let over : length c.args.parts.now ≤ c.loop-part.part-index = omega arith in
    parts_found spec.meta_of c.loop-part.all c.args.parts.now c.loop-part.part-index over c.loop-part.invariant
