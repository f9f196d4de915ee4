use Rattle.std.proofs.Common.{◌≤◌, length, arith}
use Rattle.config_model.proofs.Parts.{part_read, part_refused, parts_first, parts_last}
use Rattle.config_model.proofs.reading.parts_of.Goals as goal

pub loop-section-init : goal.loop-section-init
loop-section-init c = parts_first c.args.storages.now c.no_parts-parts.result c.args.sections.now c.no_parts-parts.ensures

pub returns-in-Err : goal.returns-in-Err
returns-in-Err c = λ other.
    part_refused c.args.storages.now c.loop-section.parts c.args.sections.now c.loop-section.section-index c.section-item.result c.in-Err.error c.loop-section-test.true c.section-item.is (c.in-Err.ensures other) c.loop-section.invariant

pub loop-section-preserved : goal.loop-section-preserved
loop-section-preserved c =
    part_read c.args.storages.now c.loop-section.parts c.in_ok-parts.parts c.in-Ok.part c.args.sections.now c.loop-section.section-index c.section-item.result c.loop-section-test.true c.section-item.is c.in_ok-parts.ensures c.in-Ok.ensures c.loop-section.invariant

pub returns : goal.returns
returns c =
    let over : length c.args.sections.now ≤ c.loop-section.section-index = omega arith in
    parts_last c.args.storages.now c.loop-section.parts c.args.sections.now c.loop-section.section-index over c.loop-section.invariant
