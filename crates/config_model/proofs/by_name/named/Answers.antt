use Rattle.std.proofs.Common.{take}
use Rattle.config_model.proofs.ByName.{next_named}
use Rattle.config_model.proofs.by_name.named.Goals as goal

pub loop-section-preserved : goal.loop-section-preserved
loop-section-preserved c =
    next_named c.in_ok-by_name.by_name c.args.sections.now c.loop-section.section-index c.section-item.result c.loop-section-test.true c.section-item.is
    (c.in_ok-by_name.ensures (take c.loop-section.section-index c.args.sections.now) c.loop-section.invariant)
