use Rattle.multistatus.proofs.Scoping.{declared_next}
use Rattle.multistatus.proofs.scopes.declarations_of.Goals as goal

pub loop-attribute-preserved : goal.loop-attribute-preserved
loop-attribute-preserved c =
    declared_next c.args.attributes.now c.loop-attribute.attribute-index c.attribute-item.result c.loop-attribute.declared c.in_ok-declared.declared
    c.loop-attribute-test.true c.attribute-item.is c.loop-attribute.invariant c.in_ok-declared.ensures
