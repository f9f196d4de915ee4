use Rattle.multistatus.specs.Reader.{scope_in}
use Rattle.multistatus.specs.Scopes.{differing}
use Rattle.multistatus.proofs.Differing.{key_of, has_key, differs_first, differs_twice, differs_next, was_seen, was_unseen}
use Rattle.multistatus.proofs.scopes.attributes_differ.Goals as goal

pub loop-attribute-init : goal.loop-attribute-init
loop-attribute-init c = differs_first (scope_in c.args.declared.now c.args.levels.now) c.new-seen.result.keys c.args.attributes.now c.new-seen.ensures.empty

pub returns-then-not-is_new : goal.returns-then-not-is_new
returns-then-not-is_new c =
    differs_twice (scope_in c.args.declared.now c.args.levels.now) c.loop-attribute.seen.keys c.args.attributes.now c.loop-attribute.attribute-index c.attribute-item.result c.in_ok-name.name
    (differing (scope_in c.args.declared.now c.args.levels.now) c.args.attributes.now) c.loop-attribute.invariant c.loop-attribute-test.true c.attribute-item.is c.in_ok-name.ensures
    (was_seen c.in_ok-is_new.is_new (has_key c.loop-attribute.seen.keys (key_of c.in_ok-name.name)) c.in_ok-is_new.ensures.added c.if-not-is_new.true)

pub loop-attribute-preserved : goal.loop-attribute-preserved
loop-attribute-preserved c =
    differs_next (scope_in c.args.declared.now c.args.levels.now) c.loop-attribute.seen.keys c.insert.new.self.keys c.args.attributes.now c.loop-attribute.attribute-index c.attribute-item.result c.in_ok-name.name
    (differing (scope_in c.args.declared.now c.args.levels.now) c.args.attributes.now) c.loop-attribute.invariant c.loop-attribute-test.true c.attribute-item.is c.in_ok-name.ensures
    (was_unseen c.in_ok-is_new.is_new (has_key c.loop-attribute.seen.keys (key_of c.in_ok-name.name)) c.in_ok-is_new.ensures.added c.if-not-is_new.false)
    c.in_ok-is_new.ensures.updates.0
