use Rattle.std.proofs.Common.{◌≡◌, ◌<◌, Some, length, arith, rules}
use Rattle.multistatus.specs.Tags.{tag_step, onward, ended, tag_rest}
use Rattle.multistatus.proofs.InTags.{tag_last, tag_next}
use Rattle.multistatus.proofs.tags.tag_rest.Goals as goal

pub returns-in-Ended-clause-found : goal.returns-in-Ended-clause-found
returns-in-Ended-clause-found c =
    let step : tag_step c.attributes.rest.now ≡ ended (Some (c.in-Ended.is_empty, c.in-Ended.rest.now)) = rw c.in-Ended.is at c.in-Ok.ensures.step in
    tag_last c.attributes.attributes c.attributes.rest.now (tag_rest (length c.args.text.now) c.args.text.now) c.in-Ended.is_empty c.in-Ended.rest.now c.attributes.invariant.1 step

pub attributes-preserved : goal.attributes-preserved
attributes-preserved c =
    let step : tag_step c.attributes.rest.now ≡ onward c.in-Onward.attribute c.in-Onward.behind.now = rw c.in-Onward.is at c.in-Ok.ensures.step in
    let less : length c.in-Onward.behind.now < length c.attributes.rest.now = rw c.in-Onward.is at c.in-Ok.ensures.shorter in (
      search rules,
      tag_next c.attributes.attributes c.push.new.self c.attributes.rest.now (tag_rest (length c.args.text.now) c.args.text.now) c.in-Onward.attribute c.in-Onward.behind.now
          c.attributes.invariant.1 step less c.in_ok-push-in-Onward.ensures.ok,
      omega (arith, c.attributes.invariant.2),
    )
