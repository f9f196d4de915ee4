use Rattle.std.proofs.Common.{List, Some, sym, ap, ◌∙◌}
use Rattle.std.specs.Vec.Iter.{into_iter_items}
use Rattle.serde_json.specs.View.{items_view}
use Rattle.config_ini.specs.declared.setting.Part.{Part}
use Rattle.config_ini.specs.Settings as spec
use Rattle.config_ini.proofs.Collected.{next_found, none_found, all_found, empty_by}
use Rattle.config_ini.proofs.setting.parts_of.Goals as goal

pub parts-preserved : goal.parts-preserved
parts-preserved c =
    next_found spec.part_of c.parts.parts.items c.push.new.self.items c.in-Some-2.part c.in-Some.value (into_iter_items c.parts.rest) (into_iter_items c.next.new.self)
    (spec.all_of spec.part_of (items_view c.args.values.items)) c.in-Some.ensures.items c.in_ok-push-in-Some-2.ensures.items (sym c.in_ok-part.ensures ∙ c.in-Some-2.is) c.parts.invariant

pub returns-in-None : goal.returns-in-None
returns-in-None c =
    none_found spec.part_of c.parts.parts.items c.in-Some.value (into_iter_items c.parts.rest) (into_iter_items c.next.new.self)
    (spec.all_of spec.part_of (items_view c.args.values.items)) c.in-Some.ensures.items (sym c.in_ok-part.ensures ∙ c.in-None.is) c.parts.invariant

pub returns : goal.returns
returns c =
    ap (λ (parts : List Part). Some parts) c.of.ensures
    ∙ all_found spec.part_of c.parts.parts.items (into_iter_items c.parts.rest) (spec.all_of spec.part_of (items_view c.args.values.items))
    (empty_by (into_iter_items c.parts.rest) c.parts.rest.rest.len c.parts.rest.rest.ok.0 c.in_default.ensures.cases.0) c.parts.invariant
