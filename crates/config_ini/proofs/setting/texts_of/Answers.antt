use Rattle.std.proofs.Common.{ℕ, List, Some, sym, ap, ◌∙◌}
use Rattle.std.specs.Vec.Iter.{into_iter_items}
use Rattle.serde_json.specs.View.{items_view}
use Rattle.config_ini.specs.Settings as spec
use Rattle.config_ini.proofs.Collected.{next_found, none_found, all_found, empty_by}
use Rattle.config_ini.proofs.setting.texts_of.Goals as goal

pub texts-preserved : goal.texts-preserved
texts-preserved c =
    next_found spec.text_of c.texts.texts.items c.push.new.self.items c.in-Some-text_of.text c.in-Some.value (into_iter_items c.texts.rest) (into_iter_items c.next.new.self)
    (spec.all_of spec.text_of (items_view c.args.values.items)) c.in-Some.ensures.items c.in_ok-push-in-Some-text_of.ensures.items (sym c.in-Some-text_of.ensures) c.texts.invariant

pub returns-in-None : goal.returns-in-None
returns-in-None c =
    none_found spec.text_of c.texts.texts.items c.in-Some.value (into_iter_items c.texts.rest) (into_iter_items c.next.new.self)
    (spec.all_of spec.text_of (items_view c.args.values.items)) c.in-Some.ensures.items (sym c.in-None.ensures) c.texts.invariant

pub returns : goal.returns
returns c =
    ap (λ (texts : List (List ℕ)). Some texts) c.of.ensures
    ∙ all_found spec.text_of c.texts.texts.items (into_iter_items c.texts.rest) (spec.all_of spec.text_of (items_view c.args.values.items))
    (empty_by (into_iter_items c.texts.rest) c.texts.rest.rest.len c.texts.rest.rest.ok.0 c.in_default.ensures.cases.0) c.texts.invariant
