use Rattle.std.proofs.Common.{◌≡◌}
use Rattle.std.specs.Vec.Iter.{into_iter_items, into_iter_len}
use Rattle.serde_json.specs.View.{items_view}
use Rattle.config_ini.specs.Settings.{all_of, text_of}
use Rattle.config_ini.proofs.Collected.{onto}
use Rattle.config_ini.proofs.setting.texts_of.Given as goal

abbrev pub invariant-texts : goal.invariant-texts
invariant-texts l = onto l.texts.items (all_of text_of (items_view (into_iter_items l.rest))) ≡ all_of text_of (items_view l.fn.values.items)

abbrev pub decreases-texts : goal.decreases-texts
decreases-texts l = into_iter_len l.rest
