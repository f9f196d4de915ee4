use Rattle.std.proofs.Common.{◌≡◌}
use Rattle.std.specs.Vec.Iter.{into_iter_items, into_iter_len}
use Rattle.serde_json.specs.View.{items_view}
use Rattle.config_ini.specs.Settings.{all_of, part_of}
use Rattle.config_ini.proofs.Collected.{onto}
use Rattle.config_ini.proofs.setting.parts_of.Given as goal

abbrev pub invariant-parts : goal.invariant-parts
invariant-parts l = onto l.parts.items (all_of part_of (items_view (into_iter_items l.rest))) ≡ all_of part_of (items_view l.fn.values.items)

abbrev pub decreases-parts : goal.decreases-parts
decreases-parts l = into_iter_len l.rest
