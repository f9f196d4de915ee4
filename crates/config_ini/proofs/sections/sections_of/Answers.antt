use Rattle.std.specs.Vec.Iter.{into_iter_items}
use Rattle.config_ini.specs.Sections as spec
use Rattle.config_ini.proofs.Collected.{empty_by}
use Rattle.config_ini.proofs.Groups.{group_last}
use Rattle.config_ini.proofs.sections.sections_of.Goals as goal

pub returns : goal.returns
returns c =
    group_last c.lines.grouped.done c.in_ok-sections.sections c.lines.grouped.at (into_iter_items c.lines.rest) (spec.sections_of c.args.lines.items)
    (empty_by (into_iter_items c.lines.rest) c.lines.rest.rest.len c.lines.rest.rest.ok.0 c.in_default.ensures.cases.0) c.in_ok-sections.ensures c.lines.invariant
