use Rattle.std.proofs.Common.{◌≡◌}
use Rattle.std.specs.Vec.Iter.{into_iter_items, into_iter_len}
use Rattle.config_ini.specs.Grouping.{left_of}
use Rattle.config_ini.specs.Sections as spec
use Rattle.config_ini.proofs.sections.sections_of.Given as goal

abbrev pub invariant-lines : goal.invariant-lines
invariant-lines l = left_of l.grouped (into_iter_items l.rest) ≡ spec.sections_of l.fn.lines.items

abbrev pub decreases-lines : goal.decreases-lines
decreases-lines l = into_iter_len l.rest
