use Rattle.config_ini.proofs.Groups.{section_next}
use Rattle.config_ini.proofs.sections.Grouped.with_section.Goals as goal

pub returns : goal.returns
returns c = λ rest. section_next c.args.self.done c.in_ok-done.done c.new-entries.result c.args.self.at c.args.number c.args.title rest c.in_ok-done.ensures c.new-entries.ensures
