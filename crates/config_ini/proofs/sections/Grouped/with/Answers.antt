use Rattle.std.proofs.Common.{◌∷◌, ap, ◌∙◌}
use Rattle.config_ini.specs.declared.kinds.Logical.{Logical}
use Rattle.config_ini.specs.Grouping.{left_of}
use Rattle.config_ini.proofs.Groups.{bad_next}
use Rattle.config_ini.proofs.sections.Grouped.with.Goals as goal

pub returns-in-Bad : goal.returns-in-Bad
returns-in-Bad c = λ other rest.
    ap (λ (l : Logical). left_of c.args.self (l ∷ rest)) c.in-Bad.is ∙ bad_next c.args.self.done c.args.self.at c.in-Bad.number rest
