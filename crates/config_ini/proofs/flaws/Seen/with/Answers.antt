use Rattle.std.proofs.Common.{◌∷◌, ap, ◌∙◌}
use Rattle.config_ini.specs.declared.kinds.Logical.{Logical}
use Rattle.config_ini.specs.Repeats.{has, flaw_left}
use Rattle.config_ini.proofs.Before.{bad_line}
use Rattle.config_ini.proofs.flaws.Seen.with.Goals as goal

pub returns-in-Bad : goal.returns-in-Bad
returns-in-Bad c = λ other rest.
    ap (λ (l : Logical). flaw_left c.args.self (l ∷ rest)) c.in-Bad.is
    ∙ bad_line (has c.args.self.sections.keys) (has c.args.self.keys.keys) c.args.self.at c.in-Bad.number rest
