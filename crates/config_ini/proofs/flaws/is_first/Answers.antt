use Rattle.config_ini.proofs.Before.{sees_also}
use Rattle.config_ini.proofs.flaws.is_first.Goals as goal

pub returns-clause-sees : goal.returns-clause-sees
returns-clause-sees c = sees_also c.args.text.now c.in_ok-copy.copy c.args.seen.now.keys c.insert.new.self.keys c.in_ok-copy.ensures c.in_ok-first.ensures.updates.0
