use Rattle.file_text.proofs.Zones.{sees}
use Rattle.file_text.proofs.join.is_first.Goals as goal

pub returns-clause-sees : goal.returns-clause-sees
returns-clause-sees c = sees c.args.text.now c.in_ok-copy.copy c.args.seen.now.keys c.insert.new.self.keys c.in_ok-copy.ensures c.in_ok-first.ensures.updates.0
