use Rattle.multistatus.proofs.Readings.{answer_exact}
use Rattle.multistatus.proofs.multistatus.read_multistatus.Goals as goal

pub returns-clause-exact : goal.returns-clause-exact
returns-clause-exact c = λ rows has. answer_exact c.args.bytes.now c.find_rows.result rows c.find_rows.ensures has
