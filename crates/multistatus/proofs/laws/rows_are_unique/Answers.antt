use Rattle.multistatus.proofs.Readings.{HasRows-unique}
use Rattle.multistatus.proofs.laws.rows_are_unique.Goals as goal

pub returns : goal.returns
returns c = HasRows-unique
