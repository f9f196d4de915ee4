use Rattle.multistatus.specs.Reader.{state_of}
use Rattle.multistatus.proofs.Runs.{emptied-is}
use Rattle.multistatus.proofs.reader.Reader.behind_empty.Goals as goal

pub returns : goal.returns
returns c = rw (emptied-is (state_of c.args.self) (state_of c.in_ok-inside.inside) c.args.tag c.in_ok-inside.ensures) c.behind_end.ensures
