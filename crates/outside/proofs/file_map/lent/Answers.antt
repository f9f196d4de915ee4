use Rattle.std.proofs.Common.{arith}
use Rattle.outside.proofs.FileMapLemmas.{get-files_of}
use Rattle.outside.proofs.file_map.lent.Goals as goal

pub returns-in-None : goal.returns-in-None
returns-in-None c = let found = get-files_of c.args.files.now c.args.name.now in grind arith

pub returns-in-Some : goal.returns-in-Some
returns-in-Some c = let found = get-files_of c.args.files.now c.args.name.now in grind arith
