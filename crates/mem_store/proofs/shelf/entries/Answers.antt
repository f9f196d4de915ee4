use Rattle.std.proofs.Common.{arith}
use Rattle.std.proofs.lemmas.Grind.{common_steps}
use Rattle.mem_store.proofs.FileLemmas.{listed-content_of}
use Rattle.mem_store.proofs.shelf.entries.Goals as goal

pub returns : goal.returns
returns c =
    let all = listed-content_of c.args.files.now c.iter-name-items.ensures.ordered in
    grind (arith, common_steps)
