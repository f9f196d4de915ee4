use Rattle.mem_store.proofs.FileLemmas.{files_of-copy}
use Rattle.mem_store.proofs.shelf.copy_files.Goals as goal

pub returns : goal.returns
returns c = files_of-copy c.args.files.now c.in-Ok.copy c.in-Ok.ensures.cases
