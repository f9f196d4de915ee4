use Rattle.file_text.proofs.ItemFiles.{item_fine}
use Rattle.file_text.proofs.laws.items_are_files.Goals as goal

pub returns : goal.returns
returns c = item_fine
