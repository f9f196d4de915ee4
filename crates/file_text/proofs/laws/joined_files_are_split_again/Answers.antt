use Rattle.file_text.proofs.ItemLists.{joined_again}
use Rattle.file_text.proofs.laws.joined_files_are_split_again.Goals as goal

pub returns : goal.returns
returns c = joined_again
