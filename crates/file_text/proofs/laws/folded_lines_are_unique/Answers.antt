use Rattle.file_text.proofs.Pieces.{same_folded}
use Rattle.file_text.proofs.laws.folded_lines_are_unique.Goals as goal

pub returns : goal.returns
returns c = same_folded
