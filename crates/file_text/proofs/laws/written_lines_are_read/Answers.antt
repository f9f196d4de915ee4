use Rattle.file_text.proofs.Refolding.{is_folded, lines_read}
use Rattle.file_text.proofs.laws.written_lines_are_read.Goals as goal

pub returns-clause-folded : goal.returns-clause-folded
returns-clause-folded c = is_folded

pub returns-clause-read : goal.returns-clause-read
returns-clause-read c = lines_read
