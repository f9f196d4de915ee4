use Rattle.file_text.proofs.Reading.{read_alone, read_in_front, read_behind, folded_begins}
use Rattle.file_text.proofs.laws.folded_lines_unfold.Goals as goal

pub returns-clause-alone : goal.returns-clause-alone
returns-clause-alone c = read_alone

pub returns-clause-in_front : goal.returns-clause-in_front
returns-clause-in_front c = read_in_front

pub returns-clause-behind : goal.returns-clause-behind
returns-clause-behind c = read_behind

pub returns-clause-begins : goal.returns-clause-begins
returns-clause-begins c = folded_begins
