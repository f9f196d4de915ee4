use Rattle.file_text.proofs.Shortness.{short_alone, short_in_front}
use Rattle.file_text.proofs.laws.folded_lines_are_short.Goals as goal

pub returns-clause-alone : goal.returns-clause-alone
returns-clause-alone c = short_alone

pub returns-clause-in_front : goal.returns-clause-in_front
returns-clause-in_front c = short_in_front
