use Rattle.file_text.proofs.SameLines.{uid_again, version_again}
use Rattle.file_text.proofs.laws.written_lines_tell_the_item.Goals as goal

pub returns-clause-uid : goal.returns-clause-uid
returns-clause-uid c = uid_again

pub returns-clause-version : goal.returns-clause-version
returns-clause-version c = version_again
