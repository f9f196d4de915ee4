use Rattle.file_text.proofs.SameLines.{uid_by_marks, version_by_marks}
use Rattle.file_text.proofs.laws.marks_tell_the_item.Goals as goal

pub returns-clause-uid : goal.returns-clause-uid
returns-clause-uid c = uid_by_marks

pub returns-clause-version : goal.returns-clause-version
returns-clause-version c = version_by_marks
