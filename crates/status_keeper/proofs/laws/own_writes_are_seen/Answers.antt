use Rattle.status_keeper.proofs.Spoiling.{own_write_is_no_edit, other_write_is_beside}
use Rattle.status_keeper.proofs.laws.own_writes_are_seen.Goals as goal

pub returns-clause-no_edit : goal.returns-clause-no_edit
returns-clause-no_edit c = own_write_is_no_edit

pub returns-clause-beside : goal.returns-clause-beside
returns-clause-beside c = other_write_is_beside
