use Rattle.std.proofs.Common.{None, Some}
use Rattle.mem_store.specs.Memory.{side_of}
use Rattle.mem_store.proofs.DraftLemmas.{edit_run}
use Rattle.mem_store.proofs.desk.edit_due.Goals as goal

pub returns-in-None-clause-edits : goal.returns-in-None-clause-edits
returns-in-None-clause-edits c = edit_run (side_of c.args.shelf.now) (side_of c.edit.new.self) c.as_str.result.now None c.edit.result c.edit.ensures.ok c.edit.ensures.err

pub returns-in-Some-clause-edits : goal.returns-in-Some-clause-edits
returns-in-Some-clause-edits c = edit_run (side_of c.args.shelf.now) (side_of c.edit-in-Some.new.self) c.as_str-in-Some.result.now (Some c.as_slice.result.now) c.edit-in-Some.result c.edit-in-Some.ensures.ok c.edit-in-Some.ensures.err
