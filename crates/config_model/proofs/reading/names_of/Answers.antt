use Rattle.std.proofs.Common.{◌≤◌, length, refl, ◌∙◌, arith}
use Rattle.config_ini.specs.Repeats.{has}
use Rattle.config_ini.proofs.Before.{sees_also}
use Rattle.config_model.proofs.Named.{name_added, names_added}
use Rattle.config_model.proofs.reading.names_of.Goals as goal

pub loop-storage-preserved : goal.loop-storage-preserved
loop-storage-preserved c =
    name_added (has c.loop-storage.names.keys) (has c.insert.new.self.keys) c.args.storages.now c.loop-storage.storage-index c.storage-item.result c.in_ok-copy_of.field-0 c.loop-storage-test.true c.storage-item.is
    (c.in_ok-copy_of.ensures ∙ c.as_str.ensures)
    (sees_also c.in_ok-copy_of.field-0 c.in_ok-copy_of.field-0 c.loop-storage.names.keys c.insert.new.self.keys refl c.in_ok-insert.ensures.updates.0)
    c.loop-storage.invariant

pub returns : goal.returns
returns c =
    let over : length c.args.storages.now ≤ c.loop-storage.storage-index = omega arith in
    names_added (has c.loop-storage.names.keys) c.args.storages.now c.loop-storage.storage-index over c.loop-storage.invariant
