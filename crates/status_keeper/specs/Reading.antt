-- What a reading of a status may answer, and which rows read back (this project's own).
use Rattle.std.specs.Prelude.{◌≡◌, Some, Result, Ok, Err}
use Rattle.std.specs.declared.vec.Vec.{Vec}
use Rattle.std.specs.declared.alloc.Global.{Global}
use Rattle.status_keeper.specs.declared.row.Row.{Row}
use Rattle.status_keeper.specs.declared.keeper.KeeperError.{KeeperError}
use Rattle.status_keeper.specs.declared.keeper.KeeperError.TheVariants.{Fault, Moved, Damaged, TooLong, NoMemory}
use Rattle.hex.specs.Hex.{encode_lower}
use Rattle.status_keeper.specs.Status.{Kept, fp_of}

abbrev pub Gives : Kept → Result (Vec Row Global) KeeperError → Type 0
Gives kept (Ok rows) = kept ≡ Ok rows.items
Gives kept (Err (Damaged k)) = kept ≡ Err (Damaged k)
Gives kept (Err NoMemory) = Unit {0}
Gives kept (Err TooLong) = ⊥
Gives kept (Err Fault) = ⊥
Gives kept (Err Moved) = ⊥

-- its version's hex text means the version
abbrev pub FpReads : Row → Type 0
FpReads row = fp_of (encode_lower row.fp.0) ≡ Some row.fp
