-- What the refusal of a multistatus displays (this project's own).
use Rattle.std.specs.Prelude.{ℕ, List, Option, Some, codes}
use Rattle.multistatus.specs.declared.error.MultiError.{MultiError}
use Rattle.multistatus.specs.declared.error.MultiError.TheVariants.{Bad, NoMemory}

abbrev pub error_text : MultiError → Option (List ℕ)
error_text Bad = Some (codes "bad reply")
error_text NoMemory = Some (codes "out of memory")
