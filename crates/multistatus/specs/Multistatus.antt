-- What bytes are as a multistatus: the rows that a reply's body gives, taken from its tree (RFC 4918, section 14).
use Rattle.std.specs.Prelude.{◌≡◌, ℕ, List, Option, Some, None, Result, Ok, Err, codes, if◌then◌else◌}
use Rattle.multistatus.specs.declared.error.MultiError.{MultiError}
use Rattle.multistatus.specs.declared.error.MultiError.TheVariants.{Bad, NoMemory}
use Rattle.multistatus.specs.declared.rows.Response.{Response}
use Rattle.multistatus.specs.Namespaces.{Tree, branch, end}
use Rattle.multistatus.specs.Rows.{is_dav, rows_of}
use Rattle.multistatus.specs.Documents.{HasTree}

-- the rows of a document whose outermost element is named so
abbrev pub rows_of_root : Tree → Option (List Response)
rows_of_root (branch name inside end) = if is_dav (codes "multistatus") name then rows_of inside else None
rows_of_root tree = None

-- bytes have these rows: they are a document, and the rows are those of its tree
pub record HasRows (bytes : List ℕ) (rows : List Response) : Type 0 where
  pub tree : Tree
  pub has_tree : HasTree bytes tree
  pub rows_are : rows_of_root tree ≡ Some rows

-- the answer is the rows of the bytes, or says that they have none, unless memory ran out
abbrev pub IsAnswer : (List Response → Type 0) → Result (List Response) MultiError → Type 0
IsAnswer Has (Ok rows) = Has rows
IsAnswer Has (Err Bad) = (rows : List Response) → Has rows → ⊥
IsAnswer Has (Err NoMemory) = Unit {0}
