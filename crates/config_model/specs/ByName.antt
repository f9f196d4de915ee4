-- A map that gives storages by their names (this project's own).
use Rattle.std.specs.Prelude.{◌≡◌, ℕ, List}
use Rattle.std.specs.List.{find}
use Rattle.std.specs.Borrow.{Bor}
use Rattle.std.specs.Option.{option_copied}
use Rattle.std.specs.Ordering.{nat_cmp}
use Rattle.std.specs.Cmp.Lexicographic.{slice_cmp}
use Rattle.std.specs.BTreeMap.{BTreeMap, get}
use Rattle.config_ini.specs.declared.sections.Section.{Section}
use Rattle.config_model.specs.Pairs.{is_storage_of}

-- at each name stands the first storage of it
abbrev pub IsByName : BTreeMap (List ℕ) (Bor Section) → List Section → Type 0
IsByName map sections = (q : List ℕ) → option_copied (get (slice_cmp nat_cmp) map q) ≡ find (λ s. is_storage_of q s) sections
