-- A map that gives the namespaces of declarations (this project's own).
use Rattle.std.specs.Prelude.{◌≡◌, ℕ, List}
use Rattle.std.specs.Ordering.{nat_cmp}
use Rattle.std.specs.Cmp.Lexicographic.{slice_cmp}
use Rattle.std.specs.BTreeMap.{BTreeMap, get}
use Rattle.multistatus.specs.declared.scopes.Binding.{Binding}
use Rattle.multistatus.specs.Namespaces.{space_of}

-- a prefix has the namespace of the first of its declarations
abbrev pub IsMapOf : BTreeMap (List ℕ) (List ℕ) → List Binding → Type 0
IsMapOf map listed = (q : List ℕ) → get (slice_cmp nat_cmp) map q ≡ space_of q listed
