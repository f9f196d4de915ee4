-- What resolving the names of a tag answers (this project's own).
use Rattle.std.specs.Prelude.{List, Option, Some}
use Rattle.multistatus.specs.declared.tags.Attribute.{Attribute}
use Rattle.multistatus.specs.declared.scopes.Binding.{Binding}
use Rattle.multistatus.specs.declared.scopes.Opened.{Opened}
use Rattle.multistatus.specs.Steps.{◌>>=◌, all_some}
use Rattle.multistatus.specs.Namespaces.{Opening, attribute_name, if_differ}

abbrev pub opening : Opened → Opening
opening o = record { declared = o.declared; name = o.name }

-- all attributes have names, and no two the same
abbrev pub differing : List Binding → List Attribute → Option (Unit {0})
differing scope attributes = (all_some (attribute_name scope) attributes >>= if_differ) >>= λ names. Some tt
