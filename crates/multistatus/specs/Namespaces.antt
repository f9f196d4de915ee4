-- Names resolved by the declarations in scope (Namespaces in XML 1.0, third edition, sections 2.2, 3, 5, 6 and 6.3).
use Rattle.std.specs.Prelude.{ℕ, Bool, true, ◌&&◌, ◌||◌, not, ◌==◌, length, List, [], ◌∷◌, ◌++◌, Option, Some, None, codes, if◌then◌else◌}
use Rattle.std.specs.List.{list_all, list_any, filter_map}
use Rattle.std.specs.Str.{bytes_eq}
use Rattle.multistatus.specs.declared.tags.Name.{Name}
use Rattle.multistatus.specs.declared.tags.Attribute.{Attribute}
use Rattle.multistatus.specs.declared.tags.Tag.{Tag}
use Rattle.multistatus.specs.declared.scopes.Binding.{Binding}
use Rattle.multistatus.specs.declared.scopes.Expanded.{Expanded}
use Rattle.multistatus.specs.Steps.{◌>>=◌, all_some}
use Rattle.multistatus.specs.Elements.{Content, nothing, blanks, text, element}

-- a declaration in a tag: `xmlns` declares the namespace of names without a prefix, `xmlns:P` that of the prefix P
unfoldable pub declaration_of : Attribute → Option Binding
declaration_of a =
    if bytes_eq a.name.prefix (codes "xmlns") then Some (record { prefix = a.name.local; space = a.value })
    else if (length a.name.prefix == 0) && bytes_eq a.name.local (codes "xmlns") then Some (record { prefix = []; space = a.value })
    else None

abbrev pub declarations_of : List Attribute → List Binding
declarations_of attributes = filter_map declaration_of attributes

abbrev pub xml_space : List ℕ
xml_space = codes "http://www.w3.org/XML/1998/namespace"

abbrev pub xmlns_space : List ℕ
xmlns_space = codes "http://www.w3.org/2000/xmlns/"

-- what may be declared: a prefix has a namespace, `xmlns` is none, and the two reserved namespaces go with their own prefixes
abbrev pub keeps_xml : List ℕ → List ℕ → Bool
keeps_xml prefix space = if bytes_eq prefix (codes "xml") then bytes_eq space xml_space else not (bytes_eq space xml_space)

abbrev pub keeps_xmlns : List ℕ → List ℕ → Bool
keeps_xmlns prefix space = not (bytes_eq prefix (codes "xmlns")) && not (bytes_eq space xmlns_space)

unfoldable pub may_declare : Binding → Bool
may_declare b = keeps_xmlns b.prefix b.space && keeps_xml b.prefix b.space && ((length b.prefix == 0) || not (length b.space == 0))

-- the namespace of a prefix; declarations further inside come first
abbrev pub space_of : List ℕ → List Binding → Option (List ℕ)
space_of prefix [] = None
space_of prefix (b ∷ scope) = if bytes_eq prefix b.prefix then Some b.space else space_of prefix scope

-- the prefix `xml` is declared from the start
abbrev pub first_scope : List Binding
first_scope = record { prefix = codes "xml"; space = xml_space } ∷ []

-- without a prefix the name of an element is in the default namespace, and in none where none is declared; a prefix must be declared
abbrev pub element_in : Name → Option (List ℕ) → Option Expanded
element_in n None = if length n.prefix == 0 then Some (record { space = []; local = n.local }) else None
element_in n (Some space) = Some (record { space = space; local = n.local })

unfoldable pub element_name : List Binding → Name → Option Expanded
element_name scope n = element_in n (space_of n.prefix scope)

-- without a prefix the name of an attribute is in no namespace
unfoldable pub attribute_space : List Binding → List ℕ → Option (List ℕ)
attribute_space scope prefix =
    if length prefix == 0 then Some []
    else if bytes_eq prefix (codes "xmlns") then Some xmlns_space
    else space_of prefix scope

unfoldable pub attribute_name : List Binding → Attribute → Option Expanded
attribute_name scope a = attribute_space scope a.name.prefix >>= λ space. Some (record { space = space; local = a.name.local })

abbrev pub is_same : Expanded → Expanded → Bool
is_same m n = bytes_eq m.local n.local && bytes_eq m.space n.space

-- no name stands twice (section 6.3)
abbrev pub all_differ : List Expanded → Bool
all_differ [] = true
all_differ (n ∷ names) = not (list_any (is_same n) names) && all_differ names

-- what a tag opens: its declarations, and the name of its element
pub record Opening : Type 0 where
  pub declared : List Binding
  pub name : Expanded

abbrev pub if_differ : List Expanded → Option (List Expanded)
if_differ names = if all_differ names then Some names else None

abbrev pub opening_with : List Binding → List Binding → Tag → Option Opening
opening_with declared scope tag =
    (all_some (attribute_name scope) tag.attributes >>= if_differ) >>= λ names.
    element_name scope tag.name >>= λ name. Some (record { declared = declared; name = name })

abbrev pub opening_by : List Binding → List Binding → Tag → Option Opening
opening_by declared outer tag = if list_all may_declare declared then opening_with declared (declared ++ outer) tag else None

unfoldable pub opening_of : List Binding → Tag → Option Opening
opening_of outer tag = opening_by (declarations_of tag.attributes) outer tag

-- content with its names resolved; attributes have no further meaning here
pub data Tree : Type 0 where
  end : Tree
  chars : List ℕ → Tree → Tree
  branch : Expanded → Tree → Tree → Tree

abbrev pub resolved : List Binding → Content → Option Tree
resolved scope nothing = Some end
resolved scope (blanks white more) = resolved scope more >>= λ rest. Some (chars white rest)
resolved scope (text t more) = resolved scope more >>= λ rest. Some (chars t rest)
resolved scope (element tag inside more) =
    opening_of scope tag >>= λ o. resolved (o.declared ++ scope) inside >>= λ within. resolved scope more >>= λ rest. Some (branch o.name within rest)
