-- The rows of a multistatus: responses, their status and their properties (RFC 4918, section 14).
use Rattle.std.specs.Prelude.{ℕ, ◌+◌, ◌*◌, ◌-◌, Bool, true, false, ◌&&◌, List, [], ◌∷◌, ◌++◌, map, Option, Some, None, codes, if◌then◌else◌, ◌==◌}
use Rattle.std.specs.Char.{is_ascii_digit}
use Rattle.std.specs.Str.{bytes_eq}
use Rattle.multistatus.specs.declared.scopes.Expanded.{Expanded}
use Rattle.multistatus.specs.declared.rows.Response.{Response}
use Rattle.multistatus.specs.declared.rows.Prop.{Prop}
use Rattle.multistatus.specs.declared.rows.Property.{Property}
use Rattle.multistatus.specs.Steps.{◌>>=◌, all_some}
use Rattle.multistatus.specs.Texts.{front, behind, stripped, trimmed}
use Rattle.multistatus.specs.Namespaces.{Tree, end, chars, branch}
use Rattle.multistatus.specs.Props.{with_code}

-- a name of the namespace `DAV:`
abbrev pub is_dav : List ℕ → Expanded → Bool
is_dav local name = bytes_eq name.local local && bytes_eq name.space (codes "DAV:")

-- the own character data of an element, joined
abbrev pub own_text : Tree → List ℕ
own_text end = []
own_text (chars t more) = t ++ own_text more
own_text (branch name inside more) = own_text more

-- the names of its child elements, in order
abbrev pub child_names : Tree → List (List ℕ × List ℕ)
child_names end = []
child_names (chars t more) = child_names more
child_names (branch name inside more) = (name.space, name.local) ∷ child_names more

-- what its children of a name of `DAV:` hold, in order
abbrev pub children : List ℕ → Tree → List Tree
children local end = []
children local (chars t more) = children local more
children local (branch name inside more) = if is_dav local name then inside ∷ children local more else children local more

-- an href and a status are trimmed (sections 14.7 and 14.28)
abbrev pub href_of : Tree → List ℕ
href_of element = trimmed (own_text element)

-- three digits, then nothing or a space and any text
abbrev pub number_of_digits : ℕ → ℕ → ℕ → Option ℕ
number_of_digits a b c = if is_ascii_digit a && is_ascii_digit b && is_ascii_digit c then Some ((a - 48) * 100 + (b - 48) * 10 + (c - 48)) else None

abbrev pub three_digits : List ℕ → Option ℕ
three_digits (a ∷ b ∷ c ∷ []) = number_of_digits a b c
three_digits (a ∷ b ∷ c ∷ d ∷ reason) = if d == 32 then number_of_digits a b c else None
three_digits line = None

-- digits, at least one, and what follows
abbrev pub are_some : List ℕ → Bool
are_some [] = false
are_some (b ∷ bytes) = true

unfoldable pub behind_digits : List ℕ → Option (List ℕ)
behind_digits bytes = if are_some (front is_ascii_digit bytes) then Some (behind is_ascii_digit bytes) else None

-- a status line (RFC 9112, section 4, and RFC 4918, section 14.28): HTTP/, digits, a dot, digits, a space and the code
unfoldable pub status_code : List ℕ → Option ℕ
status_code line =
    stripped (codes "HTTP/") line >>= λ version. behind_digits version >>= λ dot. stripped (codes ".") dot >>= λ minor.
    behind_digits minor >>= λ space. stripped (codes " ") space >>= three_digits

abbrev pub status_of : Tree → Option ℕ
status_of element = status_code (trimmed (own_text element))

-- the properties that a `prop` lists (section 14.18)
abbrev pub property_of : Expanded → Tree → Property
property_of name inside = record {
  space = name.space;
  name = name.local;
  text = own_text inside;
  children = child_names inside;
  hrefs = map href_of (children (codes "href") inside);
}

abbrev pub properties_of : Tree → List Property
properties_of end = []
properties_of (chars t more) = properties_of more
properties_of (branch name inside more) = property_of name inside ∷ properties_of more

-- a propstat has one `prop` and one `status` (section 14.22)
abbrev pub propstat_from : List ℕ → List (List Property) → Option (List Prop)
propstat_from (code ∷ []) (listed ∷ []) = Some (map (with_code code) listed)
propstat_from codes lists = None

abbrev pub propstat_of : Tree → Option (List Prop)
propstat_of element =
    all_some status_of (children (codes "status") element) >>= λ found. propstat_from found (map properties_of (children (codes "prop") element))

-- a response has one status and at least one href, or one href and at least one propstat (section 14.24)
abbrev pub of_status : ℕ → List ℕ → Response
of_status code href = record { href = href; code = Some code; props = [] }

abbrev pub joined_props : List (List Prop) → List Prop
joined_props [] = []
joined_props (props ∷ more) = props ++ joined_props more

abbrev pub response_from : List (List ℕ) → List ℕ → List (List Prop) → Option (List Response)
response_from (href ∷ hrefs) (code ∷ []) [] = Some (map (of_status code) (href ∷ hrefs))
response_from (href ∷ []) [] (props ∷ more) = Some (record { href = href; code = None; props = joined_props (props ∷ more) } ∷ [])
response_from hrefs found propstats = None

abbrev pub response_of : Tree → Option (List Response)
response_of element =
    all_some status_of (children (codes "status") element) >>= λ found.
    all_some propstat_of (children (codes "propstat") element) >>= λ propstats.
    response_from (map href_of (children (codes "href") element)) found propstats

-- the rows of a multistatus: those of its responses, in order (section 14.16)
abbrev pub joined_rows : List (List Response) → List Response
joined_rows [] = []
joined_rows (rows ∷ more) = rows ++ joined_rows more

abbrev pub rows_of : Tree → Option (List Response)
rows_of element = all_some response_of (children (codes "response") element) >>= λ rows. Some (joined_rows rows)
