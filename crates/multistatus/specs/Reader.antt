-- How the reader goes from token to token: the elements that are open, innermost first, and what each has given so far
-- (this project's own). The proofs tie it to specs/Documents.antt and specs/Multistatus.antt.
use Rattle.std.specs.Prelude.{◌≡◌, ℕ, Bool, true, false, ◌&&◌, List, [], ◌∷◌, ◌++◌, map, reverse, length, Option, Some, None, codes, if◌then◌else◌, nat_lt}
use Rattle.std.specs.List.{flat_map}
use Rattle.std.specs.Str.{bytes_eq}
use Rattle.multistatus.specs.declared.tags.Name.{Name}
use Rattle.multistatus.specs.declared.tags.Tag.{Tag}
use Rattle.multistatus.specs.declared.tokens.Token.{Token}
use Rattle.multistatus.specs.declared.scopes.Binding.{Binding}
use Rattle.multistatus.specs.declared.scopes.Expanded.{Expanded}
use Rattle.multistatus.specs.declared.rows.Response.{Response}
use Rattle.multistatus.specs.declared.rows.Prop.{Prop}
use Rattle.multistatus.specs.declared.rows.Property.{Property}
use Rattle.multistatus.specs.declared.frames.Frame.{Frame}
use Rattle.multistatus.specs.declared.frames.Frame.TheVariants.{InMultistatus, InResponse, InPropstat, InProp, InProperty, InHref, InStatus, Ignored}
use Rattle.multistatus.specs.declared.frames.ResponseParts.{ResponseParts}
use Rattle.multistatus.specs.declared.frames.PropstatParts.{PropstatParts}
use Rattle.multistatus.specs.declared.reader.Level.{Level}
use Rattle.multistatus.specs.declared.reader.Reader.{Reader}
use Rattle.multistatus.specs.Steps.{◌>>=◌}
use Rattle.multistatus.specs.Texts.{trimmed}
use Rattle.multistatus.specs.Tokens.{AreTokens}
use Rattle.multistatus.specs.Elements.{Event, is_blank, is_text, opens, closes, events_of_token}
use Rattle.multistatus.specs.Namespaces.{Opening, first_scope, opening_of}
use Rattle.multistatus.specs.Rows.{is_dav, status_code, of_status, propstat_from}
use Rattle.multistatus.specs.Documents.{most_nested}

-- an element that begins in another one
abbrev pub begun_in_response : Expanded → Frame
begun_in_response name =
    if is_dav (codes "href") name then InHref []
    else if is_dav (codes "status") name then InStatus []
    else if is_dav (codes "propstat") name then InPropstat (record { codes = []; lists = [] })
    else Ignored

abbrev pub begun_in_propstat : Expanded → Frame
begun_in_propstat name =
    if is_dav (codes "prop") name then InProp []
    else if is_dav (codes "status") name then InStatus []
    else Ignored

abbrev pub new_response : Frame
new_response = InResponse (record { hrefs = []; codes = []; has_propstat = false; props = [] })

abbrev pub new_property : Expanded → Frame
new_property name = InProperty (record { space = name.space; name = name.local; text = []; children = []; hrefs = [] })

abbrev pub begun_in_multistatus : Expanded → Frame
begun_in_multistatus name = if is_dav (codes "response") name then new_response else Ignored

abbrev pub begun_in_property : Expanded → Frame
begun_in_property name = if is_dav (codes "href") name then InHref [] else Ignored

abbrev pub begun : Frame → Expanded → Frame
begun (InMultistatus rows) name = begun_in_multistatus name
begun (InResponse parts) name = begun_in_response name
begun (InPropstat parts) name = begun_in_propstat name
begun (InProp properties) name = new_property name
begun (InProperty property) name = begun_in_property name
begun (InHref text) name = Ignored
begun (InStatus text) name = Ignored
begun Ignored name = Ignored

-- the one that it begins in: a property keeps the name
abbrev pub noted : Frame → Expanded → Frame
noted (InProperty property) name = InProperty (record property { children = property.children ++ (name.space, name.local) ∷ [] })
noted (InMultistatus rows) name = InMultistatus rows
noted (InResponse parts) name = InResponse parts
noted (InPropstat parts) name = InPropstat parts
noted (InProp properties) name = InProp properties
noted (InHref text) name = InHref text
noted (InStatus text) name = InStatus text
noted Ignored name = Ignored

-- character data
abbrev pub with_text : Frame → List ℕ → Frame
with_text (InProperty property) more = InProperty (record property { text = property.text ++ more })
with_text (InHref text) more = InHref (text ++ more)
with_text (InStatus text) more = InStatus (text ++ more)
with_text (InMultistatus rows) more = InMultistatus rows
with_text (InResponse parts) more = InResponse parts
with_text (InPropstat parts) more = InPropstat parts
with_text (InProp properties) more = InProp properties
with_text Ignored more = Ignored

-- the only one of a list
abbrev pub only : {A : Type 0} → List A → Option A
only [] = None
only (x ∷ []) = Some x
only (x ∷ y ∷ more) = None

-- the rows of a response that has ended
abbrev pub ended_response : List (List ℕ) → List ℕ → Bool → List Prop → Option (List Response)
ended_response (href ∷ hrefs) (code ∷ []) false props = Some (map (of_status code) (href ∷ hrefs))
ended_response (href ∷ []) [] true props = Some (record { href = href; code = None; props = props } ∷ [])
ended_response hrefs found has_propstat props = None

abbrev pub rows_of_parts : ResponseParts → Option (List Response)
rows_of_parts parts = ended_response parts.hrefs parts.codes parts.has_propstat parts.props

-- an element that has ended in another one
abbrev pub joined_rows : List Response → Option (List Response) → Option Frame
joined_rows rows found = found >>= λ more. Some (InMultistatus (rows ++ more))

abbrev pub joined_multistatus : List Response → Frame → Option Frame
joined_multistatus rows (InResponse parts) = joined_rows rows (rows_of_parts parts)
joined_multistatus rows child = Some (InMultistatus rows)

abbrev pub joined_response : ResponseParts → Frame → Option Frame
joined_response parts (InHref text) = Some (InResponse (record parts { hrefs = parts.hrefs ++ trimmed text ∷ [] }))
joined_response parts (InStatus text) = status_code (trimmed text) >>= λ code. Some (InResponse (record parts { codes = parts.codes ++ code ∷ [] }))
joined_response parts (InPropstat of_propstat) =
    propstat_from of_propstat.codes of_propstat.lists >>= λ props. Some (InResponse (record parts { has_propstat = true; props = parts.props ++ props }))
joined_response parts child = Some (InResponse parts)

abbrev pub joined_propstat : PropstatParts → Frame → Option Frame
joined_propstat parts (InProp properties) = Some (InPropstat (record parts { lists = parts.lists ++ properties ∷ [] }))
joined_propstat parts (InStatus text) = status_code (trimmed text) >>= λ code. Some (InPropstat (record parts { codes = parts.codes ++ code ∷ [] }))
joined_propstat parts child = Some (InPropstat parts)

abbrev pub joined_prop : List Property → Frame → Frame
joined_prop properties (InProperty property) = InProp (properties ++ property ∷ [])
joined_prop properties child = InProp properties

abbrev pub joined_property : Property → Frame → Frame
joined_property property (InHref text) = InProperty (record property { hrefs = property.hrefs ++ trimmed text ∷ [] })
joined_property property child = InProperty property

abbrev pub joined : Frame → Frame → Option Frame
joined (InMultistatus rows) child = joined_multistatus rows child
joined (InResponse parts) child = joined_response parts child
joined (InPropstat parts) child = joined_propstat parts child
joined (InProp properties) child = Some (joined_prop properties child)
joined (InProperty property) child = Some (joined_property property child)
joined (InHref text) child = Some (InHref text)
joined (InStatus text) child = Some (InStatus text)
joined Ignored child = Some Ignored

-- the declarations in scope
abbrev pub scope_of : List Level → List Binding
scope_of [] = first_scope
scope_of (level ∷ below) = level.declared ++ scope_of below

-- the declarations of a tag and of the elements around it, which the reader keeps outermost first
abbrev pub scope_in : List Binding → List Level → List Binding
scope_in declared levels = declared ++ scope_of (reverse levels)

abbrev pub with_frame : Level → Frame → Level
with_frame level frame = record level { frame = frame }

abbrev pub is_name : Name → Name → Bool
is_name m n = bytes_eq m.prefix n.prefix && bytes_eq m.local n.local

-- what is open, and the rows once the outermost element has ended
pub record State : Type 0 where
  pub levels : List Level
  pub rows : Option (List Response)

abbrev pub level_of : Name → Opening → Frame → Level
level_of name opening frame = record { name = name; declared = opening.declared; frame = frame }

-- an element begins: the outermost one, or one in another one
abbrev pub root_by : Name → Option (List Response) → Opening → Option State
root_by name None opening =
    if is_dav (codes "multistatus") opening.name then Some (record { levels = level_of name opening (InMultistatus []) ∷ []; rows = None }) else None
root_by name (Some rows) opening = None

abbrev pub inner_by : Name → Level → List Level → Option (List Response) → Opening → State
inner_by name level below rows opening =
    record { levels = level_of name opening (begun level.frame opening.name) ∷ with_frame level (noted level.frame opening.name) ∷ below; rows = rows }

abbrev pub begun_by : Name → List Level → Option (List Response) → Opening → Option State
begun_by name [] rows opening = root_by name rows opening
begun_by name (level ∷ below) rows opening = Some (inner_by name level below rows opening)

abbrev pub opened_in : List Level → Option (List Response) → Tag → Option State
opened_in levels rows tag = if nat_lt (length levels) most_nested then (opening_of (scope_of levels) tag >>= begun_by tag.name levels rows) else None

-- an element ends
abbrev pub root_ended : Frame → Option State
root_ended (InMultistatus rows) = Some (record { levels = []; rows = Some rows })
root_ended frame = None

abbrev pub ended_in : Frame → List Level → Option (List Response) → Option State
ended_in frame [] rows = root_ended frame
ended_in frame (parent ∷ below) rows = joined parent.frame frame >>= λ more. Some (record { levels = with_frame parent more ∷ below; rows = rows })

abbrev pub closed_in : List Level → Option (List Response) → Name → Option State
closed_in [] rows name = None
closed_in (level ∷ below) rows name = if is_name level.name name then ended_in level.frame below rows else None

-- the innermost element ends, whatever its name
abbrev pub popped_in : List Level → Option (List Response) → Option State
popped_in [] rows = None
popped_in (level ∷ below) rows = ended_in level.frame below rows

-- text
abbrev pub texted : Level → List Level → Option (List Response) → List ℕ → State
texted level below rows text = record { levels = with_frame level (with_text level.frame text) ∷ below; rows = rows }

abbrev pub text_in : List Level → Option (List Response) → List ℕ → Option State
text_in [] rows text = None
text_in (level ∷ below) rows text = Some (texted level below rows text)

abbrev pub blank_in : List Level → Option (List Response) → List ℕ → Option State
blank_in [] rows white = Some (record { levels = []; rows = rows })
blank_in (level ∷ below) rows white = Some (texted level below rows white)

abbrev pub step_by : List Level → Option (List Response) → Event → Option State
step_by levels rows (is_blank white) = blank_in levels rows white
step_by levels rows (is_text chars) = text_in levels rows chars
step_by levels rows (opens tag) = opened_in levels rows tag
step_by levels rows (closes name) = closed_in levels rows name

unfoldable pub step : State → Event → Option State
step state event = step_by state.levels state.rows event

unfoldable pub run : State → List Event → Option State
run state [] = Some state
run state (event ∷ events) = step state event >>= λ next. run next events

-- an empty element begins and ends
abbrev pub emptied_in : State → Tag → Option State
emptied_in state tag = opened_in state.levels state.rows tag >>= λ inside. closed_in inside.levels inside.rows tag.name

abbrev pub run_token : State → Token → Option State
run_token state token = run state (events_of_token token)

abbrev pub first_state : State
first_state = record { levels = []; rows = None }

-- the rows at the end, where nothing is open
abbrev pub rows_outside : List Level → Option (List Response) → Option (List Response)
rows_outside [] rows = rows
rows_outside (level ∷ below) rows = None

abbrev pub rows_at_end : State → Option (List Response)
rows_at_end state = rows_outside state.levels state.rows

-- the reader keeps them outermost first
abbrev pub state_of : Reader → State
state_of r = record { levels = reverse r.levels; rows = r.rows }

-- the body of a document, behind its declaration, runs to these rows
abbrev pub RunsTo : List ℕ → List Response → Type 0
RunsTo body rows = (tokens : List Token) × AreTokens body tokens × ((run first_state (flat_map events_of_token tokens) >>= rows_at_end) ≡ Some rows)
