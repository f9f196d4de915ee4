-- A document read token by token has the rows that the definition relates to it: lemmas on specs/Multistatus.antt
use Rattle.std.proofs.Common.{◌≡◌, refl, Bool, true, false, cond, List, [], ◌∷◌, ◌++◌, Option, Some, None, codes, sym, ◌∙◌, ap}
use Rattle.multistatus.specs.declared.tags.Tag.{Tag}
use Rattle.multistatus.specs.declared.rows.Response.{Response}
use Rattle.multistatus.specs.declared.frames.Frame.{Frame}
use Rattle.multistatus.specs.declared.frames.Frame.TheVariants.{InMultistatus}
use Rattle.multistatus.specs.declared.reader.Level.{Level}
use Rattle.multistatus.specs.Steps.{◌>>=◌}
use Rattle.multistatus.specs.Elements.{Content, nothing, blanks, text, element, Event, is_blank, is_text, opens, closes, events_of, is_blank_only, root_of, is_within}
use Rattle.multistatus.specs.Namespaces.{Opening, opening_of, Tree, end, branch, resolved, first_scope}
use Rattle.multistatus.specs.Rows.{is_dav, rows_of}
use Rattle.multistatus.specs.Documents.{most_nested}
use Rattle.multistatus.specs.Multistatus.{rows_of_root}
use Rattle.multistatus.specs.Reader.{with_frame, level_of, begun_by, root_ended, State, run, first_state, rows_at_end}
use Rattle.multistatus.proofs.Runs.{at, taken, goes_on, run-step, run-nil, run-content, bind_same, bind_assoc, is_name-same}
use Rattle.multistatus.proofs.Namings.{read_tree, resolved_within, within-resolved, taken-resolved, bind_none, if_bind}
use Rattle.multistatus.proofs.Takings.{multistatus_read}

-- behind the outermost element
run-behind : (c : Content) (rows : List Response) → run (at [] (Some rows)) (events_of c) ≡ cond (is_blank_only c) (Some (at [] (Some rows))) None
run-behind nothing rows = run-nil (at [] (Some rows))
run-behind (blanks white more) rows = run-step [] (Some rows) (is_blank white) (events_of more) ∙ run-behind more rows
run-behind (text t more) rows = run-step [] (Some rows) (is_text t) (events_of more)
run-behind (element tag inside more) rows =
    let rest : List Event = events_of inside ++ closes tag.name ∷ events_of more in
    run-step [] (Some rows) (opens tag) rest
    ∙ ap (λ (o : Option State). o >>= λ next. run next rest) (bind_none (opening_of first_scope tag) (begun_by tag.name [] (Some rows)) (λ o. refl))

-- the rows of the outermost element
abbrev pub rows_by : Tag → Content → Option (List Response)
rows_by tag inside = cond (is_within most_nested (element tag inside nothing)) (resolved first_scope (element tag inside nothing) >>= rows_of_root) None

-- they are those of what it holds
abbrev inner_rows : Tag → Content → Opening → Option (List Response)
inner_rows tag inside o = resolved_within inside 31 (o.declared ++ first_scope) >>= λ within. rows_of_root (branch o.name within end)

rows_by-opened : (tag : Tag) (inside : Content) → rows_by tag inside ≡ (opening_of first_scope tag >>= inner_rows tag inside)
rows_by-opened tag inside =
    sym (if_bind (is_within most_nested (element tag inside nothing)) (resolved first_scope (element tag inside nothing)) rows_of_root)
    ∙ ap (λ (o : Option Tree). o >>= rows_of_root) (sym (within-resolved (element tag inside nothing) most_nested first_scope))
    ∙ bind_assoc (opening_of first_scope tag) (λ (o : Opening). resolved_within inside 31 (o.declared ++ first_scope) >>= λ within. Some (branch o.name within end)) rows_of_root
    ∙ bind_same (opening_of first_scope tag)
    (λ (o : Opening). (resolved_within inside 31 (o.declared ++ first_scope) >>= λ within. Some (branch o.name within end)) >>= rows_of_root) (inner_rows tag inside)
    (λ o. bind_assoc (resolved_within inside 31 (o.declared ++ first_scope)) (λ (within : Tree). Some (branch o.name within end)) rows_of_root)

abbrev if_only : Bool → List Response → Option (List Response)
if_only blank rows = cond blank (Some rows) None

abbrev root_level : Tag → Opening → Level
root_level tag o = level_of tag.name o (InMultistatus [])

after_root : (b : Bool) (rows : List Response) → (cond b (Some (at [] (Some rows))) None >>= rows_at_end) ≡ if_only b rows
after_root true rows = refl
after_root false rows = refl

-- the outermost element ends
root_closes : (tag : Tag) (o : Opening) (rows : List Response) (more : Content)
    → (run (at (with_frame (root_level tag o) (InMultistatus rows) ∷ []) None) (closes tag.name ∷ events_of more) >>= rows_at_end) ≡ if_only (is_blank_only more) rows
root_closes tag o rows more =
    ap (λ (s : Option State). s >>= rows_at_end)
    (run-step (with_frame (root_level tag o) (InMultistatus rows) ∷ []) None (closes tag.name) (events_of more)
    ∙ ap (λ (b : Bool). cond b (root_ended (InMultistatus rows)) None >>= λ next. run next (events_of more)) (is_name-same tag.name)
    ∙ run-behind more rows)
    ∙ after_root (is_blank_only more) rows

root_taken : (tag : Tag) (inside : Content) (o : Opening)
    → taken inside [] (root_level tag o) ≡ (resolved_within inside 31 (o.declared ++ first_scope) >>= λ within. rows_of within >>= λ rows. Some (InMultistatus rows))
root_taken tag inside o =
    taken-resolved inside 31 [] (root_level tag o) refl
    ∙ bind_same (resolved_within inside 31 (o.declared ++ first_scope)) (λ tree. read_tree tree (InMultistatus [])) (λ within. rows_of within >>= λ rows. Some (InMultistatus rows))
    (λ tree. multistatus_read tree [])

root_runs : (tag : Tag) (inside more : Content) (o : Opening)
    → (run (at (root_level tag o ∷ []) None) (events_of inside ++ closes tag.name ∷ events_of more) >>= rows_at_end)
    ≡ (resolved_within inside 31 (o.declared ++ first_scope) >>= λ within. rows_of within >>= if_only (is_blank_only more))
root_runs tag inside more o =
    let scoped : Option Tree = resolved_within inside 31 (o.declared ++ first_scope) in
    let on : Frame → Option State = goes_on [] (root_level tag o) None (closes tag.name ∷ events_of more) in
    let frame_of : Tree → Option Frame = λ within. rows_of within >>= λ rows. Some (InMultistatus rows) in
    ap (λ (s : Option State). s >>= rows_at_end) (run-content inside [] (root_level tag o) None (closes tag.name ∷ events_of more))
    ∙ ap (λ (f : Option Frame). (f >>= on) >>= rows_at_end) (root_taken tag inside o)
    ∙ bind_assoc (scoped >>= frame_of) on rows_at_end
    ∙ bind_assoc scoped frame_of (λ f. on f >>= rows_at_end)
    ∙ bind_same scoped (λ within. frame_of within >>= λ f. on f >>= rows_at_end) (λ within. rows_of within >>= if_only (is_blank_only more))
    (λ within. bind_assoc (rows_of within) (λ (rows : List Response). Some (InMultistatus rows)) (λ f. on f >>= rows_at_end)
    ∙ bind_same (rows_of within) (λ (rows : List Response). on (InMultistatus rows) >>= rows_at_end) (if_only (is_blank_only more)) (λ rows. root_closes tag o rows more))

only_true : (o : Option (List Response)) → (o >>= if_only true) ≡ o
only_true None = refl
only_true (Some rows) = refl

-- by whether it is a multistatus, and whether only white space follows
root_by_tests : (scoped : Option Tree) (name_is : Bool) (blank : Bool)
    → cond name_is (scoped >>= λ within. rows_of within >>= if_only blank) None ≡ cond blank (scoped >>= λ within. cond name_is (rows_of within) None) None
root_by_tests scoped true true = bind_same scoped (λ within. rows_of within >>= if_only true) rows_of (λ within. only_true (rows_of within))
root_by_tests scoped true false = bind_none scoped (λ within. rows_of within >>= if_only false) (λ within. bind_none (rows_of within) (if_only false) (λ rows. refl))
root_by_tests scoped false true = sym (bind_none scoped (λ within. None) (λ within. refl))
root_by_tests scoped false false = refl

begun_runs : (tag : Tag) (o : Opening) (events : List Event) (name_is : Bool)
    → ((cond name_is (Some (at (root_level tag o ∷ []) None)) None >>= λ next. run next events) >>= rows_at_end)
    ≡ cond name_is (run (at (root_level tag o ∷ []) None) events >>= rows_at_end) None
begun_runs tag o events true = refl
begun_runs tag o events false = refl

blank_bind : (b : Bool) (o : Option Opening) (f : Opening → Option (List Response)) → (o >>= λ x. cond b (f x) None) ≡ cond b (o >>= f) None
blank_bind true o f = refl
blank_bind false o f = bind_none o (λ x. None) (λ x. refl)

root_is_by : (b : Bool) (tag : Tag) (inside : Content)
    → (cond b (Some (tag, inside)) None >>= λ (root : Tag × Content). rows_by root.0 root.1) ≡ cond b (rows_by tag inside) None
root_is_by true tag inside = refl
root_is_by false tag inside = refl

-- the run over the events of a document comes to its rows
pub run-document : (c : Content) → (run first_state (events_of c) >>= rows_at_end) ≡ (root_of c >>= λ (root : Tag × Content). rows_by root.0 root.1)
run-document nothing = ap (λ (s : Option State). s >>= rows_at_end) (run-nil first_state)
run-document (blanks white more) = ap (λ (s : Option State). s >>= rows_at_end) (run-step [] None (is_blank white) (events_of more)) ∙ run-document more
run-document (text t more) = ap (λ (s : Option State). s >>= rows_at_end) (run-step [] None (is_text t) (events_of more))
run-document (element tag inside more) =
    let rest : List Event = events_of inside ++ closes tag.name ∷ events_of more in
    let blank : Bool = is_blank_only more in
    ap (λ (s : Option State). s >>= rows_at_end) (run-step [] None (opens tag) rest)
    ∙ ap (λ (s : Option State). s >>= rows_at_end) (bind_assoc (opening_of first_scope tag) (begun_by tag.name [] None) (λ next. run next rest))
    ∙ bind_assoc (opening_of first_scope tag) (λ (o : Opening). begun_by tag.name [] None o >>= λ next. run next rest) rows_at_end
    ∙ bind_same (opening_of first_scope tag) (λ (o : Opening). (begun_by tag.name [] None o >>= λ next. run next rest) >>= rows_at_end) (λ (o : Opening). cond blank (inner_rows tag inside o) None)
    (λ o. begun_runs tag o rest (is_dav (codes "multistatus") o.name)
    ∙ ap (λ (r : Option (List Response)). cond (is_dav (codes "multistatus") o.name) r None) (root_runs tag inside more o)
    ∙ root_by_tests (resolved_within inside 31 (o.declared ++ first_scope)) (is_dav (codes "multistatus") o.name) blank)
    ∙ blank_bind blank (opening_of first_scope tag) (inner_rows tag inside)
    ∙ ap (λ (r : Option (List Response)). cond blank r None) (sym (rows_by-opened tag inside))
    ∙ sym (root_is_by blank tag inside)
