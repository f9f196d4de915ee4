-- A run over the events of content is the content taken element by element: lemmas on specs/Reader.antt
use Rattle.std.proofs.Common.{◌≡◌, refl, ℕ, Bool, true, false, ◌&&◌, cond, ltb, eqb, eq-eqb, codes, List, [], ◌∷◌, ◌++◌, length, Option, Some, None, sym, ◌∙◌, ap, subst, append_assoc}
use Rattle.std.specs.Str.{bytes_eq}
use borrow.Author.Tests.{eqb-true}
use Rattle.multistatus.specs.Rows.{is_dav}
use Rattle.multistatus.specs.declared.tags.Name.{Name}
use Rattle.multistatus.specs.declared.tags.Tag.{Tag}
use Rattle.multistatus.specs.declared.rows.Response.{Response}
use Rattle.multistatus.specs.declared.frames.Frame.{Frame}
use Rattle.multistatus.specs.declared.frames.Frame.TheVariants.{InMultistatus, InResponse, InPropstat, InProp, InProperty, InHref, InStatus, Ignored}
use Rattle.multistatus.specs.declared.reader.Level.{Level}
use Rattle.multistatus.specs.Steps.{◌>>=◌}
use Rattle.multistatus.specs.Elements.{Content, nothing, blanks, text, element, Event, is_blank, is_text, opens, closes, events_of}
use Rattle.multistatus.specs.Namespaces.{Opening, opening_of}
use Rattle.multistatus.specs.Documents.{most_nested}
use Rattle.multistatus.specs.Reader.{begun, noted, with_text, joined, scope_of, with_frame, is_name, level_of, inner_by, begun_by, opened_in, root_ended, ended_in, closed_in, popped_in, texted, emptied_in, State, step, step_by, run}

-- a state
abbrev pub at : List Level → Option (List Response) → State
at levels rows = record { levels = levels; rows = rows }

-- what content leaves in the frame of the element that holds it
abbrev pub opened_by : Tag → Level → List Level → Option Opening
opened_by tag level below = cond (ltb (length (level ∷ below)) most_nested) (opening_of (scope_of (level ∷ below)) tag) None

abbrev pub taken : Content → List Level → Level → Option Frame
taken nothing below level = Some level.frame
taken (blanks white more) below level = taken more below (with_frame level (with_text level.frame white))
taken (text t more) below level = taken more below (with_frame level (with_text level.frame t))
taken (element tag inside more) below level =
    opened_by tag level below >>= λ o.
    taken inside (with_frame level (noted level.frame o.name) ∷ below) (level_of tag.name o (begun level.frame o.name)) >>= λ child.
    joined (noted level.frame o.name) child >>= λ frame.
    taken more below (with_frame level frame)

-- the run goes on behind the content
abbrev pub goes_on : List Level → Level → Option (List Response) → List Event → Frame → Option State
goes_on below level rows events frame = run (at (with_frame level frame ∷ below) rows) events

run-cons : (state : State) (event : Event) (events : List Event) → run state (event ∷ events) ≡ (step state event >>= λ next. run next events)
unfolding run
run-cons state event events = refl

step-is : (levels : List Level) (rows : Option (List Response)) (event : Event) → step (at levels rows) event ≡ step_by levels rows event
unfolding step
step-is levels rows event = refl

pub run-step : (levels : List Level) (rows : Option (List Response)) (event : Event) (events : List Event)
    → run (at levels rows) (event ∷ events) ≡ (step_by levels rows event >>= λ next. run next events)
run-step levels rows event events = run-cons (at levels rows) event events ∙ ap (λ (o : Option State). o >>= λ next. run next events) (step-is levels rows event)

pub bind_same : {A B : Type 0} (o : Option A) (f g : A → Option B) → ((x : A) → f x ≡ g x) → (o >>= f) ≡ (o >>= g)
bind_same None f g h = refl
bind_same (Some x) f g h = h x

pub bind_assoc : {A B C : Type 0} (o : Option A) (f : A → Option B) (g : B → Option C) → ((o >>= f) >>= g) ≡ (o >>= λ x. f x >>= g)
bind_assoc None f g = refl
bind_assoc (Some x) f g = refl

pub bind_some : {A B : Type 0} (o : Option A) (f : A → Option B) (y : B) → (o >>= f) ≡ Some y → (x : A) × (o ≡ Some x) × (f x ≡ Some y)
bind_some None f y h = cc
bind_some (Some x) f y h = (x, refl, h)

pub bytes_same : (xs : List ℕ) → bytes_eq xs xs ≡ true
bytes_same [] = refl
bytes_same (x ∷ xs) = rw (eq-eqb x x refl) (bytes_same xs)

pub both_true : (a b : Bool) → (a && b) ≡ true → (a ≡ true) × (b ≡ true)
both_true true b h = (refl, h)
both_true false b h = cc

pub bytes_equal : (xs ys : List ℕ) → bytes_eq xs ys ≡ true → xs ≡ ys
bytes_equal [] [] h = refl
bytes_equal [] (y ∷ ys) h = cc
bytes_equal (x ∷ xs) [] h = cc
bytes_equal (x ∷ xs) (y ∷ ys) h =
    let both = both_true (eqb x y) (bytes_eq xs ys) h in
    let head : x ≡ y = eqb-true x y both.0 in
    let tail : xs ≡ ys = bytes_equal xs ys both.1 in
    cc

pub is_name-same : (n : Name) → is_name n n ≡ true
is_name-same n = ap (λ b. b && bytes_eq n.local n.local) (bytes_same n.prefix) ∙ bytes_same n.local

is_name-equal : (m n : Name) → is_name m n ≡ true → m ≡ n
is_name-equal m n h =
    let both = both_true (bytes_eq m.prefix n.prefix) (bytes_eq m.local n.local) h in
    ap (λ (p : List ℕ). record { prefix = p; local = m.local }) (bytes_equal m.prefix n.prefix both.0)
    ∙ ap (λ (l : List ℕ). record { prefix = n.prefix; local = l }) (bytes_equal m.local n.local both.1)

opened-is : (t : Bool) (found : Option Opening) (tag : Tag) (level : Level) (below : List Level) (rows : Option (List Response))
    → cond t (found >>= begun_by tag.name (level ∷ below) rows) None ≡ (cond t found None >>= λ o. Some (inner_by tag.name level below rows o))
opened-is true found tag level below rows = refl
opened-is false found tag level below rows = refl

-- where an element ends, the one around it goes on
ends : (tag : Tag) (below : List Level) (parent level : Level) (rows : Option (List Response)) (child : Frame) (events : List Event) → level.name ≡ tag.name
    → run (at (with_frame level child ∷ parent ∷ below) rows) (closes tag.name ∷ events)
    ≡ (joined parent.frame child >>= λ frame. run (at (with_frame parent frame ∷ below) rows) events)
ends tag below parent level rows child events same =
    run-step (with_frame level child ∷ parent ∷ below) rows (closes tag.name) events
    ∙ ap (λ (b : Bool). cond b (ended_in child (parent ∷ below) rows) None >>= λ next. run next events)
    (ap (λ n. is_name n tag.name) same ∙ is_name-same tag.name)
    ∙ bind_assoc (joined parent.frame child) (λ (more : Frame). Some (at (with_frame parent more ∷ below) rows)) (λ next. run next events)

pub run-content : (c : Content) (below : List Level) (level : Level) (rows : Option (List Response)) (more : List Event)
    → run (at (level ∷ below) rows) (events_of c ++ more) ≡ (taken c below level >>= goes_on below level rows more)
run-content nothing below level rows more = refl
run-content (blanks white content) below level rows more =
    run-step (level ∷ below) rows (is_blank white) (events_of content ++ more) ∙ run-content content below (with_frame level (with_text level.frame white)) rows more
run-content (text t content) below level rows more =
    run-step (level ∷ below) rows (is_text t) (events_of content ++ more) ∙ run-content content below (with_frame level (with_text level.frame t)) rows more
run-content (element tag inside content) below level rows more =
    let rest : List Event = closes tag.name ∷ events_of content ++ more in
    let outer : Opening → Level = λ o. with_frame level (noted level.frame o.name) in
    let inner : Opening → Level = λ o. level_of tag.name o (begun level.frame o.name) in
    let behind : Opening → Frame → Option Frame = λ o child. joined (noted level.frame o.name) child >>= λ frame. taken content below (with_frame level frame) in
    run-step (level ∷ below) rows (opens tag) ((events_of inside ++ closes tag.name ∷ events_of content) ++ more)
    ∙ ap (λ (es : List Event). opened_in (level ∷ below) rows tag >>= λ next. run next es) (append_assoc (events_of inside) (closes tag.name ∷ events_of content) more)
    ∙ ap (λ (o : Option State). o >>= λ next. run next (events_of inside ++ rest)) (opened-is (ltb (length (level ∷ below)) most_nested) (opening_of (scope_of (level ∷ below)) tag) tag level below rows)
    ∙ bind_assoc (opened_by tag level below) (λ (o : Opening). Some (inner_by tag.name level below rows o)) (λ next. run next (events_of inside ++ rest))
    ∙ bind_same (opened_by tag level below) (λ (o : Opening). run (inner_by tag.name level below rows o) (events_of inside ++ rest))
    (λ (o : Opening). (taken inside (outer o ∷ below) (inner o) >>= behind o) >>= goes_on below level rows more)
    (λ o. run-content inside (outer o ∷ below) (inner o) rows rest
    ∙ bind_same (taken inside (outer o ∷ below) (inner o)) (goes_on (outer o ∷ below) (inner o) rows rest) (λ child. behind o child >>= goes_on below level rows more)
    (λ child. ends tag below (outer o) (inner o) rows child (events_of content ++ more) refl
    ∙ bind_same (joined (noted level.frame o.name) child) (λ frame. run (at (with_frame (outer o) frame ∷ below) rows) (events_of content ++ more))
    (λ frame. taken content below (with_frame level frame) >>= goes_on below level rows more)
    (λ frame. run-content content below (with_frame level frame) rows more)
    ∙ sym (bind_assoc (joined (noted level.frame o.name) child) (λ frame. taken content below (with_frame level frame)) (goes_on below level rows more)))
    ∙ sym (bind_assoc (taken inside (outer o ∷ below) (inner o)) (behind o) (goes_on below level rows more)))
    ∙ sym (bind_assoc (opened_by tag level below) (λ (o : Opening). taken inside (outer o ∷ below) (inner o) >>= behind o) (goes_on below level rows more))

-- events that close what is open: its content up to its end, and so on outwards
abbrev pub Shaped : List Level → List Event → Type 0
Shaped [] events = (c : Content) × (events ≡ events_of c)
Shaped (level ∷ below) events = (c : Content) × (more : List Event) × (events ≡ events_of c ++ closes level.name ∷ more) × Shaped below more

pub some_same : {A : Type 0} (x y : A) → Some x ≡ Some y → x ≡ y
some_same x y h = cc

levels_same : (s next : State) → Some s ≡ Some next → s.levels ≡ next.levels
levels_same s next h = ap (λ (t : State). t.levels) (some_same s next h)

pub chosen : {A : Type 0} (b : Bool) (o : Option A) (y : A) → cond b o None ≡ Some y → (b ≡ true) × (o ≡ Some y)
chosen true o y h = (refl, h)
chosen false o y h = cc

outside_at_end : (frame : Frame) (next : State) → root_ended frame ≡ Some next → [] ≡ next.levels
outside_at_end (InMultistatus rows) next h = levels_same (at [] (Some rows)) next h
outside_at_end (InResponse parts) next h = cc
outside_at_end (InPropstat parts) next h = cc
outside_at_end (InProp properties) next h = cc
outside_at_end (InProperty property) next h = cc
outside_at_end (InHref t) next h = cc
outside_at_end (InStatus t) next h = cc
outside_at_end Ignored next h = cc

shaped_begun : (tag : Tag) (levels : List Level) (rows : Option (List Response)) (o : Opening) (next : State) (events : List Event)
    → begun_by tag.name levels rows o ≡ Some next → Shaped next.levels events → Shaped levels (opens tag ∷ events)
shaped_begun tag [] (Some rows) o next events h shape = cc
shaped_begun tag [] None o next events h shape =
    let root = chosen (is_dav (codes "multistatus") o.name) (Some (at (level_of tag.name o (InMultistatus []) ∷ []) None)) next h in
    let inner : Shaped (level_of tag.name o (InMultistatus []) ∷ []) events = subst (λ (ls : List Level). Shaped ls events) (sym (levels_same _ next root.1)) shape in (
      element tag inner.0 inner.3.0,
      ap (λ es. opens tag ∷ es) (inner.2 ∙ ap (λ es. events_of inner.0 ++ closes tag.name ∷ es) inner.3.1),
    )
shaped_begun tag (level ∷ below) rows o next events h shape =
    let levels : List Level = level_of tag.name o (begun level.frame o.name) ∷ with_frame level (noted level.frame o.name) ∷ below in
    let inner : Shaped levels events = subst (λ (ls : List Level). Shaped ls events) (sym (levels_same (inner_by tag.name level below rows o) next h)) shape in (
      element tag inner.0 inner.3.0,
      inner.3.1,
      ap (λ es. opens tag ∷ es) (inner.2 ∙ ap (λ es. events_of inner.0 ++ closes tag.name ∷ es) inner.3.2
          ∙ sym (append_assoc (events_of inner.0) (closes tag.name ∷ events_of inner.3.0) (closes level.name ∷ inner.3.1))),
      inner.3.3,
    )

shaped_ended : (level : Level) (below : List Level) (rows : Option (List Response)) (next : State) (events : List Event)
    → ended_in level.frame below rows ≡ Some next → Shaped next.levels events → Shaped below events
shaped_ended level [] rows next events h shape = subst (λ (ls : List Level). Shaped ls events) (sym (outside_at_end level.frame next h)) shape
shaped_ended level (parent ∷ below) rows next events h shape =
    let found = bind_some (joined parent.frame level.frame) (λ (more : Frame). Some (at (with_frame parent more ∷ below) rows)) next h in
    subst (λ (ls : List Level). Shaped ls events) (sym (levels_same (at (with_frame parent found.0 ∷ below) rows) next found.2)) shape

shaped_step : (event : Event) (levels : List Level) (rows : Option (List Response)) (next : State) (events : List Event)
    → step_by levels rows event ≡ Some next → Shaped next.levels events → Shaped levels (event ∷ events)
shaped_step (is_blank white) [] rows next events h shape =
    let inner : Shaped [] events = subst (λ (ls : List Level). Shaped ls events) (sym (levels_same (at [] rows) next h)) shape in
    (blanks white inner.0, ap (λ es. is_blank white ∷ es) inner.1)
shaped_step (is_blank white) (level ∷ below) rows next events h shape =
    let inner : Shaped (with_frame level (with_text level.frame white) ∷ below) events = subst (λ (ls : List Level). Shaped ls events) (sym (levels_same (texted level below rows white) next h)) shape in
    (blanks white inner.0, inner.1, ap (λ es. is_blank white ∷ es) inner.2, inner.3)
shaped_step (is_text t) [] rows next events h shape = cc
shaped_step (is_text t) (level ∷ below) rows next events h shape =
    let inner : Shaped (with_frame level (with_text level.frame t) ∷ below) events = subst (λ (ls : List Level). Shaped ls events) (sym (levels_same (texted level below rows t) next h)) shape in
    (text t inner.0, inner.1, ap (λ es. is_text t ∷ es) inner.2, inner.3)
shaped_step (opens tag) levels rows next events h shape =
    let room = chosen (ltb (length levels) most_nested) (opening_of (scope_of levels) tag >>= begun_by tag.name levels rows) next h in
    let found = bind_some (opening_of (scope_of levels) tag) (begun_by tag.name levels rows) next room.1 in
    shaped_begun tag levels rows found.0 next events found.2 shape
shaped_step (closes name) [] rows next events h shape = cc
shaped_step (closes name) (level ∷ below) rows next events h shape =
    let named = chosen (is_name level.name name) (ended_in level.frame below rows) next h in
    (nothing, events, ap (λ n. closes n ∷ events) (sym (is_name-equal level.name name named.0)), shaped_ended level below rows next events named.1 shape)

pub run-nil : (state : State) → run state [] ≡ Some state
unfolding run
run-nil state = refl

-- a run that ends with nothing open ran over the events of some content
pub shaped : (events : List Event) (levels : List Level) (rows last : Option (List Response)) → run (at levels rows) events ≡ Some (at [] last) → Shaped levels events
shaped [] [] rows last h = (nothing, refl)
shaped [] (level ∷ below) rows last h =
    let clash : level ∷ below ≡ [] = levels_same (at (level ∷ below) rows) (at [] last) (sym (run-nil (at (level ∷ below) rows)) ∙ h) in
    cc
shaped (event ∷ events) levels rows last h =
    let found = bind_some (step_by levels rows event) (λ (next : State). run next events) (at [] last) (sym (run-step levels rows event events) ∙ h) in
    shaped_step event levels rows found.0 events found.1 (shaped events found.0.levels found.0.rows last found.2)

last_step : (o : Option State) → (o >>= λ next. run next []) ≡ o
last_step None = refl
last_step (Some next) = run-nil next

pub run_one : (levels : List Level) (rows : Option (List Response)) (event : Event) → run (at levels rows) (event ∷ []) ≡ step_by levels rows event
run_one levels rows event = run-step levels rows event [] ∙ last_step (step_by levels rows event)

pub run_two : (state : State) (tag : Tag) → run state (opens tag ∷ closes tag.name ∷ []) ≡ emptied_in state tag
run_two state tag =
    run-step state.levels state.rows (opens tag) (closes tag.name ∷ [])
    ∙ bind_same (opened_in state.levels state.rows tag) (λ inside. run inside (closes tag.name ∷ [])) (λ inside. closed_in inside.levels inside.rows tag.name)
    (λ inside. run_one inside.levels inside.rows (closes tag.name))

-- an element that has just begun ends by its own name
named_ends : (tag : Tag) (o : Opening) (frame : Frame) (below : List Level) (rows : Option (List Response))
    → closed_in (level_of tag.name o frame ∷ below) rows tag.name ≡ popped_in (level_of tag.name o frame ∷ below) rows
named_ends tag o frame below rows = ap (λ (b : Bool). cond b (ended_in frame below rows) None) (is_name-same tag.name)

abbrev EndsByName : Tag → State → Type 0
EndsByName tag inside = closed_in inside.levels inside.rows tag.name ≡ popped_in inside.levels inside.rows

begun_ends : (tag : Tag) (levels : List Level) (rows : Option (List Response)) (o : Opening) (inside : State)
    → begun_by tag.name levels rows o ≡ Some inside → EndsByName tag inside
begun_ends tag [] (Some rows) o inside h = cc
begun_ends tag [] None o inside h =
    let first : State = at (level_of tag.name o (InMultistatus []) ∷ []) None in
    let root = chosen (is_dav (codes "multistatus") o.name) (Some first) inside h in
    subst (EndsByName tag) (some_same first inside root.1) (named_ends tag o (InMultistatus []) [] None)
begun_ends tag (level ∷ below) rows o inside h =
    subst (EndsByName tag) (some_same (inner_by tag.name level below rows o) inside h)
    (named_ends tag o (begun level.frame o.name) (with_frame level (noted level.frame o.name) ∷ below) rows)

pub emptied-is : (state inside : State) (tag : Tag) → opened_in state.levels state.rows tag ≡ Some inside → emptied_in state tag ≡ popped_in inside.levels inside.rows
emptied-is state inside tag opened =
    let room = chosen (ltb (length state.levels) most_nested) (opening_of (scope_of state.levels) tag >>= begun_by tag.name state.levels state.rows) inside opened in
    let found = bind_some (opening_of (scope_of state.levels) tag) (begun_by tag.name state.levels state.rows) inside room.1 in
    ap (λ (o : Option State). o >>= λ s. closed_in s.levels s.rows tag.name) opened ∙ begun_ends tag state.levels state.rows found.0 inside found.2
