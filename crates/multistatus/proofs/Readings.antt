-- Tokens read one by one, and what bytes are as a multistatus: lemmas on specs/Multistatus.antt and specs/Reader.antt
use Rattle.std.proofs.Common.{◌≡◌, refl, ℕ, ◌<◌, Bool, cond, List, [], ◌∷◌, ◌++◌, length, Option, Some, None, Result, Ok, Err, sym, ◌∙◌, ap, subst, arith}
use Rattle.std.specs.Prelude.{IsUtf8}
use Rattle.std.specs.List.{flat_map}
use Rattle.multistatus.specs.declared.error.MultiError.{MultiError}
use Rattle.multistatus.specs.declared.error.MultiError.TheVariants.{Bad, NoMemory}
use Rattle.multistatus.specs.declared.tags.Tag.{Tag}
use Rattle.multistatus.specs.declared.tokens.Token.{Token}
use Rattle.multistatus.specs.declared.rows.Response.{Response}
use Rattle.multistatus.specs.declared.reader.Level.{Level}
use Rattle.multistatus.specs.Steps.{◌>>=◌, Fails, Gives}
use Rattle.multistatus.specs.Tokens.{token_at, AreTokens, without_mark, without_declaration}
use Rattle.multistatus.specs.Elements.{Content, nothing, element, Event, events_of_token, root_of, is_within}
use Rattle.multistatus.specs.Namespaces.{Tree, resolved, first_scope}
use Rattle.multistatus.specs.Documents.{most_nested}
use Rattle.multistatus.specs.Multistatus.{rows_of_root, HasRows, IsAnswer}
use Rattle.multistatus.specs.Reader.{State, run, step, run_token, first_state, rows_outside, rows_at_end, RunsTo}
use Rattle.multistatus.proofs.Runs.{at, run-nil, shaped, bind_some, some_same, chosen}
use Rattle.multistatus.proofs.Whole.{rows_by, run-document}
use Rattle.multistatus.proofs.Befores.{nothing_if_none}
use Rattle.multistatus.proofs.Bodies.{body_found, body_read}
use Rattle.multistatus.proofs.AllTokens.{read_of, from_read}

abbrev by_root : Tag × Content → Option (List Response)
by_root root = rows_by root.0 root.1

-- what has rows runs to them
pub runs_of : (bytes : List ℕ) (rows : List Response) (h : HasRows bytes rows) → RunsTo h.has_tree.body rows
runs_of bytes rows h = let t = h.has_tree in (
  t.tokens,
  read_of t.body t.tokens t.has_tokens,
  ap (λ (es : List Event). run first_state es >>= rows_at_end) t.content_is ∙ run-document t.content ∙ ap (λ (o : Option (Tag × Content)). o >>= by_root) t.root_is
      ∙ ap (λ (b : Bool). cond b (resolved first_scope (element t.tag t.inside nothing) >>= rows_of_root) None) t.within
      ∙ ap (λ (o : Option Tree). o >>= rows_of_root) t.tree_is ∙ h.rows_are,
)

outside : (levels : List Level) (rows : Option (List Response)) (found : List Response) → rows_outside levels rows ≡ Some found → levels ≡ []
outside [] rows found h = refl
outside (level ∷ below) rows found h = cc

-- and what runs to rows has them
pub rows_from : (bytes body : List ℕ) (rows : List Response) → IsUtf8 bytes → without_declaration (without_mark bytes) ≡ Some body → RunsTo body rows → HasRows bytes rows
rows_from bytes body rows utf8 body_is runs =
    let events : List Event = flat_map events_of_token runs.0 in
    let ran = bind_some (run first_state events) rows_at_end rows runs.2 in
    let closed : run first_state events ≡ Some (at [] ran.0.rows) =
    ran.1 ∙ ap (λ (ls : List Level). Some (at ls ran.0.rows)) (outside ran.0.levels ran.0.rows rows ran.2) in
    let shape = shaped events [] None ran.0.rows closed in
    let found = bind_some (root_of shape.0) by_root rows (sym (run-document shape.0) ∙ ap (λ (es : List Event). run first_state es >>= rows_at_end) (sym shape.1) ∙ runs.2) in
    let nested = chosen (is_within most_nested (element found.0.0 found.0.1 nothing)) (resolved first_scope (element found.0.0 found.0.1 nothing) >>= rows_of_root) rows found.2 in
    let names = bind_some (resolved first_scope (element found.0.0 found.0.1 nothing)) rows_of_root rows nested.1 in
    record {
      tree = names.0;
      has_tree = record {
        is_utf8 = utf8;
        body = body;
        has_body = body_read bytes body body_is;
        tokens = runs.0;
        has_tokens = from_read body runs.0 runs.1;
        content = shape.0;
        content_is = shape.1;
        tag = found.0.0;
        inside = found.0.1;
        root_is = found.1;
        within = nested.0;
        tree_is = names.1;
      };
      rows_are = names.2;
    }

-- bytes are tokens in one way
pub tokens_same : (bytes : List ℕ) (xs ys : List Token) → AreTokens bytes xs → AreTokens bytes ys → xs ≡ ys
tokens_same bytes [] [] x y = refl
tokens_same bytes [] (t ∷ ys) x y = let none : 0 < length {A = ℕ} [] = subst (λ (b : List ℕ). 0 < length b) x y.1 in absurd (omega arith)
tokens_same bytes (t ∷ xs) [] x y = let none : 0 < length {A = ℕ} [] = subst (λ (b : List ℕ). 0 < length b) y x.1 in absurd (omega arith)
tokens_same bytes (t ∷ xs) (s ∷ ys) x y =
    let pair : (t, x.0) ≡ (s, y.0) = some_same (t, x.0) (s, y.0) (sym x.2 ∙ y.2) in
    let token : t ≡ s = ap (λ (p : Token × List ℕ). p.0) pair in
    let rest : x.0 ≡ y.0 = ap (λ (p : Token × List ℕ). p.1) pair in
    let more : xs ≡ ys = tokens_same y.0 xs ys (subst (λ (b : List ℕ). AreTokens b xs) rest x.3) y.3 in
    ap (λ (a : Token). a ∷ xs) token ∙ ap (λ (l : List Token). s ∷ l) more

runs_same : (body : List ℕ) (one other : List Response) → RunsTo body one → RunsTo body other → one ≡ other
runs_same body one other x y =
    let tokens : x.0 ≡ y.0 = tokens_same body x.0 y.0 x.1 y.1 in
    some_same one other (sym x.2 ∙ ap (λ (l : List Token). run first_state (flat_map events_of_token l) >>= rows_at_end) tokens ∙ y.2)

pub bodies_same : (bytes one other : List ℕ) → without_declaration (without_mark bytes) ≡ Some one → without_declaration (without_mark bytes) ≡ Some other → one ≡ other
bodies_same bytes one other x y = some_same one other (sym x ∙ y)

pub HasRows-unique : (bytes : List ℕ) (one other : List Response) → HasRows bytes one → HasRows bytes other → one ≡ other
HasRows-unique bytes one other x y =
    let body : x.has_tree.body ≡ y.has_tree.body = bodies_same bytes x.has_tree.body y.has_tree.body (body_found bytes x.has_tree.body x.has_tree.has_body) (body_found bytes y.has_tree.body y.has_tree.has_body) in
    runs_same y.has_tree.body one other (subst (λ (b : List ℕ). RunsTo b one) body (runs_of bytes one x)) (runs_of bytes other y)

append_by : (xs ys : List Event) → ((next : State) → run next (xs ++ ys) ≡ (run next xs >>= λ s. run s ys))
    → (o : Option State) → (o >>= λ next. run next (xs ++ ys)) ≡ ((o >>= λ next. run next xs) >>= λ next. run next ys)
append_by xs ys more None = refl
append_by xs ys more (Some next) = more next

run-append : (xs ys : List Event) (state : State) → run state (xs ++ ys) ≡ (run state xs >>= λ next. run next ys)
unfolding run
run-append [] ys state = refl
run-append (x ∷ xs) ys state = append_by xs ys (run-append xs ys) (step state x)

abbrev run_tokens : State → List Token → Option State
run_tokens state tokens = run state (flat_map events_of_token tokens)

-- the tokens so far led from the body's front to the rest, and to this state
pub record Reading (body rest : List ℕ) (state : State) : Type 0 where
  pub onward : (later : List Token) → AreTokens rest later → (tokens : List Token) × AreTokens body tokens × (run_tokens first_state tokens ≡ run_tokens state later)
  pub back : (tokens : List Token) → AreTokens body tokens → (later : List Token) × AreTokens rest later × (run_tokens first_state tokens ≡ run_tokens state later)

pub reading_first : (body : List ℕ) (state : State) → state ≡ first_state → Reading body body state
reading_first body state first = record {
  onward = λ later are. (later, are, ap (λ (s : State). run_tokens s later) (sym first));
  back = λ tokens are. (tokens, are, ap (λ (s : State). run_tokens s tokens) (sym first));
}

token_first : (state next : State) (token : Token) (later : List Token) → run_token state token ≡ Some next → run_tokens state (token ∷ later) ≡ run_tokens next later
token_first state next token later stepped =
    run-append (events_of_token token) (flat_map events_of_token later) state
    ∙ ap (λ (o : Option State). o >>= λ s. run s (flat_map events_of_token later)) stepped

-- what the tokens of a rest begin with
begins_with : (rest behind : List ℕ) (token : Token) (later : List Token) → 0 < length rest → token_at rest ≡ Some (token, behind) → AreTokens rest later
    → (more : List Token) × (later ≡ token ∷ more) × AreTokens behind more
begins_with rest behind token [] some found are = let none : 0 < length {A = ℕ} [] = subst (λ (b : List ℕ). 0 < length b) are some in absurd (omega arith)
begins_with rest behind token (t ∷ more) some found are =
    let pair : (t, are.0) ≡ (token, behind) = some_same (t, are.0) (token, behind) (sym are.2 ∙ found) in (
      more,
      ap (λ (a : Token). a ∷ more) (ap (λ (p : Token × List ℕ). p.0) pair),
      subst (λ (b : List ℕ). AreTokens b more) (ap (λ (p : Token × List ℕ). p.1) pair) are.3,
    )

pub reading_next : (body rest behind : List ℕ) (state next : State) (token : Token) → Reading body rest state → 0 < length rest
    → token_at rest ≡ Some (token, behind) → run_token state token ≡ Some next → Reading body behind next
reading_next body rest behind state next token so_far some found stepped = record {
  onward = λ later are.
      let whole = so_far.onward (token ∷ later) (behind, some, found, are) in
      (whole.0, whole.1, whole.2 ∙ token_first state next token later stepped);
  back = λ tokens are.
      let on = so_far.back tokens are in
      let split = begins_with rest behind token on.0 some found on.1 in
      (split.0, split.2, on.2 ∙ ap (run_tokens state) split.1 ∙ token_first state next token split.0 stepped);
}

pub no_token : (body rest : List ℕ) (state : State) (error : MultiError) → Reading body rest state → 0 < length rest → Fails error (token_at rest)
    → IsAnswer (RunsTo body) (Err error)
no_token body rest state NoMemory so_far some none = tt
no_token body rest state Bad so_far some none = λ rows runs.
    let on = so_far.back runs.0 runs.1 in
    none_begins on.0 on.1
  where
    none_begins : (later : List Token) → AreTokens rest later → ⊥
    none_begins [] are = let nothing_left : 0 < length {A = ℕ} [] = subst (λ (b : List ℕ). 0 < length b) are some in absurd (omega arith)
    none_begins (t ∷ more) are = let none_found : Option (Token × List ℕ) = None in let clash : none_found ≡ Some (t, are.0) = sym none ∙ are.2 in cc

pub no_step : (body rest behind : List ℕ) (state : State) (token : Token) (error : MultiError) → Reading body rest state → 0 < length rest
    → token_at rest ≡ Some (token, behind) → Fails error (run_token state token) → IsAnswer (RunsTo body) (Err error)
no_step body rest behind state token NoMemory so_far some found none = tt
no_step body rest behind state token Bad so_far some found none = λ rows runs.
    let on = so_far.back runs.0 runs.1 in
    let split = begins_with rest behind token on.0 some found on.1 in
    let stops : run_tokens first_state runs.0 ≡ None =
    on.2 ∙ ap (run_tokens state) split.1 ∙ run-append (events_of_token token) (flat_map events_of_token split.0) state
    ∙ ap (λ (o : Option State). o >>= λ s. run s (flat_map events_of_token split.0)) none in
    let clash : None ≡ Some rows = ap (λ (o : Option State). o >>= rows_at_end) (sym stops) ∙ runs.2 in
    cc

state_left : (state : State) → run_tokens state [] ≡ Some state
state_left state = run-nil state

pub reading_last : (body rest : List ℕ) (state : State) (r : Result (List Response) MultiError) → Reading body rest state → length rest ≡ 0
    → Gives (λ (rows : List Response). rows) r (rows_at_end state) → IsAnswer (RunsTo body) r
reading_last body rest state (Ok rows) so_far none gives =
    let whole = so_far.onward [] (nothing_if_none rest none) in
    (whole.0, whole.1, ap (λ (o : Option State). o >>= rows_at_end) (whole.2 ∙ state_left state) ∙ gives)
reading_last body rest state (Err NoMemory) so_far none gives = tt
reading_last body rest state (Err Bad) so_far none gives = λ rows runs.
    let on = so_far.back runs.0 runs.1 in
    let ended : on.0 ≡ [] = tokens_same rest on.0 [] on.1 (nothing_if_none rest none) in
    let clash : None ≡ Some rows = sym gives ∙ ap (λ (o : Option State). o >>= rows_at_end) (sym (on.2 ∙ ap (run_tokens state) ended ∙ state_left state)) ∙ runs.2 in
    cc

-- what holds of the body holds of the bytes
pub answer_from_body : (bytes body : List ℕ) (r : Result (List Response) MultiError) → IsUtf8 bytes → without_declaration (without_mark bytes) ≡ Some body
    → IsAnswer (RunsTo body) r → IsAnswer (HasRows bytes) r
answer_from_body bytes body (Ok rows) utf8 body_is runs = rows_from bytes body rows utf8 body_is runs
answer_from_body bytes body (Err NoMemory) utf8 body_is none = tt
answer_from_body bytes body (Err Bad) utf8 body_is none = λ rows h.
    none rows (subst (λ (b : List ℕ). RunsTo b rows) (bodies_same bytes h.has_tree.body body (body_found bytes h.has_tree.body h.has_tree.has_body) body_is) (runs_of bytes rows h))

pub no_body : (bytes : List ℕ) (error : MultiError) → Fails error (without_declaration (without_mark bytes)) → IsAnswer (HasRows bytes) (Err error)
no_body bytes NoMemory none = tt
no_body bytes Bad none = λ rows h. let clash : None ≡ Some h.has_tree.body = sym none ∙ (body_found bytes h.has_tree.body h.has_tree.has_body) in cc

pub no_text : (bytes : List ℕ) → (IsUtf8 bytes → ⊥) → IsAnswer (HasRows bytes) (Err Bad)
no_text bytes none = λ rows h. none h.has_tree.is_utf8

-- the answer is the only rows
pub answer_exact : (bytes : List ℕ) (r : Result (List Response) MultiError) (rows : List Response) → IsAnswer (HasRows bytes) r → HasRows bytes rows
    → IsAnswer (λ (found : List Response). found ≡ rows) r
answer_exact bytes (Ok found) rows answer has = HasRows-unique bytes found rows answer has
answer_exact bytes (Err NoMemory) rows answer has = tt
answer_exact bytes (Err Bad) rows answer has = absurd (answer rows has)
