-- Steps of a walk: what the lines give, one line more.
use Rattle.std.proofs.Common.{◌≡◌, ℕ, Bool, true, false, cond, List, [], ◌∷◌, ◌++◌, map, Option, Some, None, refl, sym, ◌∙◌, ap, append_assoc}
use Rattle.std.specs.Option.{option_map, option_to_list}
use Rattle.std.specs.List.{filter, filter_map, find, cons_option}
use Rattle.item_text.specs.Lines.{Line, trimmed}
use Rattle.item_text.specs.Components.{Kind, Place, Before, Placed, placed, placed_at, placed_from, last_place, next_place, kind_of, uid_at, uid_of}
use Rattle.item_text.specs.NormalForm.{open_at, keeps, is_kept, written_as, written}
use Rattle.item_text.specs.Refusals.{first_of, else_of, fault_at, fault_of, Mark, mark_or, mark_of, begins_child, Child, children_of, children, opens_calendar_at, opens_calendar}
use Rattle.item_text.specs.Places.{place_at}
use Rattle.item_text.specs.Walks.{Found, found_in, found_behind}
use Rattle.item_text.specs.declared.item.ItemError.{ItemError}

same_found : (a b : Found) → a.last ≡ b.last → a.faults ≡ b.faults → a.uid ≡ b.uid → a.calendar ≡ b.calendar → a.children ≡ b.children → a.kept ≡ b.kept → a ≡ b
same_found a b h1 h2 h3 h4 h5 h6 =
    ap (λ (x : Place). record a { last = x }) h1
    ∙ (ap (λ (x : List ItemError). record a { last = b.last; faults = x }) h2
    ∙ (ap (λ (x : Option (List ℕ)). record a { last = b.last; faults = b.faults; uid = x }) h3
    ∙ (ap (λ (x : Option ℕ). record b { calendar = x; children = a.children; kept = a.kept }) h4
    ∙ (ap (λ (x : List Child). record b { children = x; kept = a.kept }) h5
    ∙ ap (λ (x : List (List ℕ)). record b { kept = x }) h6))))

-- a line in its place, of a kind and a trimmed text that are known
abbrev pub met : Line → Place → List ℕ → Kind → Placed
met line place text kind = record { number = line.number; text = text; kind = kind; place = place }

placed_first : (line : Line) (rest : List Line) (place : Place) (text : List ℕ) (kind : Kind) → text ≡ trimmed line.text → kind ≡ kind_of text
    → met line place text kind ∷ placed_from (next_place place kind) rest ≡ placed_from place (line ∷ rest)
unfolding placed_from placed_at
placed_first line rest place text kind h k =
    ap (λ (x : Kind). met line place text x ∷ placed_from (next_place place x) rest) k
    ∙ ap (λ (t : List ℕ). met line place t (kind_of t) ∷ placed_from (next_place place (kind_of t)) rest) h

last_first : (line : Line) (rest : List Line) (place : Place) (text : List ℕ) (kind : Kind) → text ≡ trimmed line.text → kind ≡ kind_of text
    → last_place (next_place place kind) rest ≡ last_place place (line ∷ rest)
unfolding last_place
last_first line rest place text kind h k =
    ap (λ (x : Kind). last_place (next_place place x) rest) k ∙ ap (λ (t : List ℕ). last_place (next_place place (kind_of t)) rest) h

first_cons : {X : Type 0} (o : Option X) (xs : List X) → else_of o (first_of xs) ≡ first_of (cons_option o xs)
unfolding first_of else_of
first_cons None xs = refl
first_cons (Some x) xs = refl

else_assoc : {X : Type 0} (a b c : Option X) → else_of (else_of a b) c ≡ else_of a (else_of b c)
unfolding else_of
else_assoc None b c = refl
else_assoc (Some x) b c = refl

cons_is : {X : Type 0} (o : Option X) (xs : List X) → option_to_list o ++ xs ≡ cons_option o xs
cons_is None xs = refl
cons_is (Some x) xs = refl

uid_met : (line : Line) (place : Place) (text : List ℕ) (kind : Kind) (tail : List Placed) (uid now : Option (List ℕ)) → now ≡ else_of uid (uid_at place kind)
    → else_of now (first_of (filter_map uid_of tail)) ≡ else_of uid (first_of (filter_map uid_of (met line place text kind ∷ tail)))
unfolding uid_of
uid_met line place text kind tail uid now h =
    ap (λ (o : Option (List ℕ)). else_of o (first_of (filter_map uid_of tail))) h
    ∙ (else_assoc uid (uid_at place kind) (first_of (filter_map uid_of tail)) ∙ ap (else_of uid) (first_cons (uid_at place kind) (filter_map uid_of tail)))

fault_met : (line : Line) (place : Place) (text : List ℕ) (kind : Kind) (tail : List Placed) → fault_at line.number place kind ≡ None
    → filter_map fault_of tail ≡ filter_map fault_of (met line place text kind ∷ tail)
unfolding fault_of
fault_met line place text kind tail h = sym (ap (λ (o : Option ItemError). cons_option o (filter_map fault_of tail)) h)

fault_shown : (line : Line) (place : Place) (text : List ℕ) (kind : Kind) (tail : List Placed) (e : ItemError) → fault_at line.number place kind ≡ Some e
    → first_of (filter_map fault_of (met line place text kind ∷ tail)) ≡ Some e
unfolding fault_of first_of
fault_shown line place text kind tail e h = ap (λ (o : Option ItemError). first_of (cons_option o (filter_map fault_of tail))) h

number_of : (b : Bool) (line : Placed) (o : Option Placed)
    → else_of (cond b (Some line.number) None) (option_map (λ (line : Placed). line.number) o) ≡ option_map (λ (line : Placed). line.number) (cond b (Some line) o)
unfolding else_of
number_of true line o = refl
number_of false line o = refl

calendar_met : (line : Line) (place : Place) (text : List ℕ) (kind : Kind) (tail : List Placed) (calendar now : Option ℕ) → now ≡ else_of calendar (cond (opens_calendar_at place kind) (Some line.number) None)
    → else_of now (option_map (λ (line : Placed). line.number) (find opens_calendar tail)) ≡ else_of calendar (option_map (λ (line : Placed). line.number) (find opens_calendar (met line place text kind ∷ tail)))
unfolding opens_calendar
calendar_met line place text kind tail calendar now h =
    ap (λ (o : Option ℕ). else_of o (option_map (λ (line : Placed). line.number) (find opens_calendar tail))) h
    ∙ (else_assoc calendar (cond (opens_calendar_at place kind) (Some line.number) None) (option_map (λ (line : Placed). line.number) (find opens_calendar tail))
    ∙ ap (else_of calendar) (number_of (opens_calendar_at place kind) (met line place text kind) (find opens_calendar tail)))

children_met : (line : Line) (place : Place) (text : List ℕ) (kind : Kind) (tail : List Placed) (before now : List Mark → List Child)
    → ((r : List Mark) → now r ≡ before (option_to_list (mark_or (begins_child line.number place kind) (uid_at place kind)) ++ r))
    → now (filter_map mark_of tail) ≡ before (filter_map mark_of (met line place text kind ∷ tail))
unfolding mark_of uid_of
children_met line place text kind tail before now h =
    h (filter_map mark_of tail) ∙ ap before (cons_is (mark_or (begins_child line.number place kind) (uid_at place kind)) (filter_map mark_of tail))

kept_by : (b : Bool) (line : Placed) (tail : List Placed) (kept : List (List ℕ))
    → (kept ++ cond b (written line ∷ []) []) ++ map written tail ≡ kept ++ map written (cond b (line ∷ tail) tail)
kept_by true line tail kept = append_assoc kept (written line ∷ []) (map written tail)
kept_by false line tail kept = append_assoc kept [] (map written tail)

kept_met : (line : Line) (place : Place) (text : List ℕ) (kind : Kind) (tail : List Placed) (kept now : List (List ℕ)) → now ≡ kept ++ cond (keeps (open_at place) kind) (written_as text kind ∷ []) []
    → now ++ map written (filter is_kept tail) ≡ kept ++ map written (filter is_kept (met line place text kind ∷ tail))
unfolding is_kept written
kept_met line place text kind tail kept now h =
    ap (λ (xs : List (List ℕ)). xs ++ map written (filter is_kept tail)) h ∙ kept_by (keeps (open_at place) kind) (met line place text kind) (filter is_kept tail) kept

pub open_is : (ns : List (List ℕ)) (begun : Bool) → open_at (place_at ns begun) ≡ ns
unfolding open_at place_at
open_is [] false = refl
open_is [] true = refl
open_is (n ∷ ns) begun = refl

-- what a line did to what was found
pub record Goes (line : Line) (text : List ℕ) (kind : Kind) (place next : Place) (uid uid_now : Option (List ℕ)) (calendar calendar_now : Option ℕ) (before now : List Mark → List Child) (kept kept_now : List (List ℕ)) : Type 0 where
  pub text_is : text ≡ trimmed line.text
  pub kind_is : kind ≡ kind_of text
  pub fine : fault_at line.number place kind ≡ None
  pub next_is : next ≡ next_place place kind
  pub uid_is : uid_now ≡ else_of uid (uid_at place kind)
  pub calendar_is : calendar_now ≡ else_of calendar (cond (opens_calendar_at place kind) (Some line.number) None)
  pub children_are : (r : List Mark) → now r ≡ before (option_to_list (mark_or (begins_child line.number place kind) (uid_at place kind)) ++ r)
  pub kept_is : kept_now ≡ kept ++ cond (keeps (open_at place) kind) (written_as text kind ∷ []) []

step_to : (line : Line) (text : List ℕ) (kind : Kind) (place : Place) (uid uid_now : Option (List ℕ)) (calendar calendar_now : Option ℕ) (before now : List Mark → List Child) (kept kept_now : List (List ℕ))
    → Goes line text kind place (next_place place kind) uid uid_now calendar calendar_now before now kept kept_now → (rest : List Line)
    → found_behind (next_place place kind) uid_now calendar_now now kept_now rest ≡ found_behind place uid calendar before kept (line ∷ rest)
unfolding found_behind
step_to line text kind place uid uid_now calendar calendar_now before now kept kept_now g rest =
    let tail = placed_from (next_place place kind) rest in
    let all = placed_first line rest place text kind g.text_is g.kind_is in
    same_found (found_behind (next_place place kind) uid_now calendar_now now kept_now rest) (found_behind place uid calendar before kept (line ∷ rest))
    (last_first line rest place text kind g.text_is g.kind_is)
    (fault_met line place text kind tail g.fine ∙ ap (filter_map fault_of) all)
    (uid_met line place text kind tail uid uid_now g.uid_is ∙ ap (λ (ps : List Placed). else_of uid (first_of (filter_map uid_of ps))) all)
    (calendar_met line place text kind tail calendar calendar_now g.calendar_is ∙ ap (λ (ps : List Placed). else_of calendar (option_map (λ (line : Placed). line.number) (find opens_calendar ps))) all)
    (children_met line place text kind tail before now g.children_are ∙ ap (λ (ps : List Placed). before (filter_map mark_of ps)) all)
    (kept_met line place text kind tail kept kept_now g.kept_is ∙ ap (λ (ps : List Placed). kept ++ map written (filter is_kept ps)) all)

pub step : {line : Line} {text : List ℕ} {kind : Kind} {place next : Place} {uid uid_now : Option (List ℕ)} {calendar calendar_now : Option ℕ} {before now : List Mark → List Child} {kept kept_now : List (List ℕ)}
    → Goes line text kind place next uid uid_now calendar calendar_now before now kept kept_now → (rest : List Line)
    → found_behind next uid_now calendar_now now kept_now rest ≡ found_behind place uid calendar before kept (line ∷ rest)
step {line} {text} {kind} {place} {next} {uid} {uid_now} {calendar} {calendar_now} {before} {now} {kept} {kept_now} g rest =
    ap (λ (p : Place). found_behind p uid_now calendar_now now kept_now rest) g.next_is
    ∙ step_to line text kind place uid uid_now calendar calendar_now before now kept kept_now
    (record { text_is = g.text_is; kind_is = g.kind_is; fine = g.fine; next_is = refl; uid_is = g.uid_is; calendar_is = g.calendar_is; children_are = g.children_are; kept_is = g.kept_is }) rest

-- before all lines
pub start_is : (place : Place) (children : List Mark → List Child) (kept : List (List ℕ)) (all : List Line) → place ≡ Before → ((r : List Mark) → children r ≡ children_of r) → kept ≡ []
    → found_behind place None None children kept all ≡ found_in all
unfolding found_behind found_in placed else_of children
start_is place children kept all h k e =
    ap (λ (p : Place). found_behind p None None children kept all) h
    ∙ (ap (λ (ks : List (List ℕ)). found_behind Before None None children ks all) e
    ∙ same_found (found_behind Before None None children [] all) (found_in all) refl refl refl refl (k (filter_map mark_of (placed_from Before all))) refl)

-- the first fault shows in what was found
pub fault_seen : (line : Line) (rest : List Line) (place : Place) (uid : Option (List ℕ)) (calendar : Option ℕ) (children : List Mark → List Child) (kept : List (List ℕ)) (e : ItemError)
    → fault_at line.number place (kind_of (trimmed line.text)) ≡ Some e → first_of (found_behind place uid calendar children kept (line ∷ rest)).faults ≡ Some e
unfolding found_behind
fault_seen line rest place uid calendar children kept e h =
    ap (λ (ps : List Placed). first_of (filter_map fault_of ps)) (sym (placed_first line rest place (trimmed line.text) (kind_of (trimmed line.text)) refl refl))
    ∙ fault_shown line place (trimmed line.text) (kind_of (trimmed line.text)) (placed_from (next_place place (kind_of (trimmed line.text))) rest) e h
