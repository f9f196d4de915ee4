-- NoHolder: lines where no component that holds a UID is open.
use Rattle.std.proofs.Common.{◌≡◌, ℕ, Bool, true, false, cond, not, ◌&&◌, List, [], ◌∷◌, map, Option, Some, None, is_some, refl, sym, ◌∙◌, ap}
use Rattle.std.specs.List.{filter_map, find, cons_option}
use Rattle.std.specs.Option.{option_map}
use Rattle.std.proofs.lemmas.Bool.{and_parts, true≢false, false≢true}
use Rattle.item_text.specs.Lines.{Line, trimmed}
use Rattle.item_text.specs.Components.{Kind, Opens, Closes, Property, Blank, Place, Before, Within, Behind, Placed, placed_at, placed_from, last_place, next_place, outside_of, kind_of, is_calendar, is_timezone, holds_uid, uid_at, uid_of}
use Rattle.item_text.specs.declared.item.ItemError.{ItemError}
use Rattle.item_text.specs.Refusals.{fault_of_calendar, opens_calendar_at, opens_calendar, Mark, begins_child, mark_or, mark_of, children_of, children}
use Rattle.item_text.specs.declared.edit.Role.{Role}
use Rattle.item_text.specs.declared.edit.Role.TheVariants.{Opener, Giver, Other}
use Rattle.item_text.specs.Edits.{opens_holder, role_at, role_of}
use Rattle.item_text.proofs.Relabelled.{Gives, gives_at}
use Rattle.item_text.proofs.LineRoles.{opens_first, other_is, giver_is, other_mark}
use Rattle.item_text.proofs.Made.{opens_behind, other_opens, some_child}

-- Where no component that holds a UID is open: in a VCALENDAR, in a VTIMEZONE of it, or behind the component of the text.

unfoldable holds_none : List (List ℕ) → Bool
holds_none [] = false
holds_none (top ∷ []) = is_calendar top
holds_none (child ∷ top ∷ []) = is_timezone child && is_calendar top
holds_none (name ∷ child ∷ top ∷ outer) = holds_none (child ∷ top ∷ outer)

unfoldable outside : Place → Bool
outside Before = false
outside (Within open_names) = holds_none open_names
outside Behind = true

none_in_timezone : (zone calendar : Bool) → (zone && calendar) ≡ true → (calendar && not zone) ≡ false
none_in_timezone true true h = refl
none_in_timezone true false h = refl
none_in_timezone false calendar h = absurd (false≢true h)

timezone_opened : (zone calendar : Bool) → calendar ≡ true → (calendar && not zone) ≡ false → (zone && calendar) ≡ true
timezone_opened true calendar h k = h
timezone_opened false true h k = absurd (true≢false k)
timezone_opened false false h k = absurd (false≢true h)

outside_none : (place : Place) → outside place ≡ true → holds_uid place ≡ false
unfolding outside holds_none holds_uid
outside_none Before h = refl
outside_none Behind h = refl
outside_none (Within []) h = refl
outside_none (Within (top ∷ [])) h = ap not h
outside_none (Within (child ∷ top ∷ [])) h = none_in_timezone (is_timezone child) (is_calendar top) h
outside_none (Within (name ∷ child ∷ top ∷ outer)) h = refl

outside_closed : (open_names : List (List ℕ)) → holds_none open_names ≡ true → outside (outside_of open_names) ≡ true
unfolding outside holds_none outside_of
outside_closed [] h = absurd (false≢true h)
outside_closed (top ∷ []) h = refl
outside_closed (child ∷ top ∷ []) h = (and_parts (is_timezone child) (is_calendar top) h).1
outside_closed (name ∷ child ∷ top ∷ outer) h = h

outside_opened : (open_names : List (List ℕ)) (name : List ℕ) → holds_none open_names ≡ true → holds_uid (Within (name ∷ open_names)) ≡ false → holds_none (name ∷ open_names) ≡ true
unfolding holds_none holds_uid
outside_opened [] name h k = absurd (false≢true h)
outside_opened (top ∷ []) name h k = timezone_opened (is_timezone name) (is_calendar top) h k
outside_opened (child ∷ top ∷ outer) name h k = h

-- only a line that opens a component which holds a UID leads there
outside_next : (place : Place) (kind : Kind) → outside place ≡ true → opens_holder place kind ≡ false → outside (next_place place kind) ≡ true
unfolding outside opens_holder next_place
outside_next Before kind h k = absurd (false≢true h)
outside_next Behind kind h k = refl
outside_next (Within open_names) (Opens name) h k = outside_opened open_names name h k
outside_next (Within open_names) (Closes name) h k = outside_closed open_names h
outside_next (Within open_names) (Property name value) h k = h
outside_next (Within open_names) Blank h k = h

pub giver_stands : (x : Placed) → role_of x ≡ Giver → Gives x.place x.kind
unfolding uid_of
giver_stands x h = gives_at x.place x.kind (ap is_some (giver_is x h).1.1)

children_silent : (x : Placed) (xs : List Placed) → mark_of x ≡ None → children (x ∷ xs) ≡ children xs
unfolding children
children_silent x xs h = ap (λ (o : Option Mark). children_of (cons_option o (filter_map mark_of xs))) h

within_by : (role : Role) (x : Placed) (xs : List Placed) → role_of x ≡ role → outside x.place ≡ true → (outside (next_place x.place x.kind) ≡ true → (children xs ≡ [] → ⊥) → opens_first (map role_of xs) ≡ true)
    → (children (x ∷ xs) ≡ [] → ⊥) → opens_first (role ∷ map role_of xs) ≡ true
unfolding opens_first
within_by Opener x xs is out more some = refl
within_by Giver x xs is out more some = absurd (true≢false (sym (giver_stands x is).holds ∙ outside_none x.place out))
within_by Other x xs is out more some =
    more (outside_next x.place x.kind out (other_is x is).0) (λ (e : children xs ≡ []). some (children_silent x xs (other_mark x is) ∙ e))

opens_within : (place : Place) (all : List Line) → outside place ≡ true → (children (placed_from place all) ≡ [] → ⊥) → opens_first (map role_of (placed_from place all)) ≡ true
unfolding placed_from placed_at children children_of
opens_within place [] out some = absurd (some refl)
opens_within place (line ∷ rest) out some =
    within_by (role_of (placed_at place line)) (placed_at place line) (placed_from (next_place place (kind_of (trimmed line.text))) rest) refl out
    (λ h k. opens_within (next_place place (kind_of (trimmed line.text))) rest h k) some

-- a line before the component of the text, of a kind that is known
abbrev early : ℕ → List ℕ → Kind → Placed
early number text kind = record { number = number; text = text; kind = kind; place = Before }

abbrev calendar_of : List Placed → Option ItemError
calendar_of all = fault_of_calendar (option_map (λ (line : Placed). line.number) (find opens_calendar all)) (children all)

early_opener : (number : ℕ) (text name : List ℕ) → is_calendar name ≡ false → role_of (early number text (Opens name)) ≡ Opener
unfolding role_of role_at opens_holder next_place holds_uid uid_at
early_opener number text name h = ap (λ (b : Bool). cond (not b) Opener Other) h

early_other : (number : ℕ) (text name : List ℕ) → is_calendar name ≡ true → role_of (early number text (Opens name)) ≡ Other
unfolding role_of role_at opens_holder next_place holds_uid uid_at
early_other number text name h = ap (λ (b : Bool). cond (not b) Opener Other) h

-- behind a VCALENDAR that opens there is a child
calendar_opened : (x : Placed) (xs : List Placed) → opens_calendar x ≡ true → mark_of x ≡ None → calendar_of (x ∷ xs) ≡ None → children xs ≡ [] → ⊥
unfolding fault_of_calendar
calendar_opened x xs h k fine e =
    some_child x.number (children (x ∷ xs))
    (sym (ap (λ (b : Bool). fault_of_calendar (option_map (λ (line : Placed). line.number) (cond b (Some x) (find opens_calendar xs))) (children (x ∷ xs))) h) ∙ fine)
    (children_silent x xs k ∙ e)

top_by : (b : Bool) (number : ℕ) (text name : List ℕ) (rest : List Line) → is_calendar name ≡ b → calendar_of (early number text (Opens name) ∷ placed_from (Within (name ∷ [])) rest) ≡ None
    → opens_first (map role_of (early number text (Opens name) ∷ placed_from (Within (name ∷ [])) rest)) ≡ true
unfolding opens_first opens_calendar opens_calendar_at outside holds_none
top_by false number text name rest is fine = opens_behind (early number text (Opens name)) (placed_from (Within (name ∷ [])) rest) Opener (early_opener number text name is)
top_by true number text name rest is fine =
    let x = early number text (Opens name) in
    let other : role_of x ≡ Other = early_other number text name is in
    other_opens x (placed_from (Within (name ∷ [])) rest) other
    ∙ opens_within (Within (name ∷ [])) rest is (λ (e : children (placed_from (Within (name ∷ [])) rest) ≡ []). calendar_opened x (placed_from (Within (name ∷ [])) rest) is (other_mark x other) fine e)

before_by : (number : ℕ) (text : List ℕ) (kind : Kind) (rest : List Line)
    → ((last_place Before rest ≡ Before → ⊥) → calendar_of (placed_from Before rest) ≡ None → opens_first (map role_of (placed_from Before rest)) ≡ true)
    → (last_place (next_place Before kind) rest ≡ Before → ⊥) → calendar_of (early number text kind ∷ placed_from (next_place Before kind) rest) ≡ None
    → opens_first (map role_of (early number text kind ∷ placed_from (next_place Before kind) rest)) ≡ true
unfolding opens_first next_place opens_calendar opens_calendar_at children mark_of mark_or begins_child uid_of uid_at holds_uid role_of role_at opens_holder
before_by number text (Opens name) rest more last fine = top_by (is_calendar name) number text name rest refl fine
before_by number text (Closes name) rest more last fine = more last fine
before_by number text (Property name value) rest more last fine = more last fine
before_by number text Blank rest more last fine = more last fine

pub opens_before : (all : List Line) → (last_place Before all ≡ Before → ⊥) → calendar_of (placed_from Before all) ≡ None → opens_first (map role_of (placed_from Before all)) ≡ true
unfolding placed_from placed_at last_place
opens_before [] last fine = absurd (last refl)
opens_before (line ∷ rest) last fine = before_by line.number (trimmed line.text) (kind_of (trimmed line.text)) rest (λ h k. opens_before rest h k) last fine
