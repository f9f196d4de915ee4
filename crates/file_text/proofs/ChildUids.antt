-- ChildUids: the UIDs of the children of a VCALENDAR, as its lines tell them.
use Rattle.std.proofs.Common.{◌≡◌, ℕ, Bool, true, false, cond, not, ◌&&◌, ◌||◌, List, [], ◌∷◌, ◌++◌, map, Option, Some, None, is_some, refl, sym, ◌∙◌, ap, length, nat_lt, ◌==◌, codes, drop}
use Rattle.std.specs.List.{All, cons_option, filter_map, find, list_any}
use Rattle.std.specs.Option.{option_map}
use Rattle.std.specs.Str.{bytes_eq}
use Rattle.std.proofs.lemmas.List.Elements.{All-head, All-tail}
use Rattle.item_text.specs.Lines.{Line, trimmed}
use Rattle.item_text.specs.Components.{Kind, Opens, Closes, Property, Blank, kind_of, begins_with, upper, name_of, value_of, Place, Before, Within, Behind, next_place, Placed, placed_from, placed_at, placed, holds_uid, uid_at, uid_of, is_calendar, is_timezone}
use Rattle.item_text.specs.NormalForm.{keeps, open_at, is_in_calendar, written_as, is_dropped}
use Rattle.item_text.specs.Refusals.{first_of, first_uid, fault_at, Child, Begins, Uid, begins_child, mark_or, mark_of, children_of, children, same_uid, calendar_fault, fault_of_calendar, opens_calendar_at, opens_calendar}
use Rattle.item_text.specs.Refusals as refused
use Rattle.item_text.specs.declared.item.ItemError.TheVariants.{TwoUids}
use Rattle.file_text.specs.Marks.{role_at}
use Rattle.file_text.specs.Parts.{begins, head_role, is_of, parts_of, uid_in}
use Rattle.file_text.specs.Parts as parts
use Rattle.file_text.specs.declared.marks.Mark.{Mark}
use Rattle.file_text.specs.declared.marks.Role.{Role}
use Rattle.file_text.specs.declared.marks.Role.TheVariants as role
use Rattle.file_text.specs.declared.parts.Level.TheVariants as level
use Rattle.file_text.specs.declared.parts.PartKind.TheVariants as kind
use Rattle.file_text.proofs.Runs.{concat, IsRun}
use Rattle.file_text.proofs.Components.{IsPart, part_run, AreInner, Directly, direct_role}
use Rattle.file_text.proofs.MadeFiles.{Calendar, is_child}
use Rattle.file_text.proofs.SameLines.{Telling, walk, uids, kept}
use Rattle.file_text.proofs.Tellings.{IsQuiet, told, told_both}

no_timezone : is_timezone Calendar ≡ false
no_timezone = refl

quiet_uid : (text zone : List ℕ) (names : List (List ℕ)) (kind : Kind) → is_timezone zone ≡ true → uid_at (Within (names ++ zone ∷ Calendar ∷ [])) kind ≡ None
unfolding uid_at holds_uid
quiet_uid text zone names (Opens name) h = refl
quiet_uid text zone names (Closes name) h = refl
quiet_uid text zone names Blank h = refl
quiet_uid text zone [] (Property name value) h = ap (λ (b : Bool). cond (not b && bytes_eq name (codes "UID") && nat_lt 0 (length value)) (Some value) None) h
quiet_uid text zone (one ∷ []) (Property name value) h = refl
quiet_uid text zone (one ∷ two ∷ []) (Property name value) h = refl
quiet_uid text zone (one ∷ two ∷ three ∷ names) (Property name value) h = refl

pub quiet_uids : IsQuiet uids
unfolding uids uid_at holds_uid
quiet_uids = record {
  begins = λ text other. refl;
  ends = λ text other. refl;
  property = λ text name value. refl;
  zone = λ text name h. refl;
  inner = quiet_uid;
}

either_true : (b : Bool) → (b || true) ≡ true
either_true true = refl
either_true false = refl

any_zone : (names : List (List ℕ)) (zone : List ℕ) → is_timezone zone ≡ true → list_any is_timezone (names ++ zone ∷ Calendar ∷ []) ≡ true
any_zone [] zone h = ap (λ (b : Bool). b || (is_timezone Calendar || false)) h
any_zone (name ∷ names) zone h = ap (λ (b : Bool). is_timezone name || b) (any_zone names zone h) ∙ either_true (is_timezone name)

quiet_keep : (zone : List ℕ) (names : List (List ℕ)) (kind : Kind) → is_timezone zone ≡ true → keeps (names ++ zone ∷ Calendar ∷ []) kind ≡ false
unfolding keeps
quiet_keep zone names (Opens name) h = ap (λ (b : Bool). not (is_timezone name || b)) (any_zone names zone h) ∙ ap not (either_true (is_timezone name))
quiet_keep zone names (Closes name) h = ap not (any_zone names zone h)
quiet_keep zone names (Property name value) h = ap (λ (b : Bool). not b && not (is_in_calendar (names ++ zone ∷ Calendar ∷ [])) && not (is_dropped name)) (any_zone names zone h)
quiet_keep zone names Blank h = refl

pub quiet_kept : IsQuiet kept
unfolding kept keeps open_at is_in_calendar written_as
quiet_kept = record {
  begins = λ text other. refl;
  ends = λ text other. refl;
  property = λ text name value. refl;
  zone = λ text name h. ap (λ (b : Bool). cond (not (b || (is_timezone Calendar || false))) (Some (codes "BEGIN:" ++ name)) None) h;
  inner = λ text zone names kind h. ap (λ (b : Bool). cond b (Some (written_as text kind)) None) (quiet_keep zone names kind h);
}

-- what the children are told by, without numbers
abbrev erased : refused.Mark → Option (List ℕ)
erased (Begins number) = None
erased (Uid uid) = Some uid

unfoldable pub marks : Telling (Option (List ℕ))
marks place text kind = option_map erased (mark_or (begins_child 0 place kind) (uid_at place kind))

pub no_marks : (place : Place) (text : List ℕ) → marks place text Blank ≡ None
unfolding marks mark_or begins_child uid_at
no_marks Before text = refl
no_marks Behind text = refl
no_marks (Within []) text = refl
no_marks (Within (name ∷ [])) text = refl
no_marks (Within (name ∷ next ∷ names)) text = refl

no_begins : (number : ℕ) (names : List (List ℕ)) (zone : List ℕ) (kind : Kind) → begins_child number (Within (names ++ zone ∷ Calendar ∷ [])) kind ≡ None
unfolding begins_child
no_begins number [] zone kind = refl
no_begins number (one ∷ []) zone kind = refl
no_begins number (one ∷ two ∷ names) zone kind = refl

quiet_mark : (text zone : List ℕ) (names : List (List ℕ)) (kind : Kind) → is_timezone zone ≡ true → marks (Within (names ++ zone ∷ Calendar ∷ [])) text kind ≡ None
unfolding marks mark_or
quiet_mark text zone names kind h =
    ap (λ (o : Option refused.Mark). option_map erased (mark_or o (uid_at (Within (names ++ zone ∷ Calendar ∷ [])) kind))) (no_begins 0 names zone kind)
    ∙ ap (λ (o : Option (List ℕ)). option_map erased (option_map Uid o)) (quiet_uid text zone names kind h)

pub quiet_marks : IsQuiet marks
unfolding marks mark_or begins_child uid_at holds_uid
quiet_marks = record {
  begins = λ text other. refl;
  ends = λ text other. refl;
  property = λ text name value. refl;
  zone = λ text name h. ap (λ (b : Bool). option_map erased (mark_or (cond (not b) (Some (Begins 0)) None) None)) h;
  inner = quiet_mark;
}

-- the UIDs of the children
abbrev first0 : List (Option (List ℕ)) → Option (List ℕ)
first0 [] = None
first0 (None ∷ rest) = None
first0 (Some uid ∷ rest) = Some uid

abbrev pub child_uids : List (Option (List ℕ)) → List (Option (List ℕ))
child_uids [] = []
child_uids (None ∷ rest) = first0 rest ∷ child_uids rest
child_uids (Some uid ∷ rest) = child_uids rest

first_erased : (all : List refused.Mark) → first_uid all ≡ first0 (map erased all)
unfolding first_uid
first_erased [] = refl
first_erased (Begins number ∷ rest) = refl
first_erased (Uid uid ∷ rest) = refl

abbrev pub uids_of : List Child → List (Option (List ℕ))
uids_of all = map (λ (child : Child). child.uid) all

uids_erased : (all : List refused.Mark) → uids_of (children_of all) ≡ child_uids (map erased all)
unfolding children_of
uids_erased [] = refl
uids_erased (Begins number ∷ rest) = ap (λ (u : Option (List ℕ)). u ∷ uids_of (children_of rest)) (first_erased rest) ∙ ap (λ (us : List (Option (List ℕ))). first0 (map erased rest) ∷ us) (uids_erased rest)
uids_erased (Uid uid ∷ rest) = uids_erased rest

any_by : (b : Bool) (n m : ℕ) → option_map erased (cond b (Some (Begins n)) None) ≡ option_map erased (cond b (Some (Begins m)) None)
any_by true n m = refl
any_by false n m = refl

begins_any : (n m : ℕ) (place : Place) (kind : Kind) → option_map erased (begins_child n place kind) ≡ option_map erased (begins_child m place kind)
unfolding begins_child
begins_any n m Before kind = refl
begins_any n m Behind kind = refl
begins_any n m (Within []) kind = refl
begins_any n m (Within (top ∷ [])) (Opens name) = any_by (is_calendar top && not (is_timezone name)) n m
begins_any n m (Within (top ∷ [])) (Closes name) = refl
begins_any n m (Within (top ∷ [])) (Property name value) = refl
begins_any n m (Within (top ∷ [])) Blank = refl
begins_any n m (Within (top ∷ next ∷ names)) kind = refl

or_any : (first second : Option refused.Mark) (uid : Option (List ℕ)) → option_map erased first ≡ option_map erased second → option_map erased (mark_or first uid) ≡ option_map erased (mark_or second uid)
unfolding mark_or
or_any None None uid h = refl
or_any None (Some y) uid h = cc
or_any (Some x) None uid h = cc
or_any (Some x) (Some y) uid h = h

map_cons : (first : Option refused.Mark) (rest : List refused.Mark) → map erased (cons_option first rest) ≡ cons_option (option_map erased first) (map erased rest)
map_cons None rest = refl
map_cons (Some x) rest = refl

marks_walk : (place : Place) (lines : List Line) → map erased (filter_map mark_of (placed_from place lines)) ≡ walk marks place lines
unfolding placed_from placed_at mark_of uid_of walk marks
marks_walk place [] = refl
marks_walk place (line ∷ rest) =
    let kind : Kind = kind_of (trimmed line.text) in
    map_cons (mark_or (begins_child line.number place kind) (uid_at place kind)) (filter_map mark_of (placed_from (next_place place kind) rest))
    ∙ (ap (λ (o : Option (Option (List ℕ))). cons_option o (map erased (filter_map mark_of (placed_from (next_place place kind) rest)))) (or_any (begins_child line.number place kind) (begins_child 0 place kind) (uid_at place kind) (begins_any line.number 0 place kind))
    ∙ ap (λ (xs : List (Option (List ℕ))). cons_option (option_map erased (mark_or (begins_child 0 place kind) (uid_at place kind))) xs) (marks_walk (next_place place kind) rest))

-- the UIDs of the children of lines
pub uids_walk : (lines : List Line) → uids_of (children (placed lines)) ≡ child_uids (walk marks Before lines)
unfolding children placed
uids_walk lines = uids_erased (filter_map mark_of (placed_from Before lines)) ∙ ap child_uids (marks_walk Before lines)

-- the opening line of a VCALENDAR
unfoldable pub opening : Telling (List ℕ)
opening place text kind = cond (opens_calendar_at place kind) (Some []) None

pub no_opening : (place : Place) (text : List ℕ) → opening place text Blank ≡ None
unfolding opening opens_calendar_at
no_opening Before text = refl
no_opening (Within names) text = refl
no_opening Behind text = refl

find_by : (b : Bool) (line : Placed) (rest : List Placed) (more : List (List ℕ)) → (more ≡ [] → find opens_calendar rest ≡ None) → cons_option (cond b (Some []) None) more ≡ [] → cond b (Some line) (find opens_calendar rest) ≡ None
find_by true line rest more again h = cc
find_by false line rest more again h = again h

-- where no line opens one, none is found
pub none_opened : (place : Place) (lines : List Line) → walk opening place lines ≡ [] → find opens_calendar (placed_from place lines) ≡ None
unfolding placed_from placed_at walk opening opens_calendar
none_opened place [] h = refl
none_opened place (line ∷ rest) h =
    find_by (opens_calendar_at place (kind_of (trimmed line.text))) (placed_at place line) (placed_from (next_place place (kind_of (trimmed line.text))) rest) (walk opening (next_place place (kind_of (trimmed line.text))) rest)
    (λ none. none_opened (next_place place (kind_of (trimmed line.text))) rest none) h

some_by : (b : Bool) (line : Placed) (rest : List Placed) (more : List (List ℕ)) (x : List ℕ) (xs : List (List ℕ)) → (more ≡ x ∷ xs → (found : Placed) × (find opens_calendar rest ≡ Some found)) → cons_option (cond b (Some []) None) more ≡ x ∷ xs
    → (found : Placed) × (cond b (Some line) (find opens_calendar rest) ≡ Some found)
some_by true line rest more x xs again h = (line, refl)
some_by false line rest more x xs again h = again h

pub some_opened : (place : Place) (lines : List Line) (x : List ℕ) (xs : List (List ℕ)) → walk opening place lines ≡ x ∷ xs → (found : Placed) × (find opens_calendar (placed_from place lines) ≡ Some found)
unfolding placed_from placed_at walk opening opens_calendar
some_opened place [] x xs h = absurd (cc)
some_opened place (line ∷ rest) x xs h =
    some_by (opens_calendar_at place (kind_of (trimmed line.text))) (placed_at place line) (placed_from (next_place place (kind_of (trimmed line.text))) rest) (walk opening (next_place place (kind_of (trimmed line.text))) rest) x xs
    (λ some. some_opened (next_place place (kind_of (trimmed line.text))) rest x xs some) h

-- the children of a VCALENDAR are one item's
abbrev pub AreOne : List (Option (List ℕ)) → Type 0
AreOne [] = ⊥
AreOne (uid ∷ []) = Unit {0}
AreOne (uid ∷ next ∷ more) = list_any (λ (other : Option (List ℕ)). not (same_uid uid other)) (uid ∷ next ∷ more) ≡ false

none_found : (P : Option (List ℕ) → Bool) (all : List Child) → (find (λ (child : Child). P child.uid) all ≡ None → list_any P (uids_of all) ≡ false) × (list_any P (uids_of all) ≡ false → find (λ (child : Child). P child.uid) all ≡ None)
none_found P [] = (λ h. refl, λ h. refl)
none_found P (child ∷ rest) = by (P child.uid) (none_found P rest)
  where
    by : (b : Bool) → (find (λ (child : Child). P child.uid) rest ≡ None → list_any P (uids_of rest) ≡ false) × (list_any P (uids_of rest) ≡ false → find (λ (child : Child). P child.uid) rest ≡ None)
        → (cond b (Some child) (find (λ (child : Child). P child.uid) rest) ≡ None → (b || list_any P (uids_of rest)) ≡ false) × ((b || list_any P (uids_of rest)) ≡ false → cond b (Some child) (find (λ (child : Child). P child.uid) rest) ≡ None)
    by true more = (λ h. absurd (cc), λ h. absurd (cc))
    by false more = more

map_none : (all : Option Child) → option_map (λ (other : Child). TwoUids other.number) all ≡ None → all ≡ None
map_none None h = refl
map_none (Some x) h = cc

pub one_of : (number : ℕ) (all : List Child) → calendar_fault number all ≡ None → AreOne (uids_of all)
unfolding calendar_fault
one_of number [] h = absurd (cc)
one_of number (child ∷ []) h = tt
one_of number (child ∷ next ∷ more) h =
    (none_found (λ (other : Option (List ℕ)). not (same_uid child.uid other)) (child ∷ next ∷ more)).0 (map_none (find (λ (other : Child). not (same_uid child.uid other.uid)) (child ∷ next ∷ more)) h)

pub of_one : (number : ℕ) (all : List Child) → AreOne (uids_of all) → calendar_fault number all ≡ None
unfolding calendar_fault
of_one number [] h = absurd h
of_one number (child ∷ []) h = refl
of_one number (child ∷ next ∷ more) h =
    ap (λ (found : Option Child). option_map (λ (other : Child). TwoUids other.number) found) ((none_found (λ (other : Option (List ℕ)). not (same_uid child.uid other)) (child ∷ next ∷ more)).1 h)

kind_value : (text name value : List ℕ) → kind_of text ≡ Property name value → value ≡ value_of text
unfolding kind_of
kind_value text name value h = by (begins_with (codes "BEGIN:") text) (begins_with (codes "END:") text) (length text == 0) h
  where
    by : (s t u : Bool) → cond s (Opens (upper (trimmed (drop 6 text)))) (cond t (Closes (upper (trimmed (drop 4 text)))) (cond u Blank (Property (name_of text) (value_of text)))) ≡ Property name value → value ≡ value_of text
    by true t u k = cc
    by false true u k = cc
    by false false true k = cc
    by false false false k = cc

uid_by : (b : Bool) (value : List ℕ) (text : List ℕ) → value ≡ value_of text → uid_in (cond (is_some (cond b (Some value) None)) role.Uid role.Deep) text ≡ cond b (Some value) None
unfolding uid_in
uid_by true value text h = ap (λ (v : List ℕ). Some v) (sym h)
uid_by false value text h = refl

deep_uid : (a b text : List ℕ) (more : List (List ℕ)) (kind : Kind) → kind_of text ≡ kind → uid_in (role_at (Within (a ∷ b ∷ more)) kind) text ≡ uid_at (Within (a ∷ b ∷ more)) kind
unfolding role_at uid_at uid_in
deep_uid a b text more (Opens name) is = refl
deep_uid a b text more (Closes name) is = refl
deep_uid a b text more Blank is = refl
deep_uid a b text more (Property name value) is =
    uid_by (holds_uid (Within (a ∷ b ∷ more)) && bytes_eq name (codes "UID") && nat_lt 0 (length value)) value text (kind_value text name value is)

none_uid_in : (uid : Option (List ℕ)) (text : List ℕ) → uid ≡ None → uid_in (cond (is_some uid) role.Uid role.Deep) text ≡ uid
unfolding uid_in
none_uid_in None text h = refl
none_uid_in (Some u) text h = cc

true_false : true ≡ false → ⊥
true_false h = apart h
  where
    apart : ◌≡◌ {A = Bool} true false → ⊥
    apart e = cc

outside_by : (b : Bool) → begins level.Component (cond b role.Calendar role.Other) ≡ true
unfolding begins
outside_by true = refl
outside_by false = refl

no_more : (place : Place) (kind : Kind) (text : List ℕ) → kind_of text ≡ kind → (kind ≡ Blank → ⊥) → fault_at 0 place kind ≡ None → begins level.Component (role_at place kind) ≡ false
    → (uid_in (role_at place kind) text ≡ uid_at place kind) × (begins_child 0 place kind ≡ None)
unfolding role_at fault_at begins_child uid_at holds_uid
no_more Before (Opens name) text is some fine inner = absurd (true_false (sym (outside_by (is_calendar name)) ∙ inner))
no_more Before (Closes name) text is some fine inner = absurd (cc)
no_more Before (Property name value) text is some fine inner = absurd (cc)
no_more Behind (Opens name) text is some fine inner = absurd (cc)
no_more Behind (Closes name) text is some fine inner = absurd (cc)
no_more Behind (Property name value) text is some fine inner = absurd (cc)
no_more Before Blank text is some fine inner = absurd (some refl)
no_more Behind Blank text is some fine inner = absurd (some refl)
no_more (Within (top ∷ [])) kind text is some fine inner = absurd (true_false (sym (direct_role top kind) ∙ inner))
no_more (Within (a ∷ b ∷ more)) kind text is some fine inner = (deep_uid a b text more kind is, refl)
no_more (Within []) (Opens name) text is some fine inner = (none_uid_in (uid_at (Within []) (Opens name)) text refl, refl)
no_more (Within []) (Closes name) text is some fine inner = (none_uid_in (uid_at (Within []) (Closes name)) text refl, refl)
no_more (Within []) (Property name value) text is some fine inner = (none_uid_in (uid_at (Within []) (Property name value)) text refl, refl)
no_more (Within []) Blank text is some fine inner = absurd (some refl)

-- the UIDs that lines give as marks
abbrev pub given : List Mark → List (List ℕ)
given lines = filter_map (λ (line : Mark). uid_in line.role line.text) lines

abbrev some_of : List ℕ → Option (List ℕ)
some_of uid = Some uid

-- behind its first line a child tells its UIDs, and no mark begins another
record TellsUids (place : Place) (lines : List Mark) : Type 0 where
  uids_are : given lines ≡ told uids place lines
  marks_are : told marks place lines ≡ map some_of (told uids place lines)

marks_more : (uid : Option (List ℕ)) (xs : List (List ℕ)) → cons_option (option_map erased (option_map Uid uid)) (map some_of xs) ≡ map some_of (cons_option uid xs)
marks_more None xs = refl
marks_more (Some uid) xs = refl

inner_tells : (place end : Place) (lines : List Mark) → IsRun place lines end → AreInner level.Component lines → TellsUids place lines
unfolding marks mark_or uids
inner_tells place end [] run inner = record { uids_are = refl; marks_are = refl }
inner_tells place end (line ∷ rest) run inner =
    let P : Mark → Type 0 = λ mark. begins level.Component mark.role ≡ false in
    let what : Kind = kind_of line.text in
    let here = no_more place what line.text refl run.0.some (run.0.fine 0) (ap (begins level.Component) (sym run.0.role) ∙ All-head P line rest inner) in
    let more = inner_tells (next_place place what) end rest run.1 (All-tail P line rest inner) in
    record {
      uids_are =
          ap (λ (r : Role). cons_option (uid_in r line.text) (given rest)) run.0.role
          ∙ (ap (λ (o : Option (List ℕ)). cons_option o (given rest)) here.0 ∙ ap (λ (us : List (List ℕ)). cons_option (uid_at place what) us) more.uids_are);
      marks_are =
          ap (λ (o : Option refused.Mark). cons_option (option_map erased (mark_or o (uid_at place what))) (told marks (next_place place what) rest)) here.1
          ∙ (ap (λ (us : List (Option (List ℕ))). cons_option (option_map erased (option_map Uid (uid_at place what))) us) more.marks_are
          ∙ marks_more (uid_at place what) (told uids (next_place place what) rest));
    }

-- what a child tells
pub record TellsChild (part : List Mark) : Type 0 where
  pub found : List (List ℕ)
  pub marks_are : told marks (Directly Calendar) part ≡ None ∷ map some_of found
  pub uids_are : told uids (Directly Calendar) part ≡ found
  pub uid_is : parts.uid_of part ≡ first_of found

child_by : (b : Bool) → is_of kind.Child (cond b role.Zone role.Child) ≡ true → b ≡ false
unfolding is_of
child_by true h = cc
child_by false h = refl

child_head : (what : Kind) → is_of kind.Child (role_at (Directly Calendar) what) ≡ true → (uid_at (Directly Calendar) what ≡ None) × (option_map erased (begins_child 0 (Directly Calendar) what) ≡ Some None)
unfolding is_of role_at uid_at begins_child
child_head (Opens name) h = (refl, ap (λ (b : Bool). option_map erased (cond (not b) (Some (Begins 0)) None)) (child_by (is_timezone name) h))
child_head (Closes name) h = absurd (cc)
child_head (Property name value) h = absurd (cc)
child_head Blank h = absurd (cc)

child_marks : (first : Option refused.Mark) (uid : Option (List ℕ)) → option_map erased first ≡ Some None → option_map erased (mark_or first uid) ≡ Some None
unfolding mark_or
child_marks None uid h = cc
child_marks (Some x) uid h = h

no_uid_in : (r : Role) (text : List ℕ) → is_of kind.Child r ≡ true → uid_in r text ≡ None
unfolding uid_in
no_uid_in r text h = ap (λ (s : Role). uid_in s text) (is_child r h)

pub child_tells : (part : List Mark) → IsPart Calendar part → is_of kind.Child (head_role part) ≡ true → TellsChild part
unfolding head_role marks uids parts.uid_of
child_tells part p child =
    let what : Kind = kind_of p.head.text in
    let head_child : is_of kind.Child p.head.role ≡ true = ap (λ (ms : List Mark). is_of kind.Child (head_role ms)) (sym p.is) ∙ child in
    let head = child_head what (ap (is_of kind.Child) (sym p.at.role) ∙ head_child) in
    let rest = inner_tells (next_place (Directly Calendar) what) (Directly Calendar) p.rest p.run p.inner in
    let rest_uids : List (List ℕ) = told uids (next_place (Directly Calendar) what) p.rest in
    record {
      found = rest_uids;
      marks_are =
          ap (told marks (Directly Calendar)) p.is
          ∙ (ap (λ (o : Option (Option (List ℕ))). cons_option o (told marks (next_place (Directly Calendar) what) p.rest)) (child_marks (begins_child 0 (Directly Calendar) what) (uid_at (Directly Calendar) what) head.1)
          ∙ ap (λ (us : List (Option (List ℕ))). None ∷ us) rest.marks_are);
      uids_are = ap (told uids (Directly Calendar)) p.is ∙ ap (λ (o : Option (List ℕ)). cons_option o rest_uids) head.0;
      uid_is =
          ap (λ (ms : List Mark). first_of (given ms)) p.is
          ∙ (ap (λ (o : Option (List ℕ)). first_of (cons_option o (given p.rest))) (no_uid_in p.head.role p.head.text head_child) ∙ ap first_of rest.uids_are);
    }

-- children, one behind another
uids_before : (found : List (List ℕ)) (rest : List (Option (List ℕ))) → child_uids (map some_of found ++ rest) ≡ child_uids rest
uids_before [] rest = refl
uids_before (uid ∷ found) rest = uids_before found rest

first_before : (found : List (List ℕ)) (rest : List (Option (List ℕ))) → first0 rest ≡ None → first0 (map some_of found ++ rest) ≡ first_of found
unfolding first_of
first_before [] rest h = h
first_before (uid ∷ found) rest h = refl

pub children_tell : (all : List (List Mark)) → All (IsPart Calendar) all → All (λ (part : List Mark). is_of kind.Child (head_role part) ≡ true) all
    → (child_uids (told marks (Directly Calendar) (concat all)) ≡ map parts.uid_of all) × (first0 (told marks (Directly Calendar) (concat all)) ≡ None)
children_tell [] are child = (refl, refl)
children_tell (part ∷ more) are child =
    let P : List Mark → Type 0 = λ part. is_of kind.Child (head_role part) ≡ true in
    let one : IsPart Calendar part = All-head (IsPart Calendar) part more are in
    let tells = child_tells part one (All-head P part more child) in
    let later = children_tell more (All-tail (IsPart Calendar) part more are) (All-tail P part more child) in
    let behind : List (Option (List ℕ)) = told marks (Directly Calendar) (concat more) in
    let both : told marks (Directly Calendar) (part ++ concat more) ≡ (None ∷ map some_of tells.found) ++ behind =
    told_both marks (Directly Calendar) (Directly Calendar) part (concat more) (part_run Calendar part one) ∙ ap (λ (us : List (Option (List ℕ))). us ++ behind) tells.marks_are in (
      ap child_uids both
          ∙ (ap (λ (u : Option (List ℕ)). u ∷ child_uids (map some_of tells.found ++ behind)) (first_before tells.found behind later.1 ∙ sym tells.uid_is)
          ∙ ap (λ (us : List (Option (List ℕ))). parts.uid_of part ∷ us) (uids_before tells.found behind ∙ later.0)),
      ap first0 both,
    )
