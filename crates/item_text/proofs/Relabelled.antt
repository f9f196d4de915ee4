-- Relabelled: the faults, the places and the normal form of lines that have another UID.
use Rattle.std.proofs.Common.{◌≡◌, ℕ, ◌≤◌, Bool, true, false, cond, not, ◌&&◌, List, [], ◌∷◌, ◌++◌, map, length, codes, Option, Some, None, is_some, refl, sym, ◌∙◌, ap, subst, arith, nat_lt}
use Rattle.std.specs.Option.{option_map}
use Rattle.std.specs.List.{filter, filter_map, find, cons_option, list_any}
use Rattle.std.specs.Str.{bytes_eq}
use Rattle.std.proofs.lemmas.Bool.{false≢true}
use Rattle.std.proofs.lemmas.Bool.Decides.{nat_tests}
use Rattle.std.proofs.lemmas.Slice.Eq.{bytes_eq-Decides}
use Rattle.item_text.specs.Lines.{Line, trimmed}
use Rattle.item_text.specs.Components.{Kind, Opens, Closes, Property, Blank, Place, Before, Within, Behind, Placed, placed, placed_at, placed_from, last_place, next_place, kind_of, holds_uid, uid_at, is_timezone}
use Rattle.item_text.specs.NormalForm.{open_at, is_in_calendar, keeps, is_dropped, is_kept, written_as, written}
use Rattle.item_text.specs.Refusals.{first_of, else_of, long_uid, fault_at, fault_of, fault_of_end, fault_of_calendar, opens_calendar, children, refusal_of, closes}
use Rattle.item_text.specs.declared.item.ItemError.{ItemError}
use Rattle.item_text.specs.declared.item.ItemError.TheVariants.{NoComponent, Unbalanced, Extra, LongUid}
use Rattle.item_text.specs.declared.edit.Role.{Role}
use Rattle.item_text.specs.declared.edit.Role.TheVariants.{Opener, Giver, Other}
use Rattle.item_text.specs.declared.edit.Change.{Change}
use Rattle.item_text.specs.declared.edit.Change.TheVariants.{Stays, Replaced, Followed}
use Rattle.item_text.specs.Edits.{opens_holder, role_at, role_of, gives_uid, changes, changed, all_changed, changes_of}
use Rattle.item_text.proofs.Changes.{alone, EndsStays, BeginsKept}

-- what lines from a place have in common with those that they are changed to
pub record Same (place : Place) (all now : List Line) : Type 0 where
  pub last : last_place place now ≡ last_place place all
  pub fine : filter_map fault_of (placed_from place now) ≡ []
  pub kept : map written (filter is_kept (placed_from place now)) ≡ map written (filter is_kept (placed_from place all))

not_some : {X : Type 0} (x : X) → Some x ≡ None → ⊥
not_some x h = cc

-- Lines that are not refused: none has a fault, the last component is closed, and the children are fine.
none_both : {X : Type 0} (a b : Option X) → else_of a b ≡ None → (a ≡ None) × (b ≡ None)
unfolding else_of
none_both None b h = (refl, h)
none_both (Some x) b h = absurd (not_some x h)

none_first : {X : Type 0} (xs ys : List X) → first_of (xs ++ ys) ≡ None → (xs ≡ []) × (ys ≡ [])
unfolding first_of
none_first [] [] h = (refl, refl)
none_first [] (y ∷ ys) h = absurd (not_some y h)
none_first (x ∷ xs) ys h = absurd (not_some x h)

behind_by : (count : ℕ) (place : Place) → fault_of_end count place ≡ [] → place ≡ Behind
unfolding fault_of_end
behind_by count Before h = cc
behind_by count (Within names) h = cc
behind_by count Behind h = refl

both_of : (count : ℕ) (all : List Line) → refusal_of count all ≡ None
    → (first_of (filter_map fault_of (placed all) ++ fault_of_end count (last_place Before all)) ≡ None)
    × (fault_of_calendar (option_map (λ (line : Placed). line.number) (find opens_calendar (placed all))) (children (placed all)) ≡ None)
unfolding refusal_of
both_of count all fine = none_both _ _ fine

pub fine_of : (count : ℕ) (all : List Line) → refusal_of count all ≡ None → filter_map fault_of (placed all) ≡ []
fine_of count all fine = (none_first (filter_map fault_of (placed all)) (fault_of_end count (last_place Before all)) (both_of count all fine).0).0

pub last_of : (count : ℕ) (all : List Line) → refusal_of count all ≡ None → last_place Before all ≡ Behind
last_of count all fine = behind_by count (last_place Before all) (none_first (filter_map fault_of (placed all)) (fault_of_end count (last_place Before all)) (both_of count all fine).0).1

pub children_of_fine : (count : ℕ) (all : List Line) → refusal_of count all ≡ None
    → fault_of_calendar (option_map (λ (line : Placed). line.number) (find opens_calendar (placed all))) (children (placed all)) ≡ None
children_of_fine count all fine = (both_of count all fine).1

-- the refusal by its three parts
none_by : (faults : List ItemError) (count : ℕ) (last : Place) (fault : Option ItemError) → faults ≡ [] → last ≡ Behind → fault ≡ None
    → else_of (first_of (faults ++ fault_of_end count last)) fault ≡ None
unfolding else_of first_of fault_of_end
none_by faults count last fault h k e =
    ap (λ (xs : List ItemError). else_of (first_of (xs ++ fault_of_end count last)) fault) h ∙ (ap (λ (p : Place). else_of (first_of (fault_of_end count p)) fault) k ∙ e)

pub none_of : (count : ℕ) (all : List Line) → filter_map fault_of (placed all) ≡ [] → last_place Before all ≡ Behind
    → fault_of_calendar (option_map (λ (line : Placed). line.number) (find opens_calendar (placed all))) (children (placed all)) ≡ None → refusal_of count all ≡ None
unfolding refusal_of
none_of count all fine last calendar = none_by (filter_map fault_of (placed all)) count (last_place Before all) _ fine last calendar

-- what stands in a line that a change other than to stay is for
unfoldable Allowed : Place → Kind → Change → Type 0
Allowed place kind Stays = Unit {0}
Allowed place kind Replaced = is_some (uid_at place kind) ≡ true
Allowed place kind Followed = opens_holder place kind ≡ true

-- the change of a first line of this role, and whether a UID is sought behind it
record First (seeking : Bool) (place : Place) (kind : Kind) (role : Role) (roles : List Role) : Type 0 where
  change : Change
  next : Bool
  is : changes seeking (role ∷ roles) ≡ change ∷ changes next roles
  allowed : Allowed place kind change

followed_allowed : (b : Bool) (place : Place) (kind : Kind) → opens_holder place kind ≡ true → Allowed place kind (cond b Stays Followed)
unfolding Allowed
followed_allowed true place kind h = tt
followed_allowed false place kind h = h

replaced_allowed : (b : Bool) (place : Place) (kind : Kind) → is_some (uid_at place kind) ≡ true → Allowed place kind (cond b Replaced Stays)
unfolding Allowed
replaced_allowed true place kind h = h
replaced_allowed false place kind h = tt

first_by : (seeking : Bool) (place : Place) (kind : Kind) (roles : List Role) (opens gives : Bool) → opens_holder place kind ≡ opens → is_some (uid_at place kind) ≡ gives
    → First seeking place kind (cond opens Opener (cond gives Giver Other)) roles
unfolding changes Allowed
first_by seeking place kind roles true gives h k =
    record { change = cond (gives_uid roles) Stays Followed; next = gives_uid roles; is = refl; allowed = followed_allowed (gives_uid roles) place kind h }
first_by seeking place kind roles false true h k =
    record { change = cond seeking Replaced Stays; next = false; is = refl; allowed = replaced_allowed seeking place kind k }
first_by seeking place kind roles false false h k = record { change = Stays; next = seeking; is = refl; allowed = tt }

first_change : (seeking : Bool) (place : Place) (kind : Kind) (roles : List Role) → First seeking place kind (role_at place kind) roles
unfolding role_at
first_change seeking place kind roles = first_by seeking place kind roles (opens_holder place kind) (is_some (uid_at place kind)) refl refl

-- a line that gives a UID stands where one is held, leaves the place as it is, and isn't kept
pub record Gives (place : Place) (kind : Kind) : Type 0 where
  pub holds : holds_uid place ≡ true
  pub stays : next_place place kind ≡ place
  pub dropped : keeps (open_at place) kind ≡ false

pub property_stays : (place : Place) (name value : List ℕ) → next_place place (Property name value) ≡ place
unfolding next_place
property_stays Before name value = refl
property_stays (Within names) name value = refl
property_stays Behind name value = refl

not_both : (a b : Bool) → (a && b && false) ≡ false
not_both true true = refl
not_both true false = refl
not_both false b = refl

uid_dropped : (names : List (List ℕ)) (name value : List ℕ) → name ≡ codes "UID" → keeps names (Property name value) ≡ false
unfolding keeps is_dropped
uid_dropped names name value h =
    ap (λ (n : List ℕ). not (list_any is_timezone names) && not (is_in_calendar names) && not (is_dropped n)) h
    ∙ not_both (not (list_any is_timezone names)) (not (is_in_calendar names))

holds_by : (holds same some : Bool) (value : List ℕ) → is_some (cond (holds && same && some) (Some value) None) ≡ true → (holds ≡ true) × (same ≡ true)
holds_by true true some value h = (refl, refl)
holds_by true false some value h = absurd (false≢true h)
holds_by false same some value h = absurd (false≢true h)

pub gives_at : (place : Place) (kind : Kind) → is_some (uid_at place kind) ≡ true → Gives place kind
unfolding uid_at
gives_at place (Opens name) h = absurd (false≢true h)
gives_at place (Closes name) h = absurd (false≢true h)
gives_at place Blank h = absurd (false≢true h)
gives_at place (Property name value) h =
    let both = holds_by (holds_uid place) (bytes_eq name (codes "UID")) (nat_lt 0 (length value)) value h in
    record { holds = both.0; stays = property_stays place name value; dropped = uid_dropped (open_at place) name value ((bytes_eq-Decides name (codes "UID")).0 both.1) }

-- a line that opens a component that holds a UID
pub opens_at : (place : Place) (kind : Kind) → opens_holder place kind ≡ true → holds_uid (next_place place kind) ≡ true
unfolding opens_holder
opens_at place (Opens name) h = h
opens_at place (Closes name) h = absurd (false≢true h)
opens_at place (Property name value) h = absurd (false≢true h)
opens_at place Blank h = absurd (false≢true h)

-- no fault depends on the number
none_if : (b : Bool) (e f : ItemError) → cond b None (Some e) ≡ None → cond b None (Some f) ≡ None
none_if true e f h = refl
none_if false e f h = absurd (not_some e h)

some_if : (b : Bool) (e f : ItemError) → cond b (Some e) None ≡ None → cond b (Some f) None ≡ None
some_if true e f h = absurd (not_some e h)
some_if false e f h = refl

long_any : (n m : ℕ) (o : Option (List ℕ)) → long_uid n o ≡ None → long_uid m o ≡ None
unfolding long_uid
long_any n m None h = refl
long_any n m (Some uid) h = some_if (nat_lt 500 (length uid)) (LongUid n) (LongUid m) h

fine_any : (n m : ℕ) (place : Place) (kind : Kind) → fault_at n place kind ≡ None → fault_at m place kind ≡ None
unfolding fault_at
fine_any n m place Blank h = refl
fine_any n m Before (Opens name) h = refl
fine_any n m Before (Closes name) h = absurd (not_some (NoComponent n) h)
fine_any n m Before (Property name value) h = absurd (not_some (NoComponent n) h)
fine_any n m Behind (Opens name) h = absurd (not_some (Extra n) h)
fine_any n m Behind (Closes name) h = absurd (not_some (Extra n) h)
fine_any n m Behind (Property name value) h = absurd (not_some (Extra n) h)
fine_any n m (Within names) (Closes name) h = none_if (closes names name) (Unbalanced n) (Unbalanced m) h
fine_any n m (Within names) (Opens name) h = long_any n m (uid_at (Within names) (Opens name)) h
fine_any n m (Within names) (Property name value) h = long_any n m (uid_at (Within names) (Property name value)) h

-- a line of the new UID has no fault
not_long : (length_of : ℕ) → length_of ≤ 500 → nat_lt 500 length_of ≡ false
not_long length_of h = grind (arith, nat_tests)

short_by : (n : ℕ) (given : Bool) (uid : List ℕ) → length uid ≤ 500 → long_uid n (cond given (Some uid) None) ≡ None
unfolding long_uid
short_by n true uid short = ap (λ (b : Bool). cond b (Some (LongUid n)) None) (not_long (length uid) short)
short_by n false uid short = refl

uid_fine : (n : ℕ) (place : Place) (uid : List ℕ) → holds_uid place ≡ true → length uid ≤ 500 → fault_at n place (Property (codes "UID") uid) ≡ None
unfolding fault_at holds_uid uid_at
uid_fine n Before uid h short = absurd (false≢true h)
uid_fine n Behind uid h short = absurd (false≢true h)
uid_fine n (Within names) uid h short = short_by n (holds_uid (Within names) && bytes_eq (codes "UID") (codes "UID") && nat_lt 0 (length uid)) uid short

-- a first line of a kind
last_line : (place : Place) (line : Line) (rest : List Line) (kind : Kind) → kind_of (trimmed line.text) ≡ kind → last_place place (line ∷ rest) ≡ last_place (next_place place kind) rest
unfolding last_place
last_line place line rest kind h = ap (λ (k : Kind). last_place (next_place place k) rest) h

faults_line : (place : Place) (line : Line) (rest : List Line) (kind : Kind) → kind_of (trimmed line.text) ≡ kind
    → filter_map fault_of (placed_from place (line ∷ rest)) ≡ cons_option (fault_at line.number place kind) (filter_map fault_of (placed_from (next_place place kind) rest))
unfolding placed_from placed_at fault_of
faults_line place line rest kind h = ap (λ (k : Kind). cons_option (fault_at line.number place k) (filter_map fault_of (placed_from (next_place place k) rest))) h

abbrev onto : Bool → List ℕ → List (List ℕ) → List (List ℕ)
onto keep text rest = cond keep (text ∷ rest) rest

kept_by : (b : Bool) (line : Placed) (tail : List Placed) → map written (cond b (line ∷ tail) tail) ≡ onto b (written line) (map written tail)
kept_by true line tail = refl
kept_by false line tail = refl

kept_line : (place : Place) (line : Line) (rest : List Line) (kind : Kind) → kind_of (trimmed line.text) ≡ kind
    → map written (filter is_kept (placed_from place (line ∷ rest)))
    ≡ onto (keeps (open_at place) kind) (written_as (trimmed line.text) kind) (map written (filter is_kept (placed_from (next_place place kind) rest)))
unfolding placed_from placed_at is_kept written
kept_line place line rest kind h =
    kept_by (keeps (open_at place) (kind_of (trimmed line.text))) (placed_at place line) (filter is_kept (placed_from (next_place place (kind_of (trimmed line.text))) rest))
    ∙ ap (λ (k : Kind). onto (keeps (open_at place) k) (written_as (trimmed line.text) k) (map written (filter is_kept (placed_from (next_place place k) rest)))) h

-- a line that stays, but for its number
line_stays : (place : Place) (line n : Line) (rest more : List Line) → n.text ≡ line.text → fault_at line.number place (kind_of (trimmed line.text)) ≡ None
    → Same (next_place place (kind_of (trimmed line.text))) rest more → Same place (line ∷ rest) (n ∷ more)
line_stays place line n rest more e fine s =
    let kind = kind_of (trimmed line.text) in
    let same : kind_of (trimmed n.text) ≡ kind = ap (λ (t : List ℕ). kind_of (trimmed t)) e in
    record {
      last = last_line place n more kind same ∙ (s.last ∙ sym (last_line place line rest kind refl));
      fine = faults_line place n more kind same
          ∙ (ap (λ (o : Option ItemError). cons_option o (filter_map fault_of (placed_from (next_place place kind) more))) (fine_any line.number n.number place kind fine) ∙ s.fine);
      kept = kept_line place n more kind same
          ∙ (ap (λ (t : List ℕ). onto (keeps (open_at place) kind) (written_as (trimmed t) kind) (map written (filter is_kept (placed_from (next_place place kind) more)))) e
          ∙ (ap (onto (keeps (open_at place) kind) (written_as (trimmed line.text) kind)) s.kept
          ∙ sym (kept_line place line rest kind refl)));
    }

-- a line of the new UID before the new lines
uid_before : (uid : List ℕ) → length uid ≤ 500 → (place : Place) (n : Line) (rest more : List Line) → kind_of (trimmed n.text) ≡ Property (codes "UID") uid → holds_uid place ≡ true
    → Same place rest more → Same place rest (n ∷ more)
uid_before uid short place n rest more named holds s =
    let kind = Property (codes "UID") uid in
    let stays = property_stays place (codes "UID") uid in
    record {
      last = last_line place n more kind named ∙ (ap (λ (p : Place). last_place p more) stays ∙ s.last);
      fine = faults_line place n more kind named
          ∙ (ap (λ (o : Option ItemError). cons_option o (filter_map fault_of (placed_from (next_place place kind) more))) (uid_fine n.number place uid holds short)
          ∙ (ap (λ (p : Place). filter_map fault_of (placed_from p more)) stays ∙ s.fine));
      kept = kept_line place n more kind named
          ∙ (ap (λ (b : Bool). onto b (written_as (trimmed n.text) kind) (map written (filter is_kept (placed_from (next_place place kind) more)))) (uid_dropped (open_at place) (codes "UID") uid refl)
          ∙ (ap (λ (p : Place). map written (filter is_kept (placed_from p more))) stays ∙ s.kept));
    }

-- a line that gives a UID before the old lines
giver_before : (place : Place) (line : Line) (rest now : List Line) → Gives place (kind_of (trimmed line.text)) → Same place rest now → Same place (line ∷ rest) now
giver_before place line rest now g s =
    let kind = kind_of (trimmed line.text) in
    record {
      last = s.last ∙ sym (last_line place line rest kind refl ∙ ap (λ (p : Place). last_place p rest) g.stays);
      fine = s.fine;
      kept = s.kept
          ∙ sym (kept_line place line rest kind refl
          ∙ (ap (λ (b : Bool). onto b (written_as (trimmed line.text) kind) (map written (filter is_kept (placed_from (next_place place kind) rest)))) g.dropped
          ∙ ap (λ (p : Place). map written (filter is_kept (placed_from p rest))) g.stays));
    }

-- the lines of texts
pub one_text : (now : List Line) (text : List ℕ) (rest : List (List ℕ)) → map (λ (line : Line). line.text) now ≡ text ∷ rest
    → (n : Line) × (more : List Line) × (now ≡ n ∷ more) × (n.text ≡ text) × (map (λ (line : Line). line.text) more ≡ rest)
one_text [] text rest h = cc
one_text (n ∷ more) text rest h = (n, more, refl, cc, cc)

no_text : (now : List Line) → map (λ (line : Line). line.text) now ≡ [] → now ≡ []
no_text [] h = refl
no_text (n ∷ more) h = cc

-- the lines after a first change, by what the lines behind it are changed to
module _ (new uid : List ℕ) (named : kind_of (trimmed new) ≡ Property (codes "UID") uid) (short : length uid ≤ 500)
    (place : Place) (line : Line) (rest : List Line) (fine : fault_at line.number place (kind_of (trimmed line.text)) ≡ None)
    (texts : List (List ℕ)) (behind : (more : List Line) → map (λ (line : Line). line.text) more ≡ texts → Same (next_place place (kind_of (trimmed line.text))) rest more) where
  is_named : (n : Line) → n.text ≡ new → kind_of (trimmed n.text) ≡ Property (codes "UID") uid
  is_named n h = ap (λ (t : List ℕ). kind_of (trimmed t)) h ∙ named

  by_change : (change : Change) (now : List Line) → Allowed place (kind_of (trimmed line.text)) change → map (λ (line : Line). line.text) now ≡ changed new change (line.text ∷ []) ++ texts
      → Same place (line ∷ rest) now
  unfolding changed Allowed
  by_change Stays now allowed h =
      let first = one_text now line.text texts h in
      subst (λ (ls : List Line). Same place (line ∷ rest) ls) (sym first.2)
      (line_stays place line first.0 rest first.1 first.3 fine (behind first.1 first.4))
  by_change Replaced now allowed h =
      let first = one_text now new texts h in
      let gives = gives_at place (kind_of (trimmed line.text)) allowed in
      subst (λ (ls : List Line). Same place (line ∷ rest) ls) (sym first.2)
      (giver_before place line rest (first.0 ∷ first.1) gives
      (uid_before uid short place first.0 rest first.1 (is_named first.0 first.3) gives.holds
      (subst (λ (p : Place). Same p rest first.1) gives.stays (behind first.1 first.4))))
  by_change Followed now allowed h =
      let first = one_text now line.text (new ∷ texts) h in
      let second = one_text first.1 new texts first.4 in
      let next = next_place place (kind_of (trimmed line.text)) in
      subst (λ (ls : List Line). Same place (line ∷ rest) ls) (sym first.2)
      (line_stays place line first.0 rest first.1 first.3 fine
      (subst (λ (ls : List Line). Same next rest ls) (sym second.2)
      (uid_before uid short next second.0 rest second.1 (is_named second.0 second.3) (opens_at place (kind_of (trimmed line.text)) allowed) (behind second.1 second.4))))

-- a first line has no fault, nor have the others
none_cons : {X : Type 0} (o : Option X) (xs : List X) → cons_option o xs ≡ [] → (o ≡ None) × (xs ≡ [])
none_cons None xs h = (refl, h)
none_cons (Some x) xs h = cc

pub none_line : (place : Place) (line : Line) (rest : List Line) → filter_map fault_of (placed_from place (line ∷ rest)) ≡ []
    → (fault_at line.number place (kind_of (trimmed line.text)) ≡ None) × (filter_map fault_of (placed_from (next_place place (kind_of (trimmed line.text))) rest) ≡ [])
none_line place line rest h = none_cons _ _ (sym (faults_line place line rest (kind_of (trimmed line.text)) refl) ∙ h)

-- the changes of lines, of which the first has its own
changes_line : (seeking : Bool) (place : Place) (line : Line) (rest : List Line)
    → First seeking place (kind_of (trimmed line.text)) (role_at place (kind_of (trimmed line.text))) (map role_of (placed_from (next_place place (kind_of (trimmed line.text))) rest))
changes_line seeking place line rest = first_change seeking place (kind_of (trimmed line.text)) (map role_of (placed_from (next_place place (kind_of (trimmed line.text))) rest))

pub roles_line : (place : Place) (line : Line) (rest : List Line)
    → map role_of (placed_from place (line ∷ rest)) ≡ role_at place (kind_of (trimmed line.text)) ∷ map role_of (placed_from (next_place place (kind_of (trimmed line.text))) rest)
unfolding placed_from placed_at role_of
roles_line place line rest = refl

-- `new` is the line of the UID, `now` are the lines after the changes
pub same_from : (new uid : List ℕ) → kind_of (trimmed new) ≡ Property (codes "UID") uid → length uid ≤ 500
    → (seeking : Bool) (place : Place) (all now : List Line) → filter_map fault_of (placed_from place all) ≡ []
    → map (λ (line : Line). line.text) now ≡ all_changed new (changes seeking (map role_of (placed_from place all))) (map alone (map (λ (line : Line). line.text) all))
    → Same place all now
unfolding placed_from last_place all_changed
same_from new uid named short seeking place [] now fine changed =
    subst (λ (ls : List Line). Same place [] ls) (sym (no_text now changed)) (record { last = refl; fine = refl; kept = refl })
same_from new uid named short seeking place (line ∷ rest) now fine changed =
    let next = next_place place (kind_of (trimmed line.text)) in
    let first = changes_line seeking place line rest in
    let none = none_line place line rest fine in
    by_change new uid named short place line rest none.0
    (all_changed new (changes first.next (map role_of (placed_from next rest))) (map alone (map (λ (line : Line). line.text) rest)))
    (λ more h. same_from new uid named short first.next next rest more none.1 h)
    first.change now first.allowed
    (changed ∙ ap (λ (cs : List Change). all_changed new cs (map alone (map (λ (line : Line). line.text) (line ∷ rest)))) (ap (changes seeking) (roles_line place line rest) ∙ first.is))

-- The last line of an item closes its component, so it stays.
ends_one : (place : Place) (kind : Kind) (change : Change) → Allowed place kind change → next_place place kind ≡ Behind → change ≡ Stays
unfolding Allowed holds_uid
ends_one place kind Stays allowed h = refl
ends_one place kind Replaced allowed h =
    let gives = gives_at place kind allowed in
    absurd (false≢true (ap holds_uid (sym h ∙ gives.stays) ∙ gives.holds))
ends_one place kind Followed allowed h = absurd (false≢true (ap holds_uid (sym h) ∙ opens_at place kind allowed))

ends_more : (change : Change) (next : Bool) (role : Role) (roles : List Role) → EndsStays (changes next (role ∷ roles)) → EndsStays (change ∷ changes next (role ∷ roles))
unfolding changes EndsStays
ends_more change next Opener roles h = h
ends_more change next Giver roles h = h
ends_more change next Other roles h = h

ends_from : (seeking : Bool) (place : Place) (all : List Line) → last_place place all ≡ Behind → EndsStays (changes seeking (map role_of (placed_from place all)))
unfolding placed_from last_place changes EndsStays
ends_from seeking place [] h = tt
ends_from seeking place (line ∷ []) h =
    let first = changes_line seeking place line [] in
    subst EndsStays (sym (ap (changes seeking) (roles_line place line []) ∙ first.is)) (ends_one place (kind_of (trimmed line.text)) first.change first.allowed h)
ends_from seeking place (line ∷ second ∷ rest) h =
    let next = next_place place (kind_of (trimmed line.text)) in
    let first = changes_line seeking place line (second ∷ rest) in
    let later = roles_line next second rest in
    let behind = subst (λ (roles : List Role). EndsStays (changes first.next roles)) later (ends_from first.next next (second ∷ rest) h) in
    subst EndsStays (sym (ap (changes seeking) (roles_line place line (second ∷ rest)) ∙ (first.is ∙ ap (λ (roles : List Role). first.change ∷ changes first.next roles) later)))
    (ends_more first.change first.next (role_at next (kind_of (trimmed second.text))) _ behind)

pub changes_end : (count : ℕ) (all : List Line) → refusal_of count all ≡ None → EndsStays (changes_of (placed all))
unfolding changes_of placed
changes_end count all fine = ends_from false Before all (last_of count all fine)

-- The first line of an item stands before its component, so no UID line is there to be replaced.
begins_one : (kind : Kind) (change : Change) (more : List Change) → Allowed Before kind change → BeginsKept (change ∷ more)
unfolding Allowed BeginsKept holds_uid
begins_one kind Stays more allowed = tt
begins_one kind Replaced more allowed = false≢true (gives_at Before kind allowed).holds
begins_one kind Followed more allowed = tt

pub changes_begin : (all : List Line) → BeginsKept (changes_of (placed all))
unfolding changes_of placed placed_from changes BeginsKept
changes_begin [] = tt
changes_begin (line ∷ rest) =
    let first = changes_line false Before line rest in
    subst BeginsKept (sym (ap (changes false) (roles_line Before line rest) ∙ first.is)) (begins_one (kind_of (trimmed line.text)) first.change _ first.allowed)
