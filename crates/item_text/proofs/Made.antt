-- Made: what the changes make of lines in their places: the first UID, the children and the VCALENDAR.
use Rattle.std.proofs.Common.{◌≡◌, ◌⊎◌, inl, inr, ℕ, Bool, true, false, cond, not, List, [], ◌∷◌, map, Option, Some, None, refl, sym, ◌∙◌, ap, subst}
use Rattle.std.specs.List.{filter_map, find, cons_option}
use Rattle.std.specs.Option.{option_map}
use Rattle.std.proofs.lemmas.Bool.{false≢true}
use Rattle.std.proofs.lemmas.Slice.Eq.{bytes_eq-Decides}
use Rattle.item_text.specs.Components.{Place, Placed, uid_of}
use Rattle.item_text.specs.declared.item.ItemError.TheVariants.{TwoUids}
use Rattle.item_text.specs.Refusals.{first_of, calendar_fault, fault_of_calendar, opens_calendar_at, opens_calendar, Mark, Begins, Uid, mark_of, Child, first_uid, children_of, same_uid}
use Rattle.item_text.specs.declared.edit.Role.{Role}
use Rattle.item_text.specs.declared.edit.Role.TheVariants.{Opener, Giver, Other}
use Rattle.item_text.specs.Edits.{role_of, gives_uid}
use Rattle.item_text.proofs.LineRoles.{Alike, Told, opens_first, other_is, same_role, opener_gives_none, other_mark, giver_mark, told_mark, BothBegin, NoneBegins, opener_marks}

-- Lines in their places, and what the changes make of them. `seeking`: the first UID of the component that opened last is still to come.
pub data Made (uid : List ℕ) : Bool → List Placed → List Placed → Type 0 where
  ends : {seeking : Bool} → Made uid seeking [] []
  stays : {seeking : Bool} {x y : Placed} {xs ys : List Placed} → role_of x ≡ Other → Alike x y → Made uid seeking xs ys → Made uid seeking (x ∷ xs) (y ∷ ys)
  replaced : {x y : Placed} {xs ys : List Placed} → role_of x ≡ Giver → Told uid y → Made uid false xs ys → Made uid true (x ∷ xs) (y ∷ ys)
  given : {x y : Placed} {xs ys : List Placed} → role_of x ≡ Giver → Alike x y → Made uid false xs ys → Made uid false (x ∷ xs) (y ∷ ys)
  opened : {seeking : Bool} {x y : Placed} {xs ys : List Placed} → role_of x ≡ Opener → gives_uid (map role_of xs) ≡ true → Alike x y → Made uid true xs ys → Made uid seeking (x ∷ xs) (y ∷ ys)
  followed : {seeking : Bool} {x y z : Placed} {xs ys : List Placed} → role_of x ≡ Opener → Alike x y → Told uid z → Made uid false xs ys → Made uid seeking (x ∷ xs) (y ∷ z ∷ ys)

-- The first UID, and the first UID of the first child.

-- new lines whose first UID is this one, and whose first mark is it
record Heads (uid : List ℕ) (ys : List Placed) : Type 0 where
  first_is : first_of (filter_map uid_of ys) ≡ Some uid
  mark_is : first_uid (filter_map mark_of ys) ≡ Some uid

heads_told : (uid : List ℕ) (y : Placed) (ys : List Placed) → Told uid y → Heads uid (y ∷ ys)
unfolding first_of first_uid
heads_told uid y ys told = record {
  first_is = ap (λ (o : Option (List ℕ)). first_of (cons_option o (filter_map uid_of ys))) told.gives;
  mark_is = ap (λ (o : Option Mark). first_uid (cons_option o (filter_map mark_of ys))) (told_mark uid y told);
}

heads_other : (uid : List ℕ) (y : Placed) (ys : List Placed) → role_of y ≡ Other → Heads uid ys → Heads uid (y ∷ ys)
heads_other uid y ys h heads = record {
  first_is = ap (λ (o : Option (List ℕ)). first_of (cons_option o (filter_map uid_of ys))) (other_is y h).1 ∙ heads.first_is;
  mark_is = ap (λ (o : Option Mark). first_uid (cons_option o (filter_map mark_of ys))) (other_mark y h) ∙ heads.mark_is;
}

gives_behind : (x : Placed) (xs : List Placed) (role : Role) → role_of x ≡ role → gives_uid (map role_of (x ∷ xs)) ≡ gives_uid (role ∷ map role_of xs)
gives_behind x xs role h = ap (λ (r : Role). gives_uid (r ∷ map role_of xs)) h

opener_gives_no : (x : Placed) (xs : List Placed) → role_of x ≡ Opener → gives_uid (map role_of (x ∷ xs)) ≡ false
unfolding gives_uid
opener_gives_no x xs h = gives_behind x xs Opener h

other_gives : (x : Placed) (xs : List Placed) → role_of x ≡ Other → gives_uid (map role_of (x ∷ xs)) ≡ gives_uid (map role_of xs)
unfolding gives_uid
other_gives x xs h = gives_behind x xs Other h

-- where a UID is sought and is given, the first is the new one
heads_sought : {uid : List ℕ} {seeking : Bool} {xs ys : List Placed} → Made uid seeking xs ys → seeking ≡ true → gives_uid (map role_of xs) ≡ true → Heads uid ys
unfolding gives_uid
heads_sought ends s g = absurd (false≢true g)
heads_sought {uid = uid} (stays {x = x} {y = y} {xs = xs} {ys = ys} h alike more) s g =
    heads_other uid y ys (same_role x y Other h alike) (heads_sought more s (sym (other_gives x xs h) ∙ g))
heads_sought {uid = uid} (replaced {y = y} {ys = ys} h told more) s g = heads_told uid y ys told
heads_sought (given h alike more) s g = absurd (false≢true s)
heads_sought (opened {x = x} {xs = xs} h k alike more) s g = absurd (false≢true (sym (opener_gives_no x xs h) ∙ g))
heads_sought (followed {x = x} {xs = xs} h alike told more) s g = absurd (false≢true (sym (opener_gives_no x xs h) ∙ g))

first_silent : (y : Placed) (ys : List Placed) → uid_of y ≡ None → first_of (filter_map uid_of (y ∷ ys)) ≡ first_of (filter_map uid_of ys)
first_silent y ys h = ap (λ (o : Option (List ℕ)). first_of (cons_option o (filter_map uid_of ys))) h

pub opens_behind : (x : Placed) (xs : List Placed) (role : Role) → role_of x ≡ role → opens_first (map role_of (x ∷ xs)) ≡ opens_first (role ∷ map role_of xs)
opens_behind x xs role h = ap (λ (r : Role). opens_first (r ∷ map role_of xs)) h

giver_opens_no : (x : Placed) (xs : List Placed) → role_of x ≡ Giver → opens_first (map role_of (x ∷ xs)) ≡ false
unfolding opens_first
giver_opens_no x xs h = opens_behind x xs Giver h

pub other_opens : (x : Placed) (xs : List Placed) → role_of x ≡ Other → opens_first (map role_of (x ∷ xs)) ≡ opens_first (map role_of xs)
unfolding opens_first
other_opens x xs h = opens_behind x xs Other h

-- where a component that holds a UID opens first, the first UID is the new one
pub first_named : {uid : List ℕ} {seeking : Bool} {xs ys : List Placed} → Made uid seeking xs ys → opens_first (map role_of xs) ≡ true → first_of (filter_map uid_of ys) ≡ Some uid
unfolding opens_first
first_named ends g = absurd (false≢true g)
first_named (stays {x = x} {y = y} {xs = xs} {ys = ys} h alike more) g =
    first_silent y ys (other_is y (same_role x y Other h alike)).1 ∙ first_named more (sym (other_opens x xs h) ∙ g)
first_named (replaced {x = x} {xs = xs} h told more) g = absurd (false≢true (sym (giver_opens_no x xs h) ∙ g))
first_named (given {x = x} {xs = xs} h alike more) g = absurd (false≢true (sym (giver_opens_no x xs h) ∙ g))
first_named (opened {x = x} {y = y} {ys = ys} h k alike more) g =
    first_silent y ys (opener_gives_none y (same_role x y Opener h alike)) ∙ (heads_sought more refl k).first_is
first_named {uid = uid} (followed {x = x} {y = y} {z = z} {ys = ys} h alike told more) g =
    first_silent y (z ∷ ys) (opener_gives_none y (same_role x y Opener h alike)) ∙ (heads_told uid z ys told).first_is

-- The children.

-- whether each child has this UID
unfoldable pub AllTold : List ℕ → List Child → Type 0
AllTold uid [] = Unit {0}
AllTold uid (child ∷ rest) = (child.uid ≡ Some uid) × AllTold uid rest

-- the children of marks before and after the changes
pub record Family (uid : List ℕ) (was now : List Mark) : Type 0 where
  pub all_told : AllTold uid (children_of now)
  pub none_lost : children_of now ≡ [] → children_of was ≡ []

no_family : (uid : List ℕ) → Family uid [] []
unfolding AllTold children_of
no_family uid = record { all_told = tt; none_lost = λ h. refl }

family_given : (uid u v : List ℕ) (was now : List Mark) → Family uid was now → Family uid (Uid u ∷ was) (Uid v ∷ now)
unfolding children_of
family_given uid u v was now family = record { all_told = family.all_told; none_lost = family.none_lost }

family_begun : (uid : List ℕ) (x y : ℕ) (was now : List Mark) → first_uid now ≡ Some uid → Family uid was now → Family uid (Begins x ∷ was) (Begins y ∷ now)
unfolding children_of AllTold
family_begun uid x y was now h family = record { all_told = (h, family.all_told); none_lost = λ k. absurd (let clash : record { number = y; uid = first_uid now } ∷ children_of now ≡ [] = k in cc) }

family_followed : (uid v : List ℕ) (was now : List Mark) → Family uid was now → Family uid was (Uid v ∷ now)
unfolding children_of
family_followed uid v was now family = record { all_told = family.all_told; none_lost = family.none_lost }

-- lists of marks, each one mark more
family_by : (uid : List ℕ) (m n o p : Option Mark) (was now : List Mark) → m ≡ o → n ≡ p → Family uid (cons_option o was) (cons_option p now) → Family uid (cons_option m was) (cons_option n now)
family_by uid m n o p was now h k family =
    subst (λ (a : Option Mark). Family uid (cons_option a was) (cons_option n now)) (sym h) (subst (λ (a : Option Mark). Family uid (cons_option o was) (cons_option a now)) (sym k) family)

family_opened : (uid : List ℕ) (m n : Option Mark) (x y : ℕ) (was now : List Mark) → NoneBegins m n ⊎ BothBegin m n x y → first_uid now ≡ Some uid → Family uid was now → Family uid (cons_option m was) (cons_option n now)
family_opened uid m n x y was now (inl none) h family = family_by uid m n None None was now none.first none.second family
family_opened uid m n x y was now (inr both) h family = family_by uid m n (Some (Begins x)) (Some (Begins y)) was now both.first both.second (family_begun uid x y was now h family)

-- the changes lose no child, and give each the new UID
pub families : {uid : List ℕ} {seeking : Bool} {xs ys : List Placed} → Made uid seeking xs ys → Family uid (filter_map mark_of xs) (filter_map mark_of ys)
families {uid = uid} ends = no_family uid
families {uid = uid} (stays {x = x} {y = y} {xs = xs} {ys = ys} h alike more) =
    family_by uid (mark_of x) (mark_of y) None None (filter_map mark_of xs) (filter_map mark_of ys) (other_mark x h) (other_mark y (same_role x y Other h alike)) (families more)
families {uid = uid} (replaced {x = x} {y = y} {xs = xs} {ys = ys} h told more) =
    let old = giver_mark x h in
    family_by uid (mark_of x) (mark_of y) (Some (Uid old.0)) (Some (Uid uid)) (filter_map mark_of xs) (filter_map mark_of ys) old.1 (told_mark uid y told)
    (family_given uid old.0 uid (filter_map mark_of xs) (filter_map mark_of ys) (families more))
families {uid = uid} (given {x = x} {y = y} {xs = xs} {ys = ys} h alike more) =
    let old = giver_mark x h in
    let kept = giver_mark y (same_role x y Giver h alike) in
    family_by uid (mark_of x) (mark_of y) (Some (Uid old.0)) (Some (Uid kept.0)) (filter_map mark_of xs) (filter_map mark_of ys) old.1 kept.1
    (family_given uid old.0 kept.0 (filter_map mark_of xs) (filter_map mark_of ys) (families more))
families {uid = uid} (opened {x = x} {y = y} {xs = xs} {ys = ys} h k alike more) =
    family_opened uid (mark_of x) (mark_of y) x.number y.number (filter_map mark_of xs) (filter_map mark_of ys) (opener_marks x y h alike) (heads_sought more refl k).mark_is (families more)
families {uid = uid} (followed {x = x} {y = y} {z = z} {xs = xs} {ys = ys} h alike told more) =
    family_opened uid (mark_of x) (mark_of y) x.number y.number (filter_map mark_of xs) (filter_map mark_of (z ∷ ys)) (opener_marks x y h alike) (heads_told uid z ys told).mark_is
    (family_by uid None (mark_of z) None (Some (Uid uid)) (filter_map mark_of xs) (filter_map mark_of ys) refl (told_mark uid z told)
    (family_followed uid uid (filter_map mark_of xs) (filter_map mark_of ys) (families more)))

-- The VCALENDAR.

find_behind : (b : Bool) (x : Placed) (o : Option Placed) → cond b (Some x) o ≡ None → (b ≡ false) × (o ≡ None)
find_behind true x o h = absurd (let clash : Some x ≡ None = h in cc)
find_behind false x o h = (refl, h)

same_calendar : (x y : Placed) → Alike x y → opens_calendar y ≡ opens_calendar x
unfolding opens_calendar
same_calendar x y alike = ap (λ (p : Place). opens_calendar_at p y.kind) alike.same_place ∙ ap (opens_calendar_at x.place) alike.same_kind

missed : (y : Placed) (ys : List Placed) → opens_calendar y ≡ false → find opens_calendar ys ≡ None → find opens_calendar (y ∷ ys) ≡ None
missed y ys h k = ap (λ (b : Bool). cond b (Some y) (find opens_calendar ys)) h ∙ k

missed_alike : (x y : Placed) (xs ys : List Placed) → Alike x y → (find opens_calendar xs ≡ None → find opens_calendar ys ≡ None) → find opens_calendar (x ∷ xs) ≡ None → find opens_calendar (y ∷ ys) ≡ None
missed_alike x y xs ys alike more h =
    let parts = find_behind (opens_calendar x) x (find opens_calendar xs) h in
    missed y ys (same_calendar x y alike ∙ parts.0) (more parts.1)

pub no_calendar_made : {uid : List ℕ} {seeking : Bool} {xs ys : List Placed} → Made uid seeking xs ys → find opens_calendar xs ≡ None → find opens_calendar ys ≡ None
no_calendar_made ends g = refl
no_calendar_made (stays {x = x} {y = y} {xs = xs} {ys = ys} h alike more) g = missed_alike x y xs ys alike (no_calendar_made more) g
no_calendar_made (replaced {x = x} {y = y} {xs = xs} {ys = ys} h told more) g = missed y ys told.no_calendar (no_calendar_made more (find_behind (opens_calendar x) x (find opens_calendar xs) g).1)
no_calendar_made (given {x = x} {y = y} {xs = xs} {ys = ys} h alike more) g = missed_alike x y xs ys alike (no_calendar_made more) g
no_calendar_made (opened {x = x} {y = y} {xs = xs} {ys = ys} h k alike more) g = missed_alike x y xs ys alike (no_calendar_made more) g
no_calendar_made (followed {x = x} {y = y} {z = z} {xs = xs} {ys = ys} h alike told more) g =
    missed_alike x y xs (z ∷ ys) alike (λ (k : find opens_calendar xs ≡ None). missed z ys told.no_calendar (no_calendar_made more k)) g

same_told : (a b : Option (List ℕ)) (uid : List ℕ) → a ≡ Some uid → b ≡ Some uid → not (same_uid a b) ≡ false
unfolding same_uid
same_told a b uid h k =
    ap (λ (o : Option (List ℕ)). not (same_uid o b)) h ∙ (ap (λ (o : Option (List ℕ)). not (same_uid (Some uid) o)) k ∙ ap not ((bytes_eq-Decides uid uid).1 refl))

none_other : (first : Child) (uid : List ℕ) → first.uid ≡ Some uid → (all : List Child) → AllTold uid all → find (λ (other : Child). not (same_uid first.uid other.uid)) all ≡ None
unfolding AllTold
none_other first uid h [] told = refl
none_other first uid h (child ∷ rest) told =
    ap (λ (b : Bool). cond b (Some child) (find (λ (other : Child). not (same_uid first.uid other.uid)) rest)) (same_told first.uid child.uid uid h told.0) ∙ none_other first uid h rest told.1

children_fine : (number : ℕ) (uid : List ℕ) (all : List Child) → (all ≡ [] → ⊥) → AllTold uid all → calendar_fault number all ≡ None
unfolding calendar_fault AllTold
children_fine number uid [] some told = absurd (some refl)
children_fine number uid (child ∷ []) some told = refl
children_fine number uid (child ∷ second ∷ more) some told =
    ap (option_map (λ (other : Child). TwoUids other.number)) (none_other child uid told.0 (child ∷ second ∷ more) told)

-- a VCALENDAR without a refusal has a child
pub some_child : (number : ℕ) (all : List Child) → calendar_fault number all ≡ None → all ≡ [] → ⊥
unfolding calendar_fault
some_child number [] h e = cc
some_child number (child ∷ rest) h e = cc

pub calendar_fine : (was now : Option Placed) (uid : List ℕ) (old new : List Child) → (was ≡ None → now ≡ None) → fault_of_calendar (option_map (λ (line : Placed). line.number) was) old ≡ None → (new ≡ [] → old ≡ []) → AllTold uid new
    → fault_of_calendar (option_map (λ (line : Placed). line.number) now) new ≡ None
unfolding fault_of_calendar
calendar_fine was None uid old new h fine lost told = refl
calendar_fine None (Some y) uid old new h fine lost told = absurd (let clash : Some y ≡ None = h refl in cc)
calendar_fine (Some x) (Some y) uid old new h fine lost told = children_fine y.number uid new (λ (e : new ≡ []). some_child x.number old fine (lost e)) told
