-- ItemLists: the items of a joined file are like those that were joined.
use Rattle.std.proofs.Common.{◌≡◌, ℕ, ◌≤◌, Bool, true, false, cond, not, nat_lt, List, [], ◌∷◌, ◌++◌, map, length, Option, Some, None, Result, Ok, Err, refl, sym, ◌∙◌, ap, subst, arith}
use Rattle.std.specs.List.{All, IsDistinct, AllByRecursion, filter}
use Rattle.std.specs.Str.{bytes_eq}
use Rattle.std.proofs.lemmas.Bool.Decides.{nat_tests}
use Rattle.std.proofs.lemmas.List.{map-append}
use Rattle.std.proofs.lemmas.List.Elements.{All-nil, All-cons, All-head, All-tail}
use Rattle.item_text.specs.Items.{ItemValue, item_of}
use Rattle.item_text.specs.Refusals.{same_uid}
use Rattle.item_text.specs.declared.item.ItemError.{ItemError}
use Rattle.item_text.specs.declared.item.ItemError.TheVariants.{TooLong}
use Rattle.file_text.specs.Joins.{item_marks, calendars, others, joined, join, limited, is_too_long}
use Rattle.file_text.specs.RoundTrips.{AreItems, is_calendar_item, in_file_order, idents, versions, SplitsLike}
use Rattle.file_text.specs.Splits.{read_behind, split}
use Rattle.file_text.specs.Written.{written}
use Rattle.file_text.specs.declared.marks.Mark.{Mark}
use Rattle.file_text.specs.declared.parts.PartKind.TheVariants as kind
use Rattle.file_text.proofs.AgainRead.{item_again}
use Rattle.file_text.proofs.AllAgain.{all_read, read_whole, child_parts, child_roles}
use Rattle.file_text.proofs.Components.{IsPart}
use Rattle.file_text.proofs.GroupsApart.{IsOneItem, one_item, key_of, keys, IsApart, groups_apart}
use Rattle.file_text.proofs.ItemsAgain.{IsLike, whole, again_like, own_children, one, ident_is, made_like}
use Rattle.file_text.proofs.JoinedFiles.{IsVcalendar, parts_in, kept_in}
use Rattle.file_text.proofs.MadeFiles.{Calendar, made, AreOf, of_parts, children_among}
use Rattle.file_text.proofs.SplitAgain.{IsWhole, split_items, split_calendars, split_joined, vcalendars, with_children, are_zones}

abbrev pub marks_of : ItemValue → List Mark
marks_of item = item_marks item.text

abbrev IsItem : ItemValue → Type 0
IsItem item = item_of item.text ≡ Some item

abbrev children_in : List Mark → List (List Mark)
children_in marks = parts_in kind.Child marks

pub whole_all : (items : List ItemValue) → AreItems items → All IsWhole (map marks_of items)
whole_all [] are = All-nil IsWhole
whole_all (item ∷ rest) are = All-cons IsWhole (marks_of item) (map marks_of rest) (whole item (All-head IsItem item rest are)) (whole_all rest (All-tail IsItem item rest are))

kept_by : (b : Bool) (item : ItemValue) (rest : List ItemValue) (more : List (List Mark)) → more ≡ map marks_of rest → cond b (marks_of item ∷ more) more ≡ map marks_of (cond b (item ∷ rest) rest)
kept_by true item rest more h = ap (λ (ms : List (List Mark)). marks_of item ∷ ms) h
kept_by false item rest more h = h

pub calendars_are : (items : List ItemValue) → calendars (map marks_of items) ≡ map marks_of (filter is_calendar_item items)
unfolding calendars
calendars_are [] = refl
calendars_are (item ∷ rest) = kept_by (is_calendar_item item) item (filter is_calendar_item rest) (calendars (map marks_of rest)) (calendars_are rest)

abbrev is_other_item : ItemValue → Bool
is_other_item item = not (is_calendar_item item)

others_are : (items : List ItemValue) → others (map marks_of items) ≡ map marks_of (filter is_other_item items)
unfolding others
others_are [] = refl
others_are (item ∷ rest) = kept_by (is_other_item item) item (filter is_other_item rest) (others (map marks_of rest)) (others_are rest)

-- the items that are a VCALENDAR
abbrev pub IsCalendarItem : ItemValue → Type 0
IsCalendarItem item = IsItem item × (is_calendar_item item ≡ true)

calendar_by : (b : Bool) (item : ItemValue) (rest : List ItemValue) → is_calendar_item item ≡ b → IsItem item → All IsCalendarItem rest → All IsCalendarItem (cond b (item ∷ rest) rest)
calendar_by true item rest h is more = All-cons IsCalendarItem item rest (is, h) more
calendar_by false item rest h is more = more

pub calendar_items : (items : List ItemValue) → AreItems items → All IsCalendarItem (filter is_calendar_item items)
calendar_items [] are = All-nil IsCalendarItem
calendar_items (item ∷ rest) are = calendar_by (is_calendar_item item) item (filter is_calendar_item rest) refl (All-head IsItem item rest are) (calendar_items rest (All-tail IsItem item rest are))

other_by : (b : Bool) (item : ItemValue) (rest : List ItemValue) → IsItem item → All IsItem rest → All IsItem (cond b (item ∷ rest) rest)
other_by true item rest is more = All-cons IsItem item rest is more
other_by false item rest is more = more

other_items : (items : List ItemValue) → AreItems items → All IsItem (filter is_other_item items)
other_items [] are = All-nil IsItem
other_items (item ∷ rest) are = other_by (is_other_item item) item (filter is_other_item rest) (All-head IsItem item rest are) (other_items rest (All-tail IsItem item rest are))

-- the UIDs of items whose idents differ, differ
differ : (key other : Option (List ℕ)) (ident name : List ℕ) → ((uid : List ℕ) → key ≡ Some uid → ident ≡ uid) → ((uid : List ℕ) → other ≡ Some uid → name ≡ uid) → bytes_eq ident name ≡ false → same_uid key other ≡ false
unfolding same_uid
differ None other ident name named again h = refl
differ (Some uid) None ident name named again h = refl
differ (Some uid) (Some next) ident name named again h = ap (λ (u : List ℕ). bytes_eq u next) (sym (named uid refl)) ∙ (ap (bytes_eq ident) (sym (again next refl)) ∙ h)

abbrev Differs : Option (List ℕ) → Option (List ℕ) → Type 0
Differs key other = same_uid key other ≡ false

later_by : (b : Bool) (key : Option (List ℕ)) (item : ItemValue) (rest : List ItemValue) → (b ≡ true → same_uid key (key_of (children_in (marks_of item))) ≡ false) → All (Differs key) (keys children_in (map marks_of rest))
    → All (Differs key) (keys children_in (map marks_of (cond b (item ∷ rest) rest)))
later_by true key item rest here more = All-cons (Differs key) (key_of (children_in (marks_of item))) (keys children_in (map marks_of rest)) (here refl) more
later_by false key item rest here more = more

later_differ : (key : Option (List ℕ)) (ident : List ℕ) → ((uid : List ℕ) → key ≡ Some uid → ident ≡ uid) → (items : List ItemValue) → AreItems items → AllByRecursion (λ (name : List ℕ). bytes_eq ident name ≡ false) (idents items)
    → All (Differs key) (keys children_in (map marks_of (filter is_calendar_item items)))
later_differ key ident named [] are apart = All-nil (Differs key)
later_differ key ident named (item ∷ rest) are apart =
    let is : IsItem item = All-head IsItem item rest are in
    later_by (is_calendar_item item) key item (filter is_calendar_item rest) (λ calendar. differ key (key_of (children_in (marks_of item))) ident item.ident named (ident_is item is calendar) apart.0)
    (later_differ key ident named rest (All-tail IsItem item rest are) apart.1)

apart_by : (b : Bool) (item : ItemValue) (rest : List ItemValue) → (b ≡ true → All (Differs (key_of (children_in (marks_of item)))) (keys children_in (map marks_of rest))) → IsApart (keys children_in (map marks_of rest)) → IsApart (keys children_in (map marks_of (cond b (item ∷ rest) rest)))
apart_by true item rest here more = (here refl, more)
apart_by false item rest here more = more

keys_apart : (items : List ItemValue) → AreItems items → IsDistinct bytes_eq (idents items) → IsApart (keys children_in (map marks_of (filter is_calendar_item items)))
unfolding IsDistinct
keys_apart [] are distinct = tt
keys_apart (item ∷ rest) are distinct =
    let is : IsItem item = All-head IsItem item rest are in
    let more : AreItems rest = All-tail IsItem item rest are in
    apart_by (is_calendar_item item) item (filter is_calendar_item rest) (λ calendar. later_differ (key_of (children_in (marks_of item))) item.ident (ident_is item is calendar) rest more distinct.0) (keys_apart rest more distinct.1)

each_one : (items : List ItemValue) → All IsCalendarItem items → All (λ (marks : List Mark). IsOneItem (children_in marks) (key_of (children_in marks))) (map marks_of items)
each_one [] are = All-nil (λ (marks : List Mark). IsOneItem (children_in marks) (key_of (children_in marks)))
each_one (item ∷ rest) are =
    let is = All-head IsCalendarItem item rest are in
    All-cons (λ (marks : List Mark). IsOneItem (children_in marks) (key_of (children_in marks))) (marks_of item) (map marks_of rest) (one_item (children_in (marks_of item)) (one item is.0 is.1)) (each_one rest (All-tail IsCalendarItem item rest are))

-- items of the same idents and versions
pub record AreLike (items other : List ItemValue) : Type 0 where
  pub same_idents : idents items ≡ idents other
  pub same_versions : versions items ≡ versions other

like_more : (item other : ItemValue) (items others : List ItemValue) → IsLike item other → AreLike items others → AreLike (item ∷ items) (other ∷ others)
like_more item other items others one more = record {
  same_idents = ap (λ (i : List ℕ). i ∷ idents items) one.same_ident ∙ ap (λ (is : List (List ℕ)). other.ident ∷ is) more.same_idents;
  same_versions = ap (λ (v : List ℕ). v ∷ versions items) one.same_version ∙ ap (λ (vs : List (List ℕ)). other.version ∷ vs) more.same_versions;
}

like_both : (items other more rest : List ItemValue) → AreLike items other → AreLike more rest → AreLike (items ++ more) (other ++ rest)
like_both items other more rest first second = record {
  same_idents =
      map-append (λ (item : ItemValue). item.ident) items more
      ∙ (ap (λ (is : List (List ℕ)). is ++ idents more) first.same_idents ∙ (ap (λ (is : List (List ℕ)). idents other ++ is) second.same_idents ∙ sym (map-append (λ (item : ItemValue). item.ident) other rest)));
  same_versions =
      map-append (λ (item : ItemValue). item.version) items more
      ∙ (ap (λ (vs : List (List ℕ)). vs ++ versions more) first.same_versions ∙ (ap (λ (vs : List (List ℕ)). versions other ++ vs) second.same_versions ∙ sym (map-append (λ (item : ItemValue). item.version) other rest)));
}

others_like : (items : List ItemValue) → All IsItem items → AreLike (map item_again (map marks_of items)) items
others_like [] are = record { same_idents = refl; same_versions = refl }
others_like (item ∷ rest) are =
    let is : IsItem item = All-head IsItem item rest are in
    like_more (item_again (marks_of item)) item (map item_again (map marks_of rest)) rest (again_like item is (marks_of item) (whole item is) refl refl) (others_like rest (All-tail IsItem item rest are))

module _ (properties zones : List (List Mark)) (with : (children : List (List Mark)) → All (IsPart Calendar) children → All (IsPart Calendar) (properties ++ (zones ++ children))) (are_properties : AreOf kind.Property properties) (are_kept : AreOf kind.Zone zones) where
  calendars_like : (items : List ItemValue) → All IsCalendarItem items → AreLike (map item_again (map (λ (group : List (List Mark)). made (properties ++ (zones ++ group))) (map children_in (map marks_of items)))) items
  calendars_like [] are = record { same_idents = refl; same_versions = refl }
  calendars_like (item ∷ rest) are =
      let is = All-head IsCalendarItem item rest are in
      let own = own_children item is.0 is.1 in
      like_more (item_again (made (properties ++ (zones ++ children_in (marks_of item))))) item (map item_again (map (λ (group : List (List Mark)). made (properties ++ (zones ++ group))) (map children_in (map marks_of rest)))) rest
      (made_like item is.0 is.1 (properties ++ (zones ++ children_in (marks_of item))) (with (children_in (marks_of item)) (child_parts (children_in (marks_of item)) own)) (children_among properties zones (children_in (marks_of item)) are_properties are_kept (child_roles (children_in (marks_of item)) own)))
      (calendars_like rest (All-tail IsCalendarItem item rest are))

split_like : (items : List ItemValue) → All IsCalendarItem items → IsApart (keys children_in (map marks_of items)) → All IsVcalendar (map marks_of items) → AreLike (map item_again (split_calendars (map marks_of items))) items
split_like [] are apart v = record { same_idents = refl; same_versions = refl }
split_like (item ∷ more) are apart v =
    let all : List ItemValue = item ∷ more in
    subst (λ (gs : List (List (List Mark))). AreLike (map item_again (map (λ (group : List (List Mark)). made (parts_in kind.Property (marks_of item) ++ (kept_in (map marks_of all) ++ group))) gs)) all)
    (sym (groups_apart children_in (map marks_of all) (each_one all are) apart))
    (calendars_like (parts_in kind.Property (marks_of item)) (kept_in (map marks_of all)) (with_children (marks_of item) (map marks_of more) v) (of_parts kind.Property _) (are_zones (marks_of item) (map marks_of more) v) all are)

limited_by : (long too : Bool) (file other : List ℕ) → ◌≡◌ {A = Result (List ℕ) ItemError} (cond long (Err TooLong) (cond too (Err TooLong) (Ok file))) (Ok other) → (long ≡ false) × (too ≡ false) × (file ≡ other)
limited_by true too file other h = absurd (cc)
limited_by false true file other h = absurd (cc)
limited_by false false file other h = (refl, refl, cc)

not_long : (n m : ℕ) → nat_lt n m ≡ false → m ≤ n
not_long n m h = grind (arith, nat_tests)

pub texts_marks : (items : List ItemValue) → map item_marks (map (λ (item : ItemValue). item.text) items) ≡ map marks_of items
texts_marks [] = refl
texts_marks (item ∷ rest) = ap (λ (ms : List (List Mark)). marks_of item ∷ ms) (texts_marks rest)

all_like : (items : List ItemValue) → AreItems items → IsDistinct bytes_eq (idents items) → AreLike (map item_again (split_items (map marks_of items))) (in_file_order items)
all_like items are distinct =
    let marks : List (List Mark) = map marks_of items in
    let cs : List ItemValue = filter is_calendar_item items in
    let os : List ItemValue = filter is_other_item items in
    let first : AreLike (map item_again (split_calendars (calendars marks))) cs =
    subst (λ (ms : List (List Mark)). AreLike (map item_again (split_calendars ms)) cs) (sym (calendars_are items))
    (split_like cs (calendar_items items are) (keys_apart items are distinct) (subst (λ (ms : List (List Mark)). All IsVcalendar ms) (calendars_are items) (vcalendars marks (whole_all items are)))) in
    let second : AreLike (map item_again (others marks)) os = subst (λ (ms : List (List Mark)). AreLike (map item_again ms) os) (sym (others_are items)) (others_like os (other_items items are)) in
    subst (λ (is : List ItemValue). AreLike is (cs ++ os)) (sym (map-append item_again (split_calendars (calendars marks)) (others marks)))
    (like_both (map item_again (split_calendars (calendars marks))) cs (map item_again (others marks)) os first second)

pub joined_again : (items : List ItemValue) (file : List ℕ) → AreItems items → IsDistinct bytes_eq (idents items) → join (map (λ (item : ItemValue). item.text) items) ≡ Ok file → SplitsLike file (in_file_order items)
unfolding join limited
joined_again items file are distinct h =
    let marks : List (List Mark) = map marks_of items in
    let bytes : List ℕ = joined marks in
    let limits = limited_by (nat_lt 268435456 (length bytes)) (is_too_long (split bytes)) bytes file (sym (ap limited (ap joined (texts_marks items))) ∙ h) in
    let runs : All IsWhole marks = whole_all items are in
    let split_is : split bytes ≡ read_behind [] (map written (split_items marks)) = split_joined marks runs (not_long 268435456 (length bytes) limits.0) in
    let read : read_behind [] (map written (split_items marks)) ≡ Ok (map item_again (split_items marks)) = read_whole [] (split_items marks) (all_read marks runs) (sym (ap is_too_long split_is) ∙ limits.1) in
    let like = all_like items are distinct in
    record {
      again = map item_again (split_items marks);
      are = ap split (sym limits.2) ∙ (split_is ∙ read);
      same_idents = like.same_idents;
      same_versions = like.same_versions;
    }
