-- Renamed: the UIDs and the children of lines that have another UID.
use Rattle.std.proofs.Common.{◌≡◌, ℕ, ◌<◌, Bool, true, false, cond, ◌&&◌, List, [], ◌∷◌, ◌++◌, map, length, codes, Some, None, nat_lt, refl, sym, ◌∙◌, ap, subst, arith}
use Rattle.std.specs.List.{filter_map, find}
use Rattle.std.specs.Option.{option_map}
use Rattle.std.specs.Str.{bytes_eq}
use Rattle.std.proofs.lemmas.Bool.{and_from}
use Rattle.std.proofs.lemmas.Bool.Decides.{nat_tests}
use Rattle.item_text.specs.Lines.{Line, trimmed}
use Rattle.item_text.specs.Components.{Property, Place, Before, Within, Behind, Placed, placed_at, placed, placed_from, last_place, next_place, kind_of, holds_uid, uid_at, uid_of}
use Rattle.item_text.specs.Refusals.{refusal_of, fault_of_calendar, opens_calendar_at, opens_calendar, mark_of, children}
use Rattle.item_text.specs.Items.{uid_among}
use Rattle.item_text.specs.declared.edit.Role.{Role}
use Rattle.item_text.specs.declared.edit.Role.TheVariants.{Opener, Giver, Other}
use Rattle.item_text.specs.declared.edit.Change.TheVariants.{Stays, Followed}
use Rattle.item_text.specs.Edits.{opens_holder, role_of, gives_uid, changes, changed, all_changed, changes_of}
use Rattle.item_text.proofs.Changes.{alone}
use Rattle.item_text.proofs.Relabelled.{last_of, children_of_fine, property_stays, opens_at, one_text}
use Rattle.item_text.proofs.LineRoles.{Alike, Told, opener_is}
use Rattle.item_text.proofs.Made.{Made, first_named, Family, families, no_calendar_made, calendar_fine, ends, stays, replaced, given, opened, followed}
use Rattle.item_text.proofs.NoHolder.{giver_stands, opens_before}

-- what the lines of an item and those that they are changed to have in common
pub record Names (uid : List ℕ) (all now : List Line) : Type 0 where
  pub named : uid_among (placed now) ≡ Some uid
  pub fine : fault_of_calendar (option_map (λ (line : Placed). line.number) (find opens_calendar (placed now))) (children (placed now)) ≡ None

-- The lines after the changes.

abbrev texts : List Line → List (List ℕ)
texts all = map (λ (line : Line). line.text) all

placed_first : (place next : Place) (now : List Line) (n : Line) (more : List Line) → now ≡ n ∷ more → next_place place (kind_of (trimmed n.text)) ≡ next → placed_from place now ≡ placed_at place n ∷ placed_from next more
unfolding placed_from
placed_first place next now n more h k = ap (placed_from place) h ∙ ap (λ (p : Place). placed_at place n ∷ placed_from p more) k

alike_at : (place : Place) (line other : Line) → other.text ≡ line.text → Alike (placed_at place line) (placed_at place other)
unfolding placed_at
alike_at place line other h = record { same_place = refl; same_kind = ap (λ (t : List ℕ). kind_of (trimmed t)) h }

given_here : (place : Place) (uid : List ℕ) → holds_uid place ≡ true → 0 < length uid → uid_at place (Property (codes "UID") uid) ≡ Some uid
unfolding uid_at
given_here place uid h some =
    let longer : nat_lt 0 (length uid) ≡ true = grind (arith, nat_tests) in
    ap (λ (b : Bool). cond b (Some uid) None) (and_from (holds_uid place && bytes_eq (codes "UID") (codes "UID")) (nat_lt 0 (length uid)) (and_from (holds_uid place) (bytes_eq (codes "UID") (codes "UID")) h refl) longer)

calendar_property : (place : Place) (name value : List ℕ) → opens_calendar_at place (Property name value) ≡ false
unfolding opens_calendar_at
calendar_property Before name value = refl
calendar_property (Within open_names) name value = refl
calendar_property Behind name value = refl

told_at : (new uid : List ℕ) → kind_of (trimmed new) ≡ Property (codes "UID") uid → 0 < length uid → (place : Place) (line : Line) → line.text ≡ new → holds_uid place ≡ true → Told uid (placed_at place line)
unfolding placed_at uid_of opens_calendar opens_holder
told_at new uid named some place line is h =
    let kind_is : kind_of (trimmed line.text) ≡ Property (codes "UID") uid = ap (λ (t : List ℕ). kind_of (trimmed t)) is ∙ named in record {
      gives = ap (uid_at place) kind_is ∙ given_here place uid h some;
      closed = ap (opens_holder place) kind_is;
      no_calendar = ap (opens_calendar_at place) kind_is ∙ calendar_property place (codes "UID") uid;
    }

-- a first line in its place, and what the change makes of it, by what the changes make of those behind it
module _ (new uid : List ℕ) (named : kind_of (trimmed new) ≡ Property (codes "UID") uid) (some : 0 < length uid)
    (place next : Place) (line : Line) (next_is : next_place place (kind_of (trimmed line.text)) ≡ next) (xs : List Placed) (parts : List (List (List ℕ)))
    (behind : (seeking : Bool) (more : List Line) → texts more ≡ all_changed new (changes seeking (map role_of xs)) parts → Made uid seeking xs (placed_from next more)) where
  next_stays : (n : Line) → n.text ≡ line.text → next_place place (kind_of (trimmed n.text)) ≡ next
  next_stays n h = ap (λ (t : List ℕ). next_place place (kind_of (trimmed t))) h ∙ next_is

  next_named : (at : Place) (n : Line) → n.text ≡ new → next_place at (kind_of (trimmed n.text)) ≡ at
  next_named at n h = ap (λ (t : List ℕ). next_place at (kind_of (trimmed t))) h ∙ (ap (next_place at) named ∙ property_stays at (codes "UID") uid)

  opener_holds : role_of (placed_at place line) ≡ Opener → holds_uid next ≡ true
  unfolding placed_at
  opener_holds is = ap holds_uid (sym next_is) ∙ opens_at place (kind_of (trimmed line.text)) (opener_is (placed_at place line) is)

  made_opener : (b seeking : Bool) (now : List Line) → role_of (placed_at place line) ≡ Opener → gives_uid (map role_of xs) ≡ b
      → texts now ≡ changed new (cond b Stays Followed) (line.text ∷ []) ++ all_changed new (changes b (map role_of xs)) parts → Made uid seeking (placed_at place line ∷ xs) (placed_from place now)
  unfolding changed
  made_opener true seeking now is gives h =
      let first = one_text now line.text (all_changed new (changes true (map role_of xs)) parts) h in
      subst (λ (ys : List Placed). Made uid seeking (placed_at place line ∷ xs) ys) (sym (placed_first place next now first.0 first.1 first.2 (next_stays first.0 first.3)))
      (opened is gives (alike_at place line first.0 first.3) (behind true first.1 first.4))
  made_opener false seeking now is gives h =
      let first = one_text now line.text (new ∷ all_changed new (changes false (map role_of xs)) parts) h in
      let second = one_text first.1 new (all_changed new (changes false (map role_of xs)) parts) first.4 in
      subst (λ (ys : List Placed). Made uid seeking (placed_at place line ∷ xs) ys)
      (sym (placed_first place next now first.0 first.1 first.2 (next_stays first.0 first.3)
      ∙ ap (λ (ys : List Placed). placed_at place first.0 ∷ ys) (placed_first next next first.1 second.0 second.1 second.2 (next_named next second.0 second.3))))
      (followed is (alike_at place line first.0 first.3) (told_at new uid named some next second.0 second.3 (opener_holds is)) (behind false second.1 second.4))

  made_line : (role : Role) (seeking : Bool) (now : List Line) → role_of (placed_at place line) ≡ role
      → texts now ≡ all_changed new (changes seeking (role ∷ map role_of xs)) ((line.text ∷ []) ∷ parts) → Made uid seeking (placed_at place line ∷ xs) (placed_from place now)
  unfolding all_changed changes changed placed_at
  made_line Opener seeking now is h = made_opener (gives_uid (map role_of xs)) seeking now is refl h
  made_line Giver true now is h =
      let first = one_text now new (all_changed new (changes false (map role_of xs)) parts) h in
      let gives = giver_stands (placed_at place line) is in
      subst (λ (ys : List Placed). Made uid true (placed_at place line ∷ xs) ys)
      (sym (placed_first place next now first.0 first.1 first.2 (next_named place first.0 first.3 ∙ (sym gives.stays ∙ next_is))))
      (replaced is (told_at new uid named some place first.0 first.3 gives.holds) (behind false first.1 first.4))
  made_line Giver false now is h =
      let first = one_text now line.text (all_changed new (changes false (map role_of xs)) parts) h in
      subst (λ (ys : List Placed). Made uid false (placed_at place line ∷ xs) ys) (sym (placed_first place next now first.0 first.1 first.2 (next_stays first.0 first.3)))
      (given is (alike_at place line first.0 first.3) (behind false first.1 first.4))
  made_line Other seeking now is h =
      let first = one_text now line.text (all_changed new (changes seeking (map role_of xs)) parts) h in
      subst (λ (ys : List Placed). Made uid seeking (placed_at place line ∷ xs) ys) (sym (placed_first place next now first.0 first.1 first.2 (next_stays first.0 first.3)))
      (stays is (alike_at place line first.0 first.3) (behind seeking first.1 first.4))

-- all lines
made_from : (new uid : List ℕ) → kind_of (trimmed new) ≡ Property (codes "UID") uid → 0 < length uid → (seeking : Bool) (place : Place) (all now : List Line)
    → texts now ≡ all_changed new (changes seeking (map role_of (placed_from place all))) (map alone (texts all)) → Made uid seeking (placed_from place all) (placed_from place now)
unfolding placed_from all_changed
made_from new uid named some seeking place [] [] h = ends
made_from new uid named some seeking place [] (line ∷ rest) h = absurd (let clash : line.text ∷ texts rest ≡ [] = h in cc)
made_from new uid named some seeking place (line ∷ rest) now h =
    let next = next_place place (kind_of (trimmed line.text)) in
    made_line new uid named some place next line refl (placed_from next rest) (map alone (texts rest)) (λ s more k. made_from new uid named some s next rest more k)
    (role_of (placed_at place line)) seeking now refl h

began : (all : List Line) → last_place Before all ≡ Behind → last_place Before all ≡ Before → ⊥
began all h k = let clash : Behind ≡ Before = sym h ∙ k in cc

pub renamed : (new uid : List ℕ) → kind_of (trimmed new) ≡ Property (codes "UID") uid → 0 < length uid
    → (count : ℕ) (all now : List Line) → refusal_of count all ≡ None
    → map (λ (line : Line). line.text) now ≡ all_changed new (changes_of (placed all)) (map alone (map (λ (line : Line). line.text) all))
    → Names uid all now
unfolding uid_among placed changes_of children
renamed new uid named some count all now fine changed =
    let made : Made uid false (placed_from Before all) (placed_from Before now) = made_from new uid named some false Before all now changed in
    let family : Family uid (filter_map mark_of (placed_from Before all)) (filter_map mark_of (placed_from Before now)) = families made in record {
      named = first_named made (opens_before all (began all (last_of count all fine)) (children_of_fine count all fine));
      fine = calendar_fine (find opens_calendar (placed all)) (find opens_calendar (placed now)) uid (children (placed all)) (children (placed now)) (no_calendar_made made) (children_of_fine count all fine) family.none_lost family.all_told;
    }
