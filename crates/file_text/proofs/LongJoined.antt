-- LongJoined: whether an item of a joined file is too long, by what is counted of the pieces.
use Rattle.std.proofs.Common.{◌≡◌, ℕ, ◌+◌, ◌<◌, ◌≤◌, Bool, false, ◌||◌, nat_lt, List, [], ◌∷◌, ◌++◌, map, length, take, get_or, refl, sym, ◌∙◌, ap, arith}
use Rattle.std.specs.List.{All, filter, flat_map, list_any}
use Rattle.std.proofs.lemmas.Bool.Decides.{nat_tests}
use Rattle.std.proofs.lemmas.List.{map-append, take_more}
use Rattle.std.proofs.lemmas.List.Elements.{All-head}
use Rattle.item_text.specs.Items.{ItemValue}
use Rattle.file_text.specs.Joining.{IsJoining}
use Rattle.file_text.specs.Joins.{item_marks, calendars, others, first_head, head_of, end_of, zones_of, new_zones, all_zones, children_in, frame_of, joined, is_too_long}
use Rattle.file_text.specs.Lengths.{is_any_longer}
use Rattle.file_text.specs.Parts as parts
use Rattle.file_text.specs.RoundTrips.{AreItems, is_calendar_item}
use Rattle.file_text.specs.Splits.{split}
use Rattle.file_text.specs.Written.{written}
use Rattle.file_text.specs.declared.join.Joining.{Joining}
use Rattle.file_text.specs.declared.marks.Mark.{Mark}
use Rattle.file_text.specs.declared.parts.PartKind.TheVariants as kind
use Rattle.file_text.proofs.ChildUids.{AreOne}
use Rattle.file_text.proofs.ItemLists.{marks_of, whole_all, calendars_are, calendar_items, IsCalendarItem}
use Rattle.file_text.proofs.ItemsAgain.{one}
use Rattle.file_text.proofs.JoinedFiles.{all_in, all_zones_are}
use Rattle.file_text.proofs.LongFiles.{is_any_long, long_calendars, long_joined}
use Rattle.file_text.proofs.SplitAgain.{split_calendars}

-- one item more
pub texts_more : (items : List ItemValue) (i : ℕ) (d item : ItemValue) (text : List ℕ) → i < length items → item ≡ get_or items i d → text ≡ item.text
    → map item_marks (map (λ (item : ItemValue). item.text) (take i items)) ++ item_marks text ∷ [] ≡ map item_marks (map (λ (item : ItemValue). item.text) (take (i + 1) items))
texts_more items i d item text h e same =
    sym (ap (λ (xs : List ItemValue). map item_marks (map (λ (item : ItemValue). item.text) xs)) (take_more items i d h ∙ ap (λ (x : ItemValue). take i items ++ x ∷ []) (sym e))
    ∙ (ap (map item_marks) (map-append (λ (item : ItemValue). item.text) (take i items) (item ∷ []))
    ∙ (map-append item_marks (map (λ (item : ItemValue). item.text) (take i items)) (item.text ∷ []) ∙ ap (λ (t : List ℕ). map item_marks (map (λ (item : ItemValue). item.text) (take i items)) ++ item_marks t ∷ []) (sym same))))

some_child : (all : List (List Mark)) → AreOne (map parts.uid_of all) → (child : List Mark) × (rest : List (List Mark)) × (all ≡ child ∷ rest)
some_child [] h = absurd h
some_child (child ∷ rest) h = (child, rest, refl)

none_less : (n longest : ℕ) → nat_lt 0 longest ≡ false → nat_lt n (0 + 0 + longest) ≡ false
none_less n longest h = grind (arith, nat_tests)

-- the one VCALENDAR
calendars_by : (items : List ItemValue) → All IsCalendarItem items → (longest : ℕ) → ((n : ℕ) → nat_lt n longest ≡ is_any_longer n (all_in kind.Child (map marks_of items)) (all_in kind.Child (map marks_of items)))
    → nat_lt 8388608 (length (first_head (map marks_of items) ++ all_zones (flat_map zones_of (map marks_of items))) + length (end_of (map marks_of items)) + longest) ≡ is_any_long (split_calendars (map marks_of items))
unfolding first_head head_of end_of all_zones new_zones
calendars_by [] are longest told = none_less 8388608 longest (told 0)
calendars_by (item ∷ more) are longest told =
    let all : List (List Mark) = map marks_of (item ∷ more) in
    let is = All-head IsCalendarItem item more are in
    let child = some_child (children_in (marks_of item)) (one item is.0 is.1) in
    ap (λ (t : List ℕ). nat_lt 8388608 (length (first_head all ++ t) + length (end_of all) + longest)) (all_zones_are all)
    ∙ long_calendars (marks_of item) (map marks_of more) longest told child.0 (child.1 ++ all_in kind.Child (map marks_of more)) (ap (λ (cs : List (List Mark)). cs ++ all_in kind.Child (map marks_of more)) child.2)

others_long : (all : List (List Mark)) (longest : ℕ) → ((n : ℕ) → nat_lt n longest ≡ list_any (λ item. nat_lt n (length (written item))) all) → nat_lt 8388608 longest ≡ is_any_long all
others_long all longest told = told 8388608

pub counted_long : (joining : Joining) (items : List ItemValue) → IsJoining joining (map marks_of items) → AreItems items → length (joined (map marks_of items)) ≤ 268435456
    → (nat_lt 8388608 (frame_of (map marks_of items) + joining.lengths.longest) || nat_lt 8388608 joining.longest_other) ≡ is_too_long (split (joined (map marks_of items)))
counted_long joining items is are few =
    let marks : List (List Mark) = map marks_of items in
    let cs : List ItemValue = filter is_calendar_item items in
    let same : calendars marks ≡ map marks_of cs = calendars_are items in
    let told : (n : ℕ) → nat_lt n joining.lengths.longest ≡ is_any_longer n (all_in kind.Child (map marks_of cs)) (all_in kind.Child (map marks_of cs)) =
    λ n. is.children.counted.longest n ∙ ap (λ (ms : List (List Mark)). is_any_longer n (all_in kind.Child ms) (all_in kind.Child ms)) same in
    let first : nat_lt 8388608 (frame_of marks + joining.lengths.longest) ≡ is_any_long (split_calendars (calendars marks)) =
    ap (λ (ms : List (List Mark)). nat_lt 8388608 (length (first_head ms ++ all_zones (flat_map zones_of ms)) + length (end_of ms) + joining.lengths.longest)) same
    ∙ (calendars_by cs (calendar_items items are) joining.lengths.longest told ∙ ap (λ (ms : List (List Mark)). is_any_long (split_calendars ms)) (sym same)) in
    ap (λ (b : Bool). b || nat_lt 8388608 joining.longest_other) first
    ∙ (ap (λ (b : Bool). is_any_long (split_calendars (calendars marks)) || b) (others_long (others marks) joining.longest_other is.longest_other) ∙ sym (long_joined marks (whole_all items are) few))
