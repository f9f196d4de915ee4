-- AllAgain: every item of a joined file reads.
use Rattle.std.proofs.Common.{◌≡◌, ◌⊎◌, inl, inr, ℕ, ◌<◌, ◌≤◌, Bool, true, false, cond, List, [], ◌∷◌, ◌++◌, map, length, Option, Some, None, Result, Ok, refl, sym, ◌∙◌, ap, subst, append_assoc, append-nil}
use Rattle.std.specs.List.{All, cons_option, find}
use Rattle.std.specs.Option.{option_map}
use Rattle.std.proofs.lemmas.Bool.{cases_lt}
use Rattle.std.proofs.lemmas.List.Elements.{All-nil, All-cons, All-head, All-tail, All-append, All-filter}
use Rattle.item_text.specs.Components.{Kind, Opens, Closes, kind_of, Place, Before, Within, Behind, Placed, placed, placed_from, next_place, uid_at}
use Rattle.item_text.specs.Components as components
use Rattle.item_text.specs.Items.{ItemValue, read_item}
use Rattle.item_text.specs.Refusals.{Child, children, mark_or, begins_child, fault_of_calendar, opens_calendar, opens_calendar_at}
use Rattle.item_text.specs.declared.item.ItemError.{ItemError}
use Rattle.file_text.specs.Joins.{calendars, others, is_too_long}
use Rattle.file_text.specs.Marks.{role_at}
use Rattle.file_text.specs.Parts.{head_role, is_of, parts_of, groups}
use Rattle.file_text.specs.Parts as parts
use Rattle.file_text.specs.Splits.{go_on, read_behind}
use Rattle.file_text.specs.Written.{written}
use Rattle.file_text.specs.declared.marks.Mark.{Mark}
use Rattle.file_text.specs.declared.marks.Role.{Role}
use Rattle.file_text.specs.declared.marks.Role.TheVariants as role
use Rattle.file_text.specs.declared.parts.PartKind.TheVariants as kind
use Rattle.file_text.proofs.AgainRead.{first_opens, item_again, ReadsAgain, reads_again}
use Rattle.file_text.proofs.ChildUids.{quiet_marks, marks, opening, none_opened, child_uids, uids_of, uids_walk, AreOne, of_one, children_tell}
use Rattle.file_text.proofs.Components.{IsPart, Directly, nothing_behind}
use Rattle.file_text.proofs.GroupsApart.{IsGroup, each_group}
use Rattle.file_text.proofs.JoinedFiles.{IsVcalendar, parts_in, all_in, all_parts, all_of_kind, kept_in}
use Rattle.file_text.proofs.MadeFiles.{Calendar, begin_mark, end_mark, begin_kind, end_kind, made, made_run, AreOf, of_parts, children_among}
use Rattle.file_text.proofs.Runs.{concat, IsRun}
use Rattle.file_text.proofs.SplitAgain.{IsWhole, IsOther, vcalendars, are_others, split_calendars, split_items, are_zones, with_children, next_is}
use Rattle.file_text.proofs.Tellings.{told, walk_told, framed}

-- a child of a VCALENDAR
abbrev pub IsChild : List Mark → Type 0
IsChild part = IsPart Calendar part × (is_of kind.Child (head_role part) ≡ true)

pub child_parts : (all : List (List Mark)) → All IsChild all → All (IsPart Calendar) all
child_parts [] are = All-nil (IsPart Calendar)
child_parts (part ∷ rest) are = All-cons (IsPart Calendar) part rest (All-head IsChild part rest are).0 (child_parts rest (All-tail IsChild part rest are))

pub child_roles : (all : List (List Mark)) → All IsChild all → AreOf kind.Child all
child_roles [] are = All-nil (λ (part : List Mark). is_of kind.Child (head_role part) ≡ true)
child_roles (part ∷ rest) are = All-cons (λ (part : List Mark). is_of kind.Child (head_role part) ≡ true) part rest (All-head IsChild part rest are).1 (child_roles rest (All-tail IsChild part rest are))

pub are_children : (all : List (List Mark)) → All (IsPart Calendar) all → AreOf kind.Child all → All IsChild all
are_children [] are roles = All-nil IsChild
are_children (part ∷ rest) are roles =
    let P : List Mark → Type 0 = λ part. is_of kind.Child (head_role part) ≡ true in
    All-cons IsChild part rest (All-head (IsPart Calendar) part rest are, All-head P part rest roles) (are_children rest (All-tail (IsPart Calendar) part rest are) (All-tail P part rest roles))

no_first : (text : List ℕ) → marks Before text (Opens Calendar) ≡ None
unfolding marks mark_or begins_child uid_at
no_first text = refl

no_last : (text : List ℕ) → marks (Directly Calendar) text (Closes Calendar) ≡ None
unfolding marks mark_or begins_child uid_at
no_last text = refl

-- the UIDs of the children, as all lines of a VCALENDAR tell them
pub calendar_uids : (head last : Mark) (all : List (List Mark)) → kind_of head.text ≡ Opens Calendar → kind_of last.text ≡ Closes Calendar → All (IsPart Calendar) all
    → child_uids (told marks Before (head ∷ (concat all ++ last ∷ []))) ≡ map parts.uid_of (parts_of kind.Child all)
unfolding parts_of
calendar_uids head last all opens ends are =
    let inside : List (Option (List ℕ)) = told marks (Directly Calendar) (concat (parts_of kind.Child all)) in
    ap child_uids (framed marks quiet_marks head last all opens ends are
    ∙ (ap (λ (o : Option (Option (List ℕ))). cons_option o (inside ++ cons_option (marks (Directly Calendar) last.text (Closes Calendar)) [])) (no_first head.text)
    ∙ (ap (λ (o : Option (Option (List ℕ))). inside ++ cons_option o []) (no_last last.text) ∙ append-nil inside)))
    ∙ (children_tell (parts_of kind.Child all) (All-filter (λ part. is_of kind.Child (head_role part)) (IsPart Calendar) all are) (of_parts kind.Child all)).0

fault_by : (calendar : Option ℕ) (all : List Child) → AreOne (uids_of all) → fault_of_calendar calendar all ≡ None
unfolding fault_of_calendar
fault_by None all one = refl
fault_by (Some number) all one = of_one number all one

-- a VCALENDAR of one item's children reads again
pub calendar_reads : (all group : List (List Mark)) → All (IsPart Calendar) all → parts_of kind.Child all ≡ group → AreOne (map parts.uid_of group) → ReadsAgain (made all)
calendar_reads all group are is one =
    let run : IsWhole (made all) = made_run all are in
    reads_again (made all) run (λ lines texts. fault_by (option_map (λ (line : Placed). line.number) (find opens_calendar (placed lines))) (children (placed lines))
    (subst (λ (us : List (Option (List ℕ))). AreOne us)
    (sym (uids_walk lines ∙ (ap child_uids (walk_told marks Before Behind lines (made all) run texts) ∙ (calendar_uids begin_mark end_mark all begin_kind end_kind are ∙ ap (map parts.uid_of) is)))) one))

-- a component that is no VCALENDAR reads again
inner_rest : (next : Place) (rest : List Mark) → (next ≡ Behind) ⊎ ((more : List (List ℕ)) × (next ≡ Within more)) → IsRun next rest Behind → ((more : List (List ℕ)) → IsRun (Within more) rest Behind → told opening (Within more) rest ≡ []) → told opening next rest ≡ []
inner_rest next rest (inl h) run again = ap (told opening next) (nothing_behind rest (subst (λ (p : Place). IsRun p rest Behind) h run))
inner_rest next rest (inr h) run again = ap (λ (p : Place). told opening p rest) h.1 ∙ again h.0 (subst (λ (p : Place). IsRun p rest Behind) h.1 run)

inner_opens : (names : List (List ℕ)) (lines : List Mark) → IsRun (Within names) lines Behind → told opening (Within names) lines ≡ []
unfolding opening opens_calendar_at
inner_opens names [] run = refl
inner_opens names (mark ∷ rest) run = inner_rest (next_place (Within names) (kind_of mark.text)) rest (next_is names (kind_of mark.text)) run.1 (λ more r. inner_opens more rest r)

no_calendar : (b : Bool) → ◌≡◌ {A = Role} (cond b role.Calendar role.Other) role.Other → b ≡ false
no_calendar true h = cc
no_calendar false h = refl

other_opens : (lines : List Mark) → IsOther lines → told opening Before lines ≡ []
unfolding opening opens_calendar_at head_role role_at next_place
other_opens [] other = refl
other_opens (mark ∷ rest) other =
    let name = first_opens mark other.0.0 in
    let none : components.is_calendar name.0 ≡ false = no_calendar (components.is_calendar name.0) (sym (other.0.0.role ∙ ap (role_at Before) name.1) ∙ other.1) in
    ap (λ (k : Kind). cons_option (opening Before mark.text k) (told opening (next_place Before k) rest)) name.1
    ∙ (ap (λ (b : Bool). cons_option (cond b (Some []) None) (told opening (Within (name.0 ∷ [])) rest)) none ∙ inner_opens (name.0 ∷ []) rest (subst (λ (k : Kind). IsRun (next_place Before k) rest Behind) name.1 other.0.1))

pub other_reads : (lines : List Mark) → IsOther lines → ReadsAgain lines
unfolding fault_of_calendar placed
other_reads marks_of other =
    reads_again marks_of other.0 (λ lines texts. ap (λ (found : Option Placed). fault_of_calendar (option_map (λ (line : Placed). line.number) found) (children (placed lines)))
    (none_opened Before lines (walk_told opening Before Behind lines marks_of other.0 texts ∙ other_opens marks_of other)))

groups_read : (first : List Mark) (more : List (List Mark)) → All IsVcalendar (first ∷ more) → (all : List (List (List Mark))) → All (IsGroup IsChild) all
    → All ReadsAgain (map (λ (group : List (List Mark)). made (parts_in kind.Property first ++ (kept_in (first ∷ more) ++ group))) all)
groups_read first more are [] each = All-nil ReadsAgain
groups_read first more are (group ∷ rest) each =
    let one : IsGroup IsChild group = All-head (IsGroup IsChild) group rest each in
    let all : List (List Mark) = parts_in kind.Property first ++ (kept_in (first ∷ more) ++ group) in
    All-cons ReadsAgain (made all) (map (λ (group : List (List Mark)). made (parts_in kind.Property first ++ (kept_in (first ∷ more) ++ group))) rest)
    (calendar_reads all group (with_children first more are group (child_parts group one.each)) (children_among (parts_in kind.Property first) (kept_in (first ∷ more)) group (of_parts kind.Property _) (are_zones first more are) (child_roles group one.each)) one.one)
    (groups_read first more are rest (All-tail (IsGroup IsChild) group rest each))

calendars_read : (all : List (List Mark)) → All IsVcalendar all → All ReadsAgain (split_calendars all)
calendars_read [] are = All-nil ReadsAgain
calendars_read (first ∷ more) are =
    groups_read first more are (groups (all_in kind.Child (first ∷ more))) (each_group IsChild (all_in kind.Child (first ∷ more)) (are_children (all_in kind.Child (first ∷ more)) (all_parts kind.Child (first ∷ more) are) (all_of_kind kind.Child (first ∷ more))))

others_read : (all : List (List Mark)) → All IsOther all → All ReadsAgain all
others_read [] are = All-nil ReadsAgain
others_read (marks_of ∷ rest) are = All-cons ReadsAgain marks_of rest (other_reads marks_of (All-head IsOther marks_of rest are)) (others_read rest (All-tail IsOther marks_of rest are))

-- every item of a joined file reads
pub all_read : (items : List (List Mark)) → All IsWhole items → All ReadsAgain (split_items items)
all_read items are = All-append ReadsAgain (split_calendars (calendars items)) (others items) (calendars_read (calendars items) (vcalendars items are)) (others_read (others items) (are_others items are))

read_by : (old : List ItemValue) (lines : List Mark) (rest : List (List Mark)) → ReadsAgain lines → (8388608 < length (written lines)) ⊎ (length (written lines) ≤ 8388608) → is_too_long (read_behind old (written lines ∷ map written rest)) ≡ false
    → (is_too_long (read_behind (old ++ item_again lines ∷ []) (map written rest)) ≡ false → read_behind (old ++ item_again lines ∷ []) (map written rest) ≡ Ok ((old ++ item_again lines ∷ []) ++ map item_again rest))
    → read_behind old (written lines ∷ map written rest) ≡ Ok (old ++ (item_again lines ∷ map item_again rest))
unfolding read_behind go_on
read_by old lines rest reads (inl long) none again =
    absurd (true_false (sym (ap (λ (r : Result ItemValue ItemError). is_too_long (go_on r (λ item. read_behind (old ++ item ∷ []) (map written rest)))) (reads.long long)) ∙ none))
  where
    true_false : true ≡ false → ⊥
    true_false h = cc
read_by old lines rest reads (inr short) none again =
    let here : go_on (read_item (written lines)) (λ item. read_behind (old ++ item ∷ []) (map written rest)) ≡ read_behind (old ++ item_again lines ∷ []) (map written rest) =
    ap (λ (r : Result ItemValue ItemError). go_on r (λ item. read_behind (old ++ item ∷ []) (map written rest))) (reads.short short) in
    here ∙ (again (sym (ap is_too_long here) ∙ none) ∙ ap (λ (is : List ItemValue). Ok is) (append_assoc old (item_again lines ∷ []) (map item_again rest)))

-- where none is too long, all items are read
pub read_whole : (old : List ItemValue) (all : List (List Mark)) → All ReadsAgain all → is_too_long (read_behind old (map written all)) ≡ false → read_behind old (map written all) ≡ Ok (old ++ map item_again all)
unfolding read_behind
read_whole old [] are none = ap (λ (is : List ItemValue). Ok is) (sym (append-nil old))
read_whole old (lines ∷ rest) are none =
    read_by old lines rest (All-head ReadsAgain lines rest are) (cases_lt 8388608 (length (written lines))) none (λ more. read_whole (old ++ item_again lines ∷ []) rest (All-tail ReadsAgain lines rest are) more)
