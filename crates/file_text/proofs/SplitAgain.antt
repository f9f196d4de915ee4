-- SplitAgain: a joined file, split.
use Rattle.std.proofs.Common.{◌≡◌, ◌⊎◌, inl, inr, ℕ, ◌≤◌, Bool, true, false, cond, not, List, [], ◌∷◌, ◌++◌, map, length, codes, is_some, refl, sym, ◌∙◌, ap, subst, append-nil}
use Rattle.std.specs.List.{All, flat_map}
use Rattle.std.proofs.lemmas.List.{map-append}
use Rattle.std.proofs.lemmas.List.Concat.{flat_map-append}
use Rattle.std.proofs.lemmas.List.Elements.{All-nil, All-cons, All-head, All-tail, All-append}
use Rattle.item_text.specs.Lines.{physical_lines, logical_lines}
use Rattle.item_text.specs.Components.{Kind, Opens, Closes, Property, Blank, kind_of, Place, Before, Within, Behind, outside_of, next_place, uid_at, is_timezone}
use Rattle.item_text.specs.Components as components
use Rattle.file_text.specs.Joins.{calendars, others, joined}
use Rattle.file_text.specs.Joins as joins
use Rattle.file_text.specs.Marks.{role_at, mark_texts}
use Rattle.file_text.specs.Parts.{begins, cut, head_role, parts_of, groups}
use Rattle.file_text.specs.Splits.{calendar_head, calendar_text, calendar_texts, texts_of, texts_by, read_behind, split}
use Rattle.file_text.specs.Unfolds.{IsLine, AreLines}
use Rattle.file_text.specs.Written.{folded, written, all_written}
use Rattle.file_text.specs.declared.marks.Mark.{Mark}
use Rattle.file_text.specs.declared.marks.Role.{Role}
use Rattle.file_text.specs.declared.marks.Role.TheVariants as role
use Rattle.file_text.specs.declared.parts.Level.TheVariants as level
use Rattle.file_text.specs.declared.parts.PartKind.TheVariants as kind
use Rattle.file_text.proofs.AgainRead.{all_lines, are_lines, first_opens, written_utf8, have_texts}
use Rattle.file_text.proofs.Components.{IsPart, IsSegment, AreInner, cut_segments, nothing_behind}
use Rattle.file_text.proofs.JoinedFiles.{IsVcalendar, vcalendar_of, other_of, parts_in, all_in, each_part, all_parts, all_of_kind, zones_kept, kept_in, first_parts, one_calendar, file_of, joined_is, written_made}
use Rattle.file_text.proofs.MadeFiles.{Calendar, begin_mark, end_mark, made, made_run, cut_component, AreOf, parts_within, of_parts, properties_among, zones_among, children_among}
use Rattle.file_text.proofs.Runs.{concat, IsRun, HaveTexts, file_reads}
use Rattle.file_text.proofs.Splitting.{text_file, file_taken}

abbrev pub IsWhole : List Mark → Type 0
IsWhole marks = IsRun Before marks Behind

vcalendars_by : (b : Bool) (marks : List Mark) (rest : List (List Mark)) → joins.is_calendar (head_role marks) ≡ b → IsWhole marks → All IsVcalendar rest → All IsVcalendar (cond b (marks ∷ rest) rest)
vcalendars_by true marks rest h run more = All-cons IsVcalendar marks rest (vcalendar_of marks run h) more
vcalendars_by false marks rest h run more = more

pub vcalendars : (items : List (List Mark)) → All IsWhole items → All IsVcalendar (calendars items)
unfolding calendars
vcalendars [] are = All-nil IsVcalendar
vcalendars (marks ∷ rest) are =
    vcalendars_by (joins.is_calendar (head_role marks)) marks (calendars rest) refl (All-head IsWhole marks rest are) (vcalendars rest (All-tail IsWhole marks rest are))

-- a component that is no VCALENDAR
abbrev pub IsOther : List Mark → Type 0
IsOther marks = IsWhole marks × (head_role marks ≡ role.Other)

others_by : (b : Bool) (marks : List Mark) (rest : List (List Mark)) → joins.is_calendar (head_role marks) ≡ b → IsWhole marks → All IsOther rest → All IsOther (cond (not b) (marks ∷ rest) rest)
others_by true marks rest h run more = more
others_by false marks rest h run more = All-cons IsOther marks rest (run, other_of marks run h) more

pub are_others : (items : List (List Mark)) → All IsWhole items → All IsOther (others items)
unfolding others
are_others [] are = All-nil IsOther
are_others (marks ∷ rest) are =
    others_by (joins.is_calendar (head_role marks)) marks (others rest) refl (All-head IsWhole marks rest are) (are_others rest (All-tail IsWhole marks rest are))

pub others_whole : (all : List (List Mark)) → All IsOther all → All IsWhole all
others_whole [] are = All-nil IsWhole
others_whole (marks ∷ rest) are = All-cons IsWhole marks rest (All-head IsOther marks rest are).0 (others_whole rest (All-tail IsOther marks rest are))

-- the one VCALENDAR
module _ (first : List Mark) (more : List (List Mark)) (are : All IsVcalendar (first ∷ more)) where
  pub properties : All (IsPart Calendar) (parts_in kind.Property first)
  properties = each_part kind.Property first (All-head IsVcalendar first more are)

  pub zones : All (IsPart Calendar) (kept_in (first ∷ more))
  zones = (zones_kept (all_in kind.Zone (first ∷ more))).parts (all_parts kind.Zone (first ∷ more) are)

  pub are_zones : AreOf kind.Zone (kept_in (first ∷ more))
  are_zones = (zones_kept (all_in kind.Zone (first ∷ more))).zone (all_of_kind kind.Zone (first ∷ more))

  pub with_children : (children : List (List Mark)) → All (IsPart Calendar) children → All (IsPart Calendar) (parts_in kind.Property first ++ (kept_in (first ∷ more) ++ children))
  with_children children each =
      All-append (IsPart Calendar) (parts_in kind.Property first) (kept_in (first ∷ more) ++ children) properties (All-append (IsPart Calendar) (kept_in (first ∷ more)) children zones each)

  pub one_run : IsWhole (made (parts_in kind.Property first ++ (kept_in (first ∷ more) ++ all_in kind.Child (first ∷ more))))
  one_run = made_run (parts_in kind.Property first ++ (kept_in (first ∷ more) ++ all_in kind.Child (first ∷ more))) (with_children (all_in kind.Child (first ∷ more)) (all_parts kind.Child (first ∷ more) are))

one_whole : (all : List (List Mark)) → All IsVcalendar all → All IsWhole (one_calendar all)
one_whole [] are = All-nil IsWhole
one_whole (first ∷ more) are = All-cons IsWhole (made (first_parts (first ∷ more) ++ (kept_in (first ∷ more) ++ all_in kind.Child (first ∷ more)))) [] (one_run first more are) (All-nil IsWhole)

pub file_whole : (items : List (List Mark)) → All IsWhole items → All IsWhole (file_of items)
file_whole items are =
    All-append IsWhole (one_calendar (calendars items)) (others items) (one_whole (calendars items) (vcalendars items are)) (others_whole (others items) (are_others items are))

-- the lines of a file of components
texts_both : (xs ys : List Mark) → mark_texts (xs ++ ys) ≡ mark_texts xs ++ mark_texts ys
texts_both xs ys = map-append (λ (mark : Mark). mark.text) xs ys

every_line : (all : List (List Mark)) → All IsWhole all → All IsLine (mark_texts (concat all))
every_line [] are = All-nil IsLine
every_line (marks ∷ rest) are =
    subst (λ (ts : List (List ℕ)). All IsLine ts) (sym (texts_both marks (concat rest)))
    (All-append IsLine (mark_texts marks) (mark_texts (concat rest)) (all_lines Before Behind marks (All-head IsWhole marks rest are)) (every_line rest (All-tail IsWhole marks rest are)))

first_line : (marks : List Mark) (rest : List Mark) → IsWhole marks → AreLines (mark_texts marks) → All IsLine (mark_texts (marks ++ rest)) → AreLines (mark_texts (marks ++ rest))
first_line [] rest run are all = absurd (cc)
first_line (mark ∷ marks) rest run are all = (are.0, all)

pub file_lines : (all : List (List Mark)) → All IsWhole all → AreLines (mark_texts (concat all))
file_lines [] are = tt
file_lines (marks ∷ rest) are =
    let run : IsWhole marks = All-head IsWhole marks rest are in
    first_line marks (concat rest) run (are_lines marks run) (every_line (marks ∷ rest) are)

-- the components of a file
inner_by : (b : Bool) → begins level.File (cond b role.Uid role.Deep) ≡ false
unfolding begins
inner_by true = refl
inner_by false = refl

zone_by : (b : Bool) → begins level.File (cond b role.Zone role.Child) ≡ false
unfolding begins
zone_by true = refl
zone_by false = refl

inner_role : (names : List (List ℕ)) (kind : Kind) → begins level.File (role_at (Within names) kind) ≡ false
unfolding role_at begins
inner_role [] kind = inner_by (is_some (uid_at (Within []) kind))
inner_role (top ∷ []) (Opens name) = zone_by (is_timezone name)
inner_role (top ∷ []) (Closes name) = refl
inner_role (top ∷ []) (Property name value) = refl
inner_role (top ∷ []) Blank = refl
inner_role (a ∷ b ∷ more) kind = inner_by (is_some (uid_at (Within (a ∷ b ∷ more)) kind))

outside_is : (names : List (List ℕ)) → (outside_of names ≡ Behind) ⊎ ((more : List (List ℕ)) × (outside_of names ≡ Within more))
unfolding outside_of
outside_is [] = inl refl
outside_is (name ∷ []) = inl refl
outside_is (name ∷ outer ∷ more) = inr (outer ∷ more, refl)

pub next_is : (names : List (List ℕ)) (kind : Kind) → (next_place (Within names) kind ≡ Behind) ⊎ ((more : List (List ℕ)) × (next_place (Within names) kind ≡ Within more))
unfolding next_place
next_is names (Opens name) = inr (name ∷ names, refl)
next_is names (Closes name) = outside_is names
next_is names (Property name value) = inr (names, refl)
next_is names Blank = inr (names, refl)

inner_rest : (next : Place) (rest : List Mark) → (next ≡ Behind) ⊎ ((more : List (List ℕ)) × (next ≡ Within more)) → IsRun next rest Behind → ((more : List (List ℕ)) → IsRun (Within more) rest Behind → AreInner level.File rest) → AreInner level.File rest
inner_rest next rest (inl h) run again =
    let none : rest ≡ [] = nothing_behind rest (subst (λ (p : Place). IsRun p rest Behind) h run) in
    subst (λ (ms : List Mark). AreInner level.File ms) (sym none) (All-nil (λ (mark : Mark). begins level.File mark.role ≡ false))
inner_rest next rest (inr h) run again = again h.0 (subst (λ (p : Place). IsRun p rest Behind) h.1 run)

inner_file : (names : List (List ℕ)) (marks : List Mark) → IsRun (Within names) marks Behind → AreInner level.File marks
inner_file names [] run = absurd (cc)
inner_file names (mark ∷ rest) run =
    All-cons (λ (mark : Mark). begins level.File mark.role ≡ false) mark rest (ap (begins level.File) run.0.role ∙ inner_role names (kind_of mark.text))
    (inner_rest (next_place (Within names) (kind_of mark.text)) rest (next_is names (kind_of mark.text)) run.1 (λ more r. inner_file more rest r))

first_by : (b : Bool) → begins level.File (cond b role.Calendar role.Other) ≡ true
unfolding begins
first_by true = refl
first_by false = refl

file_segment : (marks : List Mark) → IsWhole marks → IsSegment level.File marks
unfolding role_at next_place
file_segment [] run = absurd (cc)
file_segment (mark ∷ rest) run =
    let name = first_opens mark run.0 in
    record {
      head = mark;
      rest = rest;
      is = refl;
      first = ap (begins level.File) (run.0.role ∙ ap (role_at Before) name.1) ∙ first_by (components.is_calendar name.0);
      inner = inner_file (name.0 ∷ []) rest (subst (λ (k : Kind). IsRun (next_place Before k) rest Behind) name.1 run.1);
    }

file_segments : (all : List (List Mark)) → All IsWhole all → All (IsSegment level.File) all
file_segments [] are = All-nil (IsSegment level.File)
file_segments (marks ∷ rest) are = All-cons (IsSegment level.File) marks rest (file_segment marks (All-head IsWhole marks rest are)) (file_segments rest (All-tail IsWhole marks rest are))

-- the texts that the one VCALENDAR is split into
module _ (properties zones children : List (List Mark)) (each : All (IsPart Calendar) (properties ++ (zones ++ children))) (are_properties : AreOf kind.Property properties) (are_zones : AreOf kind.Zone zones) (are_children : AreOf kind.Child children) where
  cut_made : cut level.Component (made (properties ++ (zones ++ children))) ≡ (begin_mark ∷ []) ∷ ((properties ++ (zones ++ children)) ++ (end_mark ∷ []) ∷ [])
  unfolding begins
  cut_made = cut_component Calendar begin_mark end_mark (properties ++ (zones ++ children)) refl refl each

  made_properties : parts_in kind.Property (made (properties ++ (zones ++ children))) ≡ properties
  made_properties = ap (parts_of kind.Property) cut_made ∙ (parts_within kind.Property begin_mark end_mark (properties ++ (zones ++ children)) refl refl ∙ properties_among properties zones children are_properties are_zones are_children)

  made_zones : parts_in kind.Zone (made (properties ++ (zones ++ children))) ≡ zones
  made_zones = ap (parts_of kind.Zone) cut_made ∙ (parts_within kind.Zone begin_mark end_mark (properties ++ (zones ++ children)) refl refl ∙ zones_among properties zones children are_properties are_zones are_children)

  pub made_children : parts_in kind.Child (made (properties ++ (zones ++ children))) ≡ children
  made_children = ap (parts_of kind.Child) cut_made ∙ (parts_within kind.Child begin_mark end_mark (properties ++ (zones ++ children)) refl refl ∙ children_among properties zones children are_properties are_zones are_children)

  group_text : (group : List (List Mark)) → calendar_text (calendar_head (cut level.Component (made (properties ++ (zones ++ children))))) group ≡ written (made (properties ++ (zones ++ group)))
  unfolding calendar_text calendar_head
  group_text group =
      ap (λ (ps : List (List Mark)). (((folded (codes "BEGIN:VCALENDAR") ++ all_written ps) ++ all_written (parts_in kind.Zone (made (properties ++ (zones ++ children))))) ++ all_written group) ++ folded (codes "END:VCALENDAR")) made_properties
      ∙ (ap (λ (ps : List (List Mark)). (((folded (codes "BEGIN:VCALENDAR") ++ all_written properties) ++ all_written ps) ++ all_written group) ++ folded (codes "END:VCALENDAR")) made_zones
      ∙ sym (written_made properties zones group))

  group_texts : (all : List (List (List Mark))) → map (calendar_text (calendar_head (cut level.Component (made (properties ++ (zones ++ children)))))) all ≡ map written (map (λ (group : List (List Mark)). made (properties ++ (zones ++ group))) all)
  group_texts [] = refl
  group_texts (group ∷ rest) =
      ap (λ (t : List ℕ). t ∷ map (calendar_text (calendar_head (cut level.Component (made (properties ++ (zones ++ children)))))) rest) (group_text group)
      ∙ ap (λ (ts : List (List ℕ)). written (made (properties ++ (zones ++ group))) ∷ ts) (group_texts rest)

  pub made_texts : texts_of (made (properties ++ (zones ++ children))) ≡ map written (map (λ (group : List (List Mark)). made (properties ++ (zones ++ group))) (groups children))
  unfolding texts_of texts_by calendar_texts head_role
  made_texts =
      ap (λ (ps : List (List Mark)). map (calendar_text (calendar_head (cut level.Component (made (properties ++ (zones ++ children)))))) (groups ps)) made_children ∙ group_texts (groups children)

-- what a joined file is split into
abbrev pub split_calendars : List (List Mark) → List (List Mark)
split_calendars [] = []
split_calendars (first ∷ more) = map (λ (group : List (List Mark)). made (parts_in kind.Property first ++ (kept_in (first ∷ more) ++ group))) (groups (all_in kind.Child (first ∷ more)))

abbrev pub split_items : List (List Mark) → List (List Mark)
split_items items = split_calendars (calendars items) ++ others items

one_texts : (all : List (List Mark)) → All IsVcalendar all → flat_map texts_of (one_calendar all) ≡ map written (split_calendars all)
one_texts [] are = refl
one_texts (first ∷ more) are =
    append-nil (texts_of (made (parts_in kind.Property first ++ (kept_in (first ∷ more) ++ all_in kind.Child (first ∷ more)))))
    ∙ made_texts (parts_in kind.Property first) (kept_in (first ∷ more)) (all_in kind.Child (first ∷ more)) (with_children first more are (all_in kind.Child (first ∷ more)) (all_parts kind.Child (first ∷ more) are))
    (of_parts kind.Property (cut level.Component first)) (are_zones first more are) (all_of_kind kind.Child (first ∷ more))

other_texts : (all : List (List Mark)) → All IsOther all → flat_map texts_of all ≡ map written all
unfolding texts_of texts_by
other_texts [] are = refl
other_texts (marks ∷ rest) are =
    ap (λ (r : Role). texts_by r marks ++ flat_map texts_of rest) (All-head IsOther marks rest are).1 ∙ ap (λ (ts : List (List ℕ)). written marks ∷ ts) (other_texts rest (All-tail IsOther marks rest are))

pub split_joined : (items : List (List Mark)) → All IsWhole items → length (joined items) ≤ 268435456 → split (joined items) ≡ read_behind [] (map written (split_items items))
split_joined items are few =
    let file : List (List Mark) = file_of items in
    let whole : All IsWhole file = file_whole items are in
    let lines : AreLines (mark_texts (concat file)) = file_lines file whole in
    let texts : HaveTexts (logical_lines (written (concat file))) (concat file) = have_texts (concat file) lines in
    let reads = file_reads file (logical_lines (written (concat file))) whole texts in
    ap split (joined_is items)
    ∙ (text_file (written (concat file)) (subst (λ (t : List ℕ). length t ≤ 268435456) (joined_is items) few) (written_utf8 (concat file) (every_line file whole))
    ∙ (sym (file_taken (written (concat file)) (length (physical_lines (written (concat file)))) (logical_lines (written (concat file))) refl refl (concat file) file (reads.fine (length (physical_lines (written (concat file))))) (sym reads.are)
    (sym (cut_segments level.File file (file_segments file whole))))
    ∙ ap (read_behind [])
    (flat_map-append texts_of (one_calendar (calendars items)) (others items)
    ∙ (ap (λ (ts : List (List ℕ)). ts ++ flat_map texts_of (others items)) (one_texts (calendars items) (vcalendars items are))
    ∙ (ap (λ (ts : List (List ℕ)). map written (split_calendars (calendars items)) ++ ts) (other_texts (others items) (are_others items are))
    ∙ sym (map-append written (split_calendars (calendars items)) (others items)))))))
