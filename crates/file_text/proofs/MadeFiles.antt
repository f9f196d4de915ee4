-- MadeFiles: VCALENDARs that are made of parts, and files of components, cut and read again.
use Rattle.std.proofs.Common.{◌≡◌, ℕ, zero, suc, ◌==◌, ◌<◌, Bool, true, false, cond, not, ◌&&◌, nat_eq, nat_lt, length, drop, List, [], ◌∷◌, ◌++◌, codes, refl, sym, ◌∙◌, ap, subst, append-nil, eqb-true, arith}
use Rattle.std.specs.List.{All, starts_with}
use Rattle.std.specs.Str.{IsAscii}
use Rattle.std.proofs.lemmas.List.Elements.{All-nil, All-cons, All-head, All-tail, All-append, filter-append, filter_passes}
use Rattle.std.proofs.lemmas.Str.{IsUtf8-nil, IsUtf8-append, IsUtf8-from_ascii}
use Rattle.std.proofs.lemmas.Bool.{and_parts}
use Rattle.std.proofs.lemmas.Bool.Decides.{nat_tests}
use Rattle.item_text.specs.Lines.{trimmed, trim_front, trim_back, before_trimmed}
use Rattle.item_text.specs.Components.{Kind, Opens, Closes, Property, Blank, kind_of, Before, Behind, outside_of, next_place, upper, begins_with, name_of, value_of}
use Rattle.item_text.specs.Refusals.{closes, fault_at}
use Rattle.file_text.specs.Marks.{role_at}
use Rattle.file_text.specs.Parts.{begins, cut, head_role, is_of, parts_of}
use Rattle.file_text.specs.Unfolds.{HasNoMark}
use Rattle.file_text.specs.declared.marks.Mark.{Mark}
use Rattle.file_text.specs.declared.marks.Role.{Role}
use Rattle.file_text.specs.declared.marks.Role.TheVariants as role
use Rattle.file_text.specs.declared.parts.Level.TheVariants as level
use Rattle.file_text.specs.declared.parts.PartKind.{PartKind}
use Rattle.file_text.specs.declared.parts.PartKind.TheVariants as kind
use Rattle.file_text.proofs.PlainLines.{IsPlain}
use Rattle.file_text.proofs.Runs.{concat, concat_both, IsAt, IsRun, run_both}
use Rattle.file_text.proofs.Components.{IsPart, part_run, part_segment, IsSegment, cut_segments, Directly}

abbrev pub Calendar : List ℕ
Calendar = codes "VCALENDAR"

abbrev pub begin_mark : Mark
begin_mark = record { text = codes "BEGIN:VCALENDAR"; role = role.Calendar }

abbrev pub end_mark : Mark
end_mark = record { text = codes "END:VCALENDAR"; role = role.End }

pub begin_kind : kind_of (codes "BEGIN:VCALENDAR") ≡ Opens Calendar
unfolding kind_of trimmed trim_front trim_back before_trimmed
begin_kind = refl

pub end_kind : kind_of (codes "END:VCALENDAR") ≡ Closes Calendar
unfolding kind_of trimmed trim_front trim_back before_trimmed
end_kind = refl

-- ASCII without a line feed
abbrev plain_ascii : List ℕ → Bool
plain_ascii [] = true
plain_ascii (b ∷ bs) = nat_lt b 128 && (not (nat_eq b 10) && plain_ascii bs)

ascii_one : (b : ℕ) → b < 128 → IsAscii (b ∷ [])
ascii_one b h zero = h
ascii_one b h (suc i) = omega arith

not_true : (b : Bool) → not b ≡ true → b ≡ false
not_true true h = cc
not_true false h = refl

plain_of : (text : List ℕ) → plain_ascii text ≡ true → IsPlain text
plain_of [] h = record { utf8 = IsUtf8-nil; no_feed = All-nil (λ b. nat_eq b 10 ≡ false) }
plain_of (b ∷ bs) h =
    let first = and_parts (nat_lt b 128) (not (nat_eq b 10) && plain_ascii bs) h in
    let second = and_parts (not (nat_eq b 10)) (plain_ascii bs) first.1 in
    let more : IsPlain bs = plain_of bs second.1 in
    let below : b < 128 = grind (arith, nat_tests) in
    record { utf8 = IsUtf8-append (b ∷ []) bs (IsUtf8-from_ascii (b ∷ []) (ascii_one b below)) more.utf8; no_feed = All-cons (λ b. nat_eq b 10 ≡ false) b bs (not_true (nat_eq b 10) second.0) more.no_feed }

begin_at : IsAt Before begin_mark
unfolding trimmed trim_front trim_back before_trimmed role_at fault_at
begin_at = record {
  plain = plain_of (codes "BEGIN:VCALENDAR") refl;
  trim = refl;
  some = λ h. opens_some (sym begin_kind ∙ h);
  role = sym (ap (role_at Before) begin_kind);
  fine = λ n. ap (fault_at n Before) begin_kind;
}
  where
    opens_some : Opens Calendar ≡ Blank → ⊥
    opens_some h = cc

end_at : IsAt (Directly Calendar) end_mark
unfolding trimmed trim_front trim_back before_trimmed role_at fault_at closes
end_at = record {
  plain = plain_of (codes "END:VCALENDAR") refl;
  trim = refl;
  some = λ h. closes_some (sym end_kind ∙ h);
  role = sym (ap (role_at (Directly Calendar)) end_kind);
  fine = λ n. ap (fault_at n (Directly Calendar)) end_kind;
}
  where
    closes_some : Closes Calendar ≡ Blank → ⊥
    closes_some h = cc

-- a VCALENDAR of these parts
abbrev pub made : List (List Mark) → List Mark
made parts = begin_mark ∷ (concat parts ++ end_mark ∷ [])

parts_run : (top : List ℕ) (parts : List (List Mark)) → All (IsPart top) parts → IsRun (Directly top) (concat parts) (Directly top)
parts_run top [] are = refl
parts_run top (part ∷ more) are =
    run_both (Directly top) (Directly top) (Directly top) part (concat more) (part_run top part (All-head (IsPart top) part more are)) (parts_run top more (All-tail (IsPart top) part more are))

end_run : IsRun (Directly Calendar) (end_mark ∷ []) Behind
unfolding next_place outside_of
end_run = (end_at, ap (next_place (Directly Calendar)) end_kind)

pub made_run : (parts : List (List Mark)) → All (IsPart Calendar) parts → IsRun Before (made parts) Behind
unfolding next_place
made_run parts are = (
  begin_at,
  subst (λ (k : Kind). IsRun (next_place Before k) (concat parts ++ end_mark ∷ []) Behind) (sym begin_kind)
      (run_both (Directly Calendar) (Directly Calendar) Behind (concat parts) (end_mark ∷ []) (parts_run Calendar parts are) end_run),
)

-- a line alone is a segment
one_segment : (line : Mark) → begins level.Component line.role ≡ true → IsSegment level.Component (line ∷ [])
one_segment line h = record { head = line; rest = []; is = refl; first = h; inner = All-nil (λ (mark : Mark). begins level.Component mark.role ≡ false) }

segments_of : (top : List ℕ) (parts : List (List Mark)) → All (IsPart top) parts → All (IsSegment level.Component) parts
segments_of top [] are = All-nil (IsSegment level.Component)
segments_of top (part ∷ more) are =
    All-cons (IsSegment level.Component) part more (part_segment top part (All-head (IsPart top) part more are)) (segments_of top more (All-tail (IsPart top) part more are))

-- a component is cut into its opening line, its parts and its closing line
pub cut_component : (top : List ℕ) (head last : Mark) (parts : List (List Mark)) → begins level.Component head.role ≡ true → begins level.Component last.role ≡ true → All (IsPart top) parts
    → cut level.Component (head ∷ (concat parts ++ last ∷ [])) ≡ (head ∷ []) ∷ (parts ++ (last ∷ []) ∷ [])
cut_component top head last parts first end are =
    let S : List Mark → Type 0 = IsSegment level.Component in
    let all : All S ((head ∷ []) ∷ (parts ++ (last ∷ []) ∷ [])) =
    All-cons S (head ∷ []) (parts ++ (last ∷ []) ∷ []) (one_segment head first) (All-append S parts ((last ∷ []) ∷ []) (segments_of top parts are) (All-cons S (last ∷ []) [] (one_segment last end) (All-nil S))) in
    ap (λ (ms : List Mark). cut level.Component (head ∷ ms)) (sym (concat_both parts ((last ∷ []) ∷ []))) ∙ cut_segments level.Component ((head ∷ []) ∷ (parts ++ (last ∷ []) ∷ [])) all

-- parts of a kind
abbrev pub AreOf : PartKind → List (List Mark) → Type 0
AreOf of parts = All (λ (part : List Mark). is_of of (head_role part) ≡ true) parts

none_calendar : (of : PartKind) → is_of of role.Calendar ≡ false
unfolding is_of
none_calendar kind.Property = refl
none_calendar kind.Zone = refl
none_calendar kind.Child = refl

none_end : (of : PartKind) → is_of of role.End ≡ false
unfolding is_of
none_end kind.Property = refl
none_end kind.Zone = refl
none_end kind.Child = refl

without : (of : PartKind) (part : List Mark) (parts : List (List Mark)) → is_of of (head_role part) ≡ false → parts_of of (part ∷ parts) ≡ parts_of of parts
unfolding parts_of
without of part parts h = ap (λ (b : Bool). cond b (part ∷ parts_of of parts) (parts_of of parts)) h

-- the ends of a VCALENDAR are no parts of a kind
pub parts_within : (of : PartKind) (head last : Mark) (parts : List (List Mark)) → head.role ≡ role.Calendar → last.role ≡ role.End → parts_of of ((head ∷ []) ∷ (parts ++ (last ∷ []) ∷ [])) ≡ parts_of of parts
unfolding parts_of head_role
parts_within of head last parts first end =
    without of (head ∷ []) (parts ++ (last ∷ []) ∷ []) (ap (is_of of) first ∙ none_calendar of)
    ∙ (filter-append (λ part. is_of of (head_role part)) parts ((last ∷ []) ∷ [])
    ∙ (ap (λ (ps : List (List Mark)). parts_of of parts ++ ps) (without of (last ∷ []) [] (ap (is_of of) end ∙ none_end of)) ∙ append-nil (parts_of of parts)))

all_of : (of : PartKind) (parts : List (List Mark)) → AreOf of parts → parts_of of parts ≡ parts
unfolding parts_of
all_of of [] are = refl
all_of of (part ∷ parts) are =
    let P : List Mark → Type 0 = λ part. is_of of (head_role part) ≡ true in
    ap (λ (b : Bool). cond b (part ∷ parts_of of parts) (parts_of of parts)) (All-head P part parts are) ∙ ap (λ (ps : List (List Mark)). part ∷ ps) (all_of of parts (All-tail P part parts are))

pub of_parts : (of : PartKind) (parts : List (List Mark)) → AreOf of (parts_of of parts)
unfolding parts_of
of_parts of parts = filter_passes (λ part. is_of of (head_role part)) parts

is_property : (r : Role) → is_of kind.Property r ≡ true → r ≡ role.Property
unfolding is_of
is_property role.Property h = refl
is_property role.Calendar h = cc
is_property role.Other h = cc
is_property role.Zone h = cc
is_property role.Child h = cc
is_property role.End h = cc
is_property role.Uid h = cc
is_property role.Deep h = cc

is_zone : (r : Role) → is_of kind.Zone r ≡ true → r ≡ role.Zone
unfolding is_of
is_zone role.Zone h = refl
is_zone role.Calendar h = cc
is_zone role.Other h = cc
is_zone role.Property h = cc
is_zone role.Child h = cc
is_zone role.End h = cc
is_zone role.Uid h = cc
is_zone role.Deep h = cc

pub is_child : (r : Role) → is_of kind.Child r ≡ true → r ≡ role.Child
unfolding is_of
is_child role.Child h = refl
is_child role.Calendar h = cc
is_child role.Other h = cc
is_child role.Property h = cc
is_child role.Zone h = cc
is_child role.End h = cc
is_child role.Uid h = cc
is_child role.Deep h = cc

pub role_of : (of : PartKind) → Role
role_of kind.Property = role.Property
role_of kind.Zone = role.Zone
role_of kind.Child = role.Child

pub role_is : (of : PartKind) (r : Role) → is_of of r ≡ true → r ≡ role_of of
unfolding role_of
role_is kind.Property r h = is_property r h
role_is kind.Zone r h = is_zone r h
role_is kind.Child r h = is_child r h

none_of : (of other : PartKind) (parts : List (List Mark)) → is_of of (role_of other) ≡ false → AreOf other parts → parts_of of parts ≡ []
unfolding parts_of
none_of of other [] h are = refl
none_of of other (part ∷ parts) h are =
    let P : List Mark → Type 0 = λ part. is_of other (head_role part) ≡ true in
    without of part parts (ap (is_of of) (role_is other (head_role part) (All-head P part parts are)) ∙ h) ∙ none_of of other parts h (All-tail P part parts are)

module _ (properties zones children : List (List Mark)) (are_properties : AreOf kind.Property properties) (are_zones : AreOf kind.Zone zones) (are_children : AreOf kind.Child children) where
  three : (of : PartKind) → parts_of of (properties ++ (zones ++ children)) ≡ parts_of of properties ++ (parts_of of zones ++ parts_of of children)
  unfolding parts_of
  three of =
      filter-append (λ part. is_of of (head_role part)) properties (zones ++ children)
      ∙ ap (λ (ps : List (List Mark)). parts_of of properties ++ ps) (filter-append (λ part. is_of of (head_role part)) zones children)

  pub properties_among : parts_of kind.Property (properties ++ (zones ++ children)) ≡ properties
  unfolding is_of role_of
  properties_among =
      three kind.Property
      ∙ (ap (λ (ps : List (List Mark)). ps ++ (parts_of kind.Property zones ++ parts_of kind.Property children)) (all_of kind.Property properties are_properties)
      ∙ (ap (λ (ps : List (List Mark)). properties ++ (ps ++ parts_of kind.Property children)) (none_of kind.Property kind.Zone zones refl are_zones)
      ∙ (ap (λ (ps : List (List Mark)). properties ++ ps) (none_of kind.Property kind.Child children refl are_children) ∙ append-nil properties)))

  pub zones_among : parts_of kind.Zone (properties ++ (zones ++ children)) ≡ zones
  unfolding is_of role_of
  zones_among =
      three kind.Zone
      ∙ (ap (λ (ps : List (List Mark)). ps ++ (parts_of kind.Zone zones ++ parts_of kind.Zone children)) (none_of kind.Zone kind.Property properties refl are_properties)
      ∙ (ap (λ (ps : List (List Mark)). ps ++ parts_of kind.Zone children) (all_of kind.Zone zones are_zones)
      ∙ (ap (λ (ps : List (List Mark)). zones ++ ps) (none_of kind.Zone kind.Child children refl are_children) ∙ append-nil zones)))

  pub children_among : parts_of kind.Child (properties ++ (zones ++ children)) ≡ children
  unfolding is_of role_of
  children_among =
      three kind.Child
      ∙ (ap (λ (ps : List (List Mark)). ps ++ (parts_of kind.Child zones ++ parts_of kind.Child children)) (none_of kind.Child kind.Property properties refl are_properties)
      ∙ (ap (λ (ps : List (List Mark)). ps ++ parts_of kind.Child children) (none_of kind.Child kind.Zone zones refl are_zones) ∙ all_of kind.Child children are_children))

-- a line that opens a component begins with no byte order mark
opens_not : (s t u : Bool) (a b key value name : List ℕ) → s ≡ false → t ≡ false → cond s (Opens a) (cond t (Closes b) (cond u Blank (Property key value))) ≡ Opens name → ⊥
opens_not true t u a b key value name h k is = cc
opens_not false true u a b key value name h k is = cc
opens_not false false true a b key value name h k is = cc
opens_not false false false a b key value name h k is = cc

marked_opens_none : (bs name : List ℕ) → kind_of (239 ∷ bs) ≡ Opens name → ⊥
unfolding kind_of
marked_opens_none bs name is =
    opens_not (begins_with (codes "BEGIN:") (239 ∷ bs)) (begins_with (codes "END:") (239 ∷ bs)) (length (239 ∷ bs) == 0) (upper (trimmed (drop 6 (239 ∷ bs)))) (upper (trimmed (drop 4 (239 ∷ bs)))) (name_of (239 ∷ bs)) (value_of (239 ∷ bs)) name refl refl is

no_mark_by : (t : Bool) (b : ℕ) (bs : List ℕ) (name : List ℕ) → nat_eq 239 b ≡ t → kind_of (b ∷ bs) ≡ Opens name → HasNoMark (b ∷ bs)
no_mark_by true b bs name h is = absurd (marked_opens_none bs name (subst (λ (c : ℕ). kind_of (c ∷ bs) ≡ Opens name) (sym (eqb-true 239 b h)) is))
no_mark_by false b bs name h is = ap (λ (t : Bool). t && starts_with nat_eq bs (187 ∷ 191 ∷ [])) h

pub no_mark : (text name : List ℕ) → kind_of text ≡ Opens name → HasNoMark text
no_mark [] name is = refl
no_mark (b ∷ bs) name is = no_mark_by (nat_eq 239 b) b bs name refl is
