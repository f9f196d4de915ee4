-- JoinedFiles: the components of a joined file, and the texts that it is split into.
use Rattle.std.proofs.Common.{◌≡◌, ℕ, Bool, true, false, cond, List, [], ◌∷◌, ◌++◌, map, codes, Option, Some, None, refl, sym, ◌∙◌, ap, subst, append_assoc, append-nil}
use Rattle.std.specs.List.{All, flat_map, list_any}
use Rattle.std.specs.Str.{bytes_eq}
use Rattle.std.proofs.lemmas.List.{map-append}
use Rattle.std.proofs.lemmas.List.Concat.{flat_map-append}
use Rattle.std.proofs.lemmas.List.Elements.{All-nil, All-cons, All-head, All-tail, All-append, All-filter}
use Rattle.std.proofs.lemmas.Slice.Eq.{bytes_eq-Decides}
use Rattle.item_text.specs.Components.{Kind, Opens, Closes, Property, Blank, kind_of, Place, Before, Within, Behind, outside_of, next_place}
use Rattle.item_text.specs.Components as components
use Rattle.item_text.specs.Refusals.{closes, fault_at}
use Rattle.item_text.specs.declared.item.ItemError.{ItemError}
use Rattle.file_text.specs.Joins.{calendars, others, head_of, first_head, end_of, zones_of, new_zones, all_zones, children_of, joined}
use Rattle.file_text.specs.Joins as joins
use Rattle.file_text.specs.Marks.{role_at}
use Rattle.file_text.specs.Parts.{begins, cut, head_role, is_of, parts_of}
use Rattle.file_text.specs.Written.{folded, written, all_written}
use Rattle.file_text.specs.declared.marks.Mark.{Mark}
use Rattle.file_text.specs.declared.marks.Role.{Role}
use Rattle.file_text.specs.declared.marks.Role.TheVariants as role
use Rattle.file_text.specs.declared.parts.Level.TheVariants as level
use Rattle.file_text.specs.declared.parts.PartKind.{PartKind}
use Rattle.file_text.specs.declared.parts.PartKind.TheVariants as kind
use Rattle.file_text.proofs.Components.{IsPart, IsComponent, component_of, Directly}
use Rattle.file_text.proofs.MadeFiles.{Calendar, end_mark, made, cut_component, AreOf, parts_within, of_parts}
use Rattle.file_text.proofs.Runs.{concat, IsAt, IsRun}

-- a component that is a VCALENDAR
pub record IsVcalendar (marks : List Mark) : Type 0 where
  pub head : Mark
  pub parts : List (List Mark)
  pub last : Mark
  pub are : marks ≡ head ∷ (concat parts ++ last ∷ [])
  pub opens : kind_of head.text ≡ Opens Calendar
  pub closes : kind_of last.text ≡ Closes Calendar
  pub each : All (IsPart Calendar) parts
  pub first_role : head.role ≡ role.Calendar
  pub last_role : last.role ≡ role.End

cond_none : (b : Bool) (error : ItemError) → ◌≡◌ {A = Option ItemError} (cond b None (Some error)) None → b ≡ true
cond_none true error h = refl
cond_none false error h = cc

close_name : (name : List ℕ) (kind : Kind) → kind ≡ Closes name → fault_at 0 (Directly Calendar) kind ≡ None → kind ≡ Closes Calendar
unfolding fault_at closes
close_name name kind is fine =
    let same : Calendar ≡ name = (bytes_eq-Decides Calendar name).0 (cond_none (bytes_eq Calendar name) _ (ap (fault_at 0 (Directly Calendar)) (sym is) ∙ fine)) in
    is ∙ ap (λ (n : List ℕ). Closes n) (sym same)

vcalendar_by : (b : Bool) → ◌≡◌ {A = Bool} (joins.is_calendar (cond b role.Calendar role.Other)) true → b ≡ true
vcalendar_by true h = refl
vcalendar_by false h = cc

other_by : (b : Bool) → ◌≡◌ {A = Bool} (joins.is_calendar (cond b role.Calendar role.Other)) false → ◌≡◌ {A = Role} (cond b role.Calendar role.Other) role.Other
other_by true h = cc
other_by false h = refl

module _ (marks : List Mark) (run : IsRun Before marks Behind) where
  whole : IsComponent marks
  whole = component_of marks run

  head_is : head_role marks ≡ cond (components.is_calendar whole.top) role.Calendar role.Other
  unfolding head_role role_at
  head_is = ap head_role whole.are ∙ (whole.begin.role ∙ ap (role_at Before) whole.opens)

  pub vcalendar_of : joins.is_calendar (head_role marks) ≡ true → IsVcalendar marks
  unfolding head_role role_at
  vcalendar_of h =
      let named : components.is_calendar whole.top ≡ true = vcalendar_by (components.is_calendar whole.top) (ap joins.is_calendar (sym head_is) ∙ h) in
      let top : whole.top ≡ Calendar = (bytes_eq-Decides whole.top Calendar).0 named in
      let end : IsAt (Directly Calendar) whole.last = subst (λ (name : List ℕ). IsAt (Directly name) whole.last) top whole.end in
      let ends : kind_of whole.last.text ≡ Closes Calendar = close_name whole.closes.0 (kind_of whole.last.text) whole.closes.1 (end.fine 0) in
      record {
        head = whole.head;
        parts = whole.parts;
        last = whole.last;
        are = whole.are;
        opens = whole.opens ∙ ap (λ (n : List ℕ). Opens n) top;
        closes = ends;
        each = subst (λ (name : List ℕ). All (IsPart name) whole.parts) top whole.each;
        first_role = whole.begin.role ∙ (ap (role_at Before) whole.opens ∙ ap (λ (b : Bool). cond b role.Calendar role.Other) named);
        last_role = end.role ∙ ap (role_at (Directly Calendar)) ends;
      }

  pub other_of : joins.is_calendar (head_role marks) ≡ false → head_role marks ≡ role.Other
  other_of h = head_is ∙ other_by (components.is_calendar whole.top) (ap joins.is_calendar (sym head_is) ∙ h)

-- the parts of a kind of a VCALENDAR
abbrev pub parts_in : PartKind → List Mark → List (List Mark)
parts_in of marks = parts_of of (cut level.Component marks)

begins_calendar : begins level.Component role.Calendar ≡ true
unfolding begins
begins_calendar = refl

begins_end : begins level.Component role.End ≡ true
unfolding begins
begins_end = refl

pub parts_are : (of : PartKind) (marks : List Mark) (v : IsVcalendar marks) → parts_in of marks ≡ parts_of of v.parts
parts_are of marks v =
    ap (λ (ms : List Mark). parts_in of ms) v.are
    ∙ (ap (parts_of of) (cut_component Calendar v.head v.last v.parts (ap (begins level.Component) v.first_role ∙ begins_calendar) (ap (begins level.Component) v.last_role ∙ begins_end) v.each)
    ∙ parts_within of v.head v.last v.parts v.first_role v.last_role)

pub each_part : (of : PartKind) (marks : List Mark) → IsVcalendar marks → All (IsPart Calendar) (parts_in of marks)
unfolding parts_of
each_part of marks v = subst (λ (ps : List (List Mark)). All (IsPart Calendar) ps) (sym (parts_are of marks v)) (All-filter (λ part. is_of of (head_role part)) (IsPart Calendar) v.parts v.each)

-- parts of several VCALENDARs
abbrev pub all_in : PartKind → List (List Mark) → List (List Mark)
all_in of all = flat_map (parts_in of) all

pub all_parts : (of : PartKind) (all : List (List Mark)) → All IsVcalendar all → All (IsPart Calendar) (all_in of all)
all_parts of [] are = All-nil (IsPart Calendar)
all_parts of (marks ∷ more) are =
    All-append (IsPart Calendar) (parts_in of marks) (all_in of more) (each_part of marks (All-head IsVcalendar marks more are)) (all_parts of more (All-tail IsVcalendar marks more are))

pub all_of_kind : (of : PartKind) (all : List (List Mark)) → AreOf of (all_in of all)
all_of_kind of [] = All-nil (λ (part : List Mark). is_of of (head_role part) ≡ true)
all_of_kind of (marks ∷ more) =
    All-append (λ (part : List Mark). is_of of (head_role part) ≡ true) (parts_in of marks) (all_in of more) (of_parts of (cut level.Component marks)) (all_of_kind of more)

-- the time zones that are written
pub record Kept (zones : List (List Mark)) (texts : List (List ℕ)) : Type 0 where
  pub some : List (List Mark)
  pub are : texts ≡ map written some
  pub parts : All (IsPart Calendar) zones → All (IsPart Calendar) some
  pub zone : AreOf kind.Zone zones → AreOf kind.Zone some

kept_by : (b : Bool) (zone : List Mark) (rest : List (List Mark)) (texts : List (List ℕ)) → Kept rest texts → Kept (zone ∷ rest) (cond b texts (written zone ∷ texts))
kept_by true zone rest texts more = record {
  some = more.some;
  are = more.are;
  parts = λ all. more.parts (All-tail (IsPart Calendar) zone rest all);
  zone = λ all. more.zone (All-tail (λ (part : List Mark). is_of kind.Zone (head_role part) ≡ true) zone rest all);
}
kept_by false zone rest texts more =
    let Z : List Mark → Type 0 = λ part. is_of kind.Zone (head_role part) ≡ true in
    record {
      some = zone ∷ more.some;
      are = ap (λ (ts : List (List ℕ)). written zone ∷ ts) more.are;
      parts = λ all. All-cons (IsPart Calendar) zone more.some (All-head (IsPart Calendar) zone rest all) (more.parts (All-tail (IsPart Calendar) zone rest all));
      zone = λ all. All-cons Z zone more.some (All-head Z zone rest all) (more.zone (All-tail Z zone rest all));
    }

kept_zones : (before : List (List ℕ)) (zones : List (List Mark)) → Kept zones (new_zones before (map written zones))
unfolding new_zones
kept_zones before [] = record { some = []; are = refl; parts = λ all. all; zone = λ all. all }
kept_zones before (zone ∷ rest) = kept_by (list_any (bytes_eq (written zone)) before) zone rest (new_zones (before ++ written zone ∷ []) (map written rest)) (kept_zones (before ++ written zone ∷ []) rest)

pub zones_kept : (zones : List (List Mark)) → Kept zones (new_zones [] (map written zones))
zones_kept zones = kept_zones [] zones

zones_flat : (some : List (List Mark)) → flat_map (λ (zone : List ℕ). zone) (map written some) ≡ all_written some
unfolding all_written
zones_flat [] = refl
zones_flat (zone ∷ rest) = ap (λ (t : List ℕ). written zone ++ t) (zones_flat rest)

zones_in : (all : List (List Mark)) → flat_map zones_of all ≡ map written (all_in kind.Zone all)
unfolding zones_of
zones_in [] = refl
zones_in (marks ∷ more) = ap (λ (ts : List (List ℕ)). map written (parts_in kind.Zone marks) ++ ts) (zones_in more) ∙ sym (map-append written (parts_in kind.Zone marks) (all_in kind.Zone more))

pub all_zones_are : (all : List (List Mark)) → all_zones (flat_map zones_of all) ≡ all_written (zones_kept (all_in kind.Zone all)).some
unfolding all_zones
all_zones_are all =
    ap (λ (ts : List (List ℕ)). flat_map (λ (zone : List ℕ). zone) (new_zones [] ts)) (zones_in all)
    ∙ (ap (flat_map (λ (zone : List ℕ). zone)) (zones_kept (all_in kind.Zone all)).are ∙ zones_flat (zones_kept (all_in kind.Zone all)).some)

children_are : (all : List (List Mark)) → flat_map children_of all ≡ all_written (all_in kind.Child all)
unfolding children_of all_written
children_are [] = refl
children_are (marks ∷ more) =
    ap (λ (t : List ℕ). all_written (parts_in kind.Child marks) ++ t) (children_are more) ∙ sym (flat_map-append written (parts_in kind.Child marks) (all_in kind.Child more))

-- what is written of marks
written_both : (xs ys : List Mark) → written (xs ++ ys) ≡ written xs ++ written ys
unfolding written
written_both xs ys = flat_map-append (λ (line : Mark). folded line.text) xs ys

written_concat : (parts : List (List Mark)) → written (concat parts) ≡ all_written parts
unfolding all_written written
written_concat [] = refl
written_concat (part ∷ more) = written_both part (concat more) ∙ ap (λ (t : List ℕ). written part ++ t) (written_concat more)

all_both : (xs ys : List (List Mark)) → all_written (xs ++ ys) ≡ all_written xs ++ all_written ys
unfolding all_written
all_both xs ys = flat_map-append written xs ys

abbrev begun : List ℕ
begun = folded (codes "BEGIN:VCALENDAR")

abbrev ended : List ℕ
ended = folded (codes "END:VCALENDAR")

-- what is written of a VCALENDAR that is made
pub written_made : (properties zones children : List (List Mark)) → written (made (properties ++ (zones ++ children))) ≡ (((begun ++ all_written properties) ++ all_written zones) ++ all_written children) ++ ended
unfolding written
written_made properties zones children =
    ap (λ (t : List ℕ). begun ++ t)
    (written_both (concat (properties ++ (zones ++ children))) (end_mark ∷ [])
    ∙ (ap (λ (t : List ℕ). t ++ (ended ++ [])) (written_concat (properties ++ (zones ++ children)) ∙ (all_both properties (zones ++ children) ∙ ap (λ (t : List ℕ). all_written properties ++ t) (all_both zones children)))
    ∙ ap (λ (t : List ℕ). (all_written properties ++ (all_written zones ++ all_written children)) ++ t) (append-nil ended)))
    ∙ simp append_assoc

-- the file of components of which the first are VCALENDARs
abbrev pub kept_in : List (List Mark) → List (List Mark)
kept_in all = (zones_kept (all_in kind.Zone all)).some

abbrev pub first_parts : List (List Mark) → List (List Mark)
first_parts [] = []
first_parts (marks ∷ more) = parts_in kind.Property marks

abbrev pub one_calendar : List (List Mark) → List (List Mark)
one_calendar [] = []
one_calendar (marks ∷ more) = made (first_parts (marks ∷ more) ++ (kept_in (marks ∷ more) ++ all_in kind.Child (marks ∷ more))) ∷ []

-- what is joined is written of the one VCALENDAR and of all others
by_calendars : (all rest : List (List Mark)) → (((first_head all ++ all_zones (flat_map zones_of all)) ++ flat_map children_of all) ++ end_of all) ++ all_written rest ≡ written (concat (one_calendar all ++ rest))
unfolding first_head head_of end_of all_zones new_zones
by_calendars [] rest = sym (written_concat rest)
by_calendars (marks ∷ more) rest =
    let all : List (List Mark) = marks ∷ more in
    ap (λ (t : List ℕ). ((((begun ++ all_written (parts_in kind.Property marks)) ++ t) ++ flat_map children_of all) ++ ended) ++ all_written rest) (all_zones_are all)
    ∙ (ap (λ (t : List ℕ). ((((begun ++ all_written (parts_in kind.Property marks)) ++ all_written (kept_in all)) ++ t) ++ ended) ++ all_written rest) (children_are all)
    ∙ (ap (λ (t : List ℕ). t ++ all_written rest) (sym (written_made (parts_in kind.Property marks) (kept_in all) (all_in kind.Child all)))
    ∙ (ap (λ (t : List ℕ). written (made (parts_in kind.Property marks ++ (kept_in all ++ all_in kind.Child all))) ++ t) (sym (written_concat rest))
    ∙ sym (written_both (made (parts_in kind.Property marks ++ (kept_in all ++ all_in kind.Child all))) (concat rest)))))

abbrev pub file_of : List (List Mark) → List (List Mark)
file_of items = one_calendar (calendars items) ++ others items

pub joined_is : (items : List (List Mark)) → joined items ≡ written (concat (file_of items))
unfolding joined
joined_is items = by_calendars (calendars items) (others items)
