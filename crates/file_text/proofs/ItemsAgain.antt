-- ItemsAgain: a joined file is split into items of the same idents and versions.
use Rattle.std.proofs.Common.{◌≡◌, ℕ, Bool, true, false, cond, nat_lt, List, [], ◌∷◌, ◌++◌, map, length, Option, Some, None, Result, Err, refl, sym, ◌∙◌, ap, subst, append-nil}
use Rattle.std.specs.List.{All, cons_option, find}
use Rattle.std.specs.Option.{option_map}
use Rattle.std.specs.Result.{result_ok}
use Rattle.std.specs.Str.{IsUtf8, is_utf8}
use Rattle.std.specs.Str.Lossy.{utf8_valid_len}
use Rattle.std.proofs.lemmas.List.Elements.{All-head}
use Rattle.std.proofs.lemmas.Str.{IsUtf8-from_is_utf8}
use Rattle.item_text.specs.Lines.{Line, physical_lines, logical_lines}
use Rattle.item_text.specs.Components.{Kind, Place, Before, Behind, Placed, placed, next_place, uid_at}
use Rattle.item_text.specs.Items.{ItemValue, value_of_lines, uid_among, fingerprint, item_of_text, read_item, item_of}
use Rattle.item_text.specs.Refusals.{first_of, else_of, children, calendar_fault, fault_of_calendar, opens_calendar, opens_calendar_at, refusal_of, same_uid}
use Rattle.item_text.specs.declared.item.ItemError.{ItemError}
use Rattle.item_text.specs.declared.item.ItemError.TheVariants.{TooLong, NotUtf8}
use Rattle.item_text.proofs.Edited.{is_item}
use Rattle.item_text.proofs.Relabelled.{fine_of, last_of}
use Rattle.file_text.specs.Joins.{item_marks}
use Rattle.file_text.specs.Marks.{between}
use Rattle.file_text.specs.Parts.{head_role, is_of, parts_of, groups}
use Rattle.file_text.specs.Parts as parts
use Rattle.file_text.specs.RoundTrips.{is_calendar_item}
use Rattle.file_text.specs.Written.{written}
use Rattle.file_text.specs.declared.marks.Mark.{Mark}
use Rattle.file_text.specs.declared.parts.PartKind.TheVariants as kind
use Rattle.file_text.proofs.AgainRead.{item_again, have_texts, are_lines}
use Rattle.file_text.proofs.AllAgain.{calendar_uids, IsChild, are_children}
use Rattle.file_text.proofs.ChildUids.{quiet_uids, quiet_kept, marks, no_marks, opening, no_opening, some_opened, child_uids, uids_of, uids_walk, AreOne, one_of, child_tells}
use Rattle.file_text.proofs.Components.{IsPart, part_run, Directly}
use Rattle.file_text.proofs.GroupsApart.{IsOneItem, one_item, key_of}
use Rattle.file_text.proofs.JoinedFiles.{IsVcalendar, vcalendar_of, parts_in, parts_are, each_part}
use Rattle.file_text.proofs.MadeFiles.{begin_mark, end_mark, begin_kind, end_kind, Calendar, made, made_run, of_parts}
use Rattle.file_text.proofs.PlainLines.{text_plain}
use Rattle.file_text.proofs.Runs.{concat, IsRun, run_of, HaveTexts}
use Rattle.file_text.proofs.SameLines.{walk, uids, kept, no_uid, no_kept, uid_walk, same_uid as same_uids, same_version}
use Rattle.file_text.proofs.SplitAgain.{IsWhole}
use Rattle.file_text.proofs.Tellings.{told, told_both, walk_told, item_told, framed, same_told}

utf8_by : (long utf8 : Bool) (value : Result ItemValue ItemError) (place : ℕ) (item : ItemValue) → result_ok (cond long (Err TooLong) (cond utf8 value (Err (NotUtf8 place)))) ≡ Some item → utf8 ≡ true
utf8_by true utf8 value place item h = absurd (cc)
utf8_by false true value place item h = refl
utf8_by false false value place item h = absurd (cc)

second_none : {X : Type 0} (a b : Option X) → else_of a b ≡ None → b ≡ None
unfolding else_of
second_none None b h = h
second_none (Some x) b h = absurd (cc)

-- the UID that the lines of children tell first
first_by : (found more : List (List ℕ)) (uid : Option (List ℕ)) → uid ≡ first_of found → (uid ≡ None → more ≡ []) → first_of (found ++ more) ≡ uid
unfolding first_of
first_by [] more uid is alone = ap first_of (alone is) ∙ sym is
first_by (u ∷ found) more uid is alone = sym is

none_more : (all : List (List Mark)) (child : List Mark) (rest : List (List Mark)) → all ≡ child ∷ rest → IsOneItem all (parts.uid_of child) → parts.uid_of child ≡ None → rest ≡ []
none_more all child rest is one none = same rest one.first one.rest (sym is ∙ one.is) (one.alone none)
  where
    same : (xs : List (List Mark)) (y : List Mark) (ys : List (List Mark)) → child ∷ xs ≡ y ∷ ys → ys ≡ [] → xs ≡ []
    same xs y ys h k = cc

first_key : (all : List (List Mark)) → All IsChild all → AreOne (map parts.uid_of all) → first_of (told uids (Directly Calendar) (concat all)) ≡ key_of all
first_key [] are one = absurd one
first_key (child ∷ rest) are one =
    let head : IsChild child = All-head IsChild child rest are in
    let tells = child_tells child head.0 head.1 in
    let item : IsOneItem (child ∷ rest) (parts.uid_of child) = one_item (child ∷ rest) one in
    ap first_of (told_both uids (Directly Calendar) (Directly Calendar) child (concat rest) (part_run Calendar child head.0) ∙ ap (λ (us : List (List ℕ)). us ++ told uids (Directly Calendar) (concat rest)) tells.uids_are)
    ∙ first_by tells.found (told uids (Directly Calendar) (concat rest)) (parts.uid_of child) tells.uid_is
    (λ none. ap (λ (cs : List (List Mark)). told uids (Directly Calendar) (concat cs)) (none_more (child ∷ rest) child rest refl item none))

named_by : (text : List ℕ) (all : List Placed) (uid : List ℕ) → uid_among all ≡ Some uid → (value_of_lines text all).ident ≡ uid
unfolding value_of_lines
named_by text all uid h = rw h refl

-- items of the same UID and fingerprint
same_value : (text other : List ℕ) (first second : List Placed) → uid_among first ≡ uid_among second → fingerprint first ≡ fingerprint second → ((value_of_lines text first).ident ≡ (value_of_lines other second).ident) × ((value_of_lines text first).version ≡ (value_of_lines other second).version)
unfolding value_of_lines
same_value text other first second h k = (rw h (rw k refl), k)

-- an item of the same ident and version
pub record IsLike (item other : ItemValue) : Type 0 where
  pub same_ident : item.ident ≡ other.ident
  pub same_version : item.version ≡ other.version

module _ (item : ItemValue) (is : item_of item.text ≡ Some item) where
  utf8 : IsUtf8 item.text
  unfolding item_of read_item
  utf8 = IsUtf8-from_is_utf8 item.text (utf8_by (nat_lt 8388608 (length item.text)) (is_utf8 item.text) (item_of_text item.text) (utf8_valid_len item.text) item is)

  lines : List Line
  lines = logical_lines item.text

  pub whole : IsWhole (item_marks item.text)
  unfolding between item_marks placed lines
  whole =
      let fine = (is_item item.text item is).fine in
      subst (λ (p : Place). IsRun Before (item_marks item.text) p) (last_of (length (physical_lines item.text)) lines fine) (run_of Before lines (text_plain item.text utf8) (fine_of (length (physical_lines item.text)) lines fine))

  -- what is written of marks that tell the same is an item like it
  pub again_like : (again : List Mark) → IsWhole again → told uids Before again ≡ told uids Before (item_marks item.text) → told kept Before again ≡ told kept Before (item_marks item.text) → IsLike (item_again again) item
  unfolding lines
  again_like again run same_uid same_kept =
      let texts : HaveTexts (logical_lines (written again)) again = have_texts again (are_lines again run) in
      let uids_are : walk uids Before (logical_lines (written again)) ≡ walk uids Before lines = walk_told uids Before Behind (logical_lines (written again)) again run texts ∙ (same_uid ∙ sym (item_told uids no_uid item.text Behind whole)) in
      let kept_are : walk kept Before (logical_lines (written again)) ≡ walk kept Before lines = walk_told kept Before Behind (logical_lines (written again)) again run texts ∙ (same_kept ∙ sym (item_told kept no_kept item.text Behind whole)) in
      let same = same_value (written again) item.text (placed (logical_lines (written again))) (placed lines) (same_uids (logical_lines (written again)) lines uids_are) (same_version (logical_lines (written again)) lines kept_are) in
      let value : value_of_lines item.text (placed lines) ≡ item = (is_item item.text item is).is in
      record { same_ident = same.0 ∙ ap (λ (i : ItemValue). i.ident) value; same_version = same.1 ∙ ap (λ (i : ItemValue). i.version) value }

  module _ (calendar : is_calendar_item item ≡ true) where
    vcalendar : IsVcalendar (item_marks item.text)
    vcalendar = vcalendar_of (item_marks item.text) whole calendar

    abbrev own : List (List Mark)
    own = parts_in kind.Child (item_marks item.text)

    own_parts : own ≡ parts_of kind.Child vcalendar.parts
    own_parts = parts_are kind.Child (item_marks item.text) vcalendar

    pub own_children : All IsChild own
    own_children = are_children own (each_part kind.Child (item_marks item.text) vcalendar) (of_parts kind.Child _)

    opening_told : (xs : List (List ℕ)) × (walk opening Before lines ≡ [] ∷ xs)
    unfolding opening opens_calendar_at lines next_place
    opening_told = (
      told opening (Directly Calendar) (concat vcalendar.parts ++ vcalendar.last ∷ []),
      item_told opening no_opening item.text Behind whole
          ∙ (ap (told opening Before) vcalendar.are ∙ ap (λ (k : Kind). cons_option (opening Before vcalendar.head.text k) (told opening (next_place Before k) (concat vcalendar.parts ++ vcalendar.last ∷ []))) vcalendar.opens),
    )

    pub one : AreOne (map parts.uid_of own)
    unfolding refusal_of fault_of_calendar placed lines
    one =
        let fine = (is_item item.text item is).fine in
        let found = some_opened Before lines [] opening_told.0 opening_told.1 in
        let none = second_none _ (fault_of_calendar (option_map (λ (line : Placed). line.number) (find opens_calendar (placed lines))) (children (placed lines))) fine in
        let fault : calendar_fault found.0.number (children (placed lines)) ≡ None = sym (ap (λ (o : Option Placed). fault_of_calendar (option_map (λ (line : Placed). line.number) o) (children (placed lines))) found.1) ∙ none in
        let told_are : uids_of (children (placed lines)) ≡ map parts.uid_of own =
        uids_walk lines
        ∙ (ap child_uids (item_told marks no_marks item.text Behind whole ∙ ap (told marks Before) vcalendar.are)
        ∙ (calendar_uids vcalendar.head vcalendar.last vcalendar.parts vcalendar.opens vcalendar.closes vcalendar.each ∙ ap (map parts.uid_of) (sym own_parts))) in
        subst (λ (us : List (Option (List ℕ))). AreOne us) told_are (one_of found.0.number (children (placed lines)) fault)

    -- where the children have a UID, it is the ident
    pub ident_is : (uid : List ℕ) → key_of own ≡ Some uid → item.ident ≡ uid
    unfolding uids uid_at uid_among placed lines
    ident_is uid h =
        let among : uid_among (placed lines) ≡ key_of own =
        ap first_of
        (uid_walk Before lines
        ∙ (item_told uids no_uid item.text Behind whole
        ∙ (ap (told uids Before) vcalendar.are
        ∙ (framed uids quiet_uids vcalendar.head vcalendar.last vcalendar.parts vcalendar.opens vcalendar.closes vcalendar.each
        ∙ (append-nil (told uids (Directly Calendar) (concat (parts_of kind.Child vcalendar.parts))) ∙ ap (λ (ps : List (List Mark)). told uids (Directly Calendar) (concat ps)) (sym own_parts))))))
        ∙ first_key own own_children one in
        sym (ap (λ (i : ItemValue). i.ident) (is_item item.text item is).is) ∙ named_by item.text (placed lines) uid (among ∙ h)

    -- a VCALENDAR of the same children is an item like it
    pub made_like : (all : List (List Mark)) → All (IsPart Calendar) all → parts_of kind.Child all ≡ own → IsLike (item_again (made all)) item
    made_like all are same =
        let children_same : parts_of kind.Child all ≡ parts_of kind.Child vcalendar.parts = same ∙ own_parts in
        again_like (made all) (made_run all are)
        (same_told uids quiet_uids begin_mark end_mark vcalendar.head vcalendar.last all vcalendar.parts begin_kind end_kind are vcalendar.opens vcalendar.closes vcalendar.each children_same ∙ ap (told uids Before) (sym vcalendar.are))
        (same_told kept quiet_kept begin_mark end_mark vcalendar.head vcalendar.last all vcalendar.parts begin_kind end_kind are vcalendar.opens vcalendar.closes vcalendar.each children_same ∙ ap (told kept Before) (sym vcalendar.are))
