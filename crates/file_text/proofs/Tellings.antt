-- Tellings: what the lines of a VCALENDAR tell, they tell by its children.
use Rattle.std.proofs.Common.{◌≡◌, ℕ, Bool, true, false, cond, List, [], ◌∷◌, ◌++◌, map, Option, Some, None, refl, sym, ◌∙◌, ap, subst}
use Rattle.std.specs.List.{All, cons_option}
use Rattle.std.proofs.lemmas.List.Elements.{All-head, All-tail}
use Rattle.item_text.specs.Lines.{Line, trimmed, logical_lines}
use Rattle.item_text.specs.Components.{Kind, Opens, Closes, Property, Blank, kind_of, Place, Before, Within, Behind, outside_of, next_place, is_timezone}
use Rattle.item_text.specs.Refusals.{fault_at}
use Rattle.file_text.specs.Joins.{item_marks}
use Rattle.file_text.specs.Marks.{role_at, mark_texts, marks_from}
use Rattle.file_text.specs.Parts.{begins, head_role, is_of, parts_of}
use Rattle.file_text.specs.declared.marks.Mark.{Mark}
use Rattle.file_text.specs.declared.marks.Role.TheVariants as role
use Rattle.file_text.specs.declared.parts.Level.TheVariants as level
use Rattle.file_text.specs.declared.parts.PartKind.TheVariants as kind
use Rattle.file_text.proofs.Runs.{concat, IsAt, IsRun, run_both, HaveTexts, first_text}
use Rattle.file_text.proofs.Components.{IsPart, part_run, AreInner, Directly, none_deep}
use Rattle.file_text.proofs.MadeFiles.{Calendar}
use Rattle.file_text.proofs.SameLines.{Telling, walk, lines_of, marks_tell}

-- what marks tell behind a place
abbrev pub told : {X : Type 0} → Telling X → Place → List Mark → List X
told tell place [] = []
told tell place (mark ∷ rest) = cons_option (tell place mark.text (kind_of mark.text)) (told tell (next_place place (kind_of mark.text)) rest)

cons_both : {X : Type 0} (first : Option X) (xs ys : List X) → cons_option first (xs ++ ys) ≡ cons_option first xs ++ ys
cons_both None xs ys = refl
cons_both (Some x) xs ys = refl

texts_back : (texts : List (List ℕ)) → map (λ (line : Line). line.text) (lines_of texts) ≡ texts
texts_back [] = refl
texts_back (text ∷ rest) = ap (λ (ts : List (List ℕ)). text ∷ ts) (texts_back rest)

-- A telling that the properties and the time zones of a VCALENDAR don't change, nor the writing of its ends
pub record IsQuiet {X : Type 0} (tell : Telling X) : Type 0 where
  pub begins : (text other : List ℕ) → tell Before text (Opens Calendar) ≡ tell Before other (Opens Calendar)
  pub ends : (text other : List ℕ) → tell (Directly Calendar) text (Closes Calendar) ≡ tell (Directly Calendar) other (Closes Calendar)
  pub property : (text name value : List ℕ) → tell (Directly Calendar) text (Property name value) ≡ None
  pub zone : (text name : List ℕ) → is_timezone name ≡ true → tell (Directly Calendar) text (Opens name) ≡ None
  pub inner : (text zone : List ℕ) (names : List (List ℕ)) (kind : Kind) → is_timezone zone ≡ true → tell (Within (names ++ zone ∷ Calendar ∷ [])) text kind ≡ None

behind_no_back : (rest : List Mark) (top : List ℕ) → IsRun Behind rest (Directly top) → ⊥
unfolding fault_at
behind_no_back [] top run = absurd (cc)
behind_no_back (mark ∷ rest) top run = by (kind_of mark.text) run.0.some (run.0.fine 0)
  where
    by : (kind : Kind) → (kind ≡ Blank → ⊥) → fault_at 0 Behind kind ≡ None → ⊥
    by (Opens name) some fine = absurd (cc)
    by (Closes name) some fine = absurd (cc)
    by (Property name value) some fine = absurd (cc)
    by Blank some fine = some refl

module _ {X : Type 0} (tell : Telling X) where
  pub told_both : (start mid : Place) (first second : List Mark) → IsRun start first mid → told tell start (first ++ second) ≡ told tell start first ++ told tell mid second
  told_both start mid [] second run = ap (λ (p : Place). told tell p second) run
  told_both start mid (mark ∷ rest) second run =
      ap (λ (xs : List X). cons_option (tell start mark.text (kind_of mark.text)) xs) (told_both (next_place start (kind_of mark.text)) mid rest second run.1)
      ∙ cons_both (tell start mark.text (kind_of mark.text)) (told tell (next_place start (kind_of mark.text)) rest) (told tell mid second)

  pub walk_told : (place end : Place) (lines : List Line) (marks : List Mark) → IsRun place marks end → HaveTexts lines marks → walk tell place lines ≡ told tell place marks
  unfolding walk
  walk_told place end [] [] run texts = refl
  walk_told place end (line ∷ lines) [] run texts = absurd (cc)
  walk_told place end [] (mark ∷ marks) run texts = absurd (cc)
  walk_told place end (line ∷ lines) (mark ∷ marks) run texts =
      let same = first_text line.text mark.text (map (λ (line : Line). line.text) lines) (mark_texts marks) texts in
      ap (λ (t : List ℕ). cons_option (tell place t (kind_of t)) (walk tell (next_place place (kind_of t)) lines)) (ap trimmed same.0 ∙ run.0.trim)
      ∙ ap (λ (xs : List X). cons_option (tell place mark.text (kind_of mark.text)) xs) (walk_told (next_place place (kind_of mark.text)) end lines marks run.1 same.1)

  pub item_told : ((place : Place) (text : List ℕ) → tell place text Blank ≡ None) → (text : List ℕ) (end : Place) → IsRun Before (item_marks text) end → walk tell Before (logical_lines text) ≡ told tell Before (item_marks text)
  unfolding item_marks
  item_told no_blank text end run =
      marks_tell tell no_blank Before Before (logical_lines text)
      ∙ walk_told Before end (lines_of (mark_texts (marks_from Before (logical_lines text)))) (marks_from Before (logical_lines text)) run (texts_back (mark_texts (marks_from Before (logical_lines text))))

  none_more : (place : Place) (mark : Mark) (rest : List Mark) → tell place mark.text (kind_of mark.text) ≡ None → told tell (next_place place (kind_of mark.text)) rest ≡ [] → told tell place (mark ∷ rest) ≡ []
  none_more place mark rest h more = ap (λ (o : Option X). cons_option o (told tell (next_place place (kind_of mark.text)) rest)) h ∙ more

  module _ (quiet : IsQuiet tell) where
    left : (name zone : List ℕ) (names : List (List ℕ)) → outside_of (name ∷ names ++ zone ∷ Calendar ∷ []) ≡ Within (names ++ zone ∷ Calendar ∷ [])
    unfolding outside_of
    left name zone [] = refl
    left name zone (next ∷ names) = refl

    -- one line in a time zone
    module _ (zone : List ℕ) (is_zone : is_timezone zone ≡ true) (mark : Mark) (rest : List Mark) (inner : AreInner level.Component rest)
        (again : (names : List (List ℕ)) → IsRun (Within (names ++ zone ∷ Calendar ∷ [])) rest (Directly Calendar) → told tell (Within (names ++ zone ∷ Calendar ∷ [])) rest ≡ []) where
      zone_rest : (names : List (List ℕ)) (kind : Kind) → (kind ≡ Blank → ⊥) → IsRun (next_place (Within (names ++ zone ∷ Calendar ∷ [])) kind) rest (Directly Calendar) → told tell (next_place (Within (names ++ zone ∷ Calendar ∷ [])) kind) rest ≡ []
      unfolding next_place outside_of
      zone_rest names (Opens name) some run = again (name ∷ names) run
      zone_rest [] (Closes name) some run = ap (told tell (Directly Calendar)) (none_deep Calendar rest (Directly Calendar) run inner)
      zone_rest (last ∷ names) (Closes name) some run =
          ap (λ (p : Place). told tell p rest) (left last zone names) ∙ again names (subst (λ (p : Place). IsRun p rest (Directly Calendar)) (left last zone names) run)
      zone_rest names (Property name value) some run = again names run
      zone_rest names Blank some run = absurd (some refl)

    zone_told : (zone : List ℕ) (names : List (List ℕ)) (marks : List Mark) → is_timezone zone ≡ true → AreInner level.Component marks → IsRun (Within (names ++ zone ∷ Calendar ∷ [])) marks (Directly Calendar) → told tell (Within (names ++ zone ∷ Calendar ∷ [])) marks ≡ []
    zone_told zone names [] is_zone inner run = refl
    zone_told zone names (mark ∷ rest) is_zone inner run =
        let P : Mark → Type 0 = λ mark. begins level.Component mark.role ≡ false in
        let more : AreInner level.Component rest = All-tail P mark rest inner in
        none_more (Within (names ++ zone ∷ Calendar ∷ [])) mark rest (quiet.inner mark.text zone names (kind_of mark.text) is_zone)
        (zone_rest zone is_zone mark rest more (λ ns r. zone_told zone ns rest is_zone more r) names (kind_of mark.text) run.0.some run.1)

    zone_by : (b : Bool) → ◌≡◌ {A = Bool} (is_of kind.Child (cond b role.Zone role.Child)) false → b ≡ true
    unfolding is_of
    zone_by true h = refl
    zone_by false h = cc

    -- a part that is no child
    part_by : (head : Mark) (rest : List Mark) (what : Kind) → kind_of head.text ≡ what → IsAt (Directly Calendar) head → IsRun (next_place (Directly Calendar) what) rest (Directly Calendar) → AreInner level.Component rest
        → is_of kind.Child (role_at (Directly Calendar) what) ≡ false → (tell (Directly Calendar) head.text what ≡ None) × (told tell (next_place (Directly Calendar) what) rest ≡ [])
    unfolding next_place outside_of role_at
    part_by head rest (Opens name) is at run inner other =
        let is_zone : is_timezone name ≡ true = zone_by (is_timezone name) other in
        (quiet.zone head.text name is_zone, zone_told name [] rest is_zone inner run)
    part_by head rest (Closes name) is at run inner other = absurd (behind_no_back rest Calendar run)
    part_by head rest (Property name value) is at run inner other =
        (quiet.property head.text name value, ap (told tell (Directly Calendar)) (none_deep Calendar rest (Directly Calendar) run inner))
    part_by head rest Blank is at run inner other = absurd (at.some is)

    quiet_part : (part : List Mark) → IsPart Calendar part → is_of kind.Child (head_role part) ≡ false → told tell (Directly Calendar) part ≡ []
    unfolding head_role
    quiet_part part p other =
        let other_head : is_of kind.Child p.head.role ≡ false = ap (λ (ms : List Mark). is_of kind.Child (head_role ms)) (sym p.is) ∙ other in
        let both = part_by p.head p.rest (kind_of p.head.text) refl p.at p.run p.inner (ap (is_of kind.Child) (sym p.at.role) ∙ other_head) in
        ap (told tell (Directly Calendar)) p.is ∙ none_more (Directly Calendar) p.head p.rest both.0 both.1

    parts_by : (b : Bool) (part : List Mark) (more : List (List Mark)) → IsPart Calendar part → is_of kind.Child (head_role part) ≡ b → told tell (Directly Calendar) (concat more) ≡ told tell (Directly Calendar) (concat (parts_of kind.Child more))
        → told tell (Directly Calendar) (part ++ concat more) ≡ told tell (Directly Calendar) (concat (cond b (part ∷ parts_of kind.Child more) (parts_of kind.Child more)))
    parts_by true part more p h same =
        told_both (Directly Calendar) (Directly Calendar) part (concat more) (part_run Calendar part p)
        ∙ (ap (λ (xs : List X). told tell (Directly Calendar) part ++ xs) same ∙ sym (told_both (Directly Calendar) (Directly Calendar) part (concat (parts_of kind.Child more)) (part_run Calendar part p)))
    parts_by false part more p h same =
        told_both (Directly Calendar) (Directly Calendar) part (concat more) (part_run Calendar part p)
        ∙ (ap (λ (xs : List X). xs ++ told tell (Directly Calendar) (concat more)) (quiet_part part p h) ∙ same)

    parts_told : (parts : List (List Mark)) → All (IsPart Calendar) parts → told tell (Directly Calendar) (concat parts) ≡ told tell (Directly Calendar) (concat (parts_of kind.Child parts))
    unfolding parts_of
    parts_told [] are = refl
    parts_told (part ∷ more) are =
        parts_by (is_of kind.Child (head_role part)) part more (All-head (IsPart Calendar) part more are) refl (parts_told more (All-tail (IsPart Calendar) part more are))

    parts_end : (parts : List (List Mark)) → All (IsPart Calendar) parts → IsRun (Directly Calendar) (concat parts) (Directly Calendar)
    parts_end [] are = refl
    parts_end (part ∷ more) are =
        run_both (Directly Calendar) (Directly Calendar) (Directly Calendar) part (concat more) (part_run Calendar part (All-head (IsPart Calendar) part more are)) (parts_end more (All-tail (IsPart Calendar) part more are))

    pub framed : (head last : Mark) (parts : List (List Mark)) → kind_of head.text ≡ Opens Calendar → kind_of last.text ≡ Closes Calendar → All (IsPart Calendar) parts
        → told tell Before (head ∷ (concat parts ++ last ∷ [])) ≡ cons_option (tell Before head.text (Opens Calendar)) (told tell (Directly Calendar) (concat (parts_of kind.Child parts)) ++ cons_option (tell (Directly Calendar) last.text (Closes Calendar)) [])
    unfolding next_place
    framed head last parts opens ends are =
        ap (λ (k : Kind). cons_option (tell Before head.text k) (told tell (next_place Before k) (concat parts ++ last ∷ []))) opens
        ∙ ap (λ (xs : List X). cons_option (tell Before head.text (Opens Calendar)) xs)
        (told_both (Directly Calendar) (Directly Calendar) (concat parts) (last ∷ []) (parts_end parts are)
        ∙ (ap (λ (xs : List X). xs ++ told tell (Directly Calendar) (last ∷ [])) (parts_told parts are)
        ∙ ap (λ (k : Kind). told tell (Directly Calendar) (concat (parts_of kind.Child parts)) ++ cons_option (tell (Directly Calendar) last.text k) []) ends))

    -- VCALENDARs of the same children tell the same
    pub same_told : (head last head' last' : Mark) (parts parts' : List (List Mark)) → kind_of head.text ≡ Opens Calendar → kind_of last.text ≡ Closes Calendar → All (IsPart Calendar) parts
        → kind_of head'.text ≡ Opens Calendar → kind_of last'.text ≡ Closes Calendar → All (IsPart Calendar) parts' → parts_of kind.Child parts ≡ parts_of kind.Child parts'
        → told tell Before (head ∷ (concat parts ++ last ∷ [])) ≡ told tell Before (head' ∷ (concat parts' ++ last' ∷ []))
    same_told head last head' last' parts parts' opens ends are opens' ends' are' same =
        framed head last parts opens ends are
        ∙ (ap (λ (o : Option X). cons_option o (told tell (Directly Calendar) (concat (parts_of kind.Child parts)) ++ cons_option (tell (Directly Calendar) last.text (Closes Calendar)) [])) (quiet.begins head.text head'.text)
        ∙ (ap (λ (ps : List (List Mark)). cons_option (tell Before head'.text (Opens Calendar)) (told tell (Directly Calendar) (concat ps) ++ cons_option (tell (Directly Calendar) last.text (Closes Calendar)) [])) same
        ∙ (ap (λ (o : Option X). cons_option (tell Before head'.text (Opens Calendar)) (told tell (Directly Calendar) (concat (parts_of kind.Child parts')) ++ cons_option o [])) (quiet.ends last.text last'.text)
        ∙ sym (framed head' last' parts' opens' ends' are'))))
