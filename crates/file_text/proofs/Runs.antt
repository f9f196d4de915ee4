-- Runs: lines without a fault, each in its place, from one place to another.
use Rattle.std.proofs.Common.{◌≡◌, ℕ, Bool, true, false, cond, List, [], ◌∷◌, ◌++◌, map, Option, Some, None, length, nat_lt, refl, sym, ◌∙◌, ap, subst, append_assoc}
use Rattle.std.specs.List.{All, filter_map, cons_option}
use Rattle.std.proofs.lemmas.List.Elements.{All-head, All-tail}
use Rattle.item_text.specs.Lines.{Line, continues, trimmed}
use Rattle.item_text.specs.Components.{Kind, Opens, Closes, Property, Blank, kind_of, Place, Before, Within, Behind, next_place, last_place, placed_at, placed_from, uid_at}
use Rattle.item_text.specs.Refusals.{else_of, closes, long_uid, fault_at, fault_of}
use Rattle.item_text.specs.declared.item.ItemError.{ItemError}
use Rattle.file_text.specs.Marks.{between, next_in_file, fault_in_file, fault_of_end, refusal_from, role_at, marked, marks_from, mark_texts}
use Rattle.file_text.specs.Unfolds.{IsLine}
use Rattle.file_text.specs.declared.marks.Mark.{Mark}
use Rattle.file_text.specs.declared.marks.Role.{Role}
use Rattle.file_text.proofs.ItemFiles.{fine_line, first_none, none_else}
use Rattle.file_text.proofs.PlainLines.{IsPlain, trimmed_plain, trimmed_begins}
use Rattle.file_text.proofs.Trimming.{trimmed_twice}

-- parts one behind another
abbrev pub concat : List (List Mark) → List Mark
concat [] = []
concat (part ∷ more) = part ++ concat more

pub concat_both : (first second : List (List Mark)) → concat (first ++ second) ≡ concat first ++ concat second
concat_both [] second = refl
concat_both (part ∷ more) second = ap (λ (ms : List Mark). part ++ ms) (concat_both more second) ∙ sym (append_assoc part (concat more) (concat second))

-- the mark of a line, which has no fault at its place
pub record IsAt (place : Place) (mark : Mark) : Type 0 where
  pub plain : IsPlain mark.text
  pub trim : trimmed mark.text ≡ mark.text
  pub some : kind_of mark.text ≡ Blank → ⊥
  pub role : mark.role ≡ role_at place (kind_of mark.text)
  pub fine : (number : ℕ) → fault_at number place (kind_of mark.text) ≡ None

-- marks one behind another, from a place to a place
abbrev pub IsRun : Place → List Mark → Place → Type 0
IsRun start [] end = start ≡ end
IsRun start (mark ∷ rest) end = IsAt start mark × IsRun (next_place start (kind_of mark.text)) rest end

pub run_both : (start mid end : Place) (first second : List Mark) → IsRun start first mid → IsRun mid second end → IsRun start (first ++ second) end
run_both start mid end [] second run more = subst (λ (p : Place). IsRun p second end) (sym run) more
run_both start mid end (mark ∷ rest) second run more = (run.0, run_both (next_place start (kind_of mark.text)) mid end rest second run.1 more)

pub is_line : (place : Place) (mark : Mark) → IsAt place mark → IsLine mark.text
is_line place mark at = record { utf8 = at.plain.utf8; no_feed = at.plain.no_feed; begins = ap continues (sym at.trim) ∙ trimmed_begins mark.text }

pub role_between : (place : Place) (kind : Kind) → role_at (between place) kind ≡ role_at place kind
unfolding role_at between
role_between Before kind = refl
role_between (Within names) kind = refl
role_between Behind (Opens name) = refl
role_between Behind (Closes name) = refl
role_between Behind (Property name value) = refl
role_between Behind Blank = refl

-- a fault doesn't hang on the number
cond_any : (b : Bool) (first second : ItemError) → ◌≡◌ {A = Option ItemError} (cond b None (Some first)) None → ◌≡◌ {A = Option ItemError} (cond b None (Some second)) None
cond_any true first second h = refl
cond_any false first second h = cc

long_by : (b : Bool) (first second : ItemError) → ◌≡◌ {A = Option ItemError} (cond b (Some first) None) None → ◌≡◌ {A = Option ItemError} (cond b (Some second) None) None
long_by true first second h = cc
long_by false first second h = refl

long_any : (n m : ℕ) (uid : Option (List ℕ)) → long_uid n uid ≡ None → long_uid m uid ≡ None
unfolding long_uid
long_any n m None h = refl
long_any n m (Some uid) h = long_by (nat_lt 500 (length uid)) _ _ h

fine_any : (n m : ℕ) (place : Place) (kind : Kind) → fault_at n place kind ≡ None → fault_at m place kind ≡ None
unfolding fault_at
fine_any n m Before (Opens name) h = refl
fine_any n m Before (Closes name) h = cc
fine_any n m Before (Property name value) h = cc
fine_any n m place Blank h = refl
fine_any n m (Within names) (Opens name) h = long_any n m (uid_at (Within names) (Opens name)) h
fine_any n m (Within names) (Closes name) h = cond_any (closes names name) _ _ h
fine_any n m (Within names) (Property name value) h = long_any n m (uid_at (Within names) (Property name value)) h
fine_any n m Behind (Opens name) h = cc
fine_any n m Behind (Closes name) h = cc
fine_any n m Behind (Property name value) h = cc

next_blank : (place : Place) → next_place place Blank ≡ place
unfolding next_place
next_blank Before = refl
next_blank (Within names) = refl
next_blank Behind = refl

-- the marks of a text's lines are a run
module _ (place : Place) (text : List ℕ) (plain : IsPlain text) (trim : trimmed text ≡ text) (number : ℕ) where
  at_of : (kind : Kind) → kind ≡ kind_of text → (kind ≡ Blank → ⊥) → fault_at number place kind ≡ None → IsAt place (record { text = text; role = role_at (between place) kind })
  at_of kind is some fine = record {
    plain = plain;
    trim = trim;
    some = λ h. some (is ∙ h);
    role = role_between place kind ∙ ap (role_at place) is;
    fine = λ n. ap (fault_at n place) (sym is) ∙ fine_any number n place kind fine;
  }

  one_more : (kind : Kind) (rest : List Mark) (end : Place) → kind ≡ kind_of text → (kind ≡ Blank → ⊥) → fault_at number place kind ≡ None → IsRun (next_place place kind) rest end
      → IsRun place (record { text = text; role = role_at (between place) kind } ∷ rest) end
  one_more kind rest end is some fine run = (at_of kind is some fine, subst (λ (k : Kind). IsRun (next_place place k) rest end) is run)

  run_more : (kind : Kind) (rest : List Mark) (end : Place) → kind ≡ kind_of text → fault_at number place kind ≡ None → IsRun (next_place place kind) rest end → IsRun place (marked (between place) text kind ++ rest) end
  unfolding marked
  run_more Blank rest end is fine run = subst (λ (p : Place). IsRun p rest end) (next_blank place) run
  run_more (Opens name) rest end is fine run = one_more (Opens name) rest end is (λ h. cc) fine run
  run_more (Closes name) rest end is fine run = one_more (Closes name) rest end is (λ h. cc) fine run
  run_more (Property name value) rest end is fine run = one_more (Property name value) rest end is (λ h. cc) fine run

pub run_of : (place : Place) (lines : List Line) → All (λ (line : Line). IsPlain line.text) lines → filter_map fault_of (placed_from place lines) ≡ [] → IsRun place (marks_from (between place) lines) (last_place place lines)
unfolding placed_from placed_at fault_of last_place marks_from
run_of place [] plain fine = refl
run_of place (line ∷ rest) plain fine =
    let P : Line → Type 0 = λ line. IsPlain line.text in
    let kind : Kind = kind_of (trimmed line.text) in
    let parts = first_none (fault_at line.number place kind) (filter_map fault_of (placed_from (next_place place kind) rest)) fine in
    let here = fine_line line.number place kind parts.0 in
    run_more place (trimmed line.text) (trimmed_plain line.text (All-head P line rest plain)) (trimmed_twice line.text) line.number kind
    (marks_from (next_in_file (between place) kind) rest) (last_place (next_place place kind) rest) refl parts.0
    (subst (λ (p : Place). IsRun (next_place place kind) (marks_from p rest) (last_place (next_place place kind) rest)) (sym here.1) (run_of (next_place place kind) rest (All-tail P line rest plain) parts.1))

-- lines have the texts of marks
abbrev pub HaveTexts : List Line → List Mark → Type 0
HaveTexts lines marks = map (λ (line : Line). line.text) lines ≡ mark_texts marks

-- how lines of a file read behind a place
pub record Reads (place : Place) (lines : List Line) (marks : List Mark) : Type 0 where
  pub are : marks_from place lines ≡ marks
  pub fine : (count : ℕ) → refusal_from count place lines ≡ None

some_mark : (place : Place) (text : List ℕ) (kind : Kind) → (kind ≡ Blank → ⊥) → marked place text kind ≡ record { text = text; role = role_at place kind } ∷ []
unfolding marked
some_mark place text Blank some = absurd (some refl)
some_mark place text (Opens name) some = refl
some_mark place text (Closes name) some = refl
some_mark place text (Property name value) some = refl

same_mark : (mark : Mark) (role : Role) → mark.role ≡ role → ◌≡◌ {A = Mark} (record { text = mark.text; role = role }) mark
same_mark mark role h = ap (λ (r : Role). record { text = mark.text; role = r }) (sym h)

reads_more : (place : Place) (line : Line) (mark : Mark) (lines : List Line) (marks : List Mark) → IsAt place mark → line.text ≡ mark.text → Reads (between (next_place place (kind_of mark.text))) lines marks → Reads (between place) (line ∷ lines) (mark ∷ marks)
unfolding marks_from refusal_from
reads_more place line mark lines marks at is reads =
    let trim : trimmed line.text ≡ mark.text = ap trimmed is ∙ at.trim in
    let kind : Kind = kind_of mark.text in
    let here = fine_line line.number place kind (at.fine line.number) in
    record {
      are =
          ap (λ (t : List ℕ). marked (between place) t (kind_of t) ++ marks_from (next_in_file (between place) (kind_of t)) lines) trim
          ∙ (ap (λ (ms : List Mark). ms ++ marks_from (next_in_file (between place) kind) lines) (some_mark (between place) mark.text kind at.some ∙ ap (λ (m : Mark). m ∷ []) (same_mark mark (role_at (between place) kind) (at.role ∙ sym (role_between place kind))))
          ∙ ap (λ (ms : List Mark). mark ∷ ms) (ap (λ (p : Place). marks_from p lines) here.1 ∙ reads.are));
      fine = λ count.
          ap (λ (t : List ℕ). else_of (fault_in_file line.number (between place) (kind_of t)) (refusal_from count (next_in_file (between place) (kind_of t)) lines)) trim
          ∙ none_else (fault_in_file line.number (between place) kind) (refusal_from count (next_in_file (between place) kind) lines) here.0
          (ap (λ (p : Place). refusal_from count p lines) here.1 ∙ reads.fine count);
    }

pub first_text : {X : Type 0} (x y : X) (xs ys : List X) → x ∷ xs ≡ y ∷ ys → (x ≡ y) × (xs ≡ ys)
first_text x y xs ys h = (cc, cc)

-- a component of a file, before others
pub through : (place : Place) (marks more : List Mark) (lines : List Line) → IsRun place marks Behind → ((rest : List Line) → HaveTexts rest more → Reads Before rest more) → HaveTexts lines (marks ++ more) → Reads (between place) lines (marks ++ more)
unfolding between
through place [] more lines run then texts = subst (λ (p : Place). Reads (between p) lines more) (sym run) (then lines texts)
through place (mark ∷ marks) more [] run then texts = absurd (cc)
through place (mark ∷ marks) more (line ∷ lines) run then texts =
    let same = first_text line.text mark.text (map (λ (line : Line). line.text) lines) (mark_texts (marks ++ more)) texts in
    reads_more place line mark lines (marks ++ more) run.0 same.0 (through (next_place place (kind_of mark.text)) marks more lines run.1 then same.1)

ended : (lines : List Line) → HaveTexts lines [] → Reads Before lines []
unfolding marks_from refusal_from fault_of_end
ended [] texts = record { are = refl; fine = λ count. refl }
ended (line ∷ lines) texts = absurd (cc)

-- a file of components
pub file_reads : (runs : List (List Mark)) (lines : List Line) → All (λ run. IsRun Before run Behind) runs → HaveTexts lines (concat runs) → Reads Before lines (concat runs)
unfolding between
file_reads [] lines are texts = ended lines texts
file_reads (run ∷ runs) lines are texts =
    through Before run (concat runs) lines (All-head (λ run. IsRun Before run Behind) run runs are) (λ rest same. file_reads runs rest (All-tail (λ run. IsRun Before run Behind) run runs are) same) texts

-- how lines of an item read behind a place
pub item_reads : (place end : Place) (marks : List Mark) (lines : List Line) → IsRun place marks end → HaveTexts lines marks → (filter_map fault_of (placed_from place lines) ≡ []) × (last_place place lines ≡ end)
unfolding placed_from placed_at fault_of last_place
item_reads place end [] [] run texts = (refl, run)
item_reads place end [] (line ∷ lines) run texts = absurd (cc)
item_reads place end (mark ∷ marks) [] run texts = absurd (cc)
item_reads place end (mark ∷ marks) (line ∷ lines) run texts =
    let same = first_text line.text mark.text (map (λ (line : Line). line.text) lines) (mark_texts marks) texts in
    let kind : kind_of (trimmed line.text) ≡ kind_of mark.text = ap kind_of (ap trimmed same.0 ∙ run.0.trim) in
    let more = item_reads (next_place place (kind_of mark.text)) end marks lines run.1 same.1 in (
      ap (λ (k : Kind). cons_option (fault_at line.number place k) (filter_map fault_of (placed_from (next_place place k) lines))) kind
          ∙ (ap (λ (o : Option ItemError). cons_option o (filter_map fault_of (placed_from (next_place place (kind_of mark.text)) lines))) (run.0.fine line.number) ∙ more.0),
      ap (λ (k : Kind). last_place (next_place place k) lines) kind ∙ more.1,
    )
