-- SameLines: what the lines of a text tell of an item, they tell by their marks alone.
use Rattle.std.proofs.Common.{◌≡◌, ℕ, Bool, true, false, cond, List, [], ◌∷◌, ◌++◌, map, Option, Some, None, refl, sym, ◌∙◌, ap}
use Rattle.std.specs.List.{filter, filter_map, flat_map, cons_option}
use Rattle.item_text.specs.Lines.{Line, trimmed, logical_lines}
use Rattle.item_text.specs.Components.{Kind, Opens, Closes, Property, Blank, kind_of, Place, Before, Within, Behind, next_place, Placed, placed_at, placed_from, placed, uid_at, uid_of}
use Rattle.item_text.specs.Items.{uid_among, fingerprint}
use Rattle.item_text.specs.NormalForm.{keeps, open_at, is_kept, written_as, written, normal_form}
use Rattle.item_text.specs.Refusals.{first_of}
use Rattle.file_text.specs.Joins.{item_marks}
use Rattle.file_text.specs.Marks.{next_in_file, marked, marks_from, mark_texts}
use Rattle.file_text.specs.Unfolds.{line_texts, AreLines}
use Rattle.file_text.specs.Written.{folded}
use Rattle.file_text.specs.Written as bytes
use Rattle.file_text.specs.declared.marks.Mark.{Mark}
use Rattle.file_text.proofs.Reading.{without_none, none_behind}
use Rattle.file_text.proofs.Refolding.{lines_read}
use Rattle.file_text.proofs.Trimming.{trimmed_twice}

-- what a line tells, by its place, its text and its kind
abbrev pub Telling : Type 0 → Type 0
Telling X = Place → List ℕ → Kind → Option X

-- what lines tell behind a place
unfoldable pub walk : {X : Type 0} → Telling X → Place → List Line → List X
walk tell place [] = []
walk tell place (line ∷ rest) = cons_option (tell place (trimmed line.text) (kind_of (trimmed line.text))) (walk tell (next_place place (kind_of (trimmed line.text))) rest)

-- lines of these texts
abbrev pub lines_of : List (List ℕ) → List Line
lines_of texts = map (λ text. record { number = 0; text = text }) texts

next_blank : (place : Place) → next_place place Blank ≡ place
unfolding next_place
next_blank Before = refl
next_blank (Within names) = refl
next_blank Behind = refl

module _ {X : Type 0} (tell : Telling X) (no_blank : (place : Place) (text : List ℕ) → tell place text Blank ≡ None) where
  -- one line that isn't blank
  one_line : (place : Place) (text : List ℕ) (kind : Kind) (rest : List X) (more : List Line) → trimmed text ≡ text → kind_of text ≡ kind → rest ≡ walk tell (next_place place kind) more
      → cons_option (tell place text kind) rest ≡ walk tell place (record { number = 0; text = text } ∷ more)
  unfolding walk
  one_line place text kind rest more trim is e =
      let same : kind ≡ kind_of (trimmed text) = sym is ∙ ap kind_of (sym trim) in
      ap (λ (xs : List X). cons_option (tell place text kind) xs) e
      ∙ (ap (λ (t : List ℕ). cons_option (tell place t kind) (walk tell (next_place place kind) more)) (sym trim)
      ∙ ap (λ (k : Kind). cons_option (tell place (trimmed text) k) (walk tell (next_place place k) more)) same)

  -- one line, blank or not
  any_line : (place : Place) (text : List ℕ) (kind : Kind) (role : Place) (rest : List X) (more : List Mark) → trimmed text ≡ text → kind_of text ≡ kind
      → rest ≡ walk tell (next_place place kind) (lines_of (mark_texts more)) → cons_option (tell place text kind) rest ≡ walk tell place (lines_of (mark_texts (marked role text kind ++ more)))
  unfolding marked
  any_line place text Blank role rest more trim is e =
      ap (λ (o : Option X). cons_option o rest) (no_blank place text) ∙ (e ∙ ap (λ (p : Place). walk tell p (lines_of (mark_texts more))) (next_blank place))
  any_line place text (Opens name) role rest more trim is e = one_line place text (Opens name) rest (lines_of (mark_texts more)) trim is e
  any_line place text (Closes name) role rest more trim is e = one_line place text (Closes name) rest (lines_of (mark_texts more)) trim is e
  any_line place text (Property name value) role rest more trim is e = one_line place text (Property name value) rest (lines_of (mark_texts more)) trim is e

  -- the marks tell the same
  pub marks_tell : (place role : Place) (lines : List Line) → walk tell place lines ≡ walk tell place (lines_of (mark_texts (marks_from role lines)))
  unfolding walk marks_from
  marks_tell place role [] = refl
  marks_tell place role (line ∷ rest) =
      any_line place (trimmed line.text) (kind_of (trimmed line.text)) role (walk tell (next_place place (kind_of (trimmed line.text))) rest) (marks_from (next_in_file role (kind_of (trimmed line.text))) rest) (trimmed_twice line.text) refl
      (marks_tell (next_place place (kind_of (trimmed line.text))) (next_in_file role (kind_of (trimmed line.text))) rest)

  -- and so do the texts
  texts_tell : (place : Place) (lines : List Line) → walk tell place lines ≡ walk tell place (lines_of (map (λ (line : Line). line.text) lines))
  unfolding walk
  texts_tell place [] = refl
  texts_tell place (line ∷ rest) = ap (λ (xs : List X). cons_option (tell place (trimmed line.text) (kind_of (trimmed line.text))) xs) (texts_tell (next_place place (kind_of (trimmed line.text))) rest)

  same_marks : (role : Place) (first second : List Line) → mark_texts (marks_from role first) ≡ mark_texts (marks_from role second) → walk tell Before first ≡ walk tell Before second
  same_marks role first second h = marks_tell Before role first ∙ (ap (λ (ts : List (List ℕ)). walk tell Before (lines_of ts)) h ∙ sym (marks_tell Before role second))

  same_texts : (role : Place) (first second : List Line) → map (λ (line : Line). line.text) first ≡ mark_texts (marks_from role second) → walk tell Before first ≡ walk tell Before second
  same_texts role first second h = texts_tell Before first ∙ (ap (λ (ts : List (List ℕ)). walk tell Before (lines_of ts)) h ∙ sym (marks_tell Before role second))

-- the UIDs
unfoldable pub uids : Telling (List ℕ)
uids place text kind = uid_at place kind

pub no_uid : (place : Place) (text : List ℕ) → uids place text Blank ≡ None
unfolding uids uid_at
no_uid place text = refl

pub uid_walk : (place : Place) (lines : List Line) → filter_map uid_of (placed_from place lines) ≡ walk uids place lines
unfolding placed_from placed_at uid_of walk uids
uid_walk place [] = refl
uid_walk place (line ∷ rest) = ap (λ (xs : List (List ℕ)). cons_option (uid_at place (kind_of (trimmed line.text))) xs) (uid_walk (next_place place (kind_of (trimmed line.text))) rest)

-- the lines that the normal form keeps
unfoldable pub kept : Telling (List ℕ)
kept place text kind = cond (keeps (open_at place) kind) (Some (written_as text kind)) None

pub no_kept : (place : Place) (text : List ℕ) → kept place text Blank ≡ None
unfolding kept keeps
no_kept place text = refl

kept_by : (b : Bool) (line : Placed) (rest : List Placed) (more : List (List ℕ)) → map written (filter is_kept rest) ≡ more → map written (cond b (line ∷ filter is_kept rest) (filter is_kept rest)) ≡ cons_option (cond b (Some (written line)) None) more
kept_by true line rest more h = ap (λ (xs : List (List ℕ)). written line ∷ xs) h
kept_by false line rest more h = h

pub kept_walk : (place : Place) (lines : List Line) → map written (filter is_kept (placed_from place lines)) ≡ walk kept place lines
unfolding placed_from placed_at is_kept written walk kept
kept_walk place [] = refl
kept_walk place (line ∷ rest) =
    kept_by (keeps (open_at place) (kind_of (trimmed line.text))) (record { number = line.number; text = trimmed line.text; kind = kind_of (trimmed line.text); place = place }) (placed_from (next_place place (kind_of (trimmed line.text))) rest) _
    (kept_walk (next_place place (kind_of (trimmed line.text))) rest)

pub same_uid : (first second : List Line) → walk uids Before first ≡ walk uids Before second → uid_among (placed first) ≡ uid_among (placed second)
unfolding uid_among placed
same_uid first second h = ap first_of (uid_walk Before first ∙ (h ∙ sym (uid_walk Before second)))

pub same_version : (first second : List Line) → walk kept Before first ≡ walk kept Before second → fingerprint (placed first) ≡ fingerprint (placed second)
unfolding fingerprint normal_form placed
same_version first second h =
    let same : map written (filter is_kept (placed_from Before first)) ≡ map written (filter is_kept (placed_from Before second)) = kept_walk Before first ∙ (h ∙ sym (kept_walk Before second)) in
    rw same refl

-- lines of the same marks tell the same item
pub uid_by_marks : (first second : List Line) → mark_texts (marks_from Before first) ≡ mark_texts (marks_from Before second) → uid_among (placed first) ≡ uid_among (placed second)
uid_by_marks first second h = same_uid first second (same_marks uids no_uid Before first second h)

pub version_by_marks : (first second : List Line) → mark_texts (marks_from Before first) ≡ mark_texts (marks_from Before second) → fingerprint (placed first) ≡ fingerprint (placed second)
version_by_marks first second h = same_version first second (same_marks kept no_kept Before first second h)

pub written_is : (marks : List Mark) → bytes.written marks ≡ flat_map folded (mark_texts marks)
unfolding bytes.written
written_is [] = refl
written_is (mark ∷ rest) = ap (λ (xs : List ℕ). folded mark.text ++ xs) (written_is rest)

none_read : line_texts [] ≡ []
none_read = without_none [] refl ∙ none_behind

pub all_read : (texts : List (List ℕ)) → AreLines texts → line_texts (flat_map folded texts) ≡ texts
all_read [] are = none_read
all_read (line ∷ rest) are = lines_read line rest are.0 are.1

again : (text : List ℕ) → AreLines (mark_texts (item_marks text)) → line_texts (bytes.written (item_marks text)) ≡ mark_texts (marks_from Before (logical_lines text))
unfolding item_marks
again text are = ap line_texts (written_is (item_marks text)) ∙ all_read (mark_texts (item_marks text)) are

pub uid_again : (text : List ℕ) → AreLines (mark_texts (item_marks text)) → uid_among (placed (logical_lines (bytes.written (item_marks text)))) ≡ uid_among (placed (logical_lines text))
uid_again text are = same_uid (logical_lines (bytes.written (item_marks text))) (logical_lines text) (same_texts uids no_uid Before (logical_lines (bytes.written (item_marks text))) (logical_lines text) (again text are))

pub version_again : (text : List ℕ) → AreLines (mark_texts (item_marks text)) → fingerprint (placed (logical_lines (bytes.written (item_marks text)))) ≡ fingerprint (placed (logical_lines text))
version_again text are = same_version (logical_lines (bytes.written (item_marks text))) (logical_lines text) (same_texts kept no_kept Before (logical_lines (bytes.written (item_marks text))) (logical_lines text) (again text are))
