-- AgainRead: a component that is written, read again as an item.
use Rattle.std.proofs.Common.{◌≡◌, ℕ, zero, suc, ◌<◌, ◌≤◌, Bool, true, false, cond, nat_le, nat_lt, List, [], ◌∷◌, ◌++◌, map, length, take, drop, Option, None, Ok, Err, sym, ◌∙◌, ap, subst, arith}
use Rattle.std.specs.List.{All, filter_map, find, flat_map}
use Rattle.std.specs.Option.{option_map}
use Rattle.std.specs.Str.{IsUtf8, IsAscii, is_utf8}
use Rattle.std.specs.Str.Lossy.{utf8_valid_len}
use Rattle.std.proofs.lemmas.Bool.Decides.{nat_tests}
use Rattle.std.proofs.lemmas.List.Elements.{All-nil, All-cons, All-head, All-tail}
use Rattle.std.proofs.lemmas.Str.{IsUtf8-nil, IsUtf8-append, IsUtf8-take, IsUtf8-drop, IsUtf8-from_ascii}
use Rattle.item_text.specs.Lines.{Line, physical_lines, logical_lines}
use Rattle.item_text.specs.Components.{Place, Before, Behind, Placed, placed, placed_from, last_place, next_place, kind_of, Opens}
use Rattle.item_text.specs.Items.{ItemValue, value_of_lines, item_of_text, read_item, unless_refused}
use Rattle.item_text.specs.Refusals.{first_of, else_of, fault_of, fault_of_end, fault_of_calendar, opens_calendar, children, refusal_of}
use Rattle.item_text.specs.declared.item.ItemError.{ItemError}
use Rattle.item_text.specs.declared.item.ItemError.TheVariants.{TooLong, NotUtf8}
use Rattle.item_text.proofs.Readings.{read_text}
use Rattle.file_text.specs.Folds.{fitting, behind_piece, folded_of}
use Rattle.file_text.specs.Marks.{mark_texts}
use Rattle.file_text.specs.Unfolds.{IsLine, AreLines}
use Rattle.file_text.specs.Written.{pieces_of, folded, written}
use Rattle.file_text.specs.declared.marks.Mark.{Mark}
use Rattle.file_text.proofs.Components.{opened}
use Rattle.file_text.proofs.MadeFiles.{no_mark}
use Rattle.file_text.proofs.Refolding.{border}
use Rattle.file_text.proofs.Runs.{IsAt, IsRun, is_line, HaveTexts, item_reads}
use Rattle.file_text.proofs.SameLines.{written_is, all_read}

-- a line that is written is UTF-8
pieces_by : (b : Bool) (count room : ℕ) (line : List ℕ) → IsUtf8 line → ((rest : List ℕ) → IsUtf8 rest → All IsUtf8 (pieces_of count 74 rest)) → All IsUtf8 (cond b (line ∷ []) (take (fitting room line) line ∷ pieces_of count 74 (drop (fitting room line) line)))
pieces_by true count room line utf8 again = All-cons IsUtf8 line [] utf8 (All-nil IsUtf8)
pieces_by false count room line utf8 again =
    All-cons IsUtf8 (take (fitting room line) line) (pieces_of count 74 (drop (fitting room line) line)) (IsUtf8-take line (fitting room line) utf8 (border room line utf8)) (again (drop (fitting room line) line) (IsUtf8-drop line (fitting room line) utf8 (border room line utf8)))

pieces_utf8 : (count room : ℕ) (line : List ℕ) → IsUtf8 line → All IsUtf8 (pieces_of count room line)
unfolding pieces_of
pieces_utf8 zero room line utf8 = All-cons IsUtf8 line [] utf8 (All-nil IsUtf8)
pieces_utf8 (suc count) room line utf8 = pieces_by (nat_le (length line) room) count room line utf8 (λ rest u. pieces_utf8 count 74 rest u)

ends_ascii : IsAscii (13 ∷ 10 ∷ [])
ends_ascii zero = omega arith
ends_ascii (suc zero) = omega arith
ends_ascii (suc (suc i)) = omega arith

space_ascii : IsAscii (32 ∷ [])
space_ascii zero = omega arith
space_ascii (suc i) = omega arith

ending : IsUtf8 (13 ∷ 10 ∷ [])
ending = IsUtf8-from_ascii (13 ∷ 10 ∷ []) ends_ascii

again_begun : IsUtf8 (13 ∷ 10 ∷ 32 ∷ [])
again_begun = IsUtf8-append (13 ∷ 10 ∷ []) (32 ∷ []) ending (IsUtf8-from_ascii (32 ∷ []) space_ascii)

behind_utf8 : (pieces : List (List ℕ)) → All IsUtf8 pieces → IsUtf8 (behind_piece pieces)
unfolding behind_piece
behind_utf8 [] are = ending
behind_utf8 (piece ∷ more) are =
    IsUtf8-append (13 ∷ 10 ∷ 32 ∷ []) (piece ++ behind_piece more) again_begun (IsUtf8-append piece (behind_piece more) (All-head IsUtf8 piece more are) (behind_utf8 more (All-tail IsUtf8 piece more are)))

folded_pieces : (pieces : List (List ℕ)) → All IsUtf8 pieces → IsUtf8 (folded_of pieces)
unfolding folded_of
folded_pieces [] are = IsUtf8-nil
folded_pieces (piece ∷ more) are = IsUtf8-append piece (behind_piece more) (All-head IsUtf8 piece more are) (behind_utf8 more (All-tail IsUtf8 piece more are))

folded_utf8 : (line : List ℕ) → IsUtf8 line → IsUtf8 (folded line)
unfolding folded
folded_utf8 line utf8 = folded_pieces (pieces_of (length line) 75 line) (pieces_utf8 (length line) 75 line utf8)

lines_utf8 : (lines : List (List ℕ)) → All IsLine lines → IsUtf8 (flat_map folded lines)
lines_utf8 [] are = IsUtf8-nil
lines_utf8 (line ∷ rest) are = IsUtf8-append (folded line) (flat_map folded rest) (folded_utf8 line (All-head IsLine line rest are).utf8) (lines_utf8 rest (All-tail IsLine line rest are))

pub all_lines : (place end : Place) (marks : List Mark) → IsRun place marks end → All IsLine (mark_texts marks)
all_lines place end [] run = All-nil IsLine
all_lines place end (mark ∷ rest) run = All-cons IsLine mark.text (mark_texts rest) (is_line place mark run.0) (all_lines (next_place place (kind_of mark.text)) end rest run.1)

-- lines of which the first opens a component are read again as they are written
pub first_opens : (mark : Mark) → IsAt Before mark → (name : List ℕ) × (kind_of mark.text ≡ Opens name)
first_opens mark at = opened (kind_of mark.text) at.some (at.fine 0)

pub are_lines : (marks : List Mark) → IsRun Before marks Behind → AreLines (mark_texts marks)
are_lines [] run = tt
are_lines (mark ∷ rest) run =
    let name = first_opens mark run.0 in
    (no_mark mark.text name.0 name.1, all_lines Before Behind (mark ∷ rest) run)

pub written_utf8 : (marks : List Mark) → All IsLine (mark_texts marks) → IsUtf8 (written marks)
written_utf8 marks are = subst IsUtf8 (sym (written_is marks)) (lines_utf8 (mark_texts marks) are)

pub have_texts : (marks : List Mark) → AreLines (mark_texts marks) → HaveTexts (logical_lines (written marks)) marks
have_texts marks are = ap (λ (t : List ℕ). map (λ (line : Line). line.text) (logical_lines t)) (written_is marks) ∙ all_read (mark_texts marks) are

-- the item of a component that is written
abbrev pub item_again : List Mark → ItemValue
item_again marks = value_of_lines (written marks) (placed (logical_lines (written marks)))

read_long : (text : List ℕ) → 8388608 < length text → read_item text ≡ Err TooLong
unfolding read_item
read_long text h =
    let long : nat_lt 8388608 (length text) ≡ true = grind (arith, nat_tests) in
    ap (λ (b : Bool). cond b (Err TooLong) (cond (is_utf8 text) (item_of_text text) (Err (NotUtf8 (utf8_valid_len text))))) long

-- how the component of a text reads where it is written
pub record ReadsAgain (marks : List Mark) : Type 0 where
  pub short : length (written marks) ≤ 8388608 → read_item (written marks) ≡ Ok (item_again marks)
  pub long : 8388608 < length (written marks) → read_item (written marks) ≡ Err TooLong

no_fault : (faults : List ItemError) (count : ℕ) (last : Place) (more : Option ItemError) → faults ≡ [] → last ≡ Behind → more ≡ None → else_of (first_of (faults ++ fault_of_end count last)) more ≡ None
unfolding first_of else_of fault_of_end
no_fault faults count last more h k e =
    ap (λ (fs : List ItemError). else_of (first_of (fs ++ fault_of_end count last)) more) h ∙ (ap (λ (p : Place). else_of (first_of (fault_of_end count p)) more) k ∙ e)

pub reads_again : (marks : List Mark) → IsRun Before marks Behind
    → ((lines : List Line) → HaveTexts lines marks → fault_of_calendar (option_map (λ (line : Placed). line.number) (find opens_calendar (placed lines))) (children (placed lines)) ≡ None) → ReadsAgain marks
unfolding refusal_of item_of_text unless_refused placed value_of_lines
reads_again marks run fine =
    let lines : List Line = logical_lines (written marks) in
    let texts : HaveTexts lines marks = have_texts marks (are_lines marks run) in
    let reads = item_reads Before Behind marks lines run texts in
    let refusal : refusal_of (length (physical_lines (written marks))) lines ≡ None = no_fault (filter_map fault_of (placed_from Before lines)) (length (physical_lines (written marks))) (last_place Before lines) _ reads.0 reads.1 (fine lines texts) in
    record {
      short = λ few.
          read_text (written marks) few (written_utf8 marks (all_lines Before Behind marks run))
          ∙ ap (λ (o : Option ItemError). unless_refused o (value_of_lines (written marks) (placed lines))) refusal;
      long = λ many. read_long (written marks) many;
    }
