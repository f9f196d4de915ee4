-- Physical lines: the first of a text, and those behind it.
use Rattle.std.proofs.Common.{◌≡◌, ℕ, suc, ◌+◌, ◌-◌, ◌<◌, ◌==◌, Bool, true, false, cond, List, [], ◌∷◌, ◌++◌, length, take, drop, slice_index, Some, None, refl, sym, ◌∙◌, ap, arith, eqb-true}
use Rattle.std.specs.List.{slice_split, position_or_len, before_first, after_first, join_with_byte, All}
use Rattle.std.specs.Str.Lines.{lines, lines_of_parts, strip_carriage_return}
use Rattle.std.proofs.lemmas.List.{length-drop, take_all}
use Rattle.std.proofs.lemmas.List.Sums.{fails_before_first}
use Rattle.std.proofs.lemmas.List.Splits.{slice_split_first, slice_split_none, join_with_byte-slice_split}
use Rattle.std.proofs.lemmas.Bool.{false≢true}
use Rattle.item_text.specs.Lines.{Line, continues}
use Rattle.item_text.specs.Seen.{behind}
use Rattle.item_text.proofs.Blanks.{last_of}
use Rattle.item_text.proofs.Parts.{goes_on, goes_on_part, some_part, behind_first, joined_first}
use Rattle.item_text.proofs.Unfolding.{line_of, behind_line, behind_more, behind_none, begun_ends}

-- a carriage return at the end
returned : (t : Bool) (line : List ℕ) → (slice_index line (length line - 1) == 13) ≡ t → ((front : List ℕ) → line ≡ front ++ (13 ∷ []) → ⊥) → line ≡ cond t (take (length line - 1) line) line
returned false line h none = refl
returned true [] h none = absurd (false≢true h)
returned true (b ∷ bs) h none = absurd (none (take (length (b ∷ bs) - 1) (b ∷ bs)) (sym (take_all (length (b ∷ bs)) (b ∷ bs) (omega arith)) ∙ last_of (b ∷ bs) (length (b ∷ bs)) (omega arith) (omega arith) ∙ ap (λ (c : ℕ). take (length (b ∷ bs) - 1) (b ∷ bs) ++ (c ∷ [])) (eqb-true _ 13 h)))

pub kept_whole : (line : List ℕ) → ((front : List ℕ) → line ≡ front ++ (13 ∷ []) → ⊥) → line ≡ strip_carriage_return line
kept_whole line none = returned (slice_index line (length line - 1) == 13) line refl none

-- the first line of a text with a line feed
lines_by : (line : List ℕ) (text : List ℕ) → lines_of_parts (line ∷ slice_split (λ b. b == 10) text) ≡ strip_carriage_return line ∷ lines text
lines_by line text =
    let cut = some_part text in
    ap (λ (ps : List (List ℕ)). lines_of_parts (line ∷ ps)) cut.2 ∙ ap (λ (ps : List (List ℕ)). strip_carriage_return line ∷ lines_of_parts ps) (sym cut.2)

lines_first : (text : List ℕ) → position_or_len (λ b. b == 10) text < length text → lines text ≡ strip_carriage_return (before_first (λ b. b == 10) text) ∷ lines (after_first (λ b. b == 10) text)
lines_first text h = ap lines_of_parts (slice_split_first (λ b. b == 10) text 0 h) ∙ lines_by (before_first (λ b. b == 10) text) (after_first (λ b. b == 10) text)

rest_shorter : (text : List ℕ) → position_or_len (λ b. b == 10) text < length text → length (after_first (λ b. b == 10) text) < length text
rest_shorter text h = omega (arith, length-drop (position_or_len (λ b. b == 10) text + 1) text)

pub line_cut : (text line rest cut : List ℕ) → position_or_len (λ b. b == 10) text < length text → line ≡ before_first (λ b. b == 10) text → rest ≡ after_first (λ b. b == 10) text → cut ≡ strip_carriage_return line
    → (lines text ≡ cut ∷ lines rest) × (length rest < length text)
line_cut text line rest cut h is behind_is cut_is = (
  lines_first text h
      ∙ (ap (λ (l : List ℕ). strip_carriage_return l ∷ lines (after_first (λ b. b == 10) text)) (sym is)
      ∙ (ap (λ (l : List ℕ). strip_carriage_return line ∷ lines l) (sym behind_is) ∙ ap (λ (l : List ℕ). l ∷ lines rest) (sym cut_is))),
  omega (arith, ap length behind_is, rest_shorter text h),
)

-- the one line of a text without a line feed
no_feeds : (text : List ℕ) → position_or_len (λ b. b == 10) text ≡ length text → All (λ b. (b == 10) ≡ false) text
no_feeds text h = λ k d below. fails_before_first (λ b. b == 10) text k d (omega (arith, h, below))

pub lines_only : (text : List ℕ) → position_or_len (λ b. b == 10) text ≡ length text → (length text == 0) ≡ false → lines text ≡ text ∷ []
lines_only text h some = ap lines_of_parts (slice_split_none (λ b. b == 10) text (no_feeds text h)) ∙ ap (λ (t : Bool). cond t [] (text ∷ [])) some

pub some_bytes : (text : List ℕ) → (length text == 0) ≡ false → 0 < length text
some_bytes [] h = absurd (false≢true (sym h))
some_bytes (b ∷ bs) h = omega arith

-- the first physical line continues another where the text does
front_of : (part : List ℕ) (rest : List (List ℕ)) → continues part ≡ continues (part ++ behind_first rest)
unfolding continues
front_of [] [] = refl
front_of [] (next ∷ rest) = refl
front_of (b ∷ bs) rest = refl

pub goes_on_lines : (text : List ℕ) → goes_on (lines text) ≡ continues text
goes_on_lines text =
    let cut = some_part text in
    ap (λ (ps : List (List ℕ)). goes_on (lines_of_parts ps)) cut.2
    ∙ (goes_on_part cut.0 cut.1
    ∙ (front_of cut.0 cut.1
    ∙ ap continues (sym (joined_first cut.0 cut.1) ∙ (ap (join_with_byte 10) (sym cut.2) ∙ join_with_byte-slice_split 10 text))))

-- the lines that are left behind the first physical line of a text
module _ (n : ℕ) (text line rest : List ℕ) (cut : lines text ≡ line ∷ lines rest) where
  next_number : suc n ≡ n + 1
  next_number = omega arith

  pub first_left : behind None n (lines text) ≡ behind (Some (line_of (n + 1) line)) (n + 1) (lines rest)
  first_left =
      ap (behind None n) cut
      ∙ (behind_line n line (lines rest) ∙ ap (λ (m : ℕ). behind (Some (line_of m line)) m (lines rest)) next_number)

  pub line_continues : continues text ≡ true → continues line ≡ true
  line_continues h = sym (ap goes_on cut) ∙ (goes_on_lines text ∙ h)

  pub more_left : (begun : Line) (more : List ℕ) → continues text ≡ true → more ≡ drop 1 line → behind (Some begun) n (lines text) ≡ behind (Some (line_of begun.number (begun.text ++ more))) (n + 1) (lines rest)
  more_left begun more h k =
      ap (behind (Some begun) n) cut
      ∙ (behind_more n begun line (lines rest) (line_continues h)
      ∙ (ap (λ (m : ℕ). behind (Some (line_of begun.number (begun.text ++ drop 1 line))) m (lines rest)) next_number
      ∙ ap (λ (t : List ℕ). behind (Some (line_of begun.number (begun.text ++ t))) (n + 1) (lines rest)) (sym k)))

pub none_left : (n : ℕ) (text : List ℕ) → text ≡ [] → behind None n (lines text) ≡ []
none_left n text h = ap (λ (t : List ℕ). behind None n (lines t)) h ∙ behind_none n

pub begun_left : (n : ℕ) (text : List ℕ) (begun : Line) → continues text ≡ false → behind (Some begun) n (lines text) ≡ begun ∷ behind None n (lines text)
begun_left n text begun h = begun_ends n begun (lines text) (goes_on_lines text ∙ h)

pub none_continues : (text : List ℕ) → text ≡ [] → continues text ≡ true → ⊥
unfolding continues
none_continues text h k = false≢true (sym (ap continues h) ∙ k)
