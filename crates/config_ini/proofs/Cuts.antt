-- The first physical line of a text, and those behind it.
use Rattle.std.proofs.Common.{◌≡◌, ℕ, ◌+◌, ◌<◌, ◌≤◌, ◌==◌, Bool, true, false, cond, nat_lt, List, [], ◌∷◌, length, take, drop, Option, Some, None, refl, sym, ◌∙◌, ap, arith, length-drop}
use Rattle.std.specs.List.{slice_split, position, position_or_len, before_first, after_first, All}
use Rattle.std.specs.Str.Lines.{lines, lines_of_parts, strip_carriage_return}
use Rattle.std.proofs.lemmas.List.Sums.{fails_before_first}
use Rattle.std.proofs.lemmas.List.Splits.{slice_split_first, slice_split_none, length-slice_split}
use Rattle.std.proofs.lemmas.Bool.Decides.{nat_tests}

abbrev is_feed : ℕ → Bool
is_feed b = b == 10

strip_by : (line : List ℕ) (parts : List (List ℕ)) → 0 < length parts → lines_of_parts (line ∷ parts) ≡ strip_carriage_return line ∷ lines_of_parts parts
strip_by line [] h = absurd (omega arith)
strip_by line (part ∷ parts) h = refl

lines_first : (text : List ℕ) → position_or_len is_feed text < length text → lines text ≡ strip_carriage_return (before_first is_feed text) ∷ lines (after_first is_feed text)
lines_first text h =
    ap lines_of_parts (slice_split_first is_feed text 0 h)
    ∙ strip_by (before_first is_feed text) (slice_split is_feed (after_first is_feed text)) (omega (arith, length-slice_split is_feed (after_first is_feed text)))

found_by : (b : Bool) (n k : ℕ) → cond {A = Option ℕ} b (Some n) None ≡ Some k → (b ≡ true) × (n ≡ k)
found_by true n k h = (refl, cc)
found_by false n k h = cc

missed_by : (b : Bool) (n : ℕ) → cond {A = Option ℕ} b (Some n) None ≡ None → b ≡ false
missed_by true n h = cc
missed_by false n h = refl

pub found_at : (p : ℕ → Bool) (text : List ℕ) (k : ℕ) → position p text ≡ Some k → (position_or_len p text < length text) × (position_or_len p text ≡ k)
found_at p text k h =
    let both = found_by (nat_lt (position_or_len p text) (length text)) (position_or_len p text) k h in
    let below : nat_lt (position_or_len p text) (length text) ≡ true = both.0 in
    (grind (arith, nat_tests), both.1)

-- cut at the first line feed
pub line_cut : (text line rest : List ℕ) (k : ℕ) → position is_feed text ≡ Some k → line ≡ strip_carriage_return (take k text) → rest ≡ drop (k + 1) text
    → (lines text ≡ line ∷ lines rest) × (length rest < length text)
line_cut text line rest k h is behind_is =
    let found = found_at is_feed text k h in (
      lines_first text found.0
          ∙ ap (λ (n : ℕ). strip_carriage_return (take n text) ∷ lines (drop (n + 1) text)) found.1
          ∙ ap (λ (l : List ℕ). l ∷ lines (drop (k + 1) text)) (sym is)
          ∙ ap (λ (r : List ℕ). line ∷ lines r) (sym behind_is),
      omega (arith, ap length behind_is, length-drop (k + 1) text, found.0, found.1),
    )

fails_all : (text : List ℕ) → position is_feed text ≡ None → All (λ b. (b == 10) ≡ false) text
fails_all text h = λ k d below.
    let beyond : nat_lt (position_or_len is_feed text) (length text) ≡ false = missed_by _ _ h in
    let far : length text ≤ position_or_len is_feed text = grind (arith, nat_tests) in
    fails_before_first is_feed text k d (omega arith)

pub some_bytes : (text : List ℕ) → (length text == 0) ≡ false → 0 < length text
some_bytes text h = grind (arith, nat_tests)

-- a text without a line feed is one line
pub only_line : (text : List ℕ) → position is_feed text ≡ None → (length text == 0) ≡ false → lines text ≡ text ∷ []
only_line text h some =
    ap lines_of_parts (slice_split_none is_feed text (fails_all text h)) ∙ ap (λ (t : Bool). cond t [] (text ∷ [])) some
