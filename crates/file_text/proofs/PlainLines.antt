-- PlainLines: the logical lines of a text of UTF-8 are UTF-8 without line feeds.
use Rattle.std.proofs.Common.{◌≡◌, ◌⊎◌, inl, inr, ℕ, zero, suc, ◌+◌, ◌-◌, ◌<◌, ◌≤◌, ◌==◌, ◌&&◌, Bool, true, false, cond, nat_eq, List, [], ◌∷◌, ◌++◌, length, get_or, take, drop, slice_index, refl, sym, ◌∙◌, ap, subst, arith, eqb-true}
use Rattle.std.specs.List.{All, starts_with, position_or_len, before_first, after_first}
use Rattle.std.specs.Str.{IsUtf8, IsCharBoundary}
use Rattle.std.specs.Str.Lines.{lines, lines_of_parts, strip_carriage_return}
use Rattle.std.proofs.lemmas.Bool.{cases_lt, and_parts}
use Rattle.std.proofs.lemmas.List.{length-take, get_or-take}
use Rattle.std.proofs.lemmas.List.Sums.{fails_before_first, passes_at_first}
use Rattle.std.proofs.lemmas.List.Splits.{slice_split_none}
use Rattle.std.proofs.lemmas.Bool.Decides.{nat_tests}
use Rattle.std.proofs.lemmas.List.Elements.{All-nil, All-cons, All-head, All-tail, All-append, All-take}
use Rattle.std.proofs.lemmas.Str.{IsUtf8-nil, IsUtf8-append, IsUtf8-take, IsUtf8-drop, IsUtf8-past_char, IsCharBoundary-before_ascii, IsCharBoundary-after_ascii}
use Rattle.item_text.specs.Lines.{Line, is_blank, trim_front, before_trimmed, trim_back, trimmed, continues, continuation, lines_from, unfolded, without_mark, physical_lines, logical_lines}
use Rattle.item_text.proofs.Physical.{line_cut}
use Rattle.file_text.specs.Unfolds.{HasNoFeed}

-- UTF-8 without a line feed
pub record IsPlain (text : List ℕ) : Type 0 where
  pub utf8 : IsUtf8 text
  pub no_feed : HasNoFeed text

abbrev NoFeed : ℕ → Type 0
NoFeed b = (b == 10) ≡ false

blank_ascii : (b : ℕ) → is_blank b ≡ true → b < 128
blank_ascii b h = grind (arith, nat_tests)

-- behind a blank
behind_blank : (b : ℕ) (bs : List ℕ) → is_blank b ≡ true → IsPlain (b ∷ bs) → IsPlain bs
behind_blank b bs h plain = record {
  utf8 = IsUtf8-drop (b ∷ bs) 1 plain.utf8 (IsCharBoundary-after_ascii (b ∷ bs) 0 plain.utf8 (omega arith) (blank_ascii b h));
  no_feed = All-tail NoFeed b bs plain.no_feed;
}

taken : (text : List ℕ) (n : ℕ) → IsPlain text → IsCharBoundary text n → IsPlain (take n text)
taken text n plain at = record { utf8 = IsUtf8-take text n plain.utf8 at; no_feed = All-take NoFeed n text plain.no_feed }

pub both_plain : (xs ys : List ℕ) → IsPlain xs → IsPlain ys → IsPlain (xs ++ ys)
both_plain xs ys x y = record { utf8 = IsUtf8-append xs ys x.utf8 y.utf8; no_feed = All-append NoFeed xs ys x.no_feed y.no_feed }

none_plain : IsPlain []
none_plain = record { utf8 = IsUtf8-nil; no_feed = All-nil NoFeed }

front_by : (t : Bool) (b : ℕ) (bs : List ℕ) → is_blank b ≡ t → IsPlain (b ∷ bs) → (IsPlain bs → IsPlain (trim_front bs)) → IsPlain (cond t (trim_front bs) (b ∷ bs))
front_by true b bs h plain more = more (behind_blank b bs h plain)
front_by false b bs h plain more = plain

front_plain : (text : List ℕ) → IsPlain text → IsPlain (trim_front text)
unfolding trim_front
front_plain [] plain = plain
front_plain (b ∷ bs) plain = front_by (is_blank b) b bs refl plain (front_plain bs)

-- what is trimmed at its end is a front, behind which stands nothing or a blank
record IsFront (text front : List ℕ) : Type 0 where
  count : ℕ
  is : front ≡ take count text
  few : count ≤ length text
  behind : (count ≡ length text) ⊎ (is_blank (get_or text count 0) ≡ true)

back_none : (t : Bool) (b : ℕ) (bs : List ℕ) → is_blank b ≡ t → IsFront bs [] → IsFront (b ∷ bs) (cond t [] (b ∷ []))
back_none true b bs h front = record { count = 0; is = refl; few = omega arith; behind = inr h }
back_none false b [] h front = record { count = 1; is = refl; few = omega arith; behind = inl refl }
back_none false b (c ∷ bs) h front = record { count = 1; is = refl; few = omega arith; behind = inr (first front.count front.is front.behind) }
  where
    first : (n : ℕ) → [] ≡ take n (c ∷ bs) → (n ≡ length (c ∷ bs)) ⊎ (is_blank (get_or (c ∷ bs) n 0) ≡ true) → is_blank c ≡ true
    first zero e (inl k) = absurd (omega (arith, k))
    first zero e (inr k) = k
    first (suc n) e k = absurd (cc)

back_put : (b : ℕ) (bs rest : List ℕ) → IsFront bs rest → IsFront (b ∷ bs) (before_trimmed b rest)
unfolding before_trimmed
back_put b bs [] front = back_none (is_blank b) b bs refl front
back_put b bs (c ∷ cs) front = record { count = suc front.count; is = ap (λ xs. b ∷ xs) front.is; few = omega (arith, front.few); behind = next front.behind }
  where
    next : (front.count ≡ length bs) ⊎ (is_blank (get_or bs front.count 0) ≡ true) → (suc front.count ≡ length (b ∷ bs)) ⊎ (is_blank (get_or (b ∷ bs) (suc front.count) 0) ≡ true)
    next (inl k) = inl (omega (arith, k))
    next (inr k) = inr k

back_front : (text : List ℕ) → IsFront text (trim_back text)
unfolding trim_back
back_front [] = record { count = 0; is = refl; few = omega arith; behind = inl refl }
back_front (b ∷ bs) = back_put b bs (trim_back bs) (back_front bs)

border : (text : List ℕ) (n : ℕ) → n ≤ length text → (n ≡ length text) ⊎ (is_blank (get_or text n 0) ≡ true) → IsCharBoundary text n
border text n few (inl h) = (few, λ below. absurd (omega (arith, h, below)))
border text n few (inr h) = at (cases_lt n (length text))
  where
    at : (n < length text) ⊎ (length text ≤ n) → IsCharBoundary text n
    at (inl below) = IsCharBoundary-before_ascii text n below (blank_ascii (get_or text n 0) h)
    at (inr end) = (few, λ below. absurd (omega (arith, end, below)))

pub trimmed_plain : (text : List ℕ) → IsPlain text → IsPlain (trimmed text)
unfolding trimmed
trimmed_plain text plain =
    let front = back_front (trim_front text) in
    subst IsPlain (sym front.is) (taken (trim_front text) front.count (front_plain text plain) (border (trim_front text) front.count front.few front.behind))

-- what is trimmed continues no line
begins_by : (t : Bool) (b : ℕ) (bs : List ℕ) → is_blank b ≡ t → continues (trim_front bs) ≡ false → continues (cond t (trim_front bs) (b ∷ bs)) ≡ false
unfolding continues
begins_by true b bs h more = more
begins_by false b bs h more = h

front_begins : (text : List ℕ) → continues (trim_front text) ≡ false
unfolding trim_front continues
front_begins [] = refl
front_begins (b ∷ bs) = begins_by (is_blank b) b bs refl (front_begins bs)

back_begins : (text : List ℕ) → continues text ≡ false → continues (trim_back text) ≡ false
unfolding trim_back before_trimmed continues
back_begins [] h = refl
back_begins (b ∷ bs) h = by (trim_back bs)
  where
    by : (rest : List ℕ) → continues (before_trimmed b rest) ≡ false
    by [] = ap (λ (t : Bool). continues (cond t [] (b ∷ []))) h ∙ h
    by (c ∷ cs) = h

pub trimmed_begins : (text : List ℕ) → continues (trimmed text) ≡ false
unfolding trimmed
trimmed_begins text = back_begins (trim_front text) (front_begins text)

-- a carriage return less
stripped_by : (t : Bool) (line : List ℕ) → (slice_index line (length line - 1) == 13) ≡ t → IsPlain line → IsPlain (cond t (take (length line - 1) line) line)
stripped_by true [] h plain = plain
stripped_by true (b ∷ bs) h plain =
    let below : length (b ∷ bs) - 1 < length (b ∷ bs) = omega arith in
    taken (b ∷ bs) (length (b ∷ bs) - 1) plain (IsCharBoundary-before_ascii (b ∷ bs) (length (b ∷ bs) - 1) below (omega (arith, eqb-true (slice_index (b ∷ bs) (length (b ∷ bs) - 1)) 13 h)))
stripped_by false line h plain = plain

stripped : (line : List ℕ) → IsPlain line → IsPlain (strip_carriage_return line)
stripped line plain = stripped_by (slice_index line (length line - 1) == 13) line refl plain

module _ (text : List ℕ) (utf8 : IsUtf8 text) (h : position_or_len (λ b. b == 10) text < length text) where
  feed_ascii : get_or text (position_or_len (λ b. b == 10) text) 0 < 128
  feed_ascii = omega (arith, eqb-true (get_or text (position_or_len (λ b. b == 10) text) 0) 10 (passes_at_first (λ b. b == 10) text 0 h))

  before_feed : IsPlain (before_first (λ b. b == 10) text)
  before_feed = record {
    utf8 = IsUtf8-take text (position_or_len (λ b. b == 10) text) utf8 (IsCharBoundary-before_ascii text (position_or_len (λ b. b == 10) text) h feed_ascii);
    no_feed = λ k d below.
        let short : k < position_or_len (λ b. b == 10) text = omega (arith, below, length-take (position_or_len (λ b. b == 10) text) text) in
        subst (λ (c : ℕ). (c == 10) ≡ false) (sym (get_or-take (position_or_len (λ b. b == 10) text) text k d short)) (fails_before_first (λ b. b == 10) text k d short);
  }

  behind_feed : IsUtf8 (after_first (λ b. b == 10) text)
  behind_feed = IsUtf8-drop text (position_or_len (λ b. b == 10) text + 1) utf8 (IsCharBoundary-after_ascii text (position_or_len (λ b. b == 10) text) utf8 h feed_ascii)

only_by : (t : Bool) (text : List ℕ) → IsPlain text → All IsPlain (cond t [] (text ∷ []))
only_by true text plain = All-nil IsPlain
only_by false text plain = All-cons IsPlain text [] plain (All-nil IsPlain)

lines_by : (n : ℕ) (text : List ℕ) → length text ≤ suc n → IsUtf8 text → ((rest : List ℕ) → length rest ≤ n → IsUtf8 rest → All IsPlain (lines rest)) → (position_or_len (λ b. b == 10) text < length text) ⊎ (length text ≤ position_or_len (λ b. b == 10) text)
    → All IsPlain (lines text)
lines_by n text few utf8 again (inl h) =
    let line : List ℕ = before_first (λ b. b == 10) text in
    let rest : List ℕ = after_first (λ b. b == 10) text in
    let cut = line_cut text line rest (strip_carriage_return line) h refl refl refl in
    subst (λ (ls : List (List ℕ)). All IsPlain ls) (sym cut.0)
    (All-cons IsPlain (strip_carriage_return line) (lines rest) (stripped line (before_feed text utf8 h)) (again rest (omega (arith, cut.1, few)) (behind_feed text utf8 h)))
lines_by n text few utf8 again (inr h) =
    let none : HasNoFeed text = λ k d below. fails_before_first (λ b. b == 10) text k d (omega (arith, h, below)) in
    subst (λ (ls : List (List ℕ)). All IsPlain ls) (sym (ap lines_of_parts (slice_split_none (λ b. b == 10) text none))) (only_by (length text == 0) text (record { utf8 = utf8; no_feed = none }))

physical_plain : (n : ℕ) (text : List ℕ) → length text ≤ n → IsUtf8 text → All IsPlain (lines text)
physical_plain zero [] few utf8 = All-nil IsPlain
physical_plain zero (b ∷ bs) few utf8 = absurd (omega arith)
physical_plain (suc n) text few utf8 = lines_by n text few utf8 (λ rest less u. physical_plain n rest less u) (cases_lt (position_or_len (λ b. b == 10) text) (length text))

continued : (t : Bool) (line more : List ℕ) → continues line ≡ t → IsPlain line → IsPlain more → IsPlain (cond t (drop 1 line ++ more) [])
unfolding continues
continued true [] more h line_plain more_plain = absurd (cc)
continued true (b ∷ bs) more h line_plain more_plain = both_plain bs more (behind_blank b bs h line_plain) more_plain
continued false line more h line_plain more_plain = none_plain

continuation_plain : (physical : List (List ℕ)) → All IsPlain physical → IsPlain (continuation physical)
unfolding continuation
continuation_plain [] plain = none_plain
continuation_plain (line ∷ rest) plain = continued (continues line) line (continuation rest) refl (All-head IsPlain line rest plain) (continuation_plain rest (All-tail IsPlain line rest plain))

abbrev PlainLine : Line → Type 0
PlainLine line = IsPlain line.text

from_by : (t : Bool) (line : Line) (rest : List Line) → PlainLine line → All PlainLine rest → All PlainLine (cond t rest (line ∷ rest))
from_by true line rest one more = more
from_by false line rest one more = All-cons PlainLine line rest one more

from_plain : (n : ℕ) (physical : List (List ℕ)) → All IsPlain physical → All PlainLine (lines_from n physical)
unfolding lines_from
from_plain n [] plain = All-nil PlainLine
from_plain n (line ∷ rest) plain =
    let more : All IsPlain rest = All-tail IsPlain line rest plain in
    from_by (continues line) (record { number = n; text = line ++ continuation rest }) (lines_from (suc n) rest)
    (both_plain line (continuation rest) (All-head IsPlain line rest plain) (continuation_plain rest more)) (from_plain (suc n) rest more)

unfolded_plain : (physical : List (List ℕ)) → All IsPlain physical → All PlainLine (unfolded physical)
unfolding unfolded
unfolded_plain [] plain = All-nil PlainLine
unfolded_plain (line ∷ rest) plain =
    let more : All IsPlain rest = All-tail IsPlain line rest plain in
    All-cons PlainLine (record { number = 1; text = line ++ continuation rest }) (lines_from 2 rest)
    (both_plain line (continuation rest) (All-head IsPlain line rest plain) (continuation_plain rest more)) (from_plain 2 rest more)

-- the byte order mark is a character
mark_away : (text : List ℕ) → starts_with nat_eq text (239 ∷ 187 ∷ 191 ∷ []) ≡ true → IsUtf8 text → IsUtf8 (drop 3 text)
unfolding lib.Utf8.encode
mark_away [] h utf8 = utf8
mark_away (a ∷ []) h utf8 = IsUtf8-nil
mark_away (a ∷ b ∷ []) h utf8 = IsUtf8-nil
mark_away (a ∷ b ∷ c ∷ rest) h utf8 =
    let first = and_parts (nat_eq 239 a) (nat_eq 187 b && (nat_eq 191 c && true)) h in
    let second = and_parts (nat_eq 187 b) (nat_eq 191 c && true) first.1 in
    let third = and_parts (nat_eq 191 c) true second.1 in
    let is : a ∷ b ∷ c ∷ rest ≡ 239 ∷ 187 ∷ 191 ∷ rest =
    ap (λ (x : ℕ). x ∷ b ∷ c ∷ rest) (sym (eqb-true 239 a first.0)) ∙ (ap (λ (x : ℕ). 239 ∷ x ∷ c ∷ rest) (sym (eqb-true 187 b second.0)) ∙ ap (λ (x : ℕ). 239 ∷ 187 ∷ x ∷ rest) (sym (eqb-true 191 c third.0))) in
    IsUtf8-past_char (a ∷ b ∷ c ∷ rest) rest 65279 utf8 is

without_by : (t : Bool) (text : List ℕ) → starts_with nat_eq text (239 ∷ 187 ∷ 191 ∷ []) ≡ t → IsUtf8 text → IsUtf8 (cond t (drop 3 text) text)
without_by true text h utf8 = mark_away text h utf8
without_by false text h utf8 = utf8

without_utf8 : (text : List ℕ) → IsUtf8 text → IsUtf8 (without_mark text)
unfolding without_mark
without_utf8 text utf8 = without_by (starts_with nat_eq text (239 ∷ 187 ∷ 191 ∷ [])) text refl utf8

pub text_plain : (text : List ℕ) → IsUtf8 text → All (λ (line : Line). IsPlain line.text) (logical_lines text)
unfolding logical_lines physical_lines
text_plain text utf8 = unfolded_plain (lines (without_mark text)) (physical_plain (length (without_mark text)) (without_mark text) (omega arith) (without_utf8 text utf8))
