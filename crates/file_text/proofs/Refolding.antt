-- Refolding: each line of UTF-8 is folded by its definition, and lines that are written are read again.
use Rattle.std.proofs.Common.{◌≡◌, ◌⊎◌, inl, inr, ℕ, zero, suc, ◌<◌, ◌≤◌, Bool, true, false, cond, List, [], ◌∷◌, length, take, drop, refl, sym, ◌∙◌, ap, subst, arith}
use Rattle.std.specs.List.{All, flat_map}
use Rattle.std.specs.Str.{IsUtf8, IsCharBoundary}
use Rattle.std.proofs.lemmas.List.{length-drop}
use Rattle.std.proofs.lemmas.List.Elements.{All-head, All-tail}
use Rattle.std.proofs.lemmas.Str.{IsUtf8-drop, IsCharBoundary-start}
use Rattle.std.proofs.lemmas.Bool.{cases_lt}
use Rattle.item_text.specs.Lines.{continues}
use Rattle.file_text.specs.Folds.{fitting, ArePieces, IsFolded}
use Rattle.file_text.specs.Unfolds.{line_texts, texts_behind, HasNoMark, IsLine}
use Rattle.file_text.specs.Written.{pieces_of, folded}
use Rattle.file_text.proofs.Borders.{fits, fits_at, at_fits, some_border}
use Rattle.file_text.proofs.Folding.{last_piece, next_piece}
use Rattle.file_text.proofs.Reading.{read_behind, read_in_front, folded_begins, none_behind, none_continues}

border_by : (b : Bool) (n m : ℕ) (text : List ℕ) → fits (suc n) text ≡ b → IsCharBoundary text m → IsCharBoundary text (cond b (suc n) m)
border_by true n m text h at = at_fits (suc n) text h
border_by false n m text h at = at

-- what fits ends between characters
pub border : (n : ℕ) (text : List ℕ) → IsUtf8 text → IsCharBoundary text (fitting n text)
unfolding fitting
border zero text utf8 = IsCharBoundary-start text utf8
border (suc n) text utf8 = border_by (fits (suc n) text) n (fitting n text) text refl (border n text utf8)

least_by : (b : Bool) (n m i : ℕ) (text : List ℕ) → fits (suc n) text ≡ b → i ≤ suc n → IsCharBoundary text i → (i ≤ n → i ≤ m) → (i < suc n) ⊎ (suc n ≤ i) → i ≤ cond b (suc n) m
least_by true n m i text h below at less c = below
least_by false n m i text h below at less (inl c) = less (omega arith)
least_by false n m i text h below at less (inr c) =
    let same : i ≡ suc n = omega arith in
    absurd (no (fits_at (suc n) text (subst (λ (k : ℕ). IsCharBoundary text k) same at)) h)
  where
    no : {s : Bool} → s ≡ true → s ≡ false → ⊥
    no e f = cc

-- no less fits than up to a border
least : (n i : ℕ) (text : List ℕ) → i ≤ n → IsCharBoundary text i → i ≤ fitting n text
unfolding fitting
least zero i text below at = below
least (suc n) i text below at = least_by (fits (suc n) text) n (fitting n text) i text refl below at (λ less. least n i text less at) (cases_lt i (suc n))

some_fitting : (n : ℕ) (text : List ℕ) → IsUtf8 text → 4 ≤ n → n < length text → 0 < fitting n text
some_fitting n text utf8 enough longer =
    let found = some_border text utf8 (omega arith) in
    let more : found.0 ≤ fitting n text = least n found.0 text (omega (arith, found.2)) found.3 in
    omega (arith, found.1, more)

put_before : (room : ℕ) (line : List ℕ) (pieces : List (List ℕ)) → room < length line → ArePieces 74 (drop (fitting room line) line) pieces → ArePieces room line (take (fitting room line) line ∷ pieces)
put_before room line [] longer are = absurd are
put_before room line (next ∷ more) longer are = (longer, refl, are)

pieces_by : (count room : ℕ) (line : List ℕ) → IsUtf8 line → 4 ≤ room → length line ≤ count → (room < length line) ⊎ (length line ≤ room) → ArePieces room line (pieces_of count room line)
pieces_by count room line utf8 enough short (inr fits_all) = subst (λ (ps : List (List ℕ)). ArePieces room line ps) (sym (last_piece count room line fits_all)) (refl, fits_all)
pieces_by zero room line utf8 enough short (inl longer) = absurd (omega arith)
pieces_by (suc count) room line utf8 enough short (inl longer) =
    let rest : List ℕ = drop (fitting room line) line in
    let left : length rest ≤ count = omega (arith, some_fitting room line utf8 enough longer, length-drop (fitting room line) line) in
    subst (λ (ps : List (List ℕ)). ArePieces room line ps) (sym (next_piece count room line longer))
    (put_before room line (pieces_of count 74 rest) longer (pieces_by count 74 rest (IsUtf8-drop line (fitting room line) utf8 (border room line utf8)) (omega arith) left (cases_lt 74 (length rest))))

pub is_folded : (line : List ℕ) → IsUtf8 line → IsFolded line (folded line)
unfolding folded
is_folded line utf8 = record { pieces = pieces_of (length line) 75 line; are = pieces_by (length line) 75 line utf8 (omega arith) (omega arith) (cases_lt 75 (length line)); written = refl }

begins : (lines : List (List ℕ)) → All IsLine lines → continues (flat_map folded lines) ≡ false
begins [] are = none_continues
begins (line ∷ rest) are =
    let first : IsLine line = All-head IsLine line rest are in
    folded_begins line (folded line) (flat_map folded rest) (is_folded line first.utf8) first.begins

pub lines_behind : (lines : List (List ℕ)) → All IsLine lines → texts_behind (flat_map folded lines) ≡ lines
lines_behind [] are = none_behind
lines_behind (line ∷ rest) are =
    let first : IsLine line = All-head IsLine line rest are in
    let more : All IsLine rest = All-tail IsLine line rest are in
    read_behind line (folded line) (flat_map folded rest) (is_folded line first.utf8) first.no_feed (begins rest more) ∙ ap (λ (ls : List (List ℕ)). line ∷ ls) (lines_behind rest more)

pub lines_read : (line : List ℕ) (rest : List (List ℕ)) → HasNoMark line → All IsLine (line ∷ rest) → line_texts (flat_map folded (line ∷ rest)) ≡ line ∷ rest
lines_read line rest plain are =
    let first : IsLine line = All-head IsLine line rest are in
    let more : All IsLine rest = All-tail IsLine line rest are in
    read_in_front line (folded line) (flat_map folded rest) (is_folded line first.utf8) first.no_feed plain (begins rest more) ∙ ap (λ (ls : List (List ℕ)). line ∷ ls) (lines_behind rest more)
