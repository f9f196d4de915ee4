-- Shortness: no physical line of a line that is folded is longer than 75 bytes.
use Rattle.std.proofs.Common.{◌≡◌, ℕ, ◌+◌, ◌-◌, ◌==◌, ◌≤◌, Bool, true, false, cond, List, [], ◌∷◌, ◌++◌, length, take, slice_index, refl, sym, subst, arith, append_assoc, append-nil, eqb-true}
use Rattle.std.specs.List.{All}
use Rattle.std.specs.Str.Lines.{lines, strip_carriage_return}
use Rattle.std.proofs.lemmas.List.{length-append, length-take}
use Rattle.std.proofs.lemmas.List.Elements.{All-nil, All-cons, All-push, All-head, All-tail}
use Rattle.file_text.specs.Folds.{ArePieces, behind_piece, folded_of, IsFolded}
use Rattle.file_text.specs.Unfolds.{HasNoFeed}
use Rattle.file_text.proofs.Cuts.{line_ends, returned_ends}
use Rattle.file_text.proofs.Pieces.{first_short, later_short, AreShort}

-- whether no physical line of a text is longer than 75 bytes
abbrev HasShortLines : List ℕ → Type 0
HasShortLines text = All (λ (physical : List ℕ). length physical ≤ 75) (lines text)

stripped_by : (t : Bool) (line : List ℕ) → length (cond t (take (length line - 1) line) line) ≤ length line
stripped_by true line = omega (arith, length-take (length line - 1) line)
stripped_by false line = omega arith

one_more : (line rest : List ℕ) (lines_of : List (List ℕ)) → lines_of ≡ line ∷ lines rest → length line ≤ 75 → HasShortLines rest → All (λ (physical : List ℕ). length physical ≤ 75) lines_of
one_more line rest lines_of is short more =
    subst (λ (ls : List (List ℕ)). All (λ (physical : List ℕ). length physical ≤ 75) ls) (sym is) (All-cons (λ (physical : List ℕ). length physical ≤ 75) line (lines rest) short more)

-- one byte more between a line that is begun and what stands behind it
short_by : (t : Bool) (begun behind : List ℕ) (b room : ℕ) → (b == 10) ≡ t → HasNoFeed begun → length begun + 1 + room ≤ 75
    → ((more : List ℕ) → HasNoFeed more → length more + room ≤ 75 → HasShortLines (more ++ behind)) → HasShortLines (begun ++ (b ∷ behind))
short_by true begun behind b room feed plain short again =
    subst (λ (c : ℕ). HasShortLines (begun ++ (c ∷ behind))) (sym (eqb-true b 10 feed))
    (one_more (strip_carriage_return begun) behind (lines (begun ++ 10 ∷ behind)) (line_ends begun behind plain) (omega (arith, stripped_by (slice_index begun (length begun - 1) == 13) begun))
    (again [] (All-nil (λ b. (b == 10) ≡ false)) (omega arith)))
short_by false begun behind b room other plain short again =
    subst HasShortLines (append_assoc begun (b ∷ []) behind)
    (again (begun ++ (b ∷ [])) (All-push (λ b. (b == 10) ≡ false) begun b plain other) (omega (arith, length-append begun (b ∷ []))))

-- a text before a CRLF, behind a line that is begun
short_front : (begun text rest : List ℕ) → HasNoFeed begun → length begun + length text ≤ 75 → HasShortLines rest → HasShortLines (begun ++ (text ++ 13 ∷ 10 ∷ rest))
short_front begun [] rest plain short more = one_more begun rest (lines (begun ++ 13 ∷ 10 ∷ rest)) (returned_ends begun rest plain) (omega arith) more
short_front begun (b ∷ text) rest plain short more =
    short_by (b == 10) begun (text ++ 13 ∷ 10 ∷ rest) b (length text) refl plain (omega arith) (λ before plain' short'. short_front before text rest plain' short' more)

short_lines : (text : List ℕ) (more : List (List ℕ)) (rest : List ℕ) → length text ≤ 75 → AreShort more → HasShortLines rest → HasShortLines ((text ++ behind_piece more) ++ rest)
unfolding behind_piece
short_lines text [] rest short all rest_short =
    subst HasShortLines (sym (append_assoc text (13 ∷ 10 ∷ []) rest)) (short_front [] text rest (All-nil (λ b. (b == 10) ≡ false)) (omega arith) rest_short)
short_lines text (next ∷ more) rest short all rest_short =
    let P : List ℕ → Type 0 = λ piece. length piece ≤ 74 in
    let behind : List ℕ = ((32 ∷ next) ++ behind_piece more) ++ rest in
    let next_short : length next ≤ 74 = All-head P next more all in
    subst HasShortLines (sym (append_assoc text (13 ∷ 10 ∷ 32 ∷ next ++ behind_piece more) rest))
    (short_front [] text behind (All-nil (λ b. (b == 10) ≡ false)) (omega arith) (short_lines (32 ∷ next) more rest (omega arith) (All-tail P next more all) rest_short))

short_pieces : (line : List ℕ) (pieces : List (List ℕ)) (rest : List ℕ) → ArePieces 75 line pieces → HasShortLines rest → HasShortLines (folded_of pieces ++ rest)
unfolding folded_of
short_pieces line [] rest are short = absurd are
short_pieces line (piece ∷ more) rest are short = short_lines piece more rest (first_short 75 line piece more are) (later_short 75 line piece more are) short

pub short_in_front : (line bytes rest : List ℕ) → IsFolded line bytes → All (λ (physical : List ℕ). length physical ≤ 75) (lines rest) → All (λ (physical : List ℕ). length physical ≤ 75) (lines (bytes ++ rest))
short_in_front line bytes rest folded short = subst (λ (xs : List ℕ). HasShortLines (xs ++ rest)) (sym folded.written) (short_pieces line folded.pieces rest folded.are short)

pub short_alone : (line bytes : List ℕ) → IsFolded line bytes → All (λ (physical : List ℕ). length physical ≤ 75) (lines bytes)
short_alone line bytes folded = subst HasShortLines (append-nil bytes) (short_in_front line bytes [] folded (All-nil (λ (physical : List ℕ). length physical ≤ 75)))
