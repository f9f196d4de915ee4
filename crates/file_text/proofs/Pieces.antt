-- Pieces: what the pieces of a line have in common.
use Rattle.std.proofs.Common.{◌≡◌, ℕ, zero, suc, ◌==◌, ◌≤◌, Bool, true, false, cond, List, [], ◌∷◌, ◌++◌, length, drop, sym, ◌∙◌, ap, subst, arith, append-nil}
use Rattle.std.specs.List.{All, concat}
use Rattle.std.proofs.lemmas.List.{length-take, take-append-drop}
use Rattle.std.proofs.lemmas.List.Elements.{All-nil, All-cons, All-take, All-drop}
use Rattle.file_text.specs.Folds.{fitting, ArePieces, folded_of, IsFolded}
use Rattle.file_text.specs.Unfolds.{HasNoFeed}
use Rattle.file_text.proofs.Borders.{fits}

-- the pieces of a line are the same each time
same_pieces : (n : ℕ) (line : List ℕ) (xs ys : List (List ℕ)) → ArePieces n line xs → ArePieces n line ys → xs ≡ ys
same_pieces n line [] ys are again = absurd are
same_pieces n line (x ∷ []) [] are again = absurd again
same_pieces n line (x ∷ next ∷ more) [] are again = absurd again
same_pieces n line (x ∷ []) (y ∷ []) are again = ap (λ (p : List ℕ). p ∷ []) (are.0 ∙ sym again.0)
same_pieces n line (x ∷ []) (y ∷ next ∷ more) are again = absurd (omega (arith, are.1, again.0))
same_pieces n line (x ∷ next ∷ more) (y ∷ []) are again = absurd (omega (arith, are.0, again.1))
same_pieces n line (x ∷ next ∷ more) (y ∷ next' ∷ more') are again =
    ap (λ (p : List ℕ). p ∷ next ∷ more) (are.1 ∙ sym again.1) ∙ ap (λ (ps : List (List ℕ)). y ∷ ps) (same_pieces 74 (drop (fitting n line) line) (next ∷ more) (next' ∷ more') are.2 again.2)

pub same_folded : (line x y : List ℕ) → IsFolded line x → IsFolded line y → x ≡ y
same_folded line x y first second =
    first.written ∙ (ap folded_of (same_pieces 75 line first.pieces second.pieces first.are second.are) ∙ sym second.written)

-- the pieces together are the line
pub joined_pieces : (n : ℕ) (line : List ℕ) (pieces : List (List ℕ)) → ArePieces n line pieces → concat pieces ≡ line
joined_pieces n line [] are = absurd are
joined_pieces n line (piece ∷ []) are = append-nil piece ∙ are.0
joined_pieces n line (piece ∷ next ∷ more) are =
    ap (λ (xs : List ℕ). piece ++ xs) (joined_pieces 74 (drop (fitting n line) line) (next ∷ more) are.2)
    ∙ (ap (λ (xs : List ℕ). xs ++ drop (fitting n line) line) are.1 ∙ take-append-drop (fitting n line) line)

-- no piece has a line feed where the line has none
pub pieces_no_feed : (n : ℕ) (line : List ℕ) (pieces : List (List ℕ)) → ArePieces n line pieces → HasNoFeed line → All HasNoFeed pieces
pieces_no_feed n line [] are plain = absurd are
pieces_no_feed n line (piece ∷ []) are plain = All-cons HasNoFeed piece [] (subst HasNoFeed (sym are.0) plain) (All-nil HasNoFeed)
pieces_no_feed n line (piece ∷ next ∷ more) are plain =
    let P : ℕ → Type 0 = λ b. (b == 10) ≡ false in
    All-cons HasNoFeed piece (next ∷ more) (subst HasNoFeed (sym are.1) (All-take P (fitting n line) line plain))
    (pieces_no_feed 74 (drop (fitting n line) line) (next ∷ more) are.2 (All-drop P (fitting n line) line plain))

fitting_by : (b : Bool) (n m : ℕ) → m ≤ n → cond b (suc n) m ≤ suc n
fitting_by true n m h = omega arith
fitting_by false n m h = omega arith

fitting_bound : (n : ℕ) (text : List ℕ) → fitting n text ≤ n
unfolding fitting
fitting_bound zero text = omega arith
fitting_bound (suc n) text = fitting_by (fits (suc n) text) n (fitting n text) (fitting_bound n text)

-- pieces behind the first, none of which has more than 74 bytes
abbrev pub AreShort : List (List ℕ) → Type 0
AreShort pieces = All (λ (piece : List ℕ). length piece ≤ 74) pieces

pub first_short : (n : ℕ) (line piece : List ℕ) (more : List (List ℕ)) → ArePieces n line (piece ∷ more) → length piece ≤ n
first_short n line piece [] are = omega (arith, ap length are.0, are.1)
first_short n line piece (next ∷ more) are = omega (arith, ap length are.1, length-take (fitting n line) line, fitting_bound n line)

pub later_short : (n : ℕ) (line piece : List ℕ) (more : List (List ℕ)) → ArePieces n line (piece ∷ more) → AreShort more
later_short n line piece [] are = All-nil (λ (piece : List ℕ). length piece ≤ 74)
later_short n line piece (next ∷ more) are =
    let rest : List ℕ = drop (fitting n line) line in
    All-cons (λ (piece : List ℕ). length piece ≤ 74) next more (first_short 74 rest next more are.2) (later_short 74 rest next more are.2)
