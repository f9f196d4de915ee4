-- Writing: what is written of a line, piece by piece.
use Rattle.std.proofs.Common.{◌≡◌, ℕ, ◌<◌, ◌≤◌, List, [], ◌∷◌, ◌++◌, length, take, drop, cond, Result, Ok, Err, is_ok, OnOk, refl, ◌∙◌, ap, subst, arith, append_assoc}
use Rattle.file_text.specs.Folds.{fitting, ArePieces, behind_piece, folded_of, IsFolded}

-- `now` is `old` and what is written of a line so far: with the pieces of what is left of the line behind it, that is the line folded
pub record Writes (old now line left : List ℕ) (most : ℕ) : Type 0 where
  pub written : List ℕ
  pub so_far : now ≡ old ++ written
  pub whole : (pieces : List (List ℕ)) → ArePieces most left pieces → (all : List (List ℕ)) × ArePieces 75 line all × (written ++ folded_of pieces ≡ folded_of all)
  pub enough : 74 ≤ most

abbrev begun_again : List ℕ
begun_again = 13 ∷ 10 ∷ 32 ∷ []

-- one piece more before pieces of what is left behind it
put_before : (line left written : List ℕ) (most : ℕ) → ((pieces : List (List ℕ)) → ArePieces most left pieces → (all : List (List ℕ)) × ArePieces 75 line all × (written ++ folded_of pieces ≡ folded_of all)) → most < length left
    → (pieces : List (List ℕ)) → ArePieces 74 (drop (fitting most left) left) pieces
    → (all : List (List ℕ)) × ArePieces 75 line all × (((written ++ take (fitting most left) left) ++ begun_again) ++ folded_of pieces ≡ folded_of all)
unfolding folded_of behind_piece
put_before line left written most whole longer [] are = absurd are
put_before line left written most whole longer (piece ∷ more) are =
    let front : List ℕ = take (fitting most left) left in
    let all = whole (front ∷ piece ∷ more) (longer, refl, are) in
    let apart : ((written ++ front) ++ begun_again) ++ folded_of (piece ∷ more) ≡ written ++ folded_of (front ∷ piece ∷ more) = simp append_assoc in
    (all.0, all.1, apart ∙ all.2)

pub writes_more : (old now line left piece next rest : List ℕ) (most : ℕ) → Writes old now line left most → most < length left → piece ≡ take (fitting most left) left → rest ≡ drop (fitting most left) left → next ≡ (now ++ piece) ++ begun_again
    → Writes old next line rest 74
writes_more old now line left piece next rest most so longer piece_is rest_is next_is =
    let front : List ℕ = take (fitting most left) left in
    record {
      written = (so.written ++ front) ++ begun_again;
      so_far =
          next_is
          ∙ (ap (λ (xs : List ℕ). (now ++ xs) ++ begun_again) piece_is
          ∙ (ap (λ (xs : List ℕ). (xs ++ front) ++ begun_again) so.so_far ∙ simp append_assoc));
      whole = λ pieces are. put_before line left so.written most so.whole longer pieces (subst (λ (xs : List ℕ). ArePieces 74 xs pieces) rest_is are);
      enough = omega arith;
    }

last_piece : (old now line left next : List ℕ) (most : ℕ) → Writes old now line left most → length left ≤ most → next ≡ (now ++ left) ++ (13 ∷ 10 ∷ []) → (bytes : List ℕ) × (next ≡ old ++ bytes) × IsFolded line bytes
unfolding folded_of behind_piece
last_piece old now line left next most so short next_is =
    let all = so.whole (left ∷ []) (refl, short) in (
      so.written ++ (left ++ (13 ∷ 10 ∷ [])),
      next_is ∙ (ap (λ (xs : List ℕ). (xs ++ left) ++ (13 ∷ 10 ∷ [])) so.so_far ∙ simp append_assoc),
      record { pieces = all.0; are = all.1; written = all.2 },
    )

-- the end of the line is written, or isn't
pub writes_end : {T E : Type 0} (result : Result T E) (old now line left mid next : List ℕ) (most : ℕ) → Writes old now line left most → length left ≤ most → mid ≡ now ++ left → next ≡ cond (is_ok result) (mid ++ (13 ∷ 10 ∷ [])) mid
    → (bytes : List ℕ) × (next ≡ old ++ bytes) × OnOk result (IsFolded line bytes)
writes_end (Ok done) old now line left mid next most so short mid_is next_is =
    last_piece old now line left next most so short (next_is ∙ ap (λ (xs : List ℕ). xs ++ (13 ∷ 10 ∷ [])) mid_is)
writes_end (Err error) old now line left mid next most so short mid_is next_is =
    (so.written ++ left, next_is ∙ (mid_is ∙ (ap (λ (xs : List ℕ). xs ++ left) so.so_far ∙ append_assoc old so.written left)), tt)
