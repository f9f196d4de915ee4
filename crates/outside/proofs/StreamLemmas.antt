-- What is written piece by piece.
use Rattle.std.proofs.Common.{◌≡◌, ℕ, ◌+◌, ◌≤◌, List, ◌++◌, take, drop, length, refl, ap, sym, ◌∙◌, append_assoc, arith, subst}
use Rattle.std.proofs.lemmas.List.{take-append-drop, take-take, drop-take, drop-drop, length-take-le}
use Rattle.std.proofs.Math.Seq.{take-append_seam}
use Rattle.outside.specs.StreamCalls.{AddsFront}

-- the first bytes, and the first of those behind them
pub take-then : (bytes : List ℕ) (m n : ℕ) → take m bytes ++ take n (drop m bytes) ≡ take (m + n) bytes
take-then bytes m n =
    let le : m ≤ m + n = omega arith in
    ap (λ f. f ++ take n (drop m bytes)) (sym (take-take m (m + n) bytes le)) ∙ ap (λ r. take m (take (m + n) bytes) ++ r) (sym (drop-take m n bytes)) ∙ take-append-drop m (take (m + n) bytes)

-- two pieces are one
pub pieces_added : (old mid new bytes piece : List ℕ) (m n : ℕ) → piece ≡ drop m bytes → mid ≡ old ++ take m bytes → new ≡ mid ++ take n piece → new ≡ old ++ take (m + n) bytes
pieces_added old mid new bytes piece m n e p q = rw (q, e, p, append_assoc, take-then) refl

-- a front of the rest, behind the first bytes, is a front of all
pub front_added : (old mid new bytes piece : List ℕ) (m : ℕ) → piece ≡ drop m bytes → mid ≡ old ++ take m bytes → AddsFront mid new piece → AddsFront old new bytes
front_added old mid new bytes piece m e p a = record {
  front = take m bytes ++ a.front;
  rest = a.rest;
  is_front = sym (take-append-drop m bytes) ∙ ap (λ r. take m bytes ++ r) (sym e ∙ a.is_front) ∙ sym (append_assoc (take m bytes) a.front a.rest);
  adds = a.adds ∙ ap (λ s. s ++ a.front) p ∙ append_assoc old (take m bytes) a.front;
}

-- bytes that were moved from the front of the rest into the front of a piece
pub moved : (items piece copied : List ℕ) (done t : ℕ) → copied ≡ take t (drop done items) → t ≤ length (drop done items) → drop done items ≡ take t (copied ++ drop t piece) ++ drop (done + t) items
moved items piece copied done t h le =
    let len : length copied ≡ t = ap length h ∙ length-take-le t (drop done items) le in
    let front : take t (copied ++ drop t piece) ≡ copied = subst (λ m. take m (copied ++ drop t piece) ≡ copied) len (take-append_seam copied (drop t piece)) in
    sym (take-append-drop t (drop done items)) ∙ ap (λ f. f ++ drop t (drop done items)) (sym (front ∙ h)) ∙ ap (λ r. take t (copied ++ drop t piece) ++ r) (drop-drop t done items)
