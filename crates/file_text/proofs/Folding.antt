-- Folding: a line is folded in the way that its definition says.
use Rattle.std.proofs.Common.{◌≡◌, ℕ, zero, suc, ◌+◌, ◌-◌, ◌<◌, ◌≤◌, Bool, true, false, cond, nat_le, List, [], ◌∷◌, ◌++◌, length, get_or, take, drop, refl, sym, ◌∙◌, ap, subst, arith, append_assoc, append-nil}
use Rattle.std.specs.List.{flat_map}
use Rattle.std.proofs.lemmas.List.{length-drop, length-map, get_or-map, take_more, take-map}
use Rattle.std.proofs.lemmas.List.Concat.{flat_map-append}
use Rattle.std.proofs.lemmas.Bool.Decides.{nat_tests}
use Rattle.file_text.specs.Folds.{fitting, ArePieces, folded_of, IsFolded}
use Rattle.file_text.specs.Spans.{part_at, parts_at}
use Rattle.file_text.specs.Written.{pieces_of, folded, written, all_written}
use Rattle.file_text.specs.declared.marks.Mark.{Mark}
use Rattle.file_text.specs.declared.parts.Span.{Span}
use Rattle.file_text.proofs.Borders.{fits}

none_by : (b : Bool) (n m : ℕ) → cond b (suc n) m ≡ 0 → m ≡ 0
none_by true n m h = cc
none_by false n m h = h

-- where nothing fits, nothing fits in less
none_below : (n : ℕ) (line : List ℕ) → fitting (suc n) line ≡ 0 → fitting n line ≡ 0
unfolding fitting
none_below n line h = none_by (fits (suc n) line) n (fitting n line) h

-- a line of which nothing fits has no pieces
stuck : (line : List ℕ) (pieces : List (List ℕ)) → fitting 74 line ≡ 0 → 74 < length line → ArePieces 74 line pieces → ⊥
stuck line [] none longer are = are
stuck line (piece ∷ []) none longer are = omega arith
stuck line (piece ∷ next ∷ more) none longer are = stuck line (next ∷ more) none longer (subst (λ (n : ℕ). ArePieces 74 (drop n line) (next ∷ more)) none are.2)

pub last_piece : (count room : ℕ) (line : List ℕ) → length line ≤ room → pieces_of count room line ≡ line ∷ []
unfolding pieces_of
last_piece zero room line h = refl
last_piece (suc count) room line h =
    let short : nat_le (length line) room ≡ true = grind (arith, nat_tests) in
    ap (λ (t : Bool). cond t (line ∷ []) (take (fitting room line) line ∷ pieces_of count 74 (drop (fitting room line) line))) short

pub next_piece : (count room : ℕ) (line : List ℕ) → room < length line → pieces_of (suc count) room line ≡ take (fitting room line) line ∷ pieces_of count 74 (drop (fitting room line) line)
unfolding pieces_of
next_piece count room line h =
    let long : nat_le (length line) room ≡ false = grind (arith, nat_tests) in
    ap (λ (t : Bool). cond t (line ∷ []) (take (fitting room line) line ∷ pieces_of count 74 (drop (fitting room line) line))) long

-- what is left of a line is shorter, by what fits
some_fits : (room : ℕ) (line : List ℕ) (pieces : List (List ℕ)) → (fitting room line ≡ 0 → fitting 74 line ≡ 0) → 74 ≤ room → room < length line → ArePieces 74 (drop (fitting room line) line) pieces → fitting room line ≡ 0 → ⊥
some_fits room line pieces less enough longer are none = stuck line pieces (less none) (omega arith) (subst (λ (n : ℕ). ArePieces 74 (drop n line) pieces) none are)

pieces_are : (count room : ℕ) (line : List ℕ) (pieces : List (List ℕ)) → (fitting room line ≡ 0 → fitting 74 line ≡ 0) → 74 ≤ room → length line ≤ count → ArePieces room line pieces → pieces ≡ pieces_of count room line
pieces_are count room line [] less enough short are = absurd are
pieces_are count room line (piece ∷ []) less enough short are = ap (λ (p : List ℕ). p ∷ []) are.0 ∙ sym (last_piece count room line are.1)
pieces_are zero room line (piece ∷ next ∷ more) less enough short are = absurd (omega (arith, are.0))
pieces_are (suc count) room line (piece ∷ next ∷ more) less enough short are =
    let some : fitting room line ≡ 0 → ⊥ = some_fits room line (next ∷ more) less enough are.0 are.2 in
    let left : length (drop (fitting room line) line) ≤ count = shorter (length line) count (fitting room line) (length (drop (fitting room line) line)) some are.0 short (length-drop (fitting room line) line) in
    ap (λ (p : List ℕ). p ∷ next ∷ more) are.1
    ∙ (ap (λ (ps : List (List ℕ)). take (fitting room line) line ∷ ps) (pieces_are count 74 (drop (fitting room line) line) (next ∷ more) (λ h. h) (omega arith) left are.2)
    ∙ sym (next_piece count room line are.0))
  where
    shorter : (size count n rest : ℕ) → (n ≡ 0 → ⊥) → room < size → size ≤ suc count → rest ≡ size - n → rest ≤ count
    shorter size count n rest some longer short is = omega arith

pub folded_is : (line bytes : List ℕ) → IsFolded line bytes → bytes ≡ folded line
unfolding folded
folded_is line bytes is = is.written ∙ ap folded_of (pieces_are (length line) 75 line is.pieces (none_below 74 line) (omega arith) (omega arith) is.are)

-- one element more of those that are written one behind another
pub written_more : {X : Type 0} (write : X → List ℕ) (xs : List X) (i : ℕ) (d x : X) (start old new : List ℕ) → i < length xs → x ≡ get_or xs i d → new ≡ old ++ write x → old ≡ start ++ flat_map write (take i xs)
    → new ≡ start ++ flat_map write (take (i + 1) xs)
written_more write xs i d x start old new h e put so_far =
    let one : take (i + 1) xs ≡ take i xs ++ x ∷ [] = take_more xs i d h ∙ ap (λ y. take i xs ++ y ∷ []) (sym e) in
    put ∙ (ap (λ bytes. bytes ++ write x) so_far
    ∙ (append_assoc start (flat_map write (take i xs)) (write x)
    ∙ ap (λ bytes. start ++ bytes) (ap (λ bytes. flat_map write (take i xs) ++ bytes) (sym (append-nil (write x))) ∙ sym (ap (flat_map write) one ∙ flat_map-append write (take i xs) (x ∷ [])))))

-- one part more
pub parts_more : (lines : List Mark) (spans : List Span) (i : ℕ) (d span : Span) (start old new : List ℕ) → i < length spans → span ≡ get_or spans i d → new ≡ old ++ written (part_at lines span) → old ≡ start ++ all_written (parts_at lines (take i spans))
    → new ≡ start ++ all_written (parts_at lines (take (i + 1) spans))
unfolding all_written
parts_more lines spans i d span start old new h e put so_far =
    let parts : List (List Mark) = parts_at lines spans in
    let within : i < length parts = omega (arith, length-map spans (part_at lines)) in
    let same : part_at lines span ≡ get_or parts i (part_at lines d) = ap (part_at lines) e ∙ sym (get_or-map (part_at lines) spans i d (part_at lines d) h) in
    written_more written parts i (part_at lines d) (part_at lines span) start old new within same put (so_far ∙ ap (λ (ps : List (List Mark)). start ++ flat_map written ps) (sym (take-map (part_at lines) i spans)))
    ∙ ap (λ (ps : List (List Mark)). start ++ flat_map written ps) (take-map (part_at lines) (i + 1) spans)
