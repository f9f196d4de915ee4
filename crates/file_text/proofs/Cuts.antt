-- Cuts: the physical lines of a text, cut at its first CRLF or line feed.
use Rattle.std.proofs.Common.{◌≡◌, ℕ, ◌==◌, ◌-◌, false, cond, List, [], ◌∷◌, ◌++◌, length, take, slice_index, refl, sym, ◌∙◌, ap, arith, append_assoc}
use Rattle.std.specs.Str.Lines.{lines, lines_of_parts, strip_carriage_return}
use Rattle.std.proofs.lemmas.List.{length-append}
use Rattle.std.proofs.lemmas.List.Splits.{slice_split_at}
use Rattle.std.proofs.lemmas.List.Elements.{All-nil, All-cons, All-append}
use Rattle.std.proofs.Math.Seq.{get_or-append_seam, take-append_seam}
use Rattle.item_text.proofs.Parts.{some_part}
use Rattle.file_text.specs.Unfolds.{HasNoFeed}

-- a line feed ends a line, and one carriage return before it is dropped
pub line_ends : (line rest : List ℕ) → HasNoFeed line → lines (line ++ 10 ∷ rest) ≡ strip_carriage_return line ∷ lines rest
line_ends line rest plain =
    let cut = some_part rest in
    ap lines_of_parts (slice_split_at (λ b. b == 10) line 10 rest plain refl)
    ∙ (ap (λ (ps : List (List ℕ)). lines_of_parts (line ∷ ps)) cut.2 ∙ ap (λ (ps : List (List ℕ)). strip_carriage_return line ∷ lines_of_parts ps) (sym cut.2))

strip_at : (line out : List ℕ) (n : ℕ) → length line - 1 ≡ n → slice_index line n ≡ 13 → take n line ≡ out → strip_carriage_return line ≡ out
strip_at line out n e k h =
    ap (λ (m : ℕ). cond (slice_index line m == 13) (take m line) line) e ∙ (ap (λ (c : ℕ). cond (c == 13) (take n line) line) k ∙ h)

stripped : (line : List ℕ) → strip_carriage_return (line ++ (13 ∷ [])) ≡ line
stripped line = strip_at (line ++ (13 ∷ [])) line (length line) (omega (arith, length-append line (13 ∷ []))) (get_or-append_seam line 13 [] 0) (take-append_seam line (13 ∷ []))

-- a CRLF ends a line
pub returned_ends : (line rest : List ℕ) → HasNoFeed line → lines (line ++ 13 ∷ 10 ∷ rest) ≡ line ∷ lines rest
returned_ends line rest plain =
    let P : ℕ → Type 0 = λ b. (b == 10) ≡ false in
    ap lines (sym (append_assoc line (13 ∷ []) (10 ∷ rest)))
    ∙ (line_ends (line ++ (13 ∷ [])) rest (All-append P line (13 ∷ []) plain (All-cons P 13 [] refl (All-nil P)))
    ∙ ap (λ (l : List ℕ). l ∷ lines rest) (stripped line))
