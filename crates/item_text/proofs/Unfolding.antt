-- Unfolding: one physical line more.
use Rattle.std.proofs.Common.{◌≡◌, ℕ, suc, ◌+◌, ◌<◌, true, false, cond, List, [], ◌∷◌, ◌++◌, length, get_or, drop, Some, None, refl, sym, ◌∙◌, ap, arith, append_assoc, append-nil}
use Rattle.std.specs.Str.{IsUtf8, IsCharBoundary}
use Rattle.std.proofs.lemmas.Str.{IsCharBoundary-after_ascii}
use Rattle.std.proofs.lemmas.Bool.Decides.{nat_tests}
use Rattle.item_text.specs.Lines.{Line, is_blank, continues, continuation, lines_from, unfolded}
use Rattle.item_text.specs.Seen.{behind}
use Rattle.item_text.proofs.Parts.{goes_on}

first_ascii : (b : ℕ) → is_blank b ≡ true → b < 128
first_ascii b h = grind (arith, nat_tests)

pub continues_first : (line : List ℕ) → continues line ≡ true → (0 < length line) × (get_or line 0 0 < 128)
unfolding continues
continues_first [] h = cc
continues_first (b ∷ bs) h = (omega arith, first_ascii b h)

pub continuation_boundary : (line : List ℕ) → IsUtf8 line → continues line ≡ true → IsCharBoundary line 1
continuation_boundary line u h = IsCharBoundary-after_ascii line 0 u (continues_first line h).0 (continues_first line h).1

continues_cons : (line : List ℕ) (rest : List (List ℕ)) → continues line ≡ true → continuation (line ∷ rest) ≡ drop 1 line ++ continuation rest
unfolding continuation
continues_cons line rest h = ap (λ t. cond t (drop 1 line ++ continuation rest) []) h

begins_cons : (line : List ℕ) (rest : List (List ℕ)) → continues line ≡ false → continuation (line ∷ rest) ≡ []
unfolding continuation
begins_cons line rest h = ap (λ t. cond t (drop 1 line ++ continuation rest) []) h

lines_continue : (n : ℕ) (line : List ℕ) (rest : List (List ℕ)) → continues line ≡ true → lines_from n (line ∷ rest) ≡ lines_from (suc n) rest
unfolding lines_from
lines_continue n line rest h = ap (λ t. cond t (lines_from (suc n) rest) (record { number = n; text = line ++ continuation rest } ∷ lines_from (suc n) rest)) h

lines_begin : (n : ℕ) (line : List ℕ) (rest : List (List ℕ)) → continues line ≡ false → lines_from n (line ∷ rest) ≡ record { number = n; text = line ++ continuation rest } ∷ lines_from (suc n) rest
unfolding lines_from
lines_begin n line rest h = ap (λ t. cond t (lines_from (suc n) rest) (record { number = n; text = line ++ continuation rest } ∷ lines_from (suc n) rest)) h

abbrev pub line_of : ℕ → List ℕ → Line
line_of n text = record { number = n; text = text }

pub behind_line : (n : ℕ) (line : List ℕ) (rest : List (List ℕ)) → behind None n (line ∷ rest) ≡ behind (Some (line_of (suc n) line)) (suc n) rest
unfolding behind
behind_line n line rest = refl

pub behind_more : (n : ℕ) (begun : Line) (line : List ℕ) (rest : List (List ℕ)) → continues line ≡ true
    → behind (Some begun) n (line ∷ rest) ≡ behind (Some (line_of begun.number (begun.text ++ drop 1 line))) (suc n) rest
unfolding behind
behind_more n begun line rest h =
    ap (λ t. line_of begun.number (begun.text ++ t) ∷ lines_from (suc n) (line ∷ rest)) (continues_cons line rest h)
    ∙ (ap (λ t. line_of begun.number t ∷ lines_from (suc n) (line ∷ rest)) (sym (append_assoc begun.text (drop 1 line) (continuation rest)))
    ∙ ap (λ ls. line_of begun.number ((begun.text ++ drop 1 line) ++ continuation rest) ∷ ls) (lines_continue (suc n) line rest h))

pub behind_next : (n : ℕ) (begun : Line) (line : List ℕ) (rest : List (List ℕ)) → continues line ≡ false
    → behind (Some begun) n (line ∷ rest) ≡ begun ∷ behind (Some (line_of (suc n) line)) (suc n) rest
unfolding behind
behind_next n begun line rest h =
    ap (λ t. line_of begun.number (begun.text ++ t) ∷ lines_from (suc n) (line ∷ rest)) (begins_cons line rest h)
    ∙ (ap (λ t. line_of begun.number t ∷ lines_from (suc n) (line ∷ rest)) (append-nil begun.text)
    ∙ ap (λ ls. begun ∷ ls) (lines_begin (suc n) line rest h))

pub behind_end : (n : ℕ) (begun : Line) → behind (Some begun) n [] ≡ begun ∷ []
unfolding behind continuation lines_from
behind_end n begun = ap (λ t. line_of begun.number t ∷ []) (append-nil begun.text)

pub behind_none : (n : ℕ) → behind None n [] ≡ []
unfolding behind
behind_none n = refl

pub behind_all : (all : List (List ℕ)) → behind None 0 all ≡ unfolded all
unfolding behind unfolded
behind_all [] = refl
behind_all (line ∷ rest) = refl

-- the line that is begun ends where the next physical line doesn't continue it
pub begun_ends : (n : ℕ) (begun : Line) (all : List (List ℕ)) → goes_on all ≡ false → behind (Some begun) n all ≡ begun ∷ behind None n all
begun_ends n begun [] h = behind_end n begun ∙ ap (λ (ls : List Line). begun ∷ ls) (sym (behind_none n))
begun_ends n begun (line ∷ rest) h = behind_next n begun line rest h ∙ ap (λ (ls : List Line). begun ∷ ls) (sym (behind_line n line rest))

pub nothing_left : (n : ℕ) (all : List (List ℕ)) → behind None n all ≡ [] → n ≡ n + length all
unfolding behind
nothing_left n [] h = omega arith
nothing_left n (line ∷ rest) h = cc
