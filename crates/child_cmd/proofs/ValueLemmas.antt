-- The bytes without LF and CR at their end.
use Rattle.std.proofs.Common.{◌≡◌, ℕ, ◌<◌, ◌≤◌, ◌-◌, zero, suc, Bool, true, false, ◌&&◌, cond, List, [], ◌∷◌, ◌++◌, take, drop, length, get_or, refl, ap, ◌∙◌, sym, subst, arith}
use Rattle.std.proofs.Math.Bool.{and-false}
use Rattle.std.proofs.Math.Seq.{take-suc}
use Rattle.std.proofs.lemmas.Bool.Decides.{nat_tests}
use Rattle.std.proofs.lemmas.List.{take-append-drop}
use Rattle.std.proofs.lemmas.Slice.Eq.{bytes_eq-Decides}
use Rattle.std.proofs.lemmas.Str.{IsUtf8-append, IsUtf8-from_ascii}
use Rattle.std.specs.List.{list_all, ends_with}
use Rattle.std.specs.Prelude.{nat_eq}
use Rattle.std.specs.Str.{IsUtf8}
use Rattle.child_cmd.specs.Values.{is_line_end, value_of}
use Rattle.child_cmd.specs.InputLines.{without_return}

all_more : (bs : List ℕ) (b : ℕ) → is_line_end b ≡ true → list_all is_line_end (bs ++ b ∷ []) ≡ list_all is_line_end bs
all_more [] b e = ap (λ p. p && true) e
all_more (x ∷ bs) b e = ap (λ p. is_line_end x && p) (all_more bs b e)

not_all : (bs : List ℕ) (b : ℕ) → is_line_end b ≡ false → list_all is_line_end (bs ++ b ∷ []) ≡ false
not_all [] b e = ap (λ p. p && true) e
not_all (x ∷ bs) b e = ap (λ p. is_line_end x && p) (not_all bs b e) ∙ and-false (is_line_end x)

-- one more LF or CR at the end changes nothing
pub value_of-more : (bs : List ℕ) (b : ℕ) → is_line_end b ≡ true → value_of (bs ++ b ∷ []) ≡ value_of bs
value_of-more [] b e = ap (λ p. cond (p && true) [] (b ∷ [])) e
value_of-more (x ∷ bs) b e =
    ap (λ p. cond (is_line_end x && p) [] (x ∷ value_of (bs ++ b ∷ []))) (all_more bs b e) ∙ ap (λ v. cond (is_line_end x && list_all is_line_end bs) [] (x ∷ v)) (value_of-more bs b e)

-- behind another byte at the end nothing is left out
pub value_of-whole : (bs : List ℕ) (b : ℕ) → is_line_end b ≡ false → value_of (bs ++ b ∷ []) ≡ bs ++ b ∷ []
value_of-whole [] b e = ap (λ p. cond (p && true) [] (b ∷ [])) e
value_of-whole (x ∷ bs) b e =
    ap (λ p. cond (is_line_end x && p) [] (x ∷ value_of (bs ++ b ∷ []))) (not_all bs b e)
    ∙ ap (λ p. cond p [] (x ∷ value_of (bs ++ b ∷ []))) (and-false (is_line_end x))
    ∙ ap (λ v. x ∷ v) (value_of-whole bs b e)

-- what is left out
record Rest (bs : List ℕ) : Type 0 where
  ends : List ℕ
  splits : bs ≡ value_of bs ++ ends
  all_ends : list_all is_line_end ends ≡ true

rest_by : (b : ℕ) (bs : List ℕ) (p : Bool) → list_all is_line_end (b ∷ bs) ≡ p → Rest bs → Rest (b ∷ bs)
rest_by b bs true e rest = record { ends = b ∷ bs; splits = ap (λ (p : Bool). cond p [] (b ∷ value_of bs) ++ b ∷ bs) (sym e); all_ends = e }
rest_by b bs false e rest = record { ends = rest.ends; splits = ap (λ r. b ∷ r) rest.splits ∙ ap (λ (p : Bool). cond p [] (b ∷ value_of bs) ++ rest.ends) (sym e); all_ends = rest.all_ends }

rest_of : (bs : List ℕ) → Rest bs
rest_of [] = record { ends = []; splits = refl; all_ends = refl }
rest_of (b ∷ bs) = rest_by b bs (list_all is_line_end (b ∷ bs)) refl (rest_of bs)

line_end_is_ascii : (b : ℕ) → is_line_end b ≡ true → b < 128
line_end_is_ascii b e = grind (arith, nat_tests)

first_of : (p q : Bool) → (p && q) ≡ true → p ≡ true
first_of true q e = refl
first_of false q e = e

second_of : (p q : Bool) → (p && q) ≡ true → q ≡ true
second_of true q e = e
second_of false q e = absurd (let clash : false ≡ true = e in cc)

line_ends_are_ascii : (bs : List ℕ) → list_all is_line_end bs ≡ true → (i : ℕ) → get_or bs i 0 < 128
line_ends_are_ascii [] all i = omega arith
line_ends_are_ascii (b ∷ bs) all zero = line_end_is_ascii b (first_of _ _ all)
line_ends_are_ascii (b ∷ bs) all (suc i) = line_ends_are_ascii bs (second_of _ _ all) i

-- bytes whose value is UTF-8 are UTF-8
pub utf8_of_value : (bs : List ℕ) → IsUtf8 (value_of bs) → IsUtf8 bs
utf8_of_value bs u =
    let rest = rest_of bs in
    subst IsUtf8 (sym rest.splits) (IsUtf8-append (value_of bs) rest.ends u (IsUtf8-from_ascii rest.ends (line_ends_are_ascii rest.ends rest.all_ends)))

-- a line has the value that it has without its CR
pub value_of-without_return : (body : List ℕ) → value_of (without_return body) ≡ value_of body
value_of-without_return body = at (ends_with nat_eq body (13 ∷ [])) refl
  where
    at : (p : Bool) → ends_with nat_eq body (13 ∷ []) ≡ p → value_of (cond p (take (length body - 1) body) body) ≡ value_of body
    at true e =
        let last : 13 ∷ [] ≡ drop (length body - 1) body = (bytes_eq-Decides (13 ∷ []) (drop (length body - 1) body)).0 e in
        let whole : take (length body - 1) body ++ 13 ∷ [] ≡ body = ap (λ r. take (length body - 1) body ++ r) last ∙ take-append-drop (length body - 1) body in
        sym (value_of-more (take (length body - 1) body) 13 refl) ∙ ap value_of whole
    at false e = refl

last_apart : (bs : List ℕ) (i j : ℕ) → i ≡ suc j → i ≤ length bs → take i bs ≡ take j bs ++ get_or bs j 0 ∷ []
last_apart bs i j e inside = ap (λ n. take n bs) e ∙ take-suc bs j 0 (omega arith)

-- the last of these bytes is LF or CR
pub one_less : (bs : List ℕ) (i j : ℕ) → i ≡ suc j → i ≤ length bs → is_line_end (get_or bs j 0) ≡ true → value_of (take i bs) ≡ value_of bs → value_of (take j bs) ≡ value_of bs
one_less bs i j e inside is same = sym (value_of-more (take j bs) (get_or bs j 0) is) ∙ ap value_of (sym (last_apart bs i j e inside)) ∙ same

-- the last of these bytes is another
pub no_less : (bs : List ℕ) (i j : ℕ) → i ≡ suc j → i ≤ length bs → is_line_end (get_or bs j 0) ≡ false → value_of (take i bs) ≡ value_of bs → take i bs ≡ value_of bs
no_less bs i j e inside is same = last_apart bs i j e inside ∙ sym (value_of-whole (take j bs) (get_or bs j 0) is) ∙ ap value_of (sym (last_apart bs i j e inside)) ∙ same
