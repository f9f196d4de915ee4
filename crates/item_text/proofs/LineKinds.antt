-- Kinds of lines: what a line is, by what stands before and behind its first colon.
use Rattle.std.proofs.Common.{◌≡◌, ℕ, suc, Bool, true, false, cond, ◌&&◌, List, [], ◌∷◌, length, drop, refl, sym, ◌∙◌, ap, codes, nat_eq, arith}
use Rattle.std.specs.List.{before_first, after_first}
use Rattle.std.specs.Str.{bytes_eq}
use Rattle.std.proofs.lemmas.Bool.{false≢true}
use Rattle.std.proofs.lemmas.Bool.Decides.{nat_tests}
use Rattle.item_text.specs.Lines.{trimmed}
use Rattle.item_text.specs.Components.{Kind, Opens, Closes, Property, Blank, upper, begins_with, is_colon, is_semicolon, has_colon, name_of, value_of, kind_of}
use Rattle.item_text.proofs.Colons.{begins_is, behind_word, name_by_two}

unfoldable kind_by : Bool → Bool → List ℕ → Kind
kind_by begin end line =
    cond begin (Opens (upper (trimmed (drop 6 line)))) (cond end (Closes (upper (trimmed (drop 4 line)))) (cond (nat_eq (length line) 0) Blank (Property (name_of line) (value_of line))))

kind_by-is : (line : List ℕ) → kind_of line ≡ kind_by (begins_with (codes "BEGIN:") line) (begins_with (codes "END:") line) line
unfolding kind_of kind_by
kind_by-is line = refl

not_empty : (n : ℕ) → true ≡ nat_eq (suc n) 0 → ⊥
not_empty n h = let e : nat_eq (suc n) 0 ≡ false = grind (arith, nat_tests) in false≢true (sym e ∙ sym h)

pub kind_blank : (line : List ℕ) → true ≡ nat_eq (length line) 0 → Blank ≡ kind_of line
unfolding kind_of
kind_blank [] h = refl
kind_blank (b ∷ bs) h = absurd (not_empty (length bs) h)

both : (a b : Bool) → a ≡ true → b ≡ true → (a && b) ≡ true
both a b h k = ap (λ t. t && b) h ∙ k

begin_is : (line : List ℕ) → begins_with (codes "BEGIN:") line ≡ (has_colon line && bytes_eq (upper (before_first is_colon line)) (codes "BEGIN"))
begin_is line = begins_is (codes "BEGIN") line refl

end_is : (line : List ℕ) → begins_with (codes "END:") line ≡ (has_colon line && bytes_eq (upper (before_first is_colon line)) (codes "END"))
end_is line = begins_is (codes "END") line refl

at_begin : (line : List ℕ) (end : Bool) → kind_by true end line ≡ Opens (upper (trimmed (drop 6 line)))
unfolding kind_by
at_begin line end = refl

at_end : (line : List ℕ) → kind_by false true line ≡ Closes (upper (trimmed (drop 4 line)))
unfolding kind_by
at_end line = refl

at_other : (line : List ℕ) → nat_eq (length line) 0 ≡ false → kind_by false false line ≡ Property (name_of line) (value_of line)
unfolding kind_by
at_other line h = ap (λ t. cond t Blank (Property (name_of line) (value_of line))) h

-- the line of a head and a tail round its first colon
pub kind_opens : (line head tail name : List ℕ) → has_colon line ≡ true → head ≡ before_first is_colon line → tail ≡ after_first is_colon line
    → bytes_eq (upper head) (codes "BEGIN") ≡ true → name ≡ trimmed tail → Opens (upper name) ≡ kind_of line
kind_opens line head tail name has head_is tail_is word name_is =
    let begins : begins_with (codes "BEGIN:") line ≡ true = begin_is line ∙ both (has_colon line) _ has (ap (λ h. bytes_eq (upper h) (codes "BEGIN")) (sym head_is) ∙ word) in
    sym (kind_by-is line ∙ (ap (λ t. kind_by t (begins_with (codes "END:") line) line) begins ∙ (at_begin line (begins_with (codes "END:") line)
    ∙ ap (λ x. Opens (upper (trimmed x))) (behind_word (codes "BEGIN") line refl begins ∙ sym tail_is) ∙ ap (λ x. Opens (upper x)) (sym name_is))))

no_word : (line word : List ℕ) (head : List ℕ) → has_colon line ≡ true → head ≡ before_first is_colon line → bytes_eq (upper head) word ≡ false
    → (has_colon line && bytes_eq (upper (before_first is_colon line)) word) ≡ false
no_word line word head has head_is other = ap (λ t. t && bytes_eq (upper (before_first is_colon line)) word) has ∙ (ap (λ h. bytes_eq (upper h) word) (sym head_is) ∙ other)

pub kind_closes : (line head tail name : List ℕ) → has_colon line ≡ true → head ≡ before_first is_colon line → tail ≡ after_first is_colon line
    → bytes_eq (upper head) (codes "BEGIN") ≡ false → bytes_eq (upper head) (codes "END") ≡ true → name ≡ trimmed tail → Closes (upper name) ≡ kind_of line
kind_closes line head tail name has head_is tail_is other word name_is =
    let begins : begins_with (codes "BEGIN:") line ≡ false = begin_is line ∙ no_word line (codes "BEGIN") head has head_is other in
    let ends : begins_with (codes "END:") line ≡ true = end_is line ∙ both (has_colon line) _ has (ap (λ h. bytes_eq (upper h) (codes "END")) (sym head_is) ∙ word) in
    sym (kind_by-is line ∙ (ap (λ t. kind_by t (begins_with (codes "END:") line) line) begins ∙ (ap (λ t. kind_by false t line) ends ∙ (at_end line
    ∙ ap (λ x. Closes (upper (trimmed x))) (behind_word (codes "END") line refl ends ∙ sym tail_is) ∙ ap (λ x. Closes (upper x)) (sym name_is)))))

property : (line name : List ℕ) → nat_eq (length line) 0 ≡ false → begins_with (codes "BEGIN:") line ≡ false → begins_with (codes "END:") line ≡ false → upper name ≡ name_of line
    → Property (upper name) (value_of line) ≡ kind_of line
property line name full begins ends named =
    ap (λ n. Property n (value_of line)) named
    ∙ sym (kind_by-is line ∙ (ap (λ t. kind_by t (begins_with (codes "END:") line) line) begins ∙ (ap (λ t. kind_by false t line) ends ∙ at_other line full)))

pub kind_property : (line head name : List ℕ) → nat_eq (length line) 0 ≡ false → has_colon line ≡ true → head ≡ before_first is_colon line
    → bytes_eq (upper head) (codes "BEGIN") ≡ false → bytes_eq (upper head) (codes "END") ≡ false → upper name ≡ name_of line → Property (upper name) (value_of line) ≡ kind_of line
kind_property line head name full has head_is begins ends named =
    property line name full (begin_is line ∙ no_word line (codes "BEGIN") head has head_is begins) (end_is line ∙ no_word line (codes "END") head has head_is ends) named

no_colon : (line word : List ℕ) → has_colon line ≡ false → (has_colon line && bytes_eq (upper (before_first is_colon line)) word) ≡ false
no_colon line word h = ap (λ t. t && bytes_eq (upper (before_first is_colon line)) word) h

pub kind_without_colon : (line name : List ℕ) → nat_eq (length line) 0 ≡ false → has_colon line ≡ false → upper name ≡ name_of line → Property (upper name) (value_of line) ≡ kind_of line
kind_without_colon line name full none named =
    property line name full (begin_is line ∙ no_colon line (codes "BEGIN") none) (end_is line ∙ no_colon line (codes "END") none) named

pub name_is : (line head name : List ℕ) → head ≡ before_first is_semicolon (before_first is_colon line) → name ≡ trimmed head → upper name ≡ name_of line
unfolding name_of
name_is line head name head_is cut = ap upper cut ∙ ap (λ h. upper (trimmed h)) (head_is ∙ name_by_two line)
