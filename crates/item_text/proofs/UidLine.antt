-- The line of a plain UID: what it is, and that it is one line.
use Rattle.std.proofs.Common.{◌≡◌, ℕ, suc, ◌<◌, ◌≤◌, ◌==◌, Bool, true, false, cond, ◌&&◌, not, List, [], ◌∷◌, length, codes, refl, ◌∙◌, ap, arith, nat_lt, nat_le, nat_eq}
use Rattle.std.specs.List.{All, list_all}
use Rattle.std.proofs.lemmas.List.Elements.{All-cons}
use Rattle.std.proofs.lemmas.Bool.{and_parts}
use Rattle.std.proofs.lemmas.Bool.Decides.{nat_tests}
use Rattle.item_text.specs.Lines.{is_blank, trim_front, before_trimmed, trim_back, trimmed}
use Rattle.item_text.specs.Components.{Kind, Property, name_of, value_of, behind_colon, kind_of}
use Rattle.item_text.specs.Plain.{is_name_byte, begins_with_dot, is_plain}
use Rattle.item_text.specs.Edits.{uid_line}

no_blank : (b : ℕ) → is_name_byte b ≡ true → is_blank b ≡ false
no_blank b h = grind (arith, nat_tests)

no_feed : (b : ℕ) → is_name_byte b ≡ true → (b == 10) ≡ false
no_feed b h = grind (arith, nat_tests)

back_one : (b : ℕ) (bs : List ℕ) → is_blank b ≡ false → before_trimmed b bs ≡ b ∷ bs
unfolding before_trimmed
back_one b [] h = ap (λ (t : Bool). cond t [] (b ∷ [])) h
back_one b (c ∷ cs) h = refl

back_plain : (text : List ℕ) → list_all is_name_byte text ≡ true → trim_back text ≡ text
unfolding trim_back
back_plain [] h = refl
back_plain (b ∷ bs) h =
    let both = and_parts (is_name_byte b) (list_all is_name_byte bs) h in
    ap (before_trimmed b) (back_plain bs both.1) ∙ back_one b bs (no_blank b both.0)

front_plain : (text : List ℕ) → list_all is_name_byte text ≡ true → trim_front text ≡ text
unfolding trim_front
front_plain [] h = refl
front_plain (b ∷ bs) h = ap (λ (t : Bool). cond t (trim_front bs) (b ∷ bs)) (no_blank b (and_parts (is_name_byte b) (list_all is_name_byte bs) h).0)

trimmed_plain : (text : List ℕ) → list_all is_name_byte text ≡ true → trimmed text ≡ text
unfolding trimmed
trimmed_plain text h = ap trim_back (front_plain text h) ∙ back_plain text h

line_trimmed : (uid : List ℕ) → list_all is_name_byte uid ≡ true → 0 < length uid → trimmed (uid_line uid) ≡ uid_line uid
unfolding trimmed trim_front trim_back before_trimmed
line_trimmed [] h k = absurd (omega (arith, k))
line_trimmed (b ∷ bs) h k = ap (λ (t : List ℕ). before_trimmed 85 (before_trimmed 73 (before_trimmed 68 (before_trimmed 58 t)))) (back_plain (b ∷ bs) h)

value_is : (uid : List ℕ) → list_all is_name_byte uid ≡ true → value_of (uid_line uid) ≡ uid
unfolding value_of behind_colon
value_is uid h = trimmed_plain uid h

name_is : (uid : List ℕ) → name_of (uid_line uid) ≡ codes "UID"
unfolding name_of trimmed trim_front trim_back before_trimmed
name_is uid = refl

some_bytes : (n : ℕ) → nat_eq (suc n) 0 ≡ false
some_bytes n = grind (arith, nat_tests)

line_kind : (uid : List ℕ) → list_all is_name_byte uid ≡ true → kind_of (uid_line uid) ≡ Property (codes "UID") uid
unfolding kind_of
line_kind uid h =
    ap (λ (t : Bool). cond t Kind.Blank (Property (name_of (uid_line uid)) (value_of (uid_line uid)))) (some_bytes (suc (suc (suc (length uid)))))
    ∙ (ap (λ (n : List ℕ). Property n (value_of (uid_line uid))) (name_is uid) ∙ ap (Property (codes "UID")) (value_is uid h))

less : (n m : ℕ) → nat_lt n m ≡ true → n < m
less n m h = grind (arith, nat_tests)

at_most : (n m : ℕ) → nat_le n m ≡ true → n ≤ m
at_most n m h = grind (arith, nat_tests)

-- what a plain UID's line is
pub record Plain (uid : List ℕ) : Type 0 where
  pub some : 0 < length uid
  pub short : length uid ≤ 500
  pub named : kind_of (trimmed (uid_line uid)) ≡ Property (codes "UID") uid
  pub one_line : All (λ b. (b == 10) ≡ false) uid

feeds : (text : List ℕ) → list_all is_name_byte text ≡ true → All (λ b. (b == 10) ≡ false) text
feeds [] h = λ k d below. absurd (omega (arith, below))
feeds (b ∷ bs) h = let both = and_parts (is_name_byte b) (list_all is_name_byte bs) h in All-cons (λ b. (b == 10) ≡ false) b bs (no_feed b both.0) (feeds bs both.1)

pub plain : (uid : List ℕ) → is_plain uid ≡ true → Plain uid
plain uid h =
    let first = and_parts (nat_lt 0 (length uid)) (nat_le (length uid) 100 && (not (begins_with_dot uid) && list_all is_name_byte uid)) h in
    let second = and_parts (nat_le (length uid) 100) (not (begins_with_dot uid) && list_all is_name_byte uid) first.1 in
    let third = and_parts (not (begins_with_dot uid)) (list_all is_name_byte uid) second.1 in
    let at_least = less 0 (length uid) first.0 in
    record {
      some = at_least;
      short = omega (arith, at_most (length uid) 100 second.0);
      named = ap kind_of (line_trimmed uid third.1 at_least) ∙ line_kind uid third.1;
      one_line = feeds uid third.1;
    }
