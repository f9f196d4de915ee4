-- Colons: a line cut at its first colon, and at the first that stands in no double quotes.
use Rattle.std.proofs.Common.{◌≡◌, ℕ, suc, ◌+◌, ◌-◌, ◌<◌, ◌≤◌, Bool, true, false, cond, ◌&&◌, ◌||◌, not, List, [], ◌∷◌, ◌++◌, length, get_or, take, drop, refl, sym, ◌∙◌, ap, arith, nat_lt, nat_eq}
use Rattle.std.specs.List.{before_first, after_first, position_or_len, list_all}
use Rattle.std.specs.Str.{bytes_eq}
use Rattle.std.specs.Char.{to_ascii_uppercase}
use Rattle.std.proofs.lemmas.List.{drop_more, drop_all, length-drop}
use Rattle.std.proofs.lemmas.Bool.Decides.{nat_tests}
use Rattle.item_text.specs.Components.{upper, is_colon, is_semicolon, ends_name, has_colon, quoted_behind, behind_colon}

quoted_quote : (b : ℕ) (bs : List ℕ) (q : Bool) → b ≡ 34 → quoted_behind q (b ∷ bs) ≡ quoted_behind (not q) bs
unfolding quoted_behind
quoted_quote b bs q h = ap (λ (x : ℕ). cond (nat_eq x 34) (quoted_behind (not q) bs) (quoted_behind q bs)) h

differs : (b c : ℕ) → (b ≡ c → ⊥) → nat_eq b c ≡ false
differs b c h = grind (arith, nat_tests)

quoted_other : (b : ℕ) (bs : List ℕ) (q : Bool) → (b ≡ 34 → ⊥) → quoted_behind q (b ∷ bs) ≡ quoted_behind q bs
unfolding quoted_behind
quoted_other b bs q h = ap (λ t. cond t (quoted_behind (not q) bs) (quoted_behind q bs)) (differs b 34 h)

pub quoted_step_quote : (text : List ℕ) (n : ℕ) (q : Bool) → n < length text → get_or text n 0 ≡ 34 → quoted_behind q (drop n text) ≡ quoted_behind (not q) (drop (n + 1) text)
quoted_step_quote text n q h k = ap (quoted_behind q) (drop_more text n 0 h) ∙ quoted_quote (get_or text n 0) (drop (n + 1) text) q k

pub quoted_step_other : (text : List ℕ) (n : ℕ) (q : Bool) → n < length text → (get_or text n 0 ≡ 34 → ⊥) → quoted_behind q (drop n text) ≡ quoted_behind q (drop (n + 1) text)
quoted_step_other text n q h k = ap (quoted_behind q) (drop_more text n 0 h) ∙ quoted_other (get_or text n 0) (drop (n + 1) text) q k

quoted_nil : (q : Bool) → quoted_behind q [] ≡ q
unfolding quoted_behind
quoted_nil q = refl

pub quoted_end : (text : List ℕ) (n : ℕ) (q : Bool) → length text ≤ n → quoted_behind q (drop n text) ≡ q
quoted_end text n q h = ap (quoted_behind q) (drop_all n text h) ∙ quoted_nil q

-- the first colon of a line, one byte at a time
none_less : (n : ℕ) → nat_lt 0 (suc n) ≡ true
none_less n = grind (arith, nat_tests)

less : (n m : ℕ) → nat_lt (suc n) (suc m) ≡ nat_lt n m
less n m = grind (arith, nat_tests)

here-first : (p : ℕ → Bool) (b : ℕ) (bs : List ℕ) → p b ≡ true → before_first p (b ∷ bs) ≡ []
here-first p b bs h = ap (λ t. take (cond (not t) (1 + position_or_len p bs) 0) (b ∷ bs)) h

here-after : (b : ℕ) (bs : List ℕ) → is_colon b ≡ true → after_first is_colon (b ∷ bs) ≡ bs
here-after b bs h = ap (λ t. drop (cond (not t) (1 + position_or_len is_colon bs) 0 + 1) (b ∷ bs)) h

here-has : (b : ℕ) (bs : List ℕ) → is_colon b ≡ true → has_colon (b ∷ bs) ≡ true
here-has b bs h = ap (λ t. nat_lt (cond (not t) (1 + position_or_len is_colon bs) 0) (suc (length bs))) h ∙ none_less (length bs)

one_more : (n : ℕ) → 1 + n ≡ suc n
one_more n = omega arith

one_more_behind : (n : ℕ) → (1 + n) + 1 ≡ suc (n + 1)
one_more_behind n = omega arith

later-first : (p : ℕ → Bool) (b : ℕ) (bs : List ℕ) → p b ≡ false → before_first p (b ∷ bs) ≡ b ∷ before_first p bs
later-first p b bs h = ap (λ t. take (cond (not t) (1 + position_or_len p bs) 0) (b ∷ bs)) h ∙ ap (λ n. take n (b ∷ bs)) (one_more (position_or_len p bs))

later-after : (b : ℕ) (bs : List ℕ) → is_colon b ≡ false → after_first is_colon (b ∷ bs) ≡ after_first is_colon bs
later-after b bs h = ap (λ t. drop (cond (not t) (1 + position_or_len is_colon bs) 0 + 1) (b ∷ bs)) h ∙ ap (λ n. drop n (b ∷ bs)) (one_more_behind (position_or_len is_colon bs))

later-has : (b : ℕ) (bs : List ℕ) → is_colon b ≡ false → has_colon (b ∷ bs) ≡ has_colon bs
later-has b bs h = ap (λ t. nat_lt (cond (not t) (1 + position_or_len is_colon bs) 0) (suc (length bs))) h ∙ (ap (λ n. nat_lt n (suc (length bs))) (one_more (position_or_len is_colon bs)) ∙ less (position_or_len is_colon bs) (length bs))

-- the value behind a colon outside quotes, by the first colon
cases : {P : Type 0} (b : Bool) → (b ≡ true → P) → (b ≡ false → P) → P
cases true on off = on refl
cases false on off = off refl

behind_quote : (b : ℕ) (bs : List ℕ) (q : Bool) → b ≡ 34 → behind_colon q (b ∷ bs) ≡ behind_colon (not q) bs
unfolding behind_colon
behind_quote b bs q h = ap (λ (x : ℕ). cond (nat_eq x 34) (behind_colon (not q) bs) (cond (is_colon b && not q) bs (behind_colon q bs))) h

behind_other : (b : ℕ) (bs : List ℕ) (q : Bool) → (b ≡ 34 → ⊥) → is_colon b ≡ false → behind_colon q (b ∷ bs) ≡ behind_colon q bs
unfolding behind_colon
behind_other b bs q h k =
    ap (λ t. cond t (behind_colon (not q) bs) (cond (is_colon b && not q) bs (behind_colon q bs))) (differs b 34 h)
    ∙ ap (λ t. cond (t && not q) bs (behind_colon q bs)) k

colon_no_quote : (b : ℕ) → is_colon b ≡ true → b ≡ 34 → ⊥
colon_no_quote b h k = grind (arith, nat_tests)

behind_here : (b : ℕ) (bs : List ℕ) (q : Bool) → is_colon b ≡ true → behind_colon q (b ∷ bs) ≡ cond q (behind_colon q bs) bs
unfolding behind_colon
behind_here b bs true h =
    ap (λ t. cond t (behind_colon false bs) (cond (is_colon b && false) bs (behind_colon true bs))) (differs b 34 (colon_no_quote b h))
    ∙ ap (λ t. cond (t && false) bs (behind_colon true bs)) h
behind_here b bs false h =
    ap (λ t. cond t (behind_colon true bs) (cond (is_colon b && true) bs (behind_colon false bs))) (differs b 34 (colon_no_quote b h))
    ∙ ap (λ t. cond (t && true) bs (behind_colon false bs)) h

-- what stands behind the first colon, where a quote is open there or not
unfoldable pub behind_first : Bool → List ℕ → List ℕ
behind_first q rest = cond q (behind_colon true rest) rest

first_here : (q : Bool) (bs : List ℕ) → cond q (behind_colon q bs) bs ≡ behind_first q bs
unfolding behind_first
first_here true bs = refl
first_here false bs = refl

pub behind_split : (line : List ℕ) (q : Bool) → has_colon line ≡ true → behind_colon q line ≡ behind_first (quoted_behind q (before_first is_colon line)) (after_first is_colon line)
behind_split [] q h = absurd (none h)
  where
    none : nat_lt 0 0 ≡ true → ⊥
    none e = cc
behind_split (b ∷ bs) q h =
    cases (is_colon b)
    (λ here. behind_here b bs q here ∙ (first_here q bs
    ∙ (ap (λ r. behind_first r bs) (sym (ap (quoted_behind q) (here-first is_colon b bs here) ∙ quoted_nil q))
    ∙ ap (behind_first (quoted_behind q (before_first is_colon (b ∷ bs)))) (sym (here-after b bs here)))))
    (λ later. cases (nat_eq b 34)
    (λ quote. let at : b ≡ 34 = grind (arith, nat_tests) in
    behind_quote b bs q at ∙ (behind_split bs (not q) (sym (later-has b bs later) ∙ h)
    ∙ (ap (λ r. behind_first r (after_first is_colon bs)) (sym (ap (quoted_behind q) (later-first is_colon b bs later) ∙ quoted_quote b (before_first is_colon bs) q at))
    ∙ ap (behind_first (quoted_behind q (before_first is_colon (b ∷ bs)))) (sym (later-after b bs later)))))
    (λ plain. let other : b ≡ 34 → ⊥ = λ e. grind (arith, nat_tests) in
    behind_other b bs q other later ∙ (behind_split bs q (sym (later-has b bs later) ∙ h)
    ∙ (ap (λ r. behind_first r (after_first is_colon bs)) (sym (ap (quoted_behind q) (later-first is_colon b bs later) ∙ quoted_other b (before_first is_colon bs) q other))
    ∙ ap (behind_first (quoted_behind q (before_first is_colon (b ∷ bs)))) (sym (later-after b bs later))))))

pub behind_none : (line : List ℕ) (q : Bool) → has_colon line ≡ false → behind_colon q line ≡ []
unfolding behind_colon
behind_none [] q h = refl
behind_none (b ∷ bs) q h =
    cases (is_colon b)
    (λ here. absurd (both (has_colon (b ∷ bs)) (here-has b bs here) h))
    (λ later. cases (nat_eq b 34)
    (λ quote. let at : b ≡ 34 = grind (arith, nat_tests) in behind_quote b bs q at ∙ behind_none bs (not q) (sym (later-has b bs later) ∙ h))
    (λ plain. behind_other b bs q (λ e. grind (arith, nat_tests)) later ∙ behind_none bs q (sym (later-has b bs later) ∙ h)))
  where
    both : (t : Bool) → t ≡ true → t ≡ false → ⊥
    both t e f = cc

pub first_quoted : (q : Bool) (rest : List ℕ) → q ≡ true → behind_first q rest ≡ behind_colon true rest
unfolding behind_first
first_quoted q rest h = ap (λ t. cond t (behind_colon true rest) rest) h

pub first_plain : (q : Bool) (rest : List ℕ) → q ≡ false → behind_first q rest ≡ rest
unfolding behind_first
first_plain q rest h = ap (λ t. cond t (behind_colon true rest) rest) h

shorter : (n m : ℕ) → nat_lt n m ≡ true → m - (n + 1) < m
shorter n m h = grind (arith, nat_tests)

pub after_shorter : (line : List ℕ) → has_colon line ≡ true → length (after_first is_colon line) < length line
after_shorter line h = rw length-drop (shorter (position_or_len is_colon line) (length line) h)

-- a word and a colon begin a line just where the word, in any ASCII case, stands before its first colon
abbrev pub is_letter : ℕ → Bool
is_letter b = nat_lt 64 b && nat_lt b 91

same_colon : (b : ℕ) → nat_eq (to_ascii_uppercase b) 58 ≡ is_colon b
same_colon b = grind (arith, nat_tests)

letter_no_colon : (b c : ℕ) → is_letter c ≡ true → nat_eq (to_ascii_uppercase b) c ≡ true → is_colon b ≡ false
letter_no_colon b c h k = grind (arith, nat_tests)

first_true : (a b : Bool) → (a && b) ≡ true → a ≡ true
first_true true b h = refl
first_true false b h = h

second_true : (a b : Bool) → (a && b) ≡ true → b ≡ true
second_true true b h = h
second_true false b h = cc

and_false : (a : Bool) → (a && false) ≡ false
and_false true = refl
and_false false = refl

and_true : (a : Bool) → (a && true) ≡ a
and_true true = refl
and_true false = refl

swapped : (a b c : Bool) → (a && (b && c)) ≡ (b && (a && c))
swapped true b c = refl
swapped false true c = refl
swapped false false c = refl

pub begins_is : (word line : List ℕ) → list_all is_letter word ≡ true
    → bytes_eq (upper (take (suc (length word)) line)) (word ++ (58 ∷ [])) ≡ (has_colon line && bytes_eq (upper (before_first is_colon line)) word)
begins_is [] [] h = refl
begins_is [] (b ∷ bs) h =
    and_true (nat_eq (to_ascii_uppercase b) 58) ∙ (same_colon b
    ∙ cases (is_colon b)
    (λ here. here ∙ sym (ap (λ t. t && bytes_eq (upper (before_first is_colon (b ∷ bs))) []) (here-has b bs here) ∙ ap (λ xs. bytes_eq (upper xs) []) (here-first is_colon b bs here)))
    (λ later. later ∙ sym (ap (λ xs. has_colon (b ∷ bs) && bytes_eq (upper xs) []) (later-first is_colon b bs later) ∙ and_false (has_colon (b ∷ bs)))))
begins_is (c ∷ cs) [] h = refl
begins_is (c ∷ cs) (b ∷ bs) h =
    cases (nat_eq (to_ascii_uppercase b) c)
    (λ same. let later : is_colon b ≡ false = letter_no_colon b c (first_true (is_letter c) (list_all is_letter cs) h) same in
    ap (λ t. nat_eq (to_ascii_uppercase b) c && t) (begins_is cs bs (second_true (is_letter c) (list_all is_letter cs) h))
    ∙ (swapped (nat_eq (to_ascii_uppercase b) c) (has_colon bs) (bytes_eq (upper (before_first is_colon bs)) cs)
    ∙ sym (ap (λ t. t && bytes_eq (upper (before_first is_colon (b ∷ bs))) (c ∷ cs)) (later-has b bs later)
    ∙ ap (λ xs. has_colon bs && bytes_eq (upper xs) (c ∷ cs)) (later-first is_colon b bs later))))
    (λ other. ap (λ t. t && bytes_eq (upper (take (suc (length cs)) bs)) (cs ++ (58 ∷ []))) other
    ∙ sym (cases (is_colon b)
    (λ here. ap (λ xs. has_colon (b ∷ bs) && bytes_eq (upper xs) (c ∷ cs)) (here-first is_colon b bs here) ∙ and_false (has_colon (b ∷ bs)))
    (λ later. ap (λ xs. has_colon (b ∷ bs) && bytes_eq (upper xs) (c ∷ cs)) (later-first is_colon b bs later)
    ∙ (ap (λ t. has_colon (b ∷ bs) && (t && bytes_eq (upper (before_first is_colon bs)) cs)) other ∙ and_false (has_colon (b ∷ bs))))))

pub behind_word : (word line : List ℕ) → list_all is_letter word ≡ true → bytes_eq (upper (take (suc (length word)) line)) (word ++ (58 ∷ [])) ≡ true
    → drop (suc (length word)) line ≡ after_first is_colon line
behind_word [] [] h k = cc
behind_word [] (b ∷ bs) h k = sym (here-after b bs (sym (same_colon b) ∙ (sym (and_true (nat_eq (to_ascii_uppercase b) 58)) ∙ k)))
behind_word (c ∷ cs) [] h k = cc
behind_word (c ∷ cs) (b ∷ bs) h k =
    behind_word cs bs (second_true (is_letter c) (list_all is_letter cs) h) (second_true (nat_eq (to_ascii_uppercase b) c) (bytes_eq (upper (take (suc (length cs)) bs)) (cs ++ (58 ∷ []))) k)
    ∙ sym (later-after b bs (letter_no_colon b c (first_true (is_letter c) (list_all is_letter cs) h) (first_true (nat_eq (to_ascii_uppercase b) c) (bytes_eq (upper (take (suc (length cs)) bs)) (cs ++ (58 ∷ []))) k)))

-- the text before the first `:` or `;`
or_left : (a b : Bool) → a ≡ true → (a || b) ≡ true
or_left true b h = refl
or_left false b h = cc

or_right : (a b : Bool) → a ≡ false → (a || b) ≡ b
or_right true b h = cc
or_right false b h = refl

pub name_by_two : (line : List ℕ) → before_first is_semicolon (before_first is_colon line) ≡ before_first ends_name line
name_by_two [] = refl
name_by_two (b ∷ bs) =
    cases (is_colon b)
    (λ colon. ap (before_first is_semicolon) (here-first is_colon b bs colon) ∙ sym (here-first ends_name b bs (or_left (is_colon b) (is_semicolon b) colon)))
    (λ later. ap (before_first is_semicolon) (later-first is_colon b bs later)
    ∙ cases (is_semicolon b)
    (λ semi. here-first is_semicolon b (before_first is_colon bs) semi ∙ sym (here-first ends_name b bs (or_right (is_colon b) (is_semicolon b) later ∙ semi)))
    (λ plain. later-first is_semicolon b (before_first is_colon bs) plain
    ∙ (ap (λ xs. b ∷ xs) (name_by_two bs) ∙ sym (later-first ends_name b bs (or_right (is_colon b) (is_semicolon b) later ∙ plain)))))
