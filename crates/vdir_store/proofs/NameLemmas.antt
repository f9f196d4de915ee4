-- A chosen name is an item's name.
use Rattle.std.proofs.Common.{rules, arith, ◌≡◌, ℕ, ◌+◌, ◌-◌, ◌<◌, ◌≤◌, Bool, true, false, not, length, get_or, take, drop, List, [], ◌∷◌, ◌++◌, refl, sym, ap, ◌∙◌, append_assoc, length-append}
use Rattle.std.specs.Prelude.{◌==◌, nat_lt, nat_eq, IsTrue}
use Rattle.std.specs.List.{ends_with}
use Rattle.std.proofs.lemmas.Slice.Eq.{ends_is}
use Rattle.std.proofs.lemmas.Bool.{and_parts, and_from, false≢true}
use Rattle.std.proofs.lemmas.Bool.Decides.{Decides-eqb}
use Rattle.std.proofs.lemmas.List.{drop-append-le}
use Rattle.std.proofs.Math.Seq.{drop-append_seam, get_or-append_seam}
use Rattle.store_model.specs.Names.{file_stem, candidate, IsFreeName}
use Rattle.store_model.proofs.NameLemmas.{candidate_shape, file_stem_some}
use Rattle.vdir_store.specs.Names.{is_item, is_ending, SpeaksOf, tmp_ending}

ends_here : (x e : List ℕ) → ends_with nat_eq (x ++ e) e ≡ true
ends_here x e = (ends_is Decides-eqb (x ++ e) e _ refl).1 x refl

front_of : (s e : List ℕ) → ends_with nat_eq s e ≡ true → (y : List ℕ) × (s ≡ y ++ e)
front_of s e h = (take (length s - length e) s, (ends_is Decides-eqb s e _ refl).0 h)

-- the bytes of `.tmp`, counted from its end
third : (y : List ℕ) (d : ℕ) → get_or (y ++ tmp_ending) (length y + 2) d ≡ 109
third y d = ap (λ l. get_or l (length y + 2) d) (sym (append_assoc y (46 ∷ 116 ∷ []) (109 ∷ 112 ∷ []))) ∙ ap (λ n. get_or ((y ++ 46 ∷ 116 ∷ []) ++ 109 ∷ 112 ∷ []) n d) (sym (length-append y (46 ∷ 116 ∷ []))) ∙ get_or-append_seam (y ++ 46 ∷ 116 ∷ []) 109 (112 ∷ []) d

second : (y : List ℕ) (d : ℕ) → get_or (y ++ tmp_ending) (length y + 1) d ≡ 116
second y d = ap (λ l. get_or l (length y + 1) d) (sym (append_assoc y (46 ∷ []) (116 ∷ 109 ∷ 112 ∷ []))) ∙ ap (λ n. get_or ((y ++ 46 ∷ []) ++ 116 ∷ 109 ∷ 112 ∷ []) n d) (sym (length-append y (46 ∷ []))) ∙ get_or-append_seam (y ++ 46 ∷ []) 116 (109 ∷ 112 ∷ []) d

not_true : (b : Bool) → (b ≡ true → ⊥) → not b ≡ true
not_true true h = absurd (h refl)
not_true false h = refl

no_tmp : (x e : List ℕ) → IsTrue (is_ending e) → SpeaksOf e → (y : List ℕ) → x ++ e ≡ y ++ tmp_ending → ⊥
no_tmp x [] h q y s = absurd (false≢true h)
no_tmp x (f ∷ []) h q y s = absurd (false≢true (and_parts (f == 46) _ h).1)
no_tmp x (f ∷ g ∷ []) h q y s =
    let dot : f ≡ 46 = (Decides-eqb f 46).0 (and_parts (f == 46) _ h).0 in
    let long : length x + 2 ≡ length y + 4 = sym (length-append x (f ∷ g ∷ [])) ∙ ap length s ∙ length-append y tmp_ending in
    let place : length x ≡ length y + 2 = omega arith in
    let read : f ≡ 109 = sym (get_or-append_seam x f (g ∷ []) 0) ∙ ap (λ l. get_or l (length x) 0) s ∙ ap (λ n. get_or (y ++ tmp_ending) n 0) place ∙ third y 0 in
    omega arith
no_tmp x (f ∷ g ∷ k ∷ []) h q y s =
    let dot : f ≡ 46 = (Decides-eqb f 46).0 (and_parts (f == 46) _ h).0 in
    let long : length x + 3 ≡ length y + 4 = sym (length-append x (f ∷ g ∷ k ∷ [])) ∙ ap length s ∙ length-append y tmp_ending in
    let place : length x ≡ length y + 1 = omega arith in
    let read : f ≡ 116 = sym (get_or-append_seam x f (g ∷ k ∷ []) 0) ∙ ap (λ l. get_or l (length x) 0) s ∙ ap (λ n. get_or (y ++ tmp_ending) n 0) place ∙ second y 0 in
    omega arith
no_tmp x (f ∷ g ∷ k ∷ l ∷ rest) h q y s =
    let e = f ∷ g ∷ k ∷ l ∷ rest in
    let long : length x + length e ≡ length y + 4 = sym (length-append x e) ∙ ap length s ∙ length-append y tmp_ending in
    let below : length x ≤ length y = omega arith in
    let tail : e ≡ drop (length x) y ++ tmp_ending = sym (drop-append_seam x e) ∙ ap (drop (length x)) s ∙ drop-append-le (length x) y tmp_ending below in
    false≢true (sym q ∙ ap (λ z. ends_with nat_eq z tmp_ending) tail ∙ ends_here (drop (length x) y) tmp_ending)

pub is_item-append : (x ending : List ℕ) → IsTrue (is_ending ending) → SpeaksOf ending → 0 < length x → is_item ending (x ++ ending) ≡ true
unfolding is_item
is_item-append x ending h q some =
    let longer : length ending < length (x ++ ending) = omega (arith, length-append x ending) in
    let longer_test : nat_lt (length ending) (length (x ++ ending)) ≡ true = search rules in
    and_from _ _ (ends_here x ending) (and_from _ _ longer_test (not_true _ (λ t. let y = front_of (x ++ ending) tmp_ending t in no_tmp x ending h q y.0 y.1)))

pub is_item-candidate : (stem ending : List ℕ) (number : ℕ) → IsTrue (is_ending ending) → SpeaksOf ending → 0 < length stem → is_item ending (candidate stem ending number) ≡ true
is_item-candidate stem ending number h q some =
    let x = candidate_shape stem ending number in
    ap (is_item ending) x.1 ∙ is_item-append x.0 ending h q (omega (arith, x.2))

-- the name that is chosen is an item's name
pub chosen_is_item : (taken : List ℕ → Bool) (ident ending name : List ℕ) → IsTrue (is_ending ending) → SpeaksOf ending → IsFreeName taken (file_stem ident) ending name → is_item ending name ≡ true
chosen_is_item taken ident ending name h q f = ap (is_item ending) f.tried ∙ is_item-candidate (file_stem ident) ending f.number h q (file_stem_some ident)
