-- The rows at an href, row by row, and the first of them that has an etag.
use Rattle.std.proofs.Common.{◌≡◌, refl, ℕ, ◌+◌, ◌<◌, Bool, true, false, cond, ◌&&◌, List, [], ◌∷◌, ◌++◌, filter, length, take, get_or, Option, Some, None, sym, ◌∙◌, ap, add-one, append-nil}
use Rattle.std.specs.List.{find}
use Rattle.std.proofs.Math.Seq.{take-suc}
use Rattle.std.proofs.lemmas.List.Elements.{filter-append}
use Rattle.std.specs.Str.{bytes_eq}
use Rattle.std.proofs.lemmas.Slice.Eq.{bytes_eq-Decides}
use Rattle.status_keeper.specs.declared.row.Row.{Row}
use Rattle.sync_plan.specs.declared.report.Side.{Side}
use Rattle.side_reads.specs.Places.{href_on, etag_on, is_text, row_at, has_href}

find_by : {X : Type 0} (p q : X → Bool) (x : X) (xs : List X) (s t : Bool) → find (λ y. p y && q y) xs ≡ find q (filter p xs) → p x ≡ s → q x ≡ t → cond (s && t) (Some x) (find (λ y. p y && q y) xs) ≡ find q (cond s (x ∷ filter p xs) (filter p xs))
find_by p q x xs true true rest is_p is_q = sym (ap (λ b. cond b (Some x) (find q (filter p xs))) is_q)
find_by p q x xs true false rest is_p is_q = rest ∙ sym (ap (λ b. cond b (Some x) (find q (filter p xs))) is_q)
find_by p q x xs false t rest is_p is_q = rest

-- the first that passes both tests is the first of those that pass the one which passes the other
pub find_both : {X : Type 0} (p q : X → Bool) (xs : List X) → find (λ y. p y && q y) xs ≡ find q (filter p xs)
find_both p q [] = refl
find_both p q (x ∷ xs) =
    ap (λ b. cond (b && q x) (Some x) (find (λ y. p y && q y) xs)) refl
    ∙ find_by p q x xs (p x) (q x) (find_both p q xs) refl refl

pub filter_one : {X : Type 0} (p : X → Bool) (x : X) (old new : List X) → p x ≡ true → new ≡ old ++ x ∷ [] → new ≡ old ++ filter p (x ∷ [])
filter_one p x old new passes is = is ∙ sym (ap (λ b. old ++ cond b (x ∷ []) []) passes)

pub filter_none : {X : Type 0} (p : X → Bool) (x : X) (old : List X) → p x ≡ false → old ≡ old ++ filter p (x ∷ [])
filter_none p x old fails = sym (ap (λ b. old ++ cond b (x ∷ []) []) fails ∙ append-nil old)

-- one more element
pub filter_next : {X : Type 0} (p : X → Bool) (xs : List X) (i : ℕ) (x : X) (old new : List X) → i < length xs → x ≡ get_or xs i x → old ≡ filter p (take i xs) → new ≡ old ++ filter p (x ∷ []) → new ≡ filter p (take (i + 1) xs)
filter_next p xs i x old new within is so_far grown =
    let one : take (i + 1) xs ≡ take i xs ++ x ∷ [] = ap (λ k. take k xs) (add-one i) ∙ take-suc xs i x within ∙ ap (λ a. take i xs ++ a ∷ []) (sym is) in
    grown ∙ ap (λ l. l ++ filter p (x ∷ [])) so_far ∙ sym (filter-append p (take i xs) (x ∷ [])) ∙ ap (λ l. filter p l) (sym one)

-- the first row at a place is the first with the etag among those of the href
pub found_at : (side : Side) (href etag : List ℕ) (rows found : List Row) → found ≡ filter (has_href side href) rows → find (λ r. is_text (etag_on side r) etag) found ≡ row_at side href etag rows
found_at side href etag rows found is = ap (λ l. find (λ r. is_text (etag_on side r) etag) l) is ∙ sym (find_both (has_href side href) (λ r. is_text (etag_on side r) etag) rows)

flipped : (x y : List ℕ) → bytes_eq x y ≡ bytes_eq y x
flipped x y = at (bytes_eq x y) (bytes_eq y x) (λ h. (bytes_eq-Decides y x).1 (sym ((bytes_eq-Decides x y).0 h))) (λ h. (bytes_eq-Decides x y).1 (sym ((bytes_eq-Decides y x).0 h)))
  where
    at : (s t : Bool) → (s ≡ true → t ≡ true) → (t ≡ true → s ≡ true) → s ≡ t
    at true t f g = sym (f refl)
    at false true f g = g refl
    at false false f g = refl

-- one more row, which has an href for the side
pub added : (side : Side) (q href : List ℕ) (rows : List Row) (i : ℕ) (row : Row) (old new : List Row) → i < length rows → row ≡ get_or rows i row → Some href ≡ href_on side row → new ≡ cond (bytes_eq q href) (old ++ row ∷ []) old → old ≡ filter (has_href side q) (take i rows) → new ≡ filter (has_href side q) (take (i + 1) rows)
added side q href rows i row old new within is has put so_far = filter_next (has_href side q) rows i row old new within is so_far (put ∙ by (bytes_eq q href) (bytes_eq href q) (flipped href q) passes)
  where
    passes : has_href side q row ≡ bytes_eq href q
    passes = ap (λ (o : Option (List ℕ)). is_text o q) (sym has)

    by : (s t : Bool) → t ≡ s → has_href side q row ≡ t → cond s (old ++ row ∷ []) old ≡ old ++ filter (has_href side q) (row ∷ [])
    by true true same h = filter_one (has_href side q) row old (old ++ row ∷ []) h refl
    by false false same h = filter_none (has_href side q) row old h
    by true false same h = absurd (cc)
    by false true same h = absurd (cc)

-- or has none
pub passed_over : (side : Side) (q : List ℕ) (rows : List Row) (i : ℕ) (row : Row) (old : List Row) → i < length rows → row ≡ get_or rows i row → None ≡ href_on side row → old ≡ filter (has_href side q) (take i rows) → old ≡ filter (has_href side q) (take (i + 1) rows)
passed_over side q rows i row old within is has so_far = filter_next (has_href side q) rows i row old old within is so_far (filter_none (has_href side q) row old (ap (λ (o : Option (List ℕ)). is_text o q) (sym has)))
