-- Cutting: lines cut into parts, and the parts that are found among others.
use Rattle.std.proofs.Common.{◌≡◌, ℕ, suc, ◌+◌, ◌<◌, ◌≤◌, Bool, true, false, cond, List, [], ◌∷◌, ◌++◌, length, take, drop, get_or, Option, Some, None, refl, sym, ◌∙◌, ap, arith, append_assoc, append-nil}
use Rattle.std.specs.List.{onto_first, filter, filter_map, cons_option}
use Rattle.std.proofs.lemmas.List.{drop-drop, drop_more, drop_all, take_more, map-append}
use Rattle.std.proofs.lemmas.List.Elements.{filter-append}
use Rattle.item_text.specs.Refusals.{first_of, else_of}
use Rattle.file_text.specs.Parts.{begins, cut, is_of, head_role, parts_of, uid_in, uid_of}
use Rattle.file_text.specs.Spans.{part_at, parts_at}
use Rattle.file_text.specs.declared.parts.Span.{Span}
use Rattle.file_text.specs.declared.marks.Mark.{Mark}
use Rattle.file_text.specs.declared.parts.Level.{Level}
use Rattle.file_text.specs.declared.parts.PartKind.{PartKind}

-- how many lines stand before the next that begins a part
unfoldable pub following : Level → List Mark → ℕ
following level [] = 0
following level (line ∷ rest) = cond (begins level line.role) 0 (suc (following level rest))

cut_by : (b : Bool) (level : Level) (line next : Mark) (rest : List Mark) → cut level (next ∷ rest) ≡ (next ∷ take (following level rest) rest) ∷ cut level (drop (following level rest) rest)
    → cond b ((line ∷ []) ∷ cut level (next ∷ rest)) (onto_first line (cut level (next ∷ rest)))
    ≡ (line ∷ take (cond b 0 (suc (following level rest))) (next ∷ rest)) ∷ cut level (drop (cond b 0 (suc (following level rest))) (next ∷ rest))
cut_by true level line next rest h = refl
cut_by false level line next rest h = ap (onto_first line) h

-- the first part, and those behind it
pub first_part : (level : Level) (line : Mark) (rest : List Mark) → cut level (line ∷ rest) ≡ (line ∷ take (following level rest) rest) ∷ cut level (drop (following level rest) rest)
unfolding cut following
first_part level line [] = refl
first_part level line (next ∷ rest) = cut_by (begins level next.role) level line next rest (first_part level next rest)

pub part_of : (level : Level) (lines : List Mark) (count : ℕ) → following level lines ≡ count → (line : Mark) → cut level (line ∷ lines) ≡ (line ∷ take count lines) ∷ cut level (drop count lines)
part_of level lines count h line = first_part level line lines ∙ ap (λ (n : ℕ). (line ∷ take n lines) ∷ cut level (drop n lines)) h

counted : (level : Level) (line : Mark) (rest : List Mark) (b : Bool) → begins level line.role ≡ b → following level (line ∷ rest) ≡ cond b 0 (suc (following level rest))
unfolding following
counted level line rest b h = ap (λ (t : Bool). cond t 0 (suc (following level rest))) h

counted_at : (level : Level) (lines : List Mark) (i : ℕ) (line : Mark) (b : Bool) → i < length lines → line ≡ get_or lines i line → begins level line.role ≡ b → following level (drop i lines) ≡ cond b 0 (suc (following level (drop (i + 1) lines)))
counted_at level lines i line b h e k =
    ap (following level) (drop_more lines i line h) ∙ counted level (get_or lines i line) (drop (i + 1) lines) b (ap (λ (l : Mark). begins level l.role) (sym e) ∙ k)

-- one line more that doesn't begin a part
pub counts_more : (level : Level) (lines : List Mark) (count i : ℕ) (line : Mark) → i < length lines → line ≡ get_or lines i line → begins level line.role ≡ false
    → following level lines ≡ count + following level (drop i lines) → following level lines ≡ (count + 1) + following level (drop (i + 1) lines)
counts_more level lines count i line h e k is = omega (arith, counted_at level lines i line false h e k, is)

-- the line that ends the count
pub counts_to : (level : Level) (lines : List Mark) (count i : ℕ) (line : Mark) → i < length lines → line ≡ get_or lines i line → begins level line.role ≡ true
    → following level lines ≡ count + following level (drop i lines) → following level lines ≡ count
counts_to level lines count i line h e k is = omega (arith, counted_at level lines i line true h e k, is)

none_follow : (level : Level) (rest : List Mark) → length rest ≡ 0 → following level rest ≡ 0
unfolding following
none_follow level [] h = refl
none_follow level (line ∷ rest) h = absurd (omega arith)

pub counts_all : (level : Level) (lines : List Mark) (count i : ℕ) → length lines ≤ i → following level lines ≡ count + following level (drop i lines) → following level lines ≡ count
counts_all level lines count i h is = omega (arith, none_follow level (drop i lines) (ap length (drop_all i lines h)), is)

more_drop : (start count : ℕ) (lines : List Mark) → drop (start + (1 + count)) lines ≡ drop count (drop (start + 1) lines)
more_drop start count lines = ap (λ (n : ℕ). drop n lines) (omega arith) ∙ sym (drop-drop count (start + 1) lines)

one_suc : (n : ℕ) → 1 + n ≡ suc n
one_suc n = omega arith

-- one part more
pub cut_next : (level : Level) (lines : List Mark) (start count : ℕ) (behind : List Mark) (spans more : List Span) (span : Span) (all : List (List Mark)) (line : Mark) → start < length lines → behind ≡ drop (start + 1) lines
    → ((l : Mark) → cut level (l ∷ behind) ≡ (l ∷ take count behind) ∷ cut level (drop count behind)) → span ≡ record { start = start; count = 1 + count } → more ≡ spans ++ span ∷ []
    → parts_at lines spans ++ cut level (drop start lines) ≡ all → parts_at lines more ++ cut level (drop (start + (1 + count)) lines) ≡ all
cut_next level lines start count behind spans more span all line h behind_is first span_is more_is so_far =
    let here : drop start lines ≡ get_or lines start line ∷ drop (start + 1) lines = drop_more lines start line h in
    let first_is : cut level (drop start lines) ≡ (get_or lines start line ∷ take count (drop (start + 1) lines)) ∷ cut level (drop count (drop (start + 1) lines)) =
    ap (cut level) here ∙ (ap (λ (b : List Mark). cut level (get_or lines start line ∷ b)) (sym behind_is) ∙ (first (get_or lines start line)
    ∙ ap (λ (b : List Mark). (get_or lines start line ∷ take count b) ∷ cut level (drop count b)) behind_is)) in
    let part_is : take (1 + count) (drop start lines) ≡ get_or lines start line ∷ take count (drop (start + 1) lines) =
    ap (λ (xs : List Mark). take (1 + count) xs) here ∙ ap (λ (n : ℕ). take n (get_or lines start line ∷ drop (start + 1) lines)) (one_suc count) in
    ap (λ (xs : List Span). parts_at lines xs ++ cut level (drop (start + (1 + count)) lines)) (more_is ∙ ap (λ (s : Span). spans ++ s ∷ []) span_is)
    ∙ (ap (λ (xs : List (List Mark)). xs ++ cut level (drop (start + (1 + count)) lines)) (map-append (part_at lines) spans (record { start = start; count = 1 + count } ∷ []))
    ∙ (append_assoc (parts_at lines spans) (take (1 + count) (drop start lines) ∷ []) (cut level (drop (start + (1 + count)) lines))
    ∙ (ap (λ (p : List Mark). parts_at lines spans ++ p ∷ cut level (drop (start + (1 + count)) lines)) part_is
    ∙ (ap (λ (b : List Mark). parts_at lines spans ++ (get_or lines start line ∷ take count (drop (start + 1) lines)) ∷ cut level b) (more_drop start count lines)
    ∙ (ap (λ (ps : List (List Mark)). parts_at lines spans ++ ps) (sym first_is) ∙ so_far)))))

nothing_cut : (level : Level) (lines : List Mark) → length lines ≡ 0 → cut level lines ≡ []
unfolding cut
nothing_cut level [] h = refl
nothing_cut level (line ∷ rest) h = absurd (omega arith)

pub all_cut : (level : Level) (lines : List Mark) (start : ℕ) (spans : List Span) (all : List (List Mark)) → length lines ≤ start → parts_at lines spans ++ cut level (drop start lines) ≡ all → parts_at lines spans ≡ all
all_cut level lines start spans all h so_far =
    sym (append-nil (parts_at lines spans)) ∙ (ap (λ (ps : List (List Mark)). parts_at lines spans ++ ps) (sym (nothing_cut level (drop start lines) (ap length (drop_all start lines h)))) ∙ so_far)

-- the first UID of a child
uid_by : (uid : Option (List ℕ)) (line : Mark) (rest : List Mark) → uid_in line.role line.text ≡ uid → uid_of (line ∷ rest) ≡ else_of uid (uid_of rest)
unfolding uid_of first_of else_of
uid_by None line rest h = ap (λ (u : Option (List ℕ)). first_of (cons_option u (filter_map (λ (line : Mark). uid_in line.role line.text) rest))) h
uid_by (Some uid) line rest h = ap (λ (u : Option (List ℕ)). first_of (cons_option u (filter_map (λ (line : Mark). uid_in line.role line.text) rest))) h

uid_at : (child : List Mark) (i : ℕ) (line : Mark) (uid : Option (List ℕ)) → i < length child → line ≡ get_or child i line → uid_in line.role line.text ≡ uid → uid_of (drop i child) ≡ else_of uid (uid_of (drop (i + 1) child))
uid_at child i line uid h e k =
    ap uid_of (drop_more child i line h) ∙ uid_by uid (get_or child i line) (drop (i + 1) child) (ap (λ (l : Mark). uid_in l.role l.text) (sym e) ∙ k)

pub uid_found : (child : List Mark) (i : ℕ) (line : Mark) (uid : List ℕ) → i < length child → line ≡ get_or child i line → Some uid ≡ uid_in line.role line.text → uid_of (drop i child) ≡ uid_of child → Some uid ≡ uid_of child
unfolding else_of
uid_found child i line uid h e k so_far = sym (uid_at child i line (Some uid) h e (sym k)) ∙ so_far

pub uid_later : (child : List Mark) (i : ℕ) (line : Mark) → i < length child → line ≡ get_or child i line → None ≡ uid_in line.role line.text → uid_of (drop i child) ≡ uid_of child → uid_of (drop (i + 1) child) ≡ uid_of child
unfolding else_of
uid_later child i line h e k so_far = sym (uid_at child i line None h e (sym k)) ∙ so_far

uid_none : (child : List Mark) → length child ≡ 0 → None ≡ uid_of child
unfolding uid_of first_of
uid_none [] h = refl
uid_none (line ∷ rest) h = absurd (omega arith)

pub no_uid : (child : List Mark) (i : ℕ) → length child ≤ i → uid_of (drop i child) ≡ uid_of child → None ≡ uid_of child
no_uid child i h so_far = uid_none (drop i child) (ap length (drop_all i child h)) ∙ so_far

-- one part more of a kind
pub put_one : (b : Bool) (kind : PartKind) (part : List Mark) → is_of kind (head_role part) ≡ b → parts_of kind (part ∷ []) ≡ cond b (part ∷ []) []
unfolding parts_of
put_one b kind part h = ap (λ (t : Bool). cond t (part ∷ []) []) h

pub filter_more : (P : List Mark → Bool) (lines : List Mark) (spans : List Span) (i : ℕ) (d span : Span) (old new : List (List Mark)) → i < length spans → span ≡ get_or spans i d → old ≡ filter P (parts_at lines (take i spans))
    → new ≡ old ++ filter P (part_at lines span ∷ []) → new ≡ filter P (parts_at lines (take (i + 1) spans))
filter_more P lines spans i d span old new h e so_far put =
    let one : take (i + 1) spans ≡ take i spans ++ span ∷ [] = take_more spans i d h ∙ ap (λ (s : Span). take i spans ++ s ∷ []) (sym e) in
    put ∙ (ap (λ (ps : List (List Mark)). ps ++ filter P (part_at lines span ∷ [])) so_far
    ∙ (sym (filter-append P (parts_at lines (take i spans)) (part_at lines span ∷ []))
    ∙ ap (filter P) (sym (ap (parts_at lines) one ∙ map-append (part_at lines) (take i spans) (span ∷ [])))))

pub put_more : (kind : PartKind) (lines : List Mark) (spans found more : List Span) (i : ℕ) (d span : Span) → i < length spans → span ≡ get_or spans i d → parts_at lines found ≡ parts_of kind (parts_at lines (take i spans))
    → parts_at lines more ≡ parts_at lines found ++ parts_of kind (part_at lines span ∷ []) → parts_at lines more ≡ parts_of kind (parts_at lines (take (i + 1) spans))
unfolding parts_of
put_more kind lines spans found more i d span h e so_far put = filter_more (λ part. is_of kind (head_role part)) lines spans i d span (parts_at lines found) (parts_at lines more) h e so_far put
