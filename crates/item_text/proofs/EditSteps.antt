-- Steps of an edit: one line more.
use Rattle.std.proofs.Common.{◌≡◌, ◌≤◌, ◌<◌, ◌+◌, ℕ, suc, get_or, append-nil, append_assoc, ◌-◌, subst, Bool, true, false, cond, List, [], ◌∷◌, ◌++◌, map, length, take, drop, refl, sym, ◌∙◌, ap, Bor, arith, ◌==◌}
use Rattle.std.proofs.lemmas.Bool.Decides.{nat_tests}
use Rattle.std.proofs.lemmas.List.{take-map, drop-map, drop-drop, drop_more, take_rest}
use Rattle.std.specs.List.{join_with_byte, join_by, flat_map, onto_first}
use Rattle.item_text.specs.Lines.{continues}
use Rattle.item_text.specs.declared.edit.Change.{Change}
use Rattle.item_text.specs.declared.edit.Change.TheVariants.{Stays}
use Rattle.item_text.specs.declared.edit.Role.{Role}
use Rattle.item_text.specs.Edits.{by_line, changed, all_changed, changes}
use Rattle.item_text.proofs.Lent.{next_lent, none_lent}

-- how many of the parts continue the line of a part before them
unfoldable pub continuing : List (List ℕ) → ℕ
continuing [] = 0
continuing (part ∷ more) = cond (continues part) (suc (continuing more)) 0

pub all_stays : (new : List ℕ) (parts : List (List ℕ)) (rest : List (List (List ℕ))) → all_changed new [] (parts ∷ rest) ≡ changed new Stays parts ++ all_changed new [] rest
unfolding all_changed changed
all_stays new parts rest = refl

pub all_next : (new : List ℕ) (change : Change) (more : List Change) (parts : List (List ℕ)) (rest : List (List (List ℕ)))
    → all_changed new (change ∷ more) (parts ∷ rest) ≡ changed new change parts ++ all_changed new more rest
unfolding all_changed
all_next new change more parts rest = refl

pub all_none : (all : List Change) → length all ≡ 0 → (new : List ℕ) (parts : List (List ℕ)) (rest : List (List (List ℕ))) → all_changed new all (parts ∷ rest) ≡ changed new Stays parts ++ all_changed new all rest
all_none [] h new parts rest = all_stays new parts rest
all_none (change ∷ more) h new parts rest = cc

-- the first line, and those behind it
split_by : (b : Bool) (part next : List ℕ) (more : List (List ℕ)) → by_line (next ∷ more) ≡ (next ∷ take (continuing more) more) ∷ by_line (drop (continuing more) more)
    → cond b (onto_first part (by_line (next ∷ more))) ((part ∷ []) ∷ by_line (next ∷ more))
    ≡ (part ∷ take (cond b (suc (continuing more)) 0) (next ∷ more)) ∷ by_line (drop (cond b (suc (continuing more)) 0) (next ∷ more))
split_by true part next more h = ap (onto_first part) h
split_by false part next more h = refl

pub first_line : (part : List ℕ) (more : List (List ℕ)) → by_line (part ∷ more) ≡ (part ∷ take (continuing more) more) ∷ by_line (drop (continuing more) more)
unfolding by_line continuing
first_line part [] = refl
first_line part (next ∷ more) = split_by (continues next) part next more (first_line next more)

counted : (part : List ℕ) (more : List (List ℕ)) (b : Bool) → continues part ≡ b → continuing (part ∷ more) ≡ cond b (suc (continuing more)) 0
unfolding continuing
counted part more b h = ap (λ (t : Bool). cond t (suc (continuing more)) 0) h

abbrev pub lent : List (Bor (List ℕ)) → List (List ℕ)
lent parts = map (λ (x : Bor (List ℕ)). x.now) parts

counted_lent : (parts : List (Bor (List ℕ))) (i : ℕ) (d : Bor (List ℕ)) (part : List ℕ) (b : Bool) → i < length parts → part ≡ (get_or parts i d).now → continues part ≡ b
    → continuing (lent (drop i parts)) ≡ cond b (suc (continuing (lent (drop (i + 1) parts)))) 0
counted_lent parts i d part b h e k = ap continuing (next_lent parts i d h) ∙ counted (get_or parts i d).now (lent (drop (i + 1) parts)) b (ap continues (sym e) ∙ k)

-- one part more that continues
pub counts_more : (parts : List (Bor (List ℕ))) (count i : ℕ) (d : Bor (List ℕ)) (part : List ℕ) → i < length parts → part ≡ (get_or parts i d).now → continues part ≡ true
    → continuing (lent parts) ≡ count + continuing (lent (drop i parts)) → continuing (lent parts) ≡ (count + 1) + continuing (lent (drop (i + 1) parts))
counts_more parts count i d part h e k is = omega (arith, counted_lent parts i d part true h e k, is)

-- the part that ends the count
pub counts_to : (parts : List (Bor (List ℕ))) (count i : ℕ) (d : Bor (List ℕ)) (part : List ℕ) → i < length parts → part ≡ (get_or parts i d).now → continues part ≡ false
    → continuing (lent parts) ≡ count + continuing (lent (drop i parts)) → continuing (lent parts) ≡ count
counts_to parts count i d part h e k is = omega (arith, counted_lent parts i d part false h e k, is)

counts_none : continuing [] ≡ 0
unfolding continuing
counts_none = refl

pub counts_all : (parts : List (Bor (List ℕ))) (count i : ℕ) → length parts ≤ i → continuing (lent parts) ≡ count + continuing (lent (drop i parts)) → continuing (lent parts) ≡ count
counts_all parts count i h is = omega (arith, ap continuing (none_lent parts i h), counts_none, is)

pub line_of : (parts : List (Bor (List ℕ))) (count : ℕ) → continuing (lent parts) ≡ count → (part : List ℕ) → by_line (part ∷ lent parts) ≡ (part ∷ take count (lent parts)) ∷ by_line (drop count (lent parts))
line_of parts count h part = first_line part (lent parts) ∙ ap (λ (n : ℕ). (part ∷ take n (lent parts)) ∷ by_line (drop n (lent parts))) h

-- the changes behind the last role
pub changes_none : (seeking : Bool) (roles : List Role) → length roles ≡ 0 → changes seeking roles ≡ []
unfolding changes
changes_none seeking [] h = refl
changes_none seeking (role ∷ more) h = cc

-- one line more of the parts
line_at : (parts : List (Bor (List ℕ))) (start count : ℕ) (d : Bor (List ℕ)) → start < length parts
    → ((part : List ℕ) → by_line (part ∷ lent (drop (start + 1) parts)) ≡ (part ∷ take count (lent (drop (start + 1) parts))) ∷ by_line (drop count (lent (drop (start + 1) parts))))
    → by_line (lent (drop start parts)) ≡ lent (take (suc count) (drop start parts)) ∷ by_line (lent (drop (start + 1 + count) parts))
line_at parts start count d h line =
    let rest = drop (start + 1) parts in
    let first = get_or parts start d in
    ap by_line (next_lent parts start d h)
    ∙ (line first.now
    ∙ (ap (λ (ps : List (List ℕ)). (first.now ∷ ps) ∷ by_line (drop count (lent rest))) (take-map (λ (x : Bor (List ℕ)). x.now) count rest)
    ∙ (ap (λ (ps : List (List ℕ)). (first.now ∷ lent (take count rest)) ∷ by_line ps) (drop-map (λ (x : Bor (List ℕ)). x.now) count rest)
    ∙ (ap (λ (ps : List (Bor (List ℕ))). (first.now ∷ lent (take count rest)) ∷ by_line (lent ps)) (drop-drop count (start + 1) parts)
    ∙ ap (λ (ps : List (Bor (List ℕ))). lent (take (suc count) ps) ∷ by_line (lent (drop (start + 1 + count) parts))) (sym (drop_more parts start d h))))))

size : (start count : ℕ) → start + 1 + count - start ≡ suc count
size start count = omega arith

-- a line put behind others
pub put_next : (new : List ℕ) (change : Change) (left behind : List Change) (parts : List (Bor (List ℕ))) (start count : ℕ) (d : Bor (List ℕ)) (put now total : List (List ℕ)) → start < length parts
    → ((part : List ℕ) → by_line (part ∷ lent (drop (start + 1) parts)) ≡ (part ∷ take count (lent (drop (start + 1) parts))) ∷ by_line (drop count (lent (drop (start + 1) parts))))
    → ((parts : List (List ℕ)) (rest : List (List (List ℕ))) → all_changed new left (parts ∷ rest) ≡ changed new change parts ++ all_changed new behind rest)
    → now ≡ put ++ changed new change (lent (take (start + 1 + count - start) (drop start parts)))
    → put ++ all_changed new left (by_line (lent (drop start parts))) ≡ total
    → now ++ all_changed new behind (by_line (lent (drop (start + 1 + count) parts))) ≡ total
put_next new change left behind parts start count d put now total h line next now_is is =
    let mine = lent (take (suc count) (drop start parts)) in
    let more = by_line (lent (drop (start + 1 + count) parts)) in
    ap (λ (xs : List (List ℕ)). xs ++ all_changed new behind more) (now_is ∙ ap (λ (n : ℕ). put ++ changed new change (lent (take n (drop start parts)))) (size start count))
    ∙ (append_assoc put (changed new change mine) (all_changed new behind more)
    ∙ (ap (λ (xs : List (List ℕ)). put ++ xs) (sym (ap (all_changed new left) (line_at parts start count d h line) ∙ next mine more)) ∙ is))

lines_none : by_line [] ≡ []
unfolding by_line
lines_none = refl

no_lines : (new : List ℕ) (all : List Change) → all_changed new all [] ≡ []
unfolding all_changed
no_lines new all = refl

pub all_put : (new : List ℕ) (all : List Change) (parts : List (Bor (List ℕ))) (start : ℕ) (put total : List (List ℕ)) → length parts ≤ start
    → put ++ all_changed new all (by_line (lent (drop start parts))) ≡ total → put ≡ total
all_put new all parts start put total h is =
    sym (append-nil put) ∙ (ap (λ (xs : List (List ℕ)). put ++ xs) (sym (ap (λ (xs : List (List ℕ)). all_changed new all (by_line xs)) (none_lent parts start h) ∙ (ap (all_changed new all) lines_none ∙ no_lines new all))) ∙ is)

-- texts joined by line feeds
joined_behind : (part : Bor (List ℕ)) (more : List (Bor (List ℕ))) → part.now ++ flat_map (λ (x : Bor (List ℕ)). 10 ∷ x.now) more ≡ join_with_byte 10 (lent (part ∷ more))
joined_behind part [] = append-nil part.now
joined_behind part (next ∷ more) = ap (λ (xs : List ℕ). part.now ++ (10 ∷ xs)) (joined_behind next more)

pub joined_lent : (parts : List (Bor (List ℕ))) → join_by (λ (x : Bor (List ℕ)). x.now) (10 ∷ []) parts ≡ join_with_byte 10 (lent parts)
joined_lent [] = refl
joined_lent (part ∷ more) = joined_behind part more

-- the parts from a place to their end
pub line_behind : (parts : List (Bor (List ℕ))) (start count : ℕ)
    → ((part : List ℕ) → by_line (part ∷ lent (take (length parts - start) (drop start parts))) ≡ (part ∷ take count (lent (take (length parts - start) (drop start parts)))) ∷ by_line (drop count (lent (take (length parts - start) (drop start parts)))))
    → (part : List ℕ) → by_line (part ∷ lent (drop start parts)) ≡ (part ∷ take count (lent (drop start parts))) ∷ by_line (drop count (lent (drop start parts)))
line_behind parts start count h part =
    subst (λ (rest : List (Bor (List ℕ))). by_line (part ∷ lent rest) ≡ (part ∷ take count (lent rest)) ∷ by_line (drop count (lent rest))) (take_rest parts start) (h part)

pub no_mark : (mark text : List ℕ) → (length mark == 0) ≡ true → text ≡ mark ++ text
no_mark [] text h = refl
no_mark (b ∷ bs) text h = absurd (none (length bs) h)
  where
    none : (n : ℕ) → (suc n == 0) ≡ true → ⊥
    none n h = grind (arith, nat_tests, h)
