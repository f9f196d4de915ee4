-- Parts: the lines of a text whose lines were changed.
use Rattle.std.proofs.Common.{◌≡◌, ℕ, suc, ◌==◌, ◌-◌, Bool, true, false, cond, List, [], ◌∷◌, ◌++◌, map, length, take, drop, slice_index, nat_eq, refl, sym, ◌∙◌, ap, append-nil, arith, eqb-true, subst}
use Rattle.std.specs.List.{slice_split, join_with_byte, onto_first, starts_with, All}
use Rattle.std.specs.Str.Lines.{lines_of_parts, strip_carriage_return, lines}
use Rattle.std.proofs.lemmas.List.{length-map, length-append}
use Rattle.std.proofs.Math.Seq.{get_or-append_seam, take-append_seam}
use Rattle.std.proofs.lemmas.Bool.Decides.{nat_tests}
use Rattle.std.proofs.lemmas.List.Splits.{slice_split_at, slice_split_none, join_with_byte-slice_split}
use Rattle.std.proofs.lemmas.List.Elements.{All-nil, All-cons, All-head, All-tail, All-append}
use Rattle.item_text.specs.Lines.{Line, trimmed, is_blank, continues, continuation, lines_from, unfolded, without_mark, physical_lines, logical_lines}
use Rattle.item_text.specs.Components.{Place, Before, placed, placed_from, next_place, kind_of}
use Rattle.item_text.specs.declared.edit.Change.{Change}
use Rattle.item_text.specs.declared.edit.Change.TheVariants.{Stays, Replaced, Followed}
use Rattle.item_text.specs.declared.edit.Role.{Role}
use Rattle.item_text.specs.declared.edit.Role.TheVariants.{Opener, Giver, Other}
use Rattle.item_text.specs.Edits.{role_of, gives_uid, changes, by_line, changed, all_changed, changes_of, uid_line, mark_of_text, parts_of, with_uid}
use Rattle.item_text.proofs.Changes.{texts_of, alone, EndsStays, BeginsKept}

-- the text of a logical line
abbrev text_of : Line → List ℕ
text_of line = line.text

-- whether the first of these physical lines continues another
abbrev pub goes_on : List (List ℕ) → Bool
goes_on [] = false
goes_on (line ∷ rest) = continues line

-- a physical line before the texts of the lines behind it, the first of which continues it
abbrev pub onto_text : List ℕ → List (List ℕ) → List (List ℕ)
onto_text line [] = line ∷ []
onto_text line (text ∷ texts) = (line ++ drop 1 text) ∷ texts

numbered_by : (b : Bool) (n m : ℕ) (text : List ℕ) (xs ys : List Line) → map text_of xs ≡ map text_of ys
    → map text_of (cond b xs (record { number = n; text = text } ∷ xs)) ≡ map text_of (cond b ys (record { number = m; text = text } ∷ ys))
numbered_by true n m text xs ys h = h
numbered_by false n m text xs ys h = ap (λ (ts : List (List ℕ)). text ∷ ts) h

-- the numbers don't change the texts
numbered : (n m : ℕ) (rest : List (List ℕ)) → map text_of (lines_from n rest) ≡ map text_of (lines_from m rest)
unfolding lines_from
numbered n m [] = refl
numbered n m (line ∷ rest) = numbered_by (continues line) n m (line ++ continuation rest) (lines_from (suc n) rest) (lines_from (suc m) rest) (numbered (suc n) (suc m) rest)

begin_by : (b : Bool) (x y more : List ℕ) (ls : List Line) (ts : List (List ℕ)) → b ≡ false → map text_of ls ≡ ts
    → (x ++ cond b (drop 1 y ++ more) []) ∷ map text_of (cond b ls (record { number = 2; text = y ++ more } ∷ ls)) ≡ x ∷ (y ++ more) ∷ ts
begin_by true x y more ls ts h k = cc
begin_by false x y more ls ts h k = ap (λ (t : List ℕ). t ∷ (y ++ more) ∷ map text_of ls) (append-nil x) ∙ ap (λ (us : List (List ℕ)). x ∷ (y ++ more) ∷ us) k

-- a line before lines that don't continue it
pub texts_begin : (line : List ℕ) (rest : List (List ℕ)) → goes_on rest ≡ false → texts_of (line ∷ rest) ≡ line ∷ texts_of rest
unfolding texts_of unfolded lines_from continuation
texts_begin line [] h = ap (λ (t : List ℕ). t ∷ []) (append-nil line)
texts_begin line (next ∷ rest) h = begin_by (continues next) line next (continuation rest) (lines_from 3 rest) (map text_of (lines_from 2 rest)) h (numbered 3 2 rest)

continue_by : (b : Bool) (x y more all : List ℕ) (ls : List Line) (ts : List (List ℕ)) → b ≡ true → map text_of ls ≡ ts
    → (x ++ cond b (y ++ more) []) ∷ map text_of (cond b ls (record { number = 2; text = all } ∷ ls)) ≡ (x ++ (y ++ more)) ∷ ts
continue_by true x y more all ls ts h k = ap (λ (us : List (List ℕ)). (x ++ (y ++ more)) ∷ us) k
continue_by false x y more all ls ts h k = cc

-- a line before lines of which the first continues it
pub texts_continue : (line : List ℕ) (rest : List (List ℕ)) → goes_on rest ≡ true → texts_of (line ∷ rest) ≡ onto_text line (texts_of rest)
unfolding texts_of unfolded lines_from continuation continues
texts_continue line [] h = cc
texts_continue line ([] ∷ rest) h = cc
texts_continue line ((b ∷ bs) ∷ rest) h =
    continue_by (is_blank b) line bs (continuation rest) (b ∷ bs ++ continuation rest) (lines_from 3 rest) (map text_of (lines_from 2 rest)) h (numbered 3 2 rest)

return_no_blank : (b : ℕ) → (b == 13) ≡ true → false ≡ is_blank b
return_no_blank b h = sym (ap is_blank (eqb-true b 13 h))

-- a carriage return at the end says nothing of the front
stripped_by : (b : Bool) (line : List ℕ) → (slice_index line (length line - 1) == 13) ≡ b → continues (cond b (take (length line - 1) line) line) ≡ continues line
unfolding continues
stripped_by false line h = refl
stripped_by true [] h = refl
stripped_by true (b ∷ []) h = return_no_blank b h
stripped_by true (b ∷ c ∷ bs) h = ap (λ (n : ℕ). continues (take n (b ∷ c ∷ bs))) (below (length bs))
  where
    below : (n : ℕ) → suc (suc n) - 1 ≡ suc n
    below n = omega arith

continues_stripped : (line : List ℕ) → continues (strip_carriage_return line) ≡ continues line
continues_stripped line = stripped_by (slice_index line (length line - 1) == 13) line refl

strip_at : (line out : List ℕ) (n : ℕ) → length line - 1 ≡ n → slice_index line n ≡ 13 → take n line ≡ out → strip_carriage_return line ≡ out
strip_at line out n e k h =
    ap (λ (m : ℕ). cond (slice_index line m == 13) (take m line) line) e ∙ (ap (λ (c : ℕ). cond (c == 13) (take n line) line) k ∙ h)

-- the new line, as the text has it, without its carriage return
new_stripped : (new : List ℕ) → strip_carriage_return (new ++ (13 ∷ [])) ≡ new
new_stripped new = strip_at (new ++ (13 ∷ [])) new (length new) (omega (arith, length-append new (13 ∷ []))) (get_or-append_seam new 13 [] 0) (take-append_seam new (13 ∷ []))

new_begins : (new : List ℕ) → continues new ≡ false → continues (new ++ (13 ∷ [])) ≡ false
unfolding continues
new_begins [] h = refl
new_begins (b ∷ bs) h = h

some_length : (n : ℕ) → (suc n == 0) ≡ false
some_length n = grind (arith, nat_tests)

-- the first physical line continues another where the first part does
pub goes_on_part : (part : List ℕ) (rest : List (List ℕ)) → goes_on (lines_of_parts (part ∷ rest)) ≡ continues part
unfolding continues
goes_on_part [] [] = refl
goes_on_part (b ∷ bs) [] = ap (λ (t : Bool). goes_on (cond t [] ((b ∷ bs) ∷ []))) (some_length (length bs))
goes_on_part part (next ∷ rest) = continues_stripped part

-- groups, of which the first begins with this part
begun_by : (b : Bool) (part : List ℕ) (groups : List (List (List ℕ)))
    → (group : List (List ℕ)) × (others : List (List (List ℕ))) × (cond b (onto_first part groups) ((part ∷ []) ∷ groups) ≡ (part ∷ group) ∷ others)
begun_by true part [] = ([], [], refl)
begun_by true part (group ∷ others) = (group, others, refl)
begun_by false part groups = ([], groups, refl)

pub by_line_begun : (part : List ℕ) (rest : List (List ℕ)) → (group : List (List ℕ)) × (others : List (List (List ℕ))) × (by_line (part ∷ rest) ≡ (part ∷ group) ∷ others)
unfolding by_line
by_line_begun part [] = ([], [], refl)
by_line_begun part (next ∷ rest) = begun_by (continues next) part (by_line (next ∷ rest))

-- the changed parts have a first, which continues no line if the first part and the new line don't
changed_begun : (new : List ℕ) (all : List Change) (part : List ℕ) (group : List (List ℕ)) (others : List (List (List ℕ)))
    → (first : List ℕ) × (rest : List (List ℕ)) × (all_changed new all ((part ∷ group) ∷ others) ≡ first ∷ rest) × (continues part ≡ false → continues new ≡ false → continues first ≡ false)
unfolding all_changed changed
changed_begun new [] part group others = (part, _, refl, λ h k. h)
changed_begun new (Stays ∷ more) part group others = (part, _, refl, λ h k. h)
changed_begun new (Replaced ∷ more) part group others = (new, _, refl, λ h k. k)
changed_begun new (Followed ∷ more) part group others = (part, _, refl, λ h k. h)

put_before : (line : List ℕ) (rest texts : List (List ℕ)) → goes_on rest ≡ false → texts_of rest ≡ texts → texts_of (line ∷ rest) ≡ line ∷ texts
put_before line rest texts h e = texts_begin line rest h ∙ ap (λ (ts : List (List ℕ)). line ∷ ts) e

-- a part that is a logical line of its own, before changed parts
separate : (change : Change) (part first new : List ℕ) (rest texts : List (List ℕ)) → continues first ≡ false → continues new ≡ false → texts_of (lines_of_parts (first ∷ rest)) ≡ texts
    → texts_of (lines_of_parts (changed (new ++ (13 ∷ [])) change (part ∷ []) ++ (first ∷ rest))) ≡ changed new change (alone (strip_carriage_return part)) ++ texts
unfolding changed
separate Stays part first new rest texts h k e = put_before (strip_carriage_return part) (lines_of_parts (first ∷ rest)) texts (goes_on_part first rest ∙ h) e
separate Replaced part first new rest texts h k e =
    ap (λ (t : List ℕ). texts_of (t ∷ lines_of_parts (first ∷ rest))) (new_stripped new) ∙ put_before new (lines_of_parts (first ∷ rest)) texts (goes_on_part first rest ∙ h) e
separate Followed part first new rest texts h k e =
    ap (λ (t : List ℕ). texts_of (strip_carriage_return part ∷ t ∷ lines_of_parts (first ∷ rest))) (new_stripped new)
    ∙ put_before (strip_carriage_return part) (new ∷ lines_of_parts (first ∷ rest)) (new ∷ texts) k (put_before new (lines_of_parts (first ∷ rest)) texts (goes_on_part first rest ∙ h) e)

-- a part that the next one continues, before changed parts
continued : (change : Change) (part next text new : List ℕ) (group rest texts : List (List ℕ)) → continues next ≡ true
    → texts_of (lines_of_parts (changed (new ++ (13 ∷ [])) change (next ∷ group) ++ rest)) ≡ changed new change (alone text) ++ texts
    → texts_of (lines_of_parts (changed (new ++ (13 ∷ [])) change (part ∷ next ∷ group) ++ rest)) ≡ changed new change (alone (strip_carriage_return part ++ drop 1 text)) ++ texts
unfolding changed
continued Stays part next text new group rest texts h e =
    texts_continue (strip_carriage_return part) (lines_of_parts (next ∷ (group ++ rest))) (goes_on_part next (group ++ rest) ∙ h) ∙ ap (onto_text (strip_carriage_return part)) e
continued Replaced part next text new group rest texts h e = e
continued Followed part next text new group rest texts h e =
    texts_continue (strip_carriage_return part) (lines_of_parts (next ∷ ((group ++ ((new ++ (13 ∷ [])) ∷ [])) ++ rest))) (goes_on_part next ((group ++ ((new ++ (13 ∷ [])) ∷ [])) ++ rest) ∙ h)
    ∙ ap (onto_text (strip_carriage_return part)) e

-- what is proved of the changes of these parts
abbrev Kept : List ℕ → List Change → List (List (List ℕ)) → List (List ℕ) → Type 0
Kept new all groups texts = texts_of (lines_of_parts (all_changed (new ++ (13 ∷ [])) all groups)) ≡ all_changed new all (map alone texts)

separate_all : (change : Change) (more : List Change) (part next new : List ℕ) (group : List (List ℕ)) (others : List (List (List ℕ))) (texts : List (List ℕ)) → continues next ≡ false → continues new ≡ false
    → Kept new more ((next ∷ group) ∷ others) texts → Kept new (change ∷ more) ((part ∷ []) ∷ (next ∷ group) ∷ others) (strip_carriage_return part ∷ texts)
unfolding all_changed
separate_all change more part next new group others texts h k e =
    let begun = changed_begun (new ++ (13 ∷ [])) more next group others in
    ap (λ (ps : List (List ℕ)). texts_of (lines_of_parts (changed (new ++ (13 ∷ [])) change (part ∷ []) ++ ps))) begun.2
    ∙ separate change part begun.0 new begun.1 (all_changed new more (map alone texts)) (begun.3 h (new_begins new k)) k
    (sym (ap (λ (ps : List (List ℕ)). texts_of (lines_of_parts ps)) begun.2) ∙ e)

some_text : (physical : List (List ℕ)) → goes_on physical ≡ true → (text : List ℕ) × (texts : List (List ℕ)) × (texts_of physical ≡ text ∷ texts)
unfolding texts_of unfolded
some_text [] h = cc
some_text (line ∷ rest) h = (_, _, refl)

ends_behind : (change : Change) (more : List Change) → EndsStays (change ∷ more) → EndsStays more
unfolding EndsStays
ends_behind change [] h = tt
ends_behind change (next ∷ more) h = h

no_fewer : (n : ℕ) → 0 ≡ suc n → ⊥
no_fewer n h = omega arith

one_less : (n m : ℕ) → suc n ≡ suc m → n ≡ m
one_less n m h = omega arith

-- the parts before which one more stands
module _ (new part next : List ℕ) (rest : List (List ℕ)) (begins : continues new ≡ false)
    (behind : (more : List Change) → length more ≡ length (texts_of (lines_of_parts (next ∷ rest))) → EndsStays more → Kept new more (by_line (next ∷ rest)) (texts_of (lines_of_parts (next ∷ rest)))) where
  more_separate : (all : List Change) → continues next ≡ false → length all ≡ length (strip_carriage_return part ∷ texts_of (lines_of_parts (next ∷ rest))) → EndsStays all
      → Kept new all ((part ∷ []) ∷ by_line (next ∷ rest)) (strip_carriage_return part ∷ texts_of (lines_of_parts (next ∷ rest)))
  more_separate [] h same ends = absurd (no_fewer _ same)
  more_separate (change ∷ more) h same ends =
      let begun = by_line_begun next rest in
      ap (λ (gs : List (List (List ℕ))). texts_of (lines_of_parts (all_changed (new ++ (13 ∷ [])) (change ∷ more) ((part ∷ []) ∷ gs)))) begun.2
      ∙ separate_all change more part next new begun.0 begun.1 (texts_of (lines_of_parts (next ∷ rest))) h begins
      (sym (ap (λ (gs : List (List (List ℕ))). texts_of (lines_of_parts (all_changed (new ++ (13 ∷ [])) more gs))) begun.2) ∙ behind more (one_less _ _ same) (ends_behind change more ends))

  more_continued : (all : List Change) (text : List ℕ) (texts : List (List ℕ)) → continues next ≡ true → texts_of (lines_of_parts (next ∷ rest)) ≡ text ∷ texts
      → length all ≡ length ((strip_carriage_return part ++ drop 1 text) ∷ texts) → EndsStays all
      → Kept new all (onto_first part (by_line (next ∷ rest))) ((strip_carriage_return part ++ drop 1 text) ∷ texts)
  unfolding all_changed
  more_continued [] text texts h e same ends = absurd (no_fewer _ same)
  more_continued (change ∷ more) text texts h e same ends =
      let begun = by_line_begun next rest in
      ap (λ (gs : List (List (List ℕ))). texts_of (lines_of_parts (all_changed (new ++ (13 ∷ [])) (change ∷ more) (onto_first part gs)))) begun.2
      ∙ continued change part next text new begun.0 (all_changed (new ++ (13 ∷ [])) more begun.1) (all_changed new more (map alone texts)) h
      (sym (ap (λ (gs : List (List (List ℕ))). texts_of (lines_of_parts (all_changed (new ++ (13 ∷ [])) (change ∷ more) gs))) begun.2)
      ∙ (behind (change ∷ more) (same ∙ sym (ap length e)) ends ∙ ap (λ (ts : List (List ℕ)). all_changed new (change ∷ more) (map alone ts)) e))

  more_by : (b : Bool) (all : List Change) → continues next ≡ b → length all ≡ length (texts_of (lines_of_parts (part ∷ next ∷ rest))) → EndsStays all
      → Kept new all (cond b (onto_first part (by_line (next ∷ rest))) ((part ∷ []) ∷ by_line (next ∷ rest))) (texts_of (lines_of_parts (part ∷ next ∷ rest)))
  more_by false all h same ends =
      let e = texts_begin (strip_carriage_return part) (lines_of_parts (next ∷ rest)) (goes_on_part next rest ∙ h) in
      more_separate all h (same ∙ ap length e) ends ∙ sym (ap (λ (ts : List (List ℕ)). all_changed new all (map alone ts)) e)
  more_by true all h same ends =
      let goes = goes_on_part next rest ∙ h in
      let some = some_text (lines_of_parts (next ∷ rest)) goes in
      let e = texts_continue (strip_carriage_return part) (lines_of_parts (next ∷ rest)) goes ∙ ap (onto_text (strip_carriage_return part)) some.2 in
      more_continued all some.0 some.1 h some.2 (same ∙ ap length e) ends ∙ sym (ap (λ (ts : List (List ℕ)). all_changed new all (map alone ts)) e)

no_parts : (new : List ℕ) (all : List Change) → Kept new all [] (texts_of (lines_of_parts []))
unfolding all_changed texts_of unfolded
no_parts new [] = refl
no_parts new (change ∷ more) = refl

no_two : (n : ℕ) → suc (suc n) ≡ 1 → ⊥
no_two n h = omega arith

last_by : (empty : Bool) (new : List ℕ) (all : List Change) (part : List ℕ) → (length part == 0) ≡ empty → length all ≡ length (texts_of (cond empty [] (part ∷ []))) → EndsStays all
    → Kept new all ((part ∷ []) ∷ []) (texts_of (cond empty [] (part ∷ [])))
unfolding texts_of unfolded continuation lines_from EndsStays all_changed changed
last_by true new [] part e same ends = ap (λ (t : Bool). texts_of (cond t [] (part ∷ []))) e
last_by true new (change ∷ more) part e same ends = absurd (no_fewer _ (sym same))
last_by false new [] part e same ends = absurd (no_fewer _ same)
last_by false new (Stays ∷ []) part e same ends = ap (λ (t : Bool). texts_of (cond t [] (part ∷ []))) e
last_by false new (Replaced ∷ []) part e same ends = cc
last_by false new (Followed ∷ []) part e same ends = cc
last_by false new (change ∷ next ∷ more) part e same ends = absurd (no_two _ same)

-- the last part stays where it is
last_part : (new : List ℕ) (all : List Change) (part : List ℕ) → length all ≡ length (texts_of (lines_of_parts (part ∷ []))) → EndsStays all
    → Kept new all ((part ∷ []) ∷ []) (texts_of (lines_of_parts (part ∷ [])))
last_part new all part same ends = last_by (length part == 0) new all part refl same ends

-- the changes of the parts are the changes of the logical lines
pub lines_changed : (new : List ℕ) (all : List Change) (parts : List (List ℕ)) → continues new ≡ false → length all ≡ length (texts_of (lines_of_parts parts)) → EndsStays all
    → texts_of (lines_of_parts (all_changed (new ++ (13 ∷ [])) all (by_line parts))) ≡ all_changed new all (map alone (texts_of (lines_of_parts parts)))
unfolding by_line
lines_changed new all [] begins same ends = no_parts new all
lines_changed new all (part ∷ []) begins same ends = last_part new all part same ends
lines_changed new all (part ∷ next ∷ rest) begins same ends =
    more_by new part next rest begins (λ more same' ends'. lines_changed new more (next ∷ rest) begins same' ends') (continues next) all refl same ends

-- a part without a line feed
abbrev NoLineFeed : List ℕ → Type 0
NoLineFeed part = All (λ b. (b == 10) ≡ false) part

-- parts without line feeds, joined and cut again
split_joined : (part : List ℕ) (rest : List (List ℕ)) → All NoLineFeed (part ∷ rest) → slice_split (λ b. b == 10) (join_with_byte 10 (part ∷ rest)) ≡ part ∷ rest
split_joined part [] plain = slice_split_none (λ b. b == 10) part (All-head NoLineFeed part [] plain)
split_joined part (next ∷ rest) plain =
    slice_split_at (λ b. b == 10) part 10 (join_with_byte 10 (next ∷ rest)) (All-head NoLineFeed part (next ∷ rest) plain) refl
    ∙ ap (λ (ps : List (List ℕ)). part ∷ ps) (split_joined next rest (All-tail NoLineFeed part (next ∷ rest) plain))

split_no_feed_by : (t : Bool) (b : ℕ) (parts : List (List ℕ)) → (b == 10) ≡ t → All NoLineFeed parts → All NoLineFeed (cond t ([] ∷ parts) (onto_first b parts))
split_no_feed_by true b parts e plain = All-cons NoLineFeed [] parts (All-nil (λ b. (b == 10) ≡ false)) plain
split_no_feed_by false b [] e plain = All-cons NoLineFeed (b ∷ []) [] (All-cons (λ b. (b == 10) ≡ false) b [] e (All-nil (λ b. (b == 10) ≡ false))) (All-nil NoLineFeed)
split_no_feed_by false b (part ∷ rest) e plain =
    All-cons NoLineFeed (b ∷ part) rest (All-cons (λ b. (b == 10) ≡ false) b part e (All-head NoLineFeed part rest plain)) (All-tail NoLineFeed part rest plain)

split_no_feed : (text : List ℕ) → All NoLineFeed (slice_split (λ b. b == 10) text)
split_no_feed [] = All-cons NoLineFeed [] [] (All-nil (λ b. (b == 10) ≡ false)) (All-nil NoLineFeed)
split_no_feed (b ∷ bs) = split_no_feed_by (b == 10) b (slice_split (λ b. b == 10) bs) refl (split_no_feed bs)

lines_no_feed_by : (b : Bool) (part : List ℕ) (groups : List (List (List ℕ))) → NoLineFeed part → All (All NoLineFeed) groups → All (All NoLineFeed) (cond b (onto_first part groups) ((part ∷ []) ∷ groups))
lines_no_feed_by true part [] p plain = All-cons (All NoLineFeed) (part ∷ []) [] (All-cons NoLineFeed part [] p (All-nil NoLineFeed)) (All-nil (All NoLineFeed))
lines_no_feed_by true part (group ∷ others) p plain =
    All-cons (All NoLineFeed) (part ∷ group) others (All-cons NoLineFeed part group p (All-head (All NoLineFeed) group others plain)) (All-tail (All NoLineFeed) group others plain)
lines_no_feed_by false part groups p plain = All-cons (All NoLineFeed) (part ∷ []) groups (All-cons NoLineFeed part [] p (All-nil NoLineFeed)) plain

lines_no_feed : (parts : List (List ℕ)) → All NoLineFeed parts → All (All NoLineFeed) (by_line parts)
unfolding by_line
lines_no_feed [] plain = All-nil (All NoLineFeed)
lines_no_feed (part ∷ []) plain = All-cons (All NoLineFeed) (part ∷ []) [] plain (All-nil (All NoLineFeed))
lines_no_feed (part ∷ next ∷ rest) plain =
    lines_no_feed_by (continues next) part (by_line (next ∷ rest)) (All-head NoLineFeed part (next ∷ rest) plain) (lines_no_feed (next ∷ rest) (All-tail NoLineFeed part (next ∷ rest) plain))

changed_no_feed : (new : List ℕ) (change : Change) (parts : List (List ℕ)) → NoLineFeed new → All NoLineFeed parts → All NoLineFeed (changed new change parts)
unfolding changed
changed_no_feed new Stays parts n plain = plain
changed_no_feed new Replaced parts n plain = All-cons NoLineFeed new [] n (All-nil NoLineFeed)
changed_no_feed new Followed parts n plain = All-append NoLineFeed parts (new ∷ []) plain (All-cons NoLineFeed new [] n (All-nil NoLineFeed))

all_changed_no_feed : (new : List ℕ) (all : List Change) (groups : List (List (List ℕ))) → NoLineFeed new → All (All NoLineFeed) groups → All NoLineFeed (all_changed new all groups)
unfolding all_changed
all_changed_no_feed new all [] n plain = All-nil NoLineFeed
all_changed_no_feed new [] (group ∷ others) n plain =
    All-append NoLineFeed group (all_changed new [] others) (All-head (All NoLineFeed) group others plain) (all_changed_no_feed new [] others n (All-tail (All NoLineFeed) group others plain))
all_changed_no_feed new (change ∷ more) (group ∷ others) n plain =
    All-append NoLineFeed (changed new change group) (all_changed new more others) (changed_no_feed new change group n (All-head (All NoLineFeed) group others plain))
    (all_changed_no_feed new more others n (All-tail (All NoLineFeed) group others plain))

some_part_by : (t : Bool) (b : ℕ) (parts : List (List ℕ)) → (part : List ℕ) × (rest : List (List ℕ)) × (cond t ([] ∷ parts) (onto_first b parts) ≡ part ∷ rest)
some_part_by true b parts = ([], parts, refl)
some_part_by false b [] = (b ∷ [], [], refl)
some_part_by false b (part ∷ rest) = (b ∷ part, rest, refl)

-- what is cut has a first part
pub some_part : (text : List ℕ) → (part : List ℕ) × (rest : List (List ℕ)) × (slice_split (λ b. b == 10) text ≡ part ∷ rest)
some_part [] = ([], [], refl)
some_part (b ∷ bs) = some_part_by (b == 10) b (slice_split (λ b. b == 10) bs)

-- the same of any parts that have a first
again_as : (parts : List (List ℕ)) (first : List ℕ) (rest : List (List ℕ)) → parts ≡ first ∷ rest → All NoLineFeed parts → slice_split (λ b. b == 10) (join_with_byte 10 parts) ≡ parts
again_as parts first rest e plain =
    ap (λ (ps : List (List ℕ)). slice_split (λ b. b == 10) (join_with_byte 10 ps)) e ∙ (split_joined first rest (subst (All NoLineFeed) e plain) ∙ sym e)

-- the changed parts, joined and cut again
pub parts_again : (text new : List ℕ) (all : List Change) → All (λ b. (b == 10) ≡ false) new
    → slice_split (λ b. b == 10) (join_with_byte 10 (all_changed new all (by_line (slice_split (λ b. b == 10) text)))) ≡ all_changed new all (by_line (slice_split (λ b. b == 10) text))
parts_again text new all plain =
    let cut = some_part text in
    let begun = by_line_begun cut.0 cut.1 in
    let first = changed_begun new all cut.0 begun.0 begun.1 in
    again_as (all_changed new all (by_line (slice_split (λ b. b == 10) text))) first.0 first.1
    (ap (λ (ps : List (List ℕ)). all_changed new all (by_line ps)) cut.2 ∙ (ap (all_changed new all) begun.2 ∙ first.2))
    (all_changed_no_feed new all (by_line (slice_split (λ b. b == 10) text)) plain (lines_no_feed (slice_split (λ b. b == 10) text) (split_no_feed text)))

abbrev mark : List ℕ
mark = 239 ∷ 187 ∷ 191 ∷ []

-- what the parts behind the first add to the text
abbrev pub behind_first : List (List ℕ) → List ℕ
behind_first [] = []
behind_first (part ∷ rest) = 10 ∷ join_with_byte 10 (part ∷ rest)

pub joined_first : (part : List ℕ) (rest : List (List ℕ)) → join_with_byte 10 (part ∷ rest) ≡ part ++ behind_first rest
joined_first part [] = sym (append-nil part)
joined_first part (next ∷ rest) = refl

-- the mark stands in the first part, or not at the front
mark_in_first : (part : List ℕ) (rest : List (List ℕ)) → starts_with nat_eq (part ++ behind_first rest) mark ≡ starts_with nat_eq part mark
mark_in_first [] [] = refl
mark_in_first [] (next ∷ rest) = refl
mark_in_first (a ∷ []) [] = refl
mark_in_first (a ∷ []) (next ∷ rest) = refl
mark_in_first (a ∷ b ∷ []) [] = refl
mark_in_first (a ∷ b ∷ []) (next ∷ rest) = refl
mark_in_first (a ∷ b ∷ c ∷ more) rest = refl

mark_joined : (part : List ℕ) (rest : List (List ℕ)) → starts_with nat_eq (join_with_byte 10 (part ∷ rest)) mark ≡ starts_with nat_eq part mark
mark_joined part rest = ap (λ (bs : List ℕ). starts_with nat_eq bs mark) (joined_first part rest) ∙ mark_in_first part rest

-- the first part stays the first
first_kept : (new : List ℕ) (all : List Change) (part : List ℕ) (group : List (List ℕ)) (others : List (List (List ℕ))) → BeginsKept all
    → (rest : List (List ℕ)) × (all_changed new all ((part ∷ group) ∷ others) ≡ part ∷ rest)
unfolding all_changed changed BeginsKept
first_kept new [] part group others kept = (_, refl)
first_kept new (Stays ∷ more) part group others kept = (_, refl)
first_kept new (Replaced ∷ more) part group others kept = absurd kept
first_kept new (Followed ∷ more) part group others kept = (_, refl)

mark_by : (b : Bool) (text : List ℕ) → (b ≡ false → starts_with nat_eq text mark ≡ false) → without_mark (cond b mark [] ++ text) ≡ text
unfolding without_mark
mark_by true text h = refl
mark_by false text h = ap (λ (t : Bool). cond t (drop 3 text) text) (h refl)

-- no mark comes to the front
no_mark : (text new : List ℕ) (all : List Change) → BeginsKept all → starts_with nat_eq text mark ≡ false
    → starts_with nat_eq (join_with_byte 10 (all_changed new all (by_line (parts_of text)))) mark ≡ false
unfolding parts_of without_mark
no_mark text new all kept h =
    let cut = some_part text in
    let begun = by_line_begun cut.0 cut.1 in
    let first = first_kept new all cut.0 begun.0 begun.1 kept in
    ap (λ (t : Bool). starts_with nat_eq (join_with_byte 10 (all_changed new all (by_line (slice_split (λ b. b == 10) (cond t (drop 3 text) text))))) mark) h
    ∙ (ap (λ (ps : List (List ℕ)). starts_with nat_eq (join_with_byte 10 ps) mark)
    (ap (λ (ps : List (List ℕ)). all_changed new all (by_line ps)) cut.2 ∙ (ap (all_changed new all) begun.2 ∙ first.1))
    ∙ (mark_joined cut.0 first.0
    ∙ (sym (mark_joined cut.0 cut.1)
    ∙ (ap (λ (ps : List (List ℕ)). starts_with nat_eq (join_with_byte 10 ps) mark) (sym cut.2)
    ∙ (ap (λ (bs : List ℕ). starts_with nat_eq bs mark) (join_with_byte-slice_split 10 text) ∙ h)))))

-- the mark at the front stays the mark at the front
pub mark_again : (text new : List ℕ) (all : List Change) → BeginsKept all
    → without_mark (mark_of_text text ++ join_with_byte 10 (all_changed new all (by_line (parts_of text)))) ≡ join_with_byte 10 (all_changed new all (by_line (parts_of text)))
unfolding mark_of_text
mark_again text new all begins = mark_by (starts_with nat_eq text mark) (join_with_byte 10 (all_changed new all (by_line (parts_of text)))) (no_mark text new all begins)

as_many_changes : (seeking : Bool) (roles : List Role) → length (changes seeking roles) ≡ length roles
unfolding changes
as_many_changes seeking [] = refl
as_many_changes seeking (Opener ∷ rest) = ap suc (as_many_changes (gives_uid rest) rest)
as_many_changes seeking (Giver ∷ rest) = ap suc (as_many_changes false rest)
as_many_changes seeking (Other ∷ rest) = ap suc (as_many_changes seeking rest)

pub as_many_placed : (place : Place) (all : List Line) → length (placed_from place all) ≡ length all
unfolding placed_from
as_many_placed place [] = refl
as_many_placed place (line ∷ rest) = ap suc (as_many_placed (next_place place (kind_of (trimmed line.text))) rest)

-- one change for each line
as_many : (all : List Line) → length (changes_of (placed all)) ≡ length (map text_of all)
unfolding changes_of placed
as_many all =
    as_many_changes false (map role_of (placed_from Before all))
    ∙ (length-map (placed_from Before all) role_of ∙ (as_many_placed Before all ∙ sym (length-map all text_of)))

uid_begins : (uid : List ℕ) → continues (uid_line uid) ≡ false
unfolding continues
uid_begins uid = refl

uid_no_feed : (uid : List ℕ) → NoLineFeed uid → NoLineFeed (uid_line uid ++ (13 ∷ []))
uid_no_feed uid plain =
    let P : ℕ → Type 0 = λ b. (b == 10) ≡ false in
    let line : List ℕ = uid ++ (13 ∷ []) in
    let line_no_feed : NoLineFeed line = All-append P uid (13 ∷ []) plain (All-cons P 13 [] refl (All-nil P)) in
    All-cons P 85 (73 ∷ 68 ∷ 58 ∷ line) refl (All-cons P 73 (68 ∷ 58 ∷ line) refl (All-cons P 68 (58 ∷ line) refl (All-cons P 58 line refl line_no_feed)))

pub lines_of_edited : (text uid : List ℕ) → All (λ b. (b == 10) ≡ false) uid → BeginsKept (changes_of (placed (logical_lines text))) → EndsStays (changes_of (placed (logical_lines text)))
    → map (λ (line : Line). line.text) (logical_lines (with_uid text uid)) ≡ all_changed (uid_line uid) (changes_of (placed (logical_lines text))) (map alone (map (λ (line : Line). line.text) (logical_lines text)))
unfolding logical_lines physical_lines with_uid parts_of texts_of
lines_of_edited text uid plain begins ends =
    let new : List ℕ = uid_line uid ++ (13 ∷ []) in
    let all : List Change = changes_of (placed (logical_lines text)) in
    ap (λ (bs : List ℕ). texts_of (lines bs)) (mark_again text new all begins)
    ∙ (ap (λ (ps : List (List ℕ)). texts_of (lines_of_parts ps)) (parts_again (without_mark text) new all (uid_no_feed uid plain))
    ∙ lines_changed (uid_line uid) all (parts_of text) (uid_begins uid) (as_many (logical_lines text)) ends)
