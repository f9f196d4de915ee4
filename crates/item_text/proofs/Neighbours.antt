-- Neighbours: the changes of a text's lines are those that their neighbours tell.
use Rattle.std.proofs.Common.{◌≡◌, inr, ℕ, suc, ◌≤◌, ◌<◌, ◌==◌, Bool, true, false, cond, not, ◌&&◌, ◌||◌, List, [], ◌∷◌, ◌++◌, map, length, drop, nat_eq, Some, is_some, refl, sym, ◌∙◌, ap, subst, arith, append_assoc}
use Rattle.std.specs.Prelude.{find, flat_map}
use Rattle.std.specs.Option.{option_map, unwrap_or}
use Rattle.std.specs.List.{join_with_byte, onto_first, starts_with}
use Rattle.std.specs.Str.Lines.{lines_of_parts, strip_carriage_return, lines}
use Rattle.std.proofs.lemmas.List.{length-map}
use Rattle.std.proofs.lemmas.List.Splits.{join_with_byte-slice_split}
use Rattle.item_text.specs.Lines.{Line, continues, lines_from, unfolded, without_mark, physical_lines, logical_lines}
use Rattle.item_text.specs.Components.{Placed, Before, placed}
use Rattle.item_text.specs.declared.edit.Change.{Change}
use Rattle.item_text.specs.declared.edit.Change.TheVariants.{Stays, Replaced, Followed}
use Rattle.item_text.specs.declared.edit.Role.{Role}
use Rattle.item_text.specs.declared.edit.Role.TheVariants.{Opener, Giver, Other}
use Rattle.item_text.specs.Edits.{role_of, gives_uid, changes, by_line, changed, all_changed, changes_of, uid_line, mark_of_text, parts_of, with_uid}
use Rattle.item_text.specs.Items.{ItemValue, item_of}
use Rattle.item_text.specs.declared.item.ItemError.{ItemError}
use Rattle.item_text.specs.declared.item.ItemError.TheVariants.{TooLong}
use Rattle.item_text.specs.AnotherUid.{opens, gives, concerns, first_is, becomes, Rewritten, AllBecome, all_old, all_new, HasAnotherUid, IsRefused, IsWithUid}
use Rattle.item_text.proofs.Changes.{texts_of}
use Rattle.item_text.proofs.LineRoles.{other_is, giver_is, opener_is, opener_gives_none}
use Rattle.item_text.proofs.Parts.{goes_on_part, by_line_begun, texts_begin, texts_continue, onto_text, as_many_placed}

-- ---- the roles of lines, as their neighbours see them

first_by : (such : Placed → Bool) (x : Placed) (xs : List Placed) (b : Bool) → concerns x ≡ b → first_is such (x ∷ xs) ≡ cond b (such x) (first_is such xs)
first_by such x xs true h = ap (λ (c : Bool). unwrap_or (option_map such (cond c (Some x) (find concerns xs))) false) h
first_by such x xs false h = ap (λ (c : Bool). unwrap_or (option_map such (cond c (Some x) (find concerns xs))) false) h

-- what the roles of lines say of them
record Seen (x : Placed) (opening giving : Bool) : Type 0 where
  opened : opens x ≡ opening
  given : gives x ≡ giving

seen_other : (x : Placed) → role_of x ≡ Other → Seen x false false
seen_other x h = record { opened = (other_is x h).0; given = ap is_some (other_is x h).1 }

seen_giver : (x : Placed) → role_of x ≡ Giver → Seen x false true
seen_giver x h = record { opened = (giver_is x h).0; given = ap is_some (giver_is x h).1.1 }

seen_opener : (x : Placed) → role_of x ≡ Opener → Seen x true false
seen_opener x h = record { opened = opener_is x h; given = ap is_some (opener_gives_none x h) }

concern_of : {x : Placed} {opening giving : Bool} → Seen x opening giving → concerns x ≡ (opening || giving)
concern_of seen = λ i. seen.opened i || seen.given i

-- a UID comes next where the first line that concerns UIDs gives one
comes_by : (role : Role) (x : Placed) (xs : List Placed) → role_of x ≡ role → gives_uid (map role_of xs) ≡ first_is gives xs → gives_uid (role ∷ map role_of xs) ≡ first_is gives (x ∷ xs)
unfolding gives_uid
comes_by Opener x xs h e = let s = seen_opener x h in sym (first_by gives x xs true (concern_of s) ∙ s.given)
comes_by Giver x xs h e = let s = seen_giver x h in sym (first_by gives x xs true (concern_of s) ∙ s.given)
comes_by Other x xs h e = let s = seen_other x h in e ∙ sym (first_by gives x xs false (concern_of s))

comes_next : (xs : List Placed) → gives_uid (map role_of xs) ≡ first_is gives xs
unfolding gives_uid
comes_next [] = refl
comes_next (x ∷ xs) = comes_by (role_of x) x xs refl (comes_next xs)

-- ---- the changes of lines

-- what is shown of the lines from here on
record Rewrites (new : List ℕ) (seeking : Bool) (before xs : List Placed) (groups : List (List (List ℕ))) : Type 0 where
  lines : List Rewritten
  end : List (List (List ℕ))
  are : map (λ (r : Rewritten). r.line) lines ≡ xs
  parts : map (λ (r : Rewritten). r.old) lines ++ end ≡ groups
  become : AllBecome new before lines
  changed : all_changed new (changes seeking (map role_of xs)) groups ≡ all_new lines end

-- where a UID comes next, it is sought where the nearest line before that concerns UIDs opens a component
abbrev Seeks : Bool → List Placed → List Placed → Type 0
Seeks seeking before xs = (seeking && gives_uid (map role_of xs)) ≡ (first_is opens before && gives_uid (map role_of xs))

no_changes : (new : List ℕ) (groups : List (List (List ℕ))) → all_changed new [] groups ≡ flat_map (λ (parts : List (List ℕ)). parts) groups
unfolding all_changed
no_changes new [] = refl
no_changes new (parts ∷ rest) = ap (λ (ps : List (List ℕ)). parts ++ ps) (no_changes new rest)

no_lines : (new : List ℕ) (seeking : Bool) (before : List Placed) (groups : List (List (List ℕ))) → Rewrites new seeking before [] groups
unfolding changes
no_lines new seeking before groups = record { lines = []; end = groups; are = refl; parts = refl; become = tt; changed = no_changes new groups }

-- one line before others
put : (new : List ℕ) (change : Change) (seeking next : Bool) (before : List Placed) (x : Placed) (xs : List Placed) (group : List (List ℕ)) (groups : List (List (List ℕ)))
    → changes seeking (map role_of (x ∷ xs)) ≡ change ∷ changes next (map role_of xs)
    → changed new change group ≡ becomes new before x xs group
    → Rewrites new next (x ∷ before) xs groups → Rewrites new seeking before (x ∷ xs) (group ∷ groups)
unfolding all_changed
put new change seeking next before x xs group groups e is more =
    let r : Rewritten = record { line = x; old = group; new = changed new change group } in
    record {
      lines = r ∷ more.lines;
      end = more.end;
      are = ap (λ (ls : List Placed). x ∷ ls) more.are;
      parts = ap (λ (gs : List (List (List ℕ))). group ∷ gs) more.parts;
      become = (is ∙ ap (λ (ls : List Placed). becomes new before x ls group) (sym more.are), more.become);
      changed = ap (λ (cs : List Change). all_changed new cs (group ∷ groups)) e
          ∙ (ap (λ (ps : List (List ℕ)). changed new change group ++ ps) more.changed
          ∙ sym (append_assoc (changed new change group) (flat_map (λ (s : Rewritten). s.new) more.lines) (flat_map (λ (parts : List (List ℕ)). parts) more.end)));
    }

-- what becomes of a line, by what its neighbours are
becomes_by : (new : List ℕ) (before : List Placed) (x : Placed) (after : List Placed) (group : List (List ℕ)) (opening giving nearest coming : Bool) → Seen x opening giving → first_is opens before ≡ nearest → first_is gives after ≡ coming
    → becomes new before x after group ≡ cond (giving && nearest) (new ∷ []) (cond (opening && not coming) (group ++ (new ∷ [])) group)
becomes_by new before x after group opening giving nearest coming seen h k =
    λ i. cond (seen.given i && h i) (new ∷ []) (cond (seen.opened i && not (k i)) (group ++ (new ∷ [])) group)

same_sought : (a b : Bool) → (a && true) ≡ (b && true) → a ≡ b
same_sought true true h = refl
same_sought true false h = h
same_sought false true h = h
same_sought false false h = refl

both_true : (b : Bool) → (b && b) ≡ (true && b)
both_true true = refl
both_true false = refl

module _ (new : List ℕ) (before : List Placed) (x : Placed) (xs : List Placed) (group : List (List ℕ)) (groups : List (List (List ℕ)))
    (behind : (next : Bool) → Seeks next (x ∷ before) xs → Rewrites new next (x ∷ before) xs groups) where
  step_other : (seeking : Bool) → role_of x ≡ Other → Seeks seeking before (x ∷ xs) → Rewrites new seeking before (x ∷ xs) (group ∷ groups)
  unfolding changes changed gives_uid
  step_other seeking h sought =
      let s = seen_other x h in
      put new Stays seeking seeking before x xs group groups
      (ap (λ (r : Role). changes seeking (r ∷ map role_of xs)) h)
      (sym (becomes_by new before x xs group false false (first_is opens before) (first_is gives xs) s refl refl))
      (behind seeking
      (ap (λ (r : Role). seeking && gives_uid (r ∷ map role_of xs)) (sym h)
      ∙ (sought
      ∙ (ap (λ (r : Role). first_is opens before && gives_uid (r ∷ map role_of xs)) h
      ∙ ap (λ (b : Bool). b && gives_uid (map role_of xs)) (sym (first_by opens x before false (concern_of s)))))))

  step_giver : (seeking : Bool) → role_of x ≡ Giver → Seeks seeking before (x ∷ xs) → Rewrites new seeking before (x ∷ xs) (group ∷ groups)
  unfolding changes changed gives_uid
  step_giver seeking h sought =
      let s = seen_giver x h in
      let same : seeking ≡ first_is opens before = same_sought seeking (first_is opens before)
      (ap (λ (r : Role). seeking && gives_uid (r ∷ map role_of xs)) (sym h) ∙ (sought ∙ ap (λ (r : Role). first_is opens before && gives_uid (r ∷ map role_of xs)) h)) in
      put new (cond seeking Replaced Stays) seeking false before x xs group groups
      (ap (λ (r : Role). changes seeking (r ∷ map role_of xs)) h)
      (by seeking ∙ sym (becomes_by new before x xs group false true seeking (first_is gives xs) s (sym same) refl))
      (behind false (ap (λ (b : Bool). b && gives_uid (map role_of xs)) (sym (first_by opens x before true (concern_of s) ∙ s.opened))))
    where
      by : (b : Bool) → changed new (cond b Replaced Stays) group ≡ cond b (new ∷ []) group
      by true = refl
      by false = refl

  step_opener : (seeking : Bool) → role_of x ≡ Opener → Rewrites new seeking before (x ∷ xs) (group ∷ groups)
  unfolding changes changed
  step_opener seeking h =
      let s = seen_opener x h in
      let coming = gives_uid (map role_of xs) in
      put new (cond coming Stays Followed) seeking coming before x xs group groups
      (ap (λ (r : Role). changes seeking (r ∷ map role_of xs)) h)
      (by coming ∙ sym (becomes_by new before x xs group true false (first_is opens before) coming s refl (sym (comes_next xs))))
      (behind coming (both_true coming ∙ ap (λ (b : Bool). b && gives_uid (map role_of xs)) (sym (first_by opens x before true (concern_of s) ∙ s.opened))))
    where
      by : (b : Bool) → changed new (cond b Stays Followed) group ≡ cond (not b) (group ++ (new ∷ [])) group
      by true = refl
      by false = refl

  step : (role : Role) (seeking : Bool) → role_of x ≡ role → Seeks seeking before (x ∷ xs) → Rewrites new seeking before (x ∷ xs) (group ∷ groups)
  step Other seeking h sought = step_other seeking h sought
  step Giver seeking h sought = step_giver seeking h sought
  step Opener seeking h sought = step_opener seeking h

not_fewer : (n : ℕ) → suc n ≤ 0 → ⊥
not_fewer n h = omega (arith, h)

one_fewer : (n m : ℕ) → suc n ≤ suc m → n ≤ m
one_fewer n m h = omega (arith, h)

-- all lines
rewrites : (new : List ℕ) (seeking : Bool) (before xs : List Placed) (groups : List (List (List ℕ))) → length xs ≤ length groups → Seeks seeking before xs → Rewrites new seeking before xs groups
rewrites new seeking before [] groups few sought = no_lines new seeking before groups
rewrites new seeking before (x ∷ xs) [] few sought = absurd (not_fewer (length xs) few)
rewrites new seeking before (x ∷ xs) (group ∷ groups) few sought =
    step new before x xs group groups (λ next h. rewrites new next (x ∷ before) xs groups (one_fewer (length xs) (length groups) few) h) (role_of x) seeking refl sought

-- ---- what stands between the line feeds, line by line

onto_all : (part : List ℕ) (groups : List (List (List ℕ))) → flat_map (λ (parts : List (List ℕ)). parts) (onto_first part groups) ≡ part ∷ flat_map (λ (parts : List (List ℕ)). parts) groups
onto_all part [] = refl
onto_all part (group ∷ groups) = refl

together_by : (b : Bool) (part : List ℕ) (groups : List (List (List ℕ))) (rest : List (List ℕ)) → flat_map (λ (parts : List (List ℕ)). parts) groups ≡ rest
    → flat_map (λ (parts : List (List ℕ)). parts) (cond b (onto_first part groups) ((part ∷ []) ∷ groups)) ≡ part ∷ rest
together_by true part groups rest h = onto_all part groups ∙ ap (λ (ps : List (List ℕ)). part ∷ ps) h
together_by false part groups rest h = ap (λ (ps : List (List ℕ)). part ∷ ps) h

-- the lines together are all that stands there
together : (parts : List (List ℕ)) → flat_map (λ (group : List (List ℕ)). group) (by_line parts) ≡ parts
unfolding by_line
together [] = refl
together (part ∷ []) = refl
together (part ∷ next ∷ rest) = together_by (continues next) part (by_line (next ∷ rest)) (next ∷ rest) (together (next ∷ rest))

old_parts : (lines : List Rewritten) (end groups : List (List (List ℕ))) → map (λ (r : Rewritten). r.old) lines ++ end ≡ groups → all_old lines end ≡ flat_map (λ (parts : List (List ℕ)). parts) groups
old_parts [] end groups h = ap (flat_map (λ (parts : List (List ℕ)). parts)) h
old_parts (r ∷ lines) end groups h =
    append_assoc r.old (flat_map (λ (s : Rewritten). s.old) lines) (flat_map (λ (parts : List (List ℕ)). parts) end)
    ∙ (ap (λ (ps : List (List ℕ)). r.old ++ ps) (old_parts lines end (map (λ (s : Rewritten). s.old) lines ++ end) refl)
    ∙ ap (flat_map (λ (parts : List (List ℕ)). parts)) h)

mark_before : (b : Bool) (text : List ℕ) → starts_with nat_eq text (239 ∷ 187 ∷ 191 ∷ []) ≡ b → text ≡ cond b (239 ∷ 187 ∷ 191 ∷ []) [] ++ cond b (drop 3 text) text
mark_before false text h = refl
mark_before true [] h = cc
mark_before true (a ∷ []) h = grind (arith, h)
mark_before true (a ∷ b ∷ []) h = grind (arith, h)
mark_before true (a ∷ b ∷ c ∷ rest) h = grind (arith, h)

-- a text is its mark and what stands between its line feeds
whole_text : (text : List ℕ) → text ≡ mark_of_text text ++ join_with_byte 10 (parts_of text)
unfolding mark_of_text without_mark parts_of
whole_text text =
    mark_before (starts_with nat_eq text (239 ∷ 187 ∷ 191 ∷ [])) text refl
    ∙ ap (λ (bs : List ℕ). mark_of_text text ++ bs) (sym (join_with_byte-slice_split 10 (without_mark text)))

-- ---- no more logical lines than groups

length_onto : (text : List ℕ) (texts : List (List ℕ)) (n : ℕ) → length texts ≤ suc n → length (onto_text text texts) ≤ suc n
length_onto text [] n h = omega arith
length_onto text (t ∷ texts) n h = h

few_by : (b : Bool) (part next : List ℕ) (rest : List (List ℕ)) (groups : List (List (List ℕ))) → continues next ≡ b → (groups ≡ [] → ⊥) → length (texts_of (lines_of_parts (next ∷ rest))) ≤ length groups
    → length (texts_of (lines_of_parts (part ∷ next ∷ rest))) ≤ length (cond b (onto_first part groups) ((part ∷ []) ∷ groups))
few_by b part next rest [] h some few = absurd (some refl)
few_by true part next rest (group ∷ groups) h some few =
    let e = texts_continue (strip_carriage_return part) (lines_of_parts (next ∷ rest)) (goes_on_part next rest ∙ h) in
    subst (λ (n : ℕ). n ≤ suc (length groups)) (sym (ap length e)) (length_onto (strip_carriage_return part) (texts_of (lines_of_parts (next ∷ rest))) (length groups) few)
few_by false part next rest (group ∷ groups) h some few =
    let e = texts_begin (strip_carriage_return part) (lines_of_parts (next ∷ rest)) (goes_on_part next rest ∙ h) in
    subst (λ (n : ℕ). n ≤ suc (suc (length groups))) (sym (ap length e)) (omega (arith, few))

few_last : (empty : Bool) (part : List ℕ) → length (texts_of (cond empty [] (part ∷ []))) ≤ 1
unfolding texts_of unfolded lines_from
few_last true part = omega arith
few_last false part = omega arith

few_none : length (texts_of []) ≤ 0
unfolding texts_of unfolded
few_none = omega arith

few_lines : (parts : List (List ℕ)) → length (texts_of (lines_of_parts parts)) ≤ length (by_line parts)
unfolding by_line
few_lines [] = few_none
few_lines (part ∷ []) = few_last (length part == 0) part
few_lines (part ∷ next ∷ rest) = few_by (continues next) part next rest (by_line (next ∷ rest)) refl (some_groups next rest) (few_lines (next ∷ rest))
  where
    some_groups : (part : List ℕ) (rest : List (List ℕ)) → by_line (part ∷ rest) ≡ [] → ⊥
    some_groups part rest h = let begun = by_line_begun part rest in let clash : (part ∷ begun.0) ∷ begun.1 ≡ [] = sym begun.2 ∙ h in cc

few_texts : (text : List ℕ) → length (map (λ (line : Line). line.text) (logical_lines text)) ≤ length (by_line (parts_of text))
unfolding logical_lines physical_lines parts_of texts_of
few_texts text = few_lines (parts_of text)

few_placed : (text : List ℕ) → length (placed (logical_lines text)) ≤ length (by_line (parts_of text))
unfolding placed
few_placed text =
    subst (λ (n : ℕ). n ≤ length (by_line (parts_of text))) (sym (as_many_placed Before (logical_lines text) ∙ sym (length-map (logical_lines text) (λ (line : Line). line.text)))) (few_texts text)

-- the edited text is the text with another UID
pub edited_is : (text uid : List ℕ) → HasAnotherUid text uid (with_uid text uid)
unfolding with_uid changes_of
edited_is text uid =
    let w = rewrites (uid_line uid ++ (13 ∷ [])) false [] (placed (logical_lines text)) (by_line (parts_of text)) (few_placed text) refl in
    record {
      lines = w.lines;
      end = w.end;
      are = w.are;
      parts = w.parts;
      become = w.become;
      before = whole_text text ∙ ap (λ (ps : List (List ℕ)). mark_of_text text ++ join_with_byte 10 ps) (sym (old_parts w.lines w.end (by_line (parts_of text)) w.parts ∙ together (parts_of text)));
      after = ap (λ (ps : List (List ℕ)). mark_of_text text ++ join_with_byte 10 ps) w.changed;
    }

pub with_uid_is : (item other : ItemValue) (uid : List ℕ) → other.text ≡ with_uid item.text uid → other.ident ≡ uid → other.has_uid ≡ true → other.version ≡ item.version → item_of other.text ≡ Some other → IsWithUid item uid other
with_uid_is item other uid text ident has version is =
    record { text = subst (λ (t : List ℕ). HasAnotherUid item.text uid t) (sym text) (edited_is item.text uid); ident = ident; has_uid = has; version = version; is_item = is }

pub too_long : (item : ItemValue) (uid made : List ℕ) (error : ItemError) → made ≡ with_uid item.text uid → 8388608 < length made → error ≡ TooLong → IsRefused item.text uid error
too_long item uid made error is long told = inr (told, (with_uid item.text uid, edited_is item.text uid, subst (λ (t : List ℕ). 8388608 < length t) is long))
