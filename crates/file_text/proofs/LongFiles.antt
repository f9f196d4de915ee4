-- LongFiles: a joined file is too long just where one of its items is.
use Rattle.std.proofs.Common.{◌≡◌, ◌⊎◌, inl, inr, ℕ, ◌+◌, ◌-◌, ◌<◌, ◌≤◌, Bool, true, false, cond, ◌||◌, nat_lt, List, [], ◌∷◌, ◌++◌, map, length, codes, Option, Some, None, Result, refl, sym, ◌∙◌, ap, arith}
use Rattle.std.specs.List.{All, list_any}
use Rattle.std.proofs.lemmas.Bool.{cases_lt}
use Rattle.std.proofs.lemmas.Bool.Decides.{nat_tests}
use Rattle.std.proofs.lemmas.List.{length-append}
use Rattle.std.proofs.lemmas.List.Elements.{All-head, All-tail}
use Rattle.std.proofs.lemmas.List.Folds.{list_any-append}
use Rattle.item_text.specs.Items.{ItemValue}
use Rattle.item_text.specs.Refusals.{same_uid}
use Rattle.item_text.specs.declared.item.ItemError.{ItemError}
use Rattle.file_text.specs.Joins.{calendars, others, joined, is_too_long}
use Rattle.file_text.specs.Lengths.{is_longer, is_any_longer}
use Rattle.file_text.specs.Parts.{uid_of, together, groups_behind, groups}
use Rattle.file_text.specs.Splits.{go_on, read_behind, split}
use Rattle.file_text.specs.Written.{folded, written, all_written}
use Rattle.file_text.specs.declared.marks.Mark.{Mark}
use Rattle.file_text.specs.declared.parts.PartKind.TheVariants as kind
use Rattle.file_text.proofs.AgainRead.{item_again, ReadsAgain}
use Rattle.file_text.proofs.AllAgain.{all_read}
use Rattle.file_text.proofs.GroupsApart.{same_is}
use Rattle.file_text.proofs.JoinedFiles.{parts_in, all_in, kept_in, written_made}
use Rattle.file_text.proofs.LongItems.{or_true, or_false}
use Rattle.file_text.proofs.MadeFiles.{made}
use Rattle.file_text.proofs.SplitAgain.{IsWhole, split_calendars, split_items, split_joined}

-- some group passes just where the group of some child does
module _ (passes : List (List Mark) → Bool) (all : List (List Mark)) where
  abbrev of_child : List Mark → Bool
  of_child child = passes (together all child (uid_of child))

  same_group : (other child : List Mark) (uid next : Option (List ℕ)) → same_uid uid next ≡ true → passes (together all child next) ≡ true → passes (together all other uid) ≡ true
  unfolding together same_uid
  same_group other child None None h p = absurd (cc)
  same_group other child None (Some next) h p = absurd (cc)
  same_group other child (Some uid) None h p = absurd (cc)
  same_group other child (Some uid) (Some next) h p = ap (λ (u : Option (List ℕ)). passes (together all child u)) (same_is (Some uid) (Some next) h) ∙ p

  seen_by : (b : Bool) (other child : List Mark) (rest : List (List Mark)) → same_uid (uid_of other) (uid_of child) ≡ b → (b || list_any (λ other. same_uid (uid_of other) (uid_of child)) rest) ≡ true → of_child child ≡ true
      → (list_any (λ other. same_uid (uid_of other) (uid_of child)) rest ≡ true → list_any of_child rest ≡ true) → (of_child other || list_any of_child rest) ≡ true
  seen_by true other child rest h seen p again = ap (λ (t : Bool). t || list_any of_child rest) (same_group other child (uid_of other) (uid_of child) h p)
  seen_by false other child rest h seen p again = ap (λ (t : Bool). of_child other || t) (again seen) ∙ or_true (of_child other)

  seen_any : (before : List (List Mark)) (child : List Mark) → list_any (λ other. same_uid (uid_of other) (uid_of child)) before ≡ true → of_child child ≡ true → list_any of_child before ≡ true
  seen_any [] child seen p = absurd (cc)
  seen_any (other ∷ rest) child seen p = seen_by (same_uid (uid_of other) (uid_of child)) other child rest refl seen p (λ more. seen_any rest child more p)

  group_algebra : (seen p a g r : Bool) (gs : List (List (List Mark))) (group : List (List Mark)) → passes group ≡ p → list_any passes gs ≡ g → (seen ≡ true → p ≡ true → a ≡ true) → (g || (a || (p || false))) ≡ (r || (a || (p || false)))
      → (list_any passes (cond seen gs (group ∷ gs)) || a) ≡ ((p || r) || a)
  group_algebra true p true g r gs group hp hg more again = or_true (list_any passes gs) ∙ sym (or_true (p || r))
  group_algebra true true false g r gs group hp hg more again = absurd (apart (more refl refl))
    where
      apart : false ≡ true → ⊥
      apart e = cc
  group_algebra true false false g r gs group hp hg more again = ap (λ (t : Bool). t || false) hg ∙ again
  group_algebra false true a g r gs group hp hg more again = ap (λ (t : Bool). (t || list_any passes gs) || a) hp
  group_algebra false false true g r gs group hp hg more again = or_true (passes group || list_any passes gs) ∙ sym (or_true r)
  group_algebra false false false g r gs group hp hg more again = ap (λ (t : Bool). (t || list_any passes gs) || false) hp ∙ (ap (λ (t : Bool). t || false) hg ∙ again)

  groups_rest : (before rest : List (List Mark)) → (list_any passes (groups_behind all before rest) || list_any of_child before) ≡ (list_any of_child rest || list_any of_child before)
  unfolding groups_behind
  groups_rest before [] = refl
  groups_rest before (child ∷ rest) =
      group_algebra (list_any (λ other. same_uid (uid_of other) (uid_of child)) before) (of_child child) (list_any of_child before) (list_any passes (groups_behind all (before ++ child ∷ []) rest)) (list_any of_child rest)
      (groups_behind all (before ++ child ∷ []) rest) (together all child (uid_of child)) refl refl (λ seen p. seen_any before child seen p)
      (ap (λ (t : Bool). list_any passes (groups_behind all (before ++ child ∷ []) rest) || t) (sym (list_any-append of_child before (child ∷ [])))
      ∙ (groups_rest (before ++ child ∷ []) rest ∙ ap (λ (t : Bool). list_any of_child rest || t) (list_any-append of_child before (child ∷ []))))

pub groups_any : (passes : List (List Mark) → Bool) (all : List (List Mark)) → list_any passes (groups all) ≡ list_any (λ child. passes (together all child (uid_of child))) all
unfolding groups
groups_any passes all =
    sym (or_false (list_any passes (groups_behind all [] all))) ∙ (groups_rest passes all [] all ∙ or_false (list_any (λ child. passes (together all child (uid_of child))) all))

-- the longest of some children's items, in a frame
any_true : (all some : List (List Mark)) (limit frame : ℕ) → limit < frame → (child : List Mark) (rest : List (List Mark)) → some ≡ child ∷ rest → list_any (λ child. nat_lt limit (frame + length (all_written (together all child (uid_of child))))) some ≡ true
any_true all some limit frame h child rest is =
    let here : nat_lt limit (frame + length (all_written (together all child (uid_of child)))) ≡ true = over limit frame (length (all_written (together all child (uid_of child)))) h in
    ap (list_any (λ child. nat_lt limit (frame + length (all_written (together all child (uid_of child)))))) is ∙ ap (λ (b : Bool). b || list_any (λ child. nat_lt limit (frame + length (all_written (together all child (uid_of child))))) rest) here
  where
    over : (l f x : ℕ) → l < f → nat_lt l (f + x) ≡ true
    over l f x k = grind (arith, nat_tests)

moved : (limit frame x : ℕ) → frame ≤ limit → nat_lt limit (frame + x) ≡ nat_lt (limit - frame) x
moved limit frame x h = grind (arith, nat_tests)

any_moved : (all some : List (List Mark)) (limit frame : ℕ) → frame ≤ limit → list_any (λ child. nat_lt limit (frame + length (all_written (together all child (uid_of child))))) some ≡ is_any_longer (limit - frame) all some
any_moved all [] limit frame h = refl
any_moved all (child ∷ rest) limit frame h =
    ap (λ (b : Bool). b || list_any (λ child. nat_lt limit (frame + length (all_written (together all child (uid_of child))))) rest) (moved limit frame (length (all_written (together all child (uid_of child)))) h)
    ∙ ap (λ (b : Bool). is_longer (limit - frame) (together all child (uid_of child)) || b) (any_moved all rest limit frame h)

framed_by : (all : List (List Mark)) (longest limit frame : ℕ) → ((n : ℕ) → nat_lt n longest ≡ is_any_longer n all all) → (child : List Mark) (rest : List (List Mark)) → all ≡ child ∷ rest → (limit < frame) ⊎ (frame ≤ limit)
    → nat_lt limit (frame + longest) ≡ list_any (λ child. nat_lt limit (frame + length (all_written (together all child (uid_of child))))) all
framed_by all longest limit frame told child rest is (inl h) = over limit frame longest h ∙ sym (any_true all all limit frame h child rest is)
  where
    over : (l f x : ℕ) → l < f → nat_lt l (f + x) ≡ true
    over l f x k = grind (arith, nat_tests)
framed_by all longest limit frame told child rest is (inr h) = moved limit frame longest h ∙ (told (limit - frame) ∙ sym (any_moved all all limit frame h))

-- whether one of the components has too many bytes as it is written
abbrev pub is_any_long : List (List Mark) → Bool
is_any_long all = list_any (λ marks. nat_lt 8388608 (length (written marks))) all

long_by : (old : List ItemValue) (marks : List Mark) (rest : List (List Mark)) → ReadsAgain marks → (8388608 < length (written marks)) ⊎ (length (written marks) ≤ 8388608)
    → is_too_long (read_behind (old ++ item_again marks ∷ []) (map written rest)) ≡ is_any_long rest → is_too_long (read_behind old (written marks ∷ map written rest)) ≡ (nat_lt 8388608 (length (written marks)) || is_any_long rest)
unfolding read_behind go_on
long_by old marks rest reads (inl long) again =
    let here : nat_lt 8388608 (length (written marks)) ≡ true = grind (arith, nat_tests) in
    ap (λ (r : Result ItemValue ItemError). is_too_long (go_on r (λ item. read_behind (old ++ item ∷ []) (map written rest)))) (reads.long long) ∙ sym (ap (λ (b : Bool). b || is_any_long rest) here)
long_by old marks rest reads (inr short) again =
    let here : nat_lt 8388608 (length (written marks)) ≡ false = grind (arith, nat_tests) in
    ap (λ (r : Result ItemValue ItemError). is_too_long (go_on r (λ item. read_behind (old ++ item ∷ []) (map written rest)))) (reads.short short) ∙ (again ∙ sym (ap (λ (b : Bool). b || is_any_long rest) here))

read_long : (old : List ItemValue) (all : List (List Mark)) → All ReadsAgain all → is_too_long (read_behind old (map written all)) ≡ is_any_long all
unfolding read_behind
read_long old [] are = refl
read_long old (marks ∷ rest) are =
    long_by old marks rest (All-head ReadsAgain marks rest are) (cases_lt 8388608 (length (written marks))) (read_long (old ++ item_again marks ∷ []) rest (All-tail ReadsAgain marks rest are))

any_map : {X : Type 0} (f : X → List Mark) (all : List X) → is_any_long (map f all) ≡ list_any (λ x. nat_lt 8388608 (length (written (f x)))) all
any_map f [] = refl
any_map f (x ∷ rest) = ap (λ (b : Bool). nat_lt 8388608 (length (written (f x))) || b) (any_map f rest)

any_same : {X : Type 0} (P Q : X → Bool) → ((x : X) → P x ≡ Q x) → (all : List X) → list_any P all ≡ list_any Q all
any_same P Q same [] = refl
any_same P Q same (x ∷ rest) = ap (λ (b : Bool). b || list_any P rest) (same x) ∙ ap (λ (b : Bool). Q x || b) (any_same P Q same rest)

-- the bytes of what stands round the children of each item
abbrev pub frame_of : List (List Mark) → List (List Mark) → ℕ
frame_of properties zones = length ((folded (codes "BEGIN:VCALENDAR") ++ all_written properties) ++ all_written zones) + length (folded (codes "END:VCALENDAR"))

made_long : (properties zones group : List (List Mark)) → length (written (made (properties ++ (zones ++ group)))) ≡ frame_of properties zones + length (all_written group)
made_long properties zones group =
    let front : List ℕ = (folded (codes "BEGIN:VCALENDAR") ++ all_written properties) ++ all_written zones in
    ap length (written_made properties zones group)
    ∙ omega (arith, length-append (front ++ all_written group) (folded (codes "END:VCALENDAR")), length-append front (all_written group))

calendars_long : (first : List Mark) (more : List (List Mark)) → is_any_long (split_calendars (first ∷ more))
    ≡ list_any (λ child. nat_lt 8388608 (frame_of (parts_in kind.Property first) (kept_in (first ∷ more)) + length (all_written (together (all_in kind.Child (first ∷ more)) child (uid_of child))))) (all_in kind.Child (first ∷ more))
calendars_long first more =
    let properties : List (List Mark) = parts_in kind.Property first in
    let zones : List (List Mark) = kept_in (first ∷ more) in
    let passes : List (List Mark) → Bool = λ group. nat_lt 8388608 (frame_of properties zones + length (all_written group)) in
    any_map (λ (group : List (List Mark)). made (properties ++ (zones ++ group))) (groups (all_in kind.Child (first ∷ more)))
    ∙ (any_same (λ (group : List (List Mark)). nat_lt 8388608 (length (written (made (properties ++ (zones ++ group)))))) passes (λ group. ap (λ (n : ℕ). nat_lt 8388608 n) (made_long properties zones group)) (groups (all_in kind.Child (first ∷ more)))
    ∙ groups_any passes (all_in kind.Child (first ∷ more)))

pub long_calendars : (first : List Mark) (more : List (List Mark)) (longest : ℕ) → ((n : ℕ) → nat_lt n longest ≡ is_any_longer n (all_in kind.Child (first ∷ more)) (all_in kind.Child (first ∷ more)))
    → (child : List Mark) (rest : List (List Mark)) → all_in kind.Child (first ∷ more) ≡ child ∷ rest
    → nat_lt 8388608 (frame_of (parts_in kind.Property first) (kept_in (first ∷ more)) + longest) ≡ is_any_long (split_calendars (first ∷ more))
long_calendars first more longest told child rest is =
    let frame : ℕ = frame_of (parts_in kind.Property first) (kept_in (first ∷ more)) in
    framed_by (all_in kind.Child (first ∷ more)) longest 8388608 frame told child rest is (cases_lt 8388608 frame) ∙ sym (calendars_long first more)

-- a joined file is too long just where one of its items is
pub long_joined : (items : List (List Mark)) → All IsWhole items → length (joined items) ≤ 268435456 → is_too_long (split (joined items)) ≡ (is_any_long (split_calendars (calendars items)) || is_any_long (others items))
long_joined items are few =
    ap is_too_long (split_joined items are few)
    ∙ (read_long [] (split_items items) (all_read items are) ∙ list_any-append (λ marks. nat_lt 8388608 (length (written marks))) (split_calendars (calendars items)) (others items))
