-- Grouping: the children that make an item with the next child.
use Rattle.std.proofs.Common.{◌≡◌, ℕ, ◌+◌, ◌<◌, ◌≤◌, Bool, true, false, cond, ◌||◌, List, [], ◌∷◌, ◌++◌, filter, length, take, drop, get_or, Option, Some, None, refl, sym, ◌∙◌, ap, subst, arith}
use Rattle.std.specs.List.{list_any}
use Rattle.std.specs.Str.{bytes_eq}
use Rattle.std.specs.BTreeMap.{BTreeMap}
use Rattle.std.specs.declared.string.String.{String}
use Rattle.std.specs.declared.vec.Vec.{Vec}
use Rattle.std.specs.declared.alloc.Global.{Global}
use Rattle.std.proofs.lemmas.List.{length-map, get_or-map, drop_more, take_more, drop_all, take-append-drop, map-append, length-append}
use Rattle.std.proofs.lemmas.List.Elements.{filter-append}
use Rattle.std.proofs.lemmas.List.Folds.{list_any-append}
use Rattle.std.proofs.lemmas.Slice.Eq.{bytes_eq-Decides}
use Rattle.item_text.specs.Refusals.{same_uid}
use Rattle.file_text.specs.Groups.{group_of, some_group, IsLeft}
use Rattle.file_text.specs.Parts.{uid_of, has_uid, together, groups_behind}
use Rattle.file_text.specs.Spans.{part_at, parts_at, children_at}
use Rattle.file_text.specs.declared.marks.Mark.{Mark}
use Rattle.file_text.specs.declared.parts.Span.{Span}
use Rattle.file_text.proofs.ByUid.{flipped, has_its_uid, has_none}

-- whether a child has one of these before it, by its UID
abbrev group_by : List (List Mark) → List (List Mark) → List Mark → Option (List ℕ) → List (List Mark)
group_by all before child uid = cond (list_any (λ other. same_uid (uid_of other) uid) before) [] (together all child uid)

group_is : (all before : List (List Mark)) (child : List Mark) (uid : Option (List ℕ)) → uid ≡ uid_of child → group_of all before child ≡ group_by all before child uid
unfolding group_of
group_is all before child uid h = ap (group_by all before child) (sym h)

none_same : (uid : Option (List ℕ)) → same_uid uid None ≡ false
unfolding same_uid
none_same None = refl
none_same (Some uid) = refl

none_before : (before : List (List Mark)) → list_any (λ other. same_uid (uid_of other) None) before ≡ false
none_before [] = refl
none_before (child ∷ rest) = ap (λ (b : Bool). b || list_any (λ other. same_uid (uid_of other) None) rest) (none_same (uid_of child)) ∙ none_before rest

module _ (lines : List Mark) (all before : List (List Mark)) (child : List Mark) where
  -- a child without UID is alone
  pub alone : None ≡ uid_of child → child ∷ [] ≡ group_of all before child
  unfolding together
  alone h = sym (group_is all before child None h ∙ ap (λ (b : Bool). cond b [] (child ∷ [])) (none_before before))

  -- the children that are taken away make the item
  pub taken : (by_uid : BTreeMap (String Global) (Vec Span Global)) (uid : List ℕ) (found : List (List Mark)) → Some uid ≡ uid_of child → found ≡ children_at lines by_uid uid → IsLeft lines by_uid all before → found ≡ group_of all before child
  unfolding together
  taken by_uid uid found h e left = e ∙ (left.each uid ∙ sym (group_is all before child (Some uid) h))

  any_more : (q : List ℕ) → list_any (has_uid q) (before ++ child ∷ []) ≡ (list_any (has_uid q) before || (has_uid q child || false))
  any_more q = list_any-append (has_uid q) before (child ∷ [])

  both : (s t : Bool) (some : List (List Mark)) → cond s [] (cond t [] some) ≡ cond (t || (s || false)) [] some
  both true true some = refl
  both true false some = refl
  both false true some = refl
  both false false some = refl

  pub left_behind_taken : (old new : BTreeMap (String Global) (Vec Span Global)) (uid : List ℕ) → Some uid ≡ uid_of child → ((q : List ℕ) → children_at lines new q ≡ cond (bytes_eq q uid) [] (children_at lines old q)) → IsLeft lines old all before → IsLeft lines new all (before ++ child ∷ [])
  left_behind_taken old new uid h is left = record {
    each = λ q.
        is q
        ∙ (ap (λ (xs : List (List Mark)). cond (bytes_eq q uid) [] xs) (left.each q)
        ∙ (both (bytes_eq q uid) (list_any (has_uid q) before) (filter (has_uid q) all)
        ∙ (ap (λ (b : Bool). cond (list_any (has_uid q) before || (b || false)) [] (filter (has_uid q) all)) (flipped q uid ∙ sym (has_its_uid q child uid h))
        ∙ ap (λ (b : Bool). cond b [] (filter (has_uid q) all)) (sym (any_more q)))));
  }

  still : (t s : Bool) (some : List (List Mark)) → s ≡ false → cond t [] some ≡ cond (t || (s || false)) [] some
  still true s some h = refl
  still false s some h = sym (ap (λ (b : Bool). cond (b || false) [] some) h)

  pub left_behind_alone : (by_uid : BTreeMap (String Global) (Vec Span Global)) → None ≡ uid_of child → IsLeft lines by_uid all before → IsLeft lines by_uid all (before ++ child ∷ [])
  left_behind_alone by_uid h left = record {
    each = λ q. left.each q ∙ (still (list_any (has_uid q) before) (has_uid q child) (filter (has_uid q) all) (has_none q child h) ∙ ap (λ (b : Bool). cond b [] (filter (has_uid q) all)) (sym (any_more q)));
  }

-- at the start all are to come
pub all_left : (lines : List Mark) (by_uid : BTreeMap (String Global) (Vec Span Global)) (all : List (List Mark)) → ((q : List ℕ) → children_at lines by_uid q ≡ filter (has_uid q) all) → IsLeft lines by_uid all []
all_left lines by_uid all h = record { each = h }

kept_by : {X : Type 0} (b : Bool) (before : List X) (x : X) (rest : List X) → b ≡ true → 0 < length (before ++ cond b (x ∷ rest) rest)
kept_by true before x rest h = omega (arith, length-append before (x ∷ rest))
kept_by false before x rest h = absurd (cc)

-- a list that has an element that passes has one that is kept
some_kept : {X : Type 0} (P : X → Bool) (xs : List X) (i : ℕ) (d x : X) → i < length xs → x ≡ get_or xs i d → P x ≡ true → 0 < length (filter P xs)
some_kept P xs i d x h e passes =
    let here : xs ≡ take i xs ++ get_or xs i d ∷ drop (i + 1) xs = sym (take-append-drop i xs) ∙ ap (λ ys. take i xs ++ ys) (drop_more xs i d h) in
    let is : filter P xs ≡ filter P (take i xs) ++ filter P (get_or xs i d ∷ drop (i + 1) xs) = ap (filter P) here ∙ filter-append P (take i xs) (get_or xs i d ∷ drop (i + 1) xs) in
    subst (λ ys. 0 < length ys) (sym is) (kept_by (P (get_or xs i d)) (filter P (take i xs)) (get_or xs i d) (filter P (drop (i + 1) xs)) (ap P (sym e) ∙ passes))

some_together : (all : List (List Mark)) (i : ℕ) (d child : List Mark) (uid : Option (List ℕ)) → i < length all → child ≡ get_or all i d → uid ≡ uid_of child → 0 < length (together all child uid)
unfolding together
some_together all i d child None h e k = omega arith
some_together all i d child (Some uid) h e k = some_kept (has_uid uid) all i d child h e (has_its_uid uid child uid k ∙ (bytes_eq-Decides uid uid).1 refl)

next_by : (b : Bool) (group : List (List Mark)) (rest : List (List (List Mark))) → 0 < length group → cond b rest (group ∷ rest) ≡ some_group (cond b [] group) ++ rest
next_by true group rest h = refl
next_by false [] rest h = absurd (omega arith)
next_by false (child ∷ more) rest h = refl

next_groups : (all before : List (List Mark)) (child : List Mark) (rest : List (List Mark)) → 0 < length (together all child (uid_of child)) → groups_behind all before (child ∷ rest) ≡ some_group (group_of all before child) ++ groups_behind all (before ++ child ∷ []) rest
unfolding groups_behind group_of
next_groups all before child rest h = next_by (list_any (λ other. same_uid (uid_of other) (uid_of child)) before) (together all child (uid_of child)) (groups_behind all (before ++ child ∷ []) rest) h

module _ (lines : List Mark) (children : List Span) (i : ℕ) (d span : Span) (h : i < length children) (e : span ≡ get_or children i d) where
  before_next : parts_at lines (take (i + 1) children) ≡ parts_at lines (take i children) ++ part_at lines span ∷ []
  before_next =
      ap (parts_at lines) (take_more children i d h ∙ ap (λ (s : Span). take i children ++ s ∷ []) (sym e))
      ∙ map-append (part_at lines) (take i children) (span ∷ [])

  behind_next : parts_at lines (drop i children) ≡ part_at lines span ∷ parts_at lines (drop (i + 1) children)
  behind_next = ap (parts_at lines) (drop_more children i d h ∙ ap (λ (s : Span). s ∷ drop (i + 1) children) (sym e))

  some_there : 0 < length (together (parts_at lines children) (part_at lines span) (uid_of (part_at lines span)))
  some_there =
      let within : i < length (parts_at lines children) = omega (arith, length-map children (part_at lines)) in
      some_together (parts_at lines children) i (part_at lines d) (part_at lines span) (uid_of (part_at lines span)) within (ap (part_at lines) e ∙ sym (get_or-map (part_at lines) children i d (part_at lines d) h)) refl

  -- the group of the next child, and those behind it
  pub group_next : groups_behind (parts_at lines children) (parts_at lines (take i children)) (parts_at lines (drop i children))
      ≡ some_group (group_of (parts_at lines children) (parts_at lines (take i children)) (part_at lines span)) ++ groups_behind (parts_at lines children) (parts_at lines (take (i + 1) children)) (parts_at lines (drop (i + 1) children))
  group_next =
      ap (groups_behind (parts_at lines children) (parts_at lines (take i children))) behind_next
      ∙ (next_groups (parts_at lines children) (parts_at lines (take i children)) (part_at lines span) (parts_at lines (drop (i + 1) children)) some_there
      ∙ ap (λ (b : List (List Mark)). some_group (group_of (parts_at lines children) (parts_at lines (take i children)) (part_at lines span)) ++ groups_behind (parts_at lines children) b (parts_at lines (drop (i + 1) children))) (sym before_next))

  pub left_next : (by_uid : BTreeMap (String Global) (Vec Span Global)) → IsLeft lines by_uid (parts_at lines children) (parts_at lines (take i children) ++ part_at lines span ∷ []) → IsLeft lines by_uid (parts_at lines children) (parts_at lines (take (i + 1) children))
  left_next by_uid left = subst (λ (b : List (List Mark)). IsLeft lines by_uid (parts_at lines children) b) (sym before_next) left

pub groups_end : (all before : List (List Mark)) (lines : List Mark) (children : List Span) (i : ℕ) → length children ≤ i → groups_behind all before (parts_at lines (drop i children)) ≡ []
unfolding groups_behind
groups_end all before lines children i h = ap (λ (xs : List Span). groups_behind all before (parts_at lines xs)) (drop_all i children h)
