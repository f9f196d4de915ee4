-- GroupsApart: the groups of children, where each has one UID, and those of VCALENDARs that have different UIDs.
use Rattle.std.proofs.Common.{◌≡◌, ℕ, ◌<◌, Bool, true, false, cond, not, ◌||◌, List, [], ◌∷◌, ◌++◌, map, filter, length, Option, Some, None, refl, sym, ◌∙◌, ap, subst, append_assoc, append-nil, arith}
use Rattle.std.proofs.lemmas.List.{length-append}
use Rattle.std.specs.List.{All, flat_map, list_any}
use Rattle.std.proofs.lemmas.List.Elements.{All-nil, All-cons, All-head, All-tail, All-append, All-filter, filter-append, filter_passes}
use Rattle.std.proofs.lemmas.List.Folds.{list_any-append}
use Rattle.std.proofs.lemmas.Slice.Eq.{bytes_eq-Decides}
use Rattle.item_text.specs.Refusals.{same_uid}
use Rattle.file_text.specs.Parts.{uid_of, has_uid, together, groups_behind, groups}
use Rattle.file_text.specs.declared.marks.Mark.{Mark}
use Rattle.file_text.proofs.ByUid.{flipped}
use Rattle.file_text.proofs.ChildUids.{AreOne}

-- UIDs that are the same
pub same_is : (uid other : Option (List ℕ)) → same_uid uid other ≡ true → uid ≡ other
unfolding same_uid
same_is (Some uid) (Some other) h = ap (λ (u : List ℕ). Some u) ((bytes_eq-Decides uid other).0 h)
same_is (Some uid) None h = cc
same_is None (Some other) h = cc
same_is None None h = cc

is_same : (uid : List ℕ) → same_uid (Some uid) (Some uid) ≡ true
unfolding same_uid
is_same uid = (bytes_eq-Decides uid uid).1 refl

pub none_same : (uid : Option (List ℕ)) → same_uid uid None ≡ false
unfolding same_uid
none_same None = refl
none_same (Some uid) = refl

-- the children of one item: all have its UID, and without one there is one child
pub record IsOneItem (children : List (List Mark)) (key : Option (List ℕ)) : Type 0 where
  pub first : List Mark
  pub rest : List (List Mark)
  pub is : children ≡ first ∷ rest
  pub keys : All (λ (child : List Mark). uid_of child ≡ key) children
  pub alone : key ≡ None → rest ≡ []

abbrev pub uids : List (List Mark) → List (Option (List ℕ))
uids children = map uid_of children

not_false : (b : Bool) → not b ≡ false → b ≡ true
not_false true h = refl
not_false false h = cc

neither : (a b : Bool) → (a || b) ≡ false → (a ≡ false) × (b ≡ false)
neither true b h = cc
neither false b h = (refl, h)

all_keys : (key : Option (List ℕ)) (children : List (List Mark)) → list_any (λ (other : Option (List ℕ)). not (same_uid key other)) (uids children) ≡ false → All (λ (child : List Mark). uid_of child ≡ key) children
all_keys key [] h = All-nil (λ (child : List Mark). uid_of child ≡ key)
all_keys key (child ∷ rest) h =
    let parts = neither (not (same_uid key (uid_of child))) (list_any (λ (other : Option (List ℕ)). not (same_uid key other)) (uids rest)) h in
    All-cons (λ (child : List Mark). uid_of child ≡ key) child rest (sym (same_is key (uid_of child) (not_false (same_uid key (uid_of child)) parts.0))) (all_keys key rest parts.1)

-- the key of children
abbrev pub key_of : List (List Mark) → Option (List ℕ)
key_of [] = None
key_of (child ∷ rest) = uid_of child

some_same : (uid : Option (List ℕ)) → uid ≡ None → same_uid uid uid ≡ true → ⊥
unfolding same_uid
some_same None k h = cc
some_same (Some uid) k h = cc

pub one_item : (children : List (List Mark)) → AreOne (uids children) → IsOneItem children (key_of children)
one_item [] h = absurd h
one_item (child ∷ []) h = record {
  first = child;
  rest = [];
  is = refl;
  keys = All-cons (λ (c : List Mark). uid_of c ≡ uid_of child) child [] refl (All-nil (λ (c : List Mark). uid_of c ≡ uid_of child));
  alone = λ k. refl;
}
one_item (child ∷ next ∷ more) h = record {
  first = child;
  rest = next ∷ more;
  is = refl;
  keys = all_keys (uid_of child) (child ∷ next ∷ more) h;
  alone = λ k. absurd (some_same (uid_of child) k (not_false (same_uid (uid_of child) (uid_of child)) (neither (not (same_uid (uid_of child) (uid_of child))) (list_any (λ (other : Option (List ℕ)). not (same_uid (uid_of child) other)) (uids (next ∷ more))) h).0));
}

has_key : (uid : List ℕ) (child : List Mark) → uid_of child ≡ Some uid → has_uid uid child ≡ true
has_key uid child h = ap (λ (u : Option (List ℕ)). same_uid u (Some uid)) h ∙ is_same uid

-- children that have a UID are kept, and others not
kept_all : (uid : List ℕ) (children : List (List Mark)) → All (λ (child : List Mark). uid_of child ≡ Some uid) children → filter (has_uid uid) children ≡ children
kept_all uid [] are = refl
kept_all uid (child ∷ rest) are =
    let P : List Mark → Type 0 = λ child. uid_of child ≡ Some uid in
    ap (λ (b : Bool). cond b (child ∷ filter (has_uid uid) rest) (filter (has_uid uid) rest)) (has_key uid child (All-head P child rest are)) ∙ ap (λ (cs : List (List Mark)). child ∷ cs) (kept_all uid rest (All-tail P child rest are))

-- no child has this UID
abbrev pub AreApart : Option (List ℕ) → List (List Mark) → Type 0
AreApart key children = All (λ (child : List Mark). same_uid (uid_of child) key ≡ false) children

kept_none : (uid : List ℕ) (children : List (List Mark)) → AreApart (Some uid) children → filter (has_uid uid) children ≡ []
kept_none uid [] are = refl
kept_none uid (child ∷ rest) are =
    let P : List Mark → Type 0 = λ child. same_uid (uid_of child) (Some uid) ≡ false in
    ap (λ (b : Bool). cond b (child ∷ filter (has_uid uid) rest) (filter (has_uid uid) rest)) (All-head P child rest are) ∙ kept_none uid rest (All-tail P child rest are)

none_any : (key : Option (List ℕ)) (children : List (List Mark)) → AreApart key children → list_any (λ other. same_uid (uid_of other) key) children ≡ false
none_any key [] are = refl
none_any key (child ∷ rest) are =
    let P : List Mark → Type 0 = λ child. same_uid (uid_of child) key ≡ false in
    ap (λ (b : Bool). b || list_any (λ other. same_uid (uid_of other) key) rest) (All-head P child rest are) ∙ none_any key rest (All-tail P child rest are)

or_true : (b : Bool) → (b || true) ≡ true
or_true true = refl
or_true false = refl

-- children behind the first of their item make no item
skipped : (all before : List (List Mark)) (uid : List ℕ) (rest more : List (List Mark)) → All (λ (child : List Mark). uid_of child ≡ Some uid) rest → list_any (λ other. same_uid (uid_of other) (Some uid)) before ≡ true
    → groups_behind all before (rest ++ more) ≡ groups_behind all (before ++ rest) more
unfolding groups_behind
skipped all before uid [] more are seen = ap (λ (b : List (List Mark)). groups_behind all b more) (sym (append-nil before))
skipped all before uid (child ∷ rest) more are seen =
    let P : List Mark → Type 0 = λ child. uid_of child ≡ Some uid in
    let here : list_any (λ other. same_uid (uid_of other) (uid_of child)) before ≡ true = ap (λ (u : Option (List ℕ)). list_any (λ other. same_uid (uid_of other) u) before) (All-head P child rest are) ∙ seen in
    let later : list_any (λ other. same_uid (uid_of other) (Some uid)) (before ++ child ∷ []) ≡ true =
    list_any-append (λ other. same_uid (uid_of other) (Some uid)) before (child ∷ []) ∙ ap (λ (b : Bool). b || (same_uid (uid_of child) (Some uid) || false)) seen in
    ap (λ (b : Bool). cond b (groups_behind all (before ++ child ∷ []) (rest ++ more)) (together all child (uid_of child) ∷ groups_behind all (before ++ child ∷ []) (rest ++ more))) here
    ∙ (skipped all (before ++ child ∷ []) uid rest more (All-tail P child rest are) later
    ∙ ap (λ (b : List (List Mark)). groups_behind all b more) (append_assoc before (child ∷ []) rest))

-- one item more
one_group_by : (key : Option (List ℕ)) (all before first_rest more : List (List Mark)) (first : List Mark) → uid_of first ≡ key → All (λ (child : List Mark). uid_of child ≡ key) first_rest → (key ≡ None → first_rest ≡ []) → AreApart key before → AreApart key more
    → all ≡ before ++ ((first ∷ first_rest) ++ more) → groups_behind all before ((first ∷ first_rest) ++ more) ≡ (first ∷ first_rest) ∷ groups_behind all (before ++ first ∷ first_rest) more
unfolding groups_behind together
one_group_by None all before rest more first is keys alone apart later all_is =
    let none : rest ≡ [] = alone refl in
    ap (λ (b : Bool). cond b (groups_behind all (before ++ first ∷ []) (rest ++ more)) (together all first (uid_of first) ∷ groups_behind all (before ++ first ∷ []) (rest ++ more)))
    (ap (λ (u : Option (List ℕ)). list_any (λ other. same_uid (uid_of other) u) before) is ∙ none_any None before apart)
    ∙ (ap (λ (u : Option (List ℕ)). together all first u ∷ groups_behind all (before ++ first ∷ []) (rest ++ more)) is
    ∙ (ap (λ (r : List (List Mark)). (first ∷ []) ∷ groups_behind all (before ++ first ∷ []) (r ++ more)) none
    ∙ ap (λ (r : List (List Mark)). (first ∷ r) ∷ groups_behind all (before ++ first ∷ r) more) (sym none)))
one_group_by (Some uid) all before rest more first is keys alone apart later all_is =
    let group : filter (has_uid uid) all ≡ first ∷ rest =
    ap (filter (has_uid uid)) all_is
    ∙ (filter-append (has_uid uid) before ((first ∷ rest) ++ more)
    ∙ (ap (λ (cs : List (List Mark)). cs ++ filter (has_uid uid) ((first ∷ rest) ++ more)) (kept_none uid before apart)
    ∙ (filter-append (has_uid uid) (first ∷ rest) more
    ∙ (ap (λ (cs : List (List Mark)). cs ++ filter (has_uid uid) more) (kept_all uid (first ∷ rest) (All-cons (λ (child : List Mark). uid_of child ≡ Some uid) first rest is keys))
    ∙ (ap (λ (cs : List (List Mark)). (first ∷ rest) ++ cs) (kept_none uid more later) ∙ append-nil (first ∷ rest)))))) in
    let seen : list_any (λ other. same_uid (uid_of other) (Some uid)) (before ++ first ∷ []) ≡ true =
    list_any-append (λ other. same_uid (uid_of other) (Some uid)) before (first ∷ [])
    ∙ (ap (λ (u : Option (List ℕ)). list_any (λ other. same_uid (uid_of other) (Some uid)) before || (same_uid u (Some uid) || false)) is
    ∙ (ap (λ (b : Bool). list_any (λ other. same_uid (uid_of other) (Some uid)) before || (b || false)) (is_same uid) ∙ or_true (list_any (λ other. same_uid (uid_of other) (Some uid)) before))) in
    ap (λ (b : Bool). cond b (groups_behind all (before ++ first ∷ []) (rest ++ more)) (together all first (uid_of first) ∷ groups_behind all (before ++ first ∷ []) (rest ++ more)))
    (ap (λ (u : Option (List ℕ)). list_any (λ other. same_uid (uid_of other) u) before) is ∙ none_any (Some uid) before apart)
    ∙ (ap (λ (u : Option (List ℕ)). together all first u ∷ groups_behind all (before ++ first ∷ []) (rest ++ more)) is
    ∙ (ap (λ (g : List (List Mark)). g ∷ groups_behind all (before ++ first ∷ []) (rest ++ more)) group
    ∙ ap (λ (gs : List (List (List Mark))). (first ∷ rest) ∷ gs) (skipped all (before ++ first ∷ []) uid rest more keys seen ∙ ap (λ (b : List (List Mark)). groups_behind all b more) (append_assoc before (first ∷ []) rest))))

-- keys that differ
abbrev pub IsApart : List (Option (List ℕ)) → Type 0
IsApart [] = Unit {0}
IsApart (key ∷ rest) = All (λ (other : Option (List ℕ)). same_uid key other ≡ false) rest × IsApart rest

flipped_false : (a b : Option (List ℕ)) → same_uid a b ≡ false → same_uid b a ≡ false
unfolding same_uid
flipped_false (Some a) (Some b) h = sym (flipped a b) ∙ h
flipped_false (Some a) None h = refl
flipped_false None (Some b) h = refl
flipped_false None None h = refl

-- children of items whose keys differ from a key
apart_from : (key other : Option (List ℕ)) (children : List (List Mark)) → same_uid other key ≡ false → All (λ (child : List Mark). uid_of child ≡ other) children → AreApart key children
apart_from key other [] h are = All-nil (λ (child : List Mark). same_uid (uid_of child) key ≡ false)
apart_from key other (child ∷ rest) h are =
    let P : List Mark → Type 0 = λ child. uid_of child ≡ other in
    All-cons (λ (child : List Mark). same_uid (uid_of child) key ≡ false) child rest (ap (λ (u : Option (List ℕ)). same_uid u key) (All-head P child rest are) ∙ h) (apart_from key other rest h (All-tail P child rest are))

module _ (f : List Mark → List (List Mark)) where
  abbrev pub keys : List (List Mark) → List (Option (List ℕ))
  keys all = map (λ (marks : List Mark). key_of (f marks)) all

  abbrev pub AreItems : List (List Mark) → Type 0
  AreItems all = All (λ (marks : List Mark). IsOneItem (f marks) (key_of (f marks))) all

  later_apart : (key : Option (List ℕ)) (all : List (List Mark)) → AreItems all → All (λ (other : Option (List ℕ)). same_uid key other ≡ false) (keys all) → AreApart key (flat_map f all)
  later_apart key [] are apart = All-nil (λ (child : List Mark). same_uid (uid_of child) key ≡ false)
  later_apart key (marks ∷ rest) are apart =
      let one : IsOneItem (f marks) (key_of (f marks)) = All-head (λ (marks : List Mark). IsOneItem (f marks) (key_of (f marks))) marks rest are in
      let differ : same_uid key (key_of (f marks)) ≡ false = All-head (λ (other : Option (List ℕ)). same_uid key other ≡ false) (key_of (f marks)) (keys rest) apart in
      All-append (λ (child : List Mark). same_uid (uid_of child) key ≡ false) (f marks) (flat_map f rest)
      (apart_from key (key_of (f marks)) (f marks) (flipped_false key (key_of (f marks)) differ) one.keys)
      (later_apart key rest (All-tail (λ (marks : List Mark). IsOneItem (f marks) (key_of (f marks))) marks rest are) (All-tail (λ (other : Option (List ℕ)). same_uid key other ≡ false) (key_of (f marks)) (keys rest) apart))

  more_before : (children before : List (List Mark)) (key : Option (List ℕ)) (all : List (List Mark)) → All (λ (child : List Mark). uid_of child ≡ key) children → All (λ (other : Option (List ℕ)). same_uid key other ≡ false) (keys all)
      → All (λ (marks : List Mark). AreApart (key_of (f marks)) before) all → All (λ (marks : List Mark). AreApart (key_of (f marks)) (before ++ children)) all
  more_before children before key [] are apart earlier = All-nil (λ (marks : List Mark). AreApart (key_of (f marks)) (before ++ children))
  more_before children before key (marks ∷ rest) are apart earlier =
      let Q : List Mark → Type 0 = λ marks. AreApart (key_of (f marks)) before in
      let differ : same_uid key (key_of (f marks)) ≡ false = All-head (λ (other : Option (List ℕ)). same_uid key other ≡ false) (key_of (f marks)) (keys rest) apart in
      All-cons (λ (marks : List Mark). AreApart (key_of (f marks)) (before ++ children)) marks rest
      (All-append (λ (child : List Mark). same_uid (uid_of child) (key_of (f marks)) ≡ false) before children (All-head Q marks rest earlier) (apart_from (key_of (f marks)) key children differ are))
      (more_before children before key rest are (All-tail (λ (other : Option (List ℕ)). same_uid key other ≡ false) (key_of (f marks)) (keys rest) apart) (All-tail Q marks rest earlier))

  groups_rest : (all before items : List (List Mark)) → AreItems items → IsApart (keys items) → All (λ (marks : List Mark). AreApart (key_of (f marks)) before) items → all ≡ before ++ flat_map f items
      → groups_behind all before (flat_map f items) ≡ map f items
  unfolding groups_behind
  groups_rest all before [] are apart earlier is = refl
  groups_rest all before (marks ∷ rest) are apart earlier is =
      let I : List Mark → Type 0 = λ marks. IsOneItem (f marks) (key_of (f marks)) in
      let Q : List Mark → Type 0 = λ marks. AreApart (key_of (f marks)) before in
      let one : I marks = All-head I marks rest are in
      let key : Option (List ℕ) = key_of (f marks) in
      let keyed : All (λ (child : List Mark). uid_of child ≡ key) (one.first ∷ one.rest) = subst (λ (cs : List (List Mark)). All (λ (child : List Mark). uid_of child ≡ key) cs) one.is one.keys in
      let P : List Mark → Type 0 = λ child. uid_of child ≡ key in
      ap (λ (cs : List (List Mark)). groups_behind all before (cs ++ flat_map f rest)) one.is
      ∙ (one_group_by key all before one.rest (flat_map f rest) one.first (All-head P one.first one.rest keyed) (All-tail P one.first one.rest keyed) one.alone (All-head Q marks rest earlier) (later_apart key rest (All-tail I marks rest are) apart.0)
      (is ∙ ap (λ (cs : List (List Mark)). before ++ (cs ++ flat_map f rest)) one.is)
      ∙ (ap (λ (cs : List (List Mark)). cs ∷ groups_behind all (before ++ cs) (flat_map f rest)) (sym one.is)
      ∙ ap (λ (gs : List (List (List Mark))). f marks ∷ gs)
      (groups_rest all (before ++ f marks) rest (All-tail I marks rest are) apart.1 (more_before (f marks) before key rest one.keys apart.0 (All-tail Q marks rest earlier)) (is ∙ sym (append_assoc before (f marks) (flat_map f rest))))))

  none_before : (items : List (List Mark)) → All (λ (marks : List Mark). AreApart (key_of (f marks)) []) items
  none_before [] = All-nil (λ (marks : List Mark). AreApart (key_of (f marks)) [])
  none_before (marks ∷ rest) = All-cons (λ (marks : List Mark). AreApart (key_of (f marks)) []) marks rest (All-nil (λ (child : List Mark). same_uid (uid_of child) (key_of (f marks)) ≡ false)) (none_before rest)

  -- the children of items whose keys differ make these items
  pub groups_apart : (items : List (List Mark)) → AreItems items → IsApart (keys items) → groups (flat_map f items) ≡ map f items
  unfolding groups
  groups_apart items are apart = groups_rest (flat_map f items) [] items are apart (none_before items) refl

-- each group of any children is one item's
one_key : (uid : List ℕ) (children : List (List Mark)) → All (λ (child : List Mark). has_uid uid child ≡ true) children → All (λ (child : List Mark). uid_of child ≡ Some uid) children
one_key uid [] are = All-nil (λ (child : List Mark). uid_of child ≡ Some uid)
one_key uid (child ∷ rest) are =
    let P : List Mark → Type 0 = λ child. has_uid uid child ≡ true in
    All-cons (λ (child : List Mark). uid_of child ≡ Some uid) child rest (same_is (uid_of child) (Some uid) (All-head P child rest are)) (one_key uid rest (All-tail P child rest are))

any_none : (uid : List ℕ) (children : List (List Mark)) → All (λ (child : List Mark). uid_of child ≡ Some uid) children → list_any (λ (other : Option (List ℕ)). not (same_uid (Some uid) other)) (uids children) ≡ false
any_none uid [] are = refl
any_none uid (child ∷ rest) are =
    let P : List Mark → Type 0 = λ child. uid_of child ≡ Some uid in
    ap (λ (u : Option (List ℕ)). not (same_uid (Some uid) u) || list_any (λ (other : Option (List ℕ)). not (same_uid (Some uid) other)) (uids rest)) (All-head P child rest are)
    ∙ (ap (λ (b : Bool). not b || list_any (λ (other : Option (List ℕ)). not (same_uid (Some uid) other)) (uids rest)) (is_same uid) ∙ any_none uid rest (All-tail P child rest are))

one_of_key : (uid : List ℕ) (children : List (List Mark)) → 0 < length children → All (λ (child : List Mark). uid_of child ≡ Some uid) children → AreOne (uids children)
one_of_key uid [] some are = absurd (omega arith)
one_of_key uid (child ∷ []) some are = tt
one_of_key uid (child ∷ next ∷ more) some are =
    let P : List Mark → Type 0 = λ child. uid_of child ≡ Some uid in
    ap (λ (u : Option (List ℕ)). list_any (λ (other : Option (List ℕ)). not (same_uid u other)) (uids (child ∷ next ∷ more))) (All-head P child (next ∷ more) are) ∙ any_none uid (child ∷ next ∷ more) are

-- what holds of all children holds of each group
pub record IsGroup (Q : List Mark → Type 0) (group : List (List Mark)) : Type 0 where
  pub each : All Q group
  pub one : AreOne (uids group)

kept_some : (uid : List ℕ) (before rest : List (List Mark)) (child : List Mark) → uid_of child ≡ Some uid → 0 < length (filter (has_uid uid) (before ++ child ∷ rest))
kept_some uid before rest child h =
    let first : filter (has_uid uid) (child ∷ rest) ≡ child ∷ filter (has_uid uid) rest = ap (λ (b : Bool). cond b (child ∷ filter (has_uid uid) rest) (filter (has_uid uid) rest)) (has_key uid child h) in
    let all : filter (has_uid uid) (before ++ child ∷ rest) ≡ filter (has_uid uid) before ++ (child ∷ filter (has_uid uid) rest) = filter-append (has_uid uid) before (child ∷ rest) ∙ ap (λ (cs : List (List Mark)). filter (has_uid uid) before ++ cs) first in
    omega (arith, ap length all, length-append (filter (has_uid uid) before) (child ∷ filter (has_uid uid) rest))

group_by : (Q : List Mark → Type 0) (key : Option (List ℕ)) (before rest : List (List Mark)) (child : List Mark) → uid_of child ≡ key → All Q (before ++ child ∷ rest) → Q child → IsGroup Q (together (before ++ child ∷ rest) child key)
unfolding together
group_by Q None before rest child is all one = record { each = All-cons Q child [] one (All-nil Q); one = tt }
group_by Q (Some uid) before rest child is all one = record {
  each = All-filter (has_uid uid) Q (before ++ child ∷ rest) all;
  one = one_of_key uid (filter (has_uid uid) (before ++ child ∷ rest)) (kept_some uid before rest child is) (one_key uid (filter (has_uid uid) (before ++ child ∷ rest)) (filter_passes (has_uid uid) (before ++ child ∷ rest)));
}

groups_by : (Q : List Mark → Type 0) (b : Bool) (group : List (List Mark)) (more : List (List (List Mark))) → IsGroup Q group → All (IsGroup Q) more → All (IsGroup Q) (cond b more (group ∷ more))
groups_by Q true group more one rest = rest
groups_by Q false group more one rest = All-cons (IsGroup Q) group more one rest

here_of : (Q : List Mark → Type 0) (before : List (List Mark)) (child : List Mark) (rest : List (List Mark)) → All Q (before ++ child ∷ rest) → Q child
here_of Q [] child rest all = All-head Q child rest all
here_of Q (first ∷ before) child rest all = here_of Q before child rest (All-tail Q first (before ++ child ∷ rest) all)

groups_each : (Q : List Mark → Type 0) (all before rest : List (List Mark)) → all ≡ before ++ rest → All Q all → All (IsGroup Q) (groups_behind all before rest)
unfolding groups_behind
groups_each Q all before [] is are = All-nil (IsGroup Q)
groups_each Q all before (child ∷ rest) is are =
    let here : All Q (before ++ child ∷ rest) = subst (λ (cs : List (List Mark)). All Q cs) is are in
    let one : Q child = here_of Q before child rest here in
    groups_by Q (list_any (λ other. same_uid (uid_of other) (uid_of child)) before) (together all child (uid_of child)) (groups_behind all (before ++ child ∷ []) rest)
    (subst (λ (cs : List (List Mark)). IsGroup Q (together cs child (uid_of child))) (sym is) (group_by Q (uid_of child) before rest child refl here one))
    (groups_each Q all (before ++ child ∷ []) rest (is ∙ sym (append_assoc before (child ∷ []) rest)) are)

pub each_group : (Q : List Mark → Type 0) (all : List (List Mark)) → All Q all → All (IsGroup Q) (groups all)
unfolding groups
each_group Q all are = groups_each Q all [] all refl are
