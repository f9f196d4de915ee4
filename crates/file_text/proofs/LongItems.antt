-- LongItems: the lengths of the items of a joined file, one child more.
use Rattle.std.proofs.Common.{◌≡◌, ℕ, ◌+◌, ◌<◌, ◌≤◌, ◌^◌, Bool, true, false, cond, ◌||◌, nat_lt, List, [], ◌∷◌, ◌++◌, filter, length, Option, Some, None, refl, sym, ◌∙◌, ap, arith, append-nil}
use Rattle.std.specs.Str.{bytes_eq}
use Rattle.std.proofs.lemmas.Bool.Decides.{nat_tests}
use Rattle.std.proofs.lemmas.List.{length-append}
use Rattle.std.proofs.lemmas.List.Concat.{flat_map-append}
use Rattle.std.proofs.lemmas.List.Elements.{filter-append}
use Rattle.std.proofs.lemmas.List.Folds.{list_any-append}
use Rattle.std.specs.BTreeMap.{BTreeMap}
use Rattle.std.specs.declared.string.String.{String}
use Rattle.std.specs.declared.alloc.Global.{Global}
use Rattle.file_text.specs.Lengths.{sum_at, AreSums, is_longer, is_any_longer}
use Rattle.file_text.specs.Parts.{uid_of, has_uid, together}
use Rattle.file_text.specs.Written.{written, all_written}
use Rattle.file_text.specs.declared.marks.Mark.{Mark}
use Rattle.std.proofs.lemmas.Slice.Eq.{bytes_eq-Decides}
use Rattle.file_text.proofs.ByUid.{flipped, has_its_uid, has_none}
use Rattle.file_text.proofs.GroupsApart.{same_is}

all_more : (xs ys : List (List Mark)) → length (all_written (xs ++ ys)) ≡ length (all_written xs) + length (all_written ys)
unfolding all_written
all_more xs ys = ap length (flat_map-append written xs ys) ∙ length-append (all_written xs) (all_written ys)

one_long : (child : List Mark) → length (all_written (child ∷ [])) ≡ length (written child)
unfolding all_written
one_long child = ap length (append-nil (written child))

filter_one : (b : Bool) (uid : List ℕ) (child : List Mark) → has_uid uid child ≡ b → filter (has_uid uid) (child ∷ []) ≡ cond b (child ∷ []) []
filter_one b uid child h = ap (λ (t : Bool). cond t (child ∷ []) []) h

long_by : (b : Bool) (child : List Mark) → length (all_written (cond b (child ∷ []) [])) ≡ cond b (length (written child)) 0
unfolding all_written
long_by true child = one_long child
long_by false child = refl

-- the bytes of a UID, with a child more
sum_more : (all : List (List Mark)) (child : List Mark) (uid : List ℕ) (b : Bool) → has_uid uid child ≡ b → length (all_written (filter (has_uid uid) (all ++ child ∷ []))) ≡ length (all_written (filter (has_uid uid) all)) + cond b (length (written child)) 0
sum_more all child uid b h =
    ap (λ (cs : List (List Mark)). length (all_written cs)) (filter-append (has_uid uid) all (child ∷ []) ∙ ap (λ (cs : List (List Mark)). filter (has_uid uid) all ++ cs) (filter_one b uid child h))
    ∙ (all_more (filter (has_uid uid) all) (cond b (child ∷ []) []) ∙ ap (λ (n : ℕ). length (all_written (filter (has_uid uid) all)) + n) (long_by b child))

few_by : (b : Bool) (uid : List ℕ) (child : List Mark) (more rest : List (List Mark)) → length (all_written more) ≤ length (all_written rest) → length (all_written (cond b (child ∷ more) more)) ≤ length (all_written (child ∷ rest))
unfolding all_written
few_by true uid child more rest h = omega (arith, h, length-append (written child) (all_written more), length-append (written child) (all_written rest))
few_by false uid child more rest h = omega (arith, h, length-append (written child) (all_written rest))

filtered_few : (uid : List ℕ) (all : List (List Mark)) → length (all_written (filter (has_uid uid) all)) ≤ length (all_written all)
filtered_few uid [] = omega arith
filtered_few uid (child ∷ rest) = few_by (has_uid uid child) uid child (filter (has_uid uid) rest) rest (filtered_few uid rest)

module _ (old : BTreeMap (String Global) ℕ) (child : List Mark) (uid : List ℕ) (count : ℕ) (named : Some uid ≡ uid_of child) (all : List (List Mark)) (is : count ≡ length (written child)) (fits : length (all_written all) + count < 2 ^ 64) (are : AreSums old all) where
  below : sum_at old uid + count < 2 ^ 64
  below = omega (arith, fits, are.each uid, filtered_few uid all)

  summed : (b : Bool) (q : List ℕ) → bytes_eq q uid ≡ b → cond b (sum_at old q + count) (sum_at old q) ≡ length (all_written (filter (has_uid q) (all ++ child ∷ [])))
  summed true q h = omega (arith, are.each q, is, sum_more all child q true (has_its_uid q child uid named ∙ (flipped uid q ∙ h)))
  summed false q h = omega (arith, are.each q, sum_more all child q false (has_its_uid q child uid named ∙ (flipped uid q ∙ h)))

  pub sums_named : (new : BTreeMap (String Global) ℕ) → ((q : List ℕ) → sum_at old uid + count < 2 ^ 64 → sum_at new q ≡ cond (bytes_eq q uid) (sum_at old q + count) (sum_at old q)) → AreSums new (all ++ child ∷ [])
  sums_named new sums = record { each = λ q. sums q below ∙ summed (bytes_eq q uid) q refl }

  pub sum_named : (sum : ℕ) → (sum_at old uid + count < 2 ^ 64 → sum ≡ sum_at old uid + count) → sum ≡ length (all_written (together (all ++ child ∷ []) child (uid_of child)))
  unfolding together
  sum_named sum told =
      told below ∙ (omega (arith, are.each uid, is, sum_more all child uid true (has_its_uid uid child uid named ∙ (bytes_eq-Decides uid uid).1 refl))
      ∙ ap (λ (u : Option (List ℕ)). length (all_written (together (all ++ child ∷ []) child u))) named)

module _ (by_uid : BTreeMap (String Global) ℕ) (child : List Mark) (none : None ≡ uid_of child) (all : List (List Mark)) where
  pub sums_none : AreSums by_uid all → AreSums by_uid (all ++ child ∷ [])
  sums_none are = record { each = λ q. omega (arith, are.each q, sum_more all child q false (has_none q child none)) }

  pub sum_none : (count : ℕ) → count ≡ length (written child) → count ≡ length (all_written (together (all ++ child ∷ []) child (uid_of child)))
  unfolding together
  sum_none count is = is ∙ (sym (one_long child) ∙ ap (λ (u : Option (List ℕ)). length (all_written (together (all ++ child ∷ []) child u))) none)

pub none_less : (n : ℕ) → nat_lt n 0 ≡ false
none_less n = grind (arith, nat_tests)

pub or_true : (b : Bool) → (b || true) ≡ true
or_true true = refl
or_true false = refl

pub or_false : (b : Bool) → (b || false) ≡ b
or_false true = refl
or_false false = refl

or_more : (x y s t b : Bool) → (x || b) ≡ (y || b) → (s || b) ≡ (t || b) → ((x || s) || b) ≡ ((y || t) || b)
or_more x y s t true h k = or_true (x || s) ∙ sym (or_true (y || t))
or_more x y s t false h k =
    or_false (x || s) ∙ (ap (λ (z : Bool). z || s) (sym (or_false x) ∙ (h ∙ or_false y)) ∙ (ap (λ (z : Bool). y || z) (sym (or_false s) ∙ (k ∙ or_false t)) ∙ sym (or_false (y || t))))

less_more : (n p q : ℕ) → p ≤ q → (nat_lt n q || nat_lt n q) ≡ (nat_lt n p || nat_lt n q)
less_more n p q h = by (nat_lt n p) (nat_lt n q) (λ e. grind (arith, nat_tests))
  where
    by : (s t : Bool) → (s ≡ true → t ≡ true) → (t || t) ≡ (s || t)
    by true true k = refl
    by true false k = k refl
    by false true k = refl
    by false false k = refl

-- with a child more, just the children of its UID come to be more
module _ (n sum : ℕ) (all : List (List Mark)) (child : List Mark) (sum_is : sum ≡ length (all_written (together (all ++ child ∷ []) child (uid_of child)))) where
  named_by : (b : Bool) (uid : List ℕ) → has_uid uid child ≡ b → (is_longer n (filter (has_uid uid) (all ++ child ∷ [])) || nat_lt n sum) ≡ (is_longer n (filter (has_uid uid) all) || nat_lt n sum)
  unfolding together
  named_by true uid h =
      let same : sum ≡ length (all_written (filter (has_uid uid) (all ++ child ∷ []))) = sum_is ∙ ap (λ (u : Option (List ℕ)). length (all_written (together (all ++ child ∷ []) child u))) (same_is (uid_of child) (Some uid) h) in
      let more : length (all_written (filter (has_uid uid) all)) ≤ sum = omega (arith, same, sum_more all child uid true h) in
      ap (λ (m : ℕ). nat_lt n m || nat_lt n sum) (sym same) ∙ less_more n (length (all_written (filter (has_uid uid) all))) sum more
  named_by false uid h =
      let same : length (all_written (filter (has_uid uid) (all ++ child ∷ []))) ≡ length (all_written (filter (has_uid uid) all)) = omega (arith, sum_more all child uid false h) in
      ap (λ (m : ℕ). nat_lt n m || nat_lt n sum) same

  one_by : (other : List Mark) (uid : Option (List ℕ)) → (is_longer n (together (all ++ child ∷ []) other uid) || nat_lt n sum) ≡ (is_longer n (together all other uid) || nat_lt n sum)
  unfolding together
  one_by other None = refl
  one_by other (Some uid) = named_by (has_uid uid child) uid refl

  any_by : (some : List (List Mark)) → (is_any_longer n (all ++ child ∷ []) some || nat_lt n sum) ≡ (is_any_longer n all some || nat_lt n sum)
  any_by [] = refl
  any_by (other ∷ rest) =
      or_more (is_longer n (together (all ++ child ∷ []) other (uid_of other))) (is_longer n (together all other (uid_of other))) (is_any_longer n (all ++ child ∷ []) rest) (is_any_longer n all rest) (nat_lt n sum) (one_by other (uid_of other)) (any_by rest)

  pub longest_more : (old : ℕ) → nat_lt n old ≡ is_any_longer n all all → (nat_lt n old || nat_lt n sum) ≡ is_any_longer n (all ++ child ∷ []) (all ++ child ∷ [])
  longest_more old is =
      ap (λ (b : Bool). b || nat_lt n sum) is
      ∙ (sym (any_by all)
      ∙ (ap (λ (m : ℕ). is_any_longer n (all ++ child ∷ []) all || nat_lt n m) sum_is
      ∙ (ap (λ (b : Bool). is_any_longer n (all ++ child ∷ []) all || b) (sym (or_false (is_longer n (together (all ++ child ∷ []) child (uid_of child)))))
      ∙ sym (list_any-append (λ c. is_longer n (together (all ++ child ∷ []) c (uid_of c))) all (child ∷ [])))))
