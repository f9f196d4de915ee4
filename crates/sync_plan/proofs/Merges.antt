-- Three lists in byte order of idents, taken together ident by ident.
use Rattle.std.proofs.Common.{◌≡◌, inl, inr, ℕ, ◌<◌, ◌≤◌, ◌+◌, List, [], ◌∷◌, ◌++◌, Option, Some, None, IsSome, All, option_map, length, refl, sym, ◌∙◌, ap, subst, arith}
use Rattle.std.specs.List.{AllByRecursion}
use Rattle.std.proofs.lemmas.Bool.{false≢true}
use Rattle.std.proofs.lemmas.List.{map-append}
use Rattle.std.proofs.lemmas.List.Elements.{All-push}
use Rattle.item_text.specs.declared.fp.Fp.{Fp}
use Rattle.status_keeper.specs.Idents.{Precedes, IsRising}
use Rattle.status_keeper.specs.declared.row.Row.{Row}
use Rattle.sync_plan.specs.declared.placing.Found.{Found}
use Rattle.sync_plan.specs.declared.placing.Placed.{Placed}
use Rattle.sync_plan.specs.declared.rules.Rules.{Rules}
use Rattle.sync_plan.specs.declared.seen.Planned.{Planned}
use Rattle.sync_plan.specs.Placing.{ident_in, place_in}
use Rattle.sync_plan.specs.Plans.{first_of, planned_idents}
use Rattle.sync_plan.specs.Merging.{row_ident, found_in, head_ident, least_text, head_of, rest_of, Within, IsListed, IsMergedFor, IsMerged}
use Rattle.sync_plan.specs.Verdicts.{Versions, version_in, versions_in, step_of}
use Rattle.sync_plan.proofs.Rising.{AtLeast, IsLeast, least_of_three, least_none, rising_push, rest_shorter, rest_no_longer, no_head, head_listed, Left, left_more, left_found, done_before, not_done, all_done}

-- ---- what is known of an option

twice : {X Y Z : Type 0} (g : Y → Z) (f : X → Y) (o : Option X) → option_map g (option_map f o) ≡ option_map (λ x. g (f x)) o
twice g f None = refl
twice g f (Some x) = refl

is_some_of : {X : Type 0} (o : Option X) → IsSome o → (x : X) × (o ≡ Some x)
is_some_of None h = absurd (false≢true h)
is_some_of (Some x) h = (x, refl)

some_is : {X : Type 0} (o : Option X) (x : X) → o ≡ Some x → IsSome o
some_is o x e = subst IsSome (sym e) refl

abbrev pub versions : Option (List ℕ) → Option (List ℕ) → Option (List ℕ) → Versions
versions a b s = record { a = a; b = b; s = s }

pub same_versions : (a a' b b' s s' : Option (List ℕ)) → a ≡ a' → b ≡ b' → s ≡ s' → versions a b s ≡ versions a' b' s'
same_versions a a' b b' s s' at_a at_b at_s =
    ap (λ (o : Option (List ℕ)). versions o b s) at_a ∙ (ap (λ (o : Option (List ℕ)). versions a' o s) at_b ∙ ap (λ (o : Option (List ℕ)). versions a' b' o) at_s)

found_version : (o : Option Placed) → version_in (option_map (λ (f : Found). f.fp) (option_map found_in o)) ≡ option_map (λ (e : Placed). (e.found.fp).0) o
found_version None = refl
found_version (Some e) = refl

row_version : (o : Option Row) → version_in (option_map (λ (r : Row). r.fp) o) ≡ option_map (λ (r : Row). (r.fp).0) o
row_version None = refl
row_version (Some r) = refl

-- ---- the loop

-- the steps so far, and what is left of the lists
pub record Merging (a b : List Placed) (rows : List Row) (rules : Rules) (rest_a rest_b : List Placed) (rest_rows : List Row) (steps : List Planned) : Type 0 where
  pub left_a : Left ident_in a rest_a (planned_idents steps)
  pub left_b : Left ident_in b rest_b (planned_idents steps)
  pub left_rows : Left row_ident rows rest_rows (planned_idents steps)
  pub rising : IsRising (planned_idents steps)
  pub each : All (IsMergedFor a b rows rules) steps

-- the next ident, and what is taken of it
pub record IsNext (rest_a rest_b : List Placed) (rest_rows : List Row) (rules : Rules) (n : List ℕ) (p : Planned) : Type 0 where
  pub least : least_text (least_text (head_ident ident_in rest_a) (head_ident ident_in rest_b)) (head_ident row_ident rest_rows) ≡ Some n
  pub found_a : Option Found
  pub found_b : Option Found
  pub row : Option Fp
  pub is_a : found_a ≡ option_map found_in (head_of ident_in n rest_a)
  pub is_b : found_b ≡ option_map found_in (head_of ident_in n rest_b)
  pub is_row : row ≡ option_map (λ (r : Row). r.fp) (head_of row_ident n rest_rows)
  pub ident : p.ident.now ≡ n
  pub place_a : p.a ≡ option_map (λ (f : Found). f.place) found_a
  pub place_b : p.b ≡ option_map (λ (f : Found). f.place) found_b
  pub by_table : p.step ≡ step_of rules (versions_in (option_map (λ (f : Found). f.fp) found_a) (option_map (λ (f : Found). f.fp) found_b) row)

listed_next : (a b : List Placed) (rows : List Row) (rest_a rest_b : List Placed) (rest_rows : List Row) (n : List ℕ) → IsLeast n (head_ident ident_in rest_a) (head_ident ident_in rest_b) (head_ident row_ident rest_rows) → head_of ident_in n rest_a ≡ first_of ident_in n a → head_of ident_in n rest_b ≡ first_of ident_in n b → head_of row_ident n rest_rows ≡ first_of row_ident n rows → IsListed n a b rows
listed_next a b rows rest_a rest_b rest_rows n least at_a at_b at_rows = elim least.is_one [
  | inl e ↦ let h = head_listed ident_in n rest_a e in inl (some_is (first_of ident_in n a) h.0 (sym at_a ∙ h.1))
  | inr (inl e) ↦ let h = head_listed ident_in n rest_b e in inr (inl (some_is (first_of ident_in n b) h.0 (sym at_b ∙ h.1)))
  | inr (inr e) ↦ let h = head_listed row_ident n rest_rows e in inr (inr (some_is (first_of row_ident n rows) h.0 (sym at_rows ∙ h.1)))
]

merged_for : (a b : List Placed) (rows : List Row) (rules : Rules) (rest_a rest_b : List Placed) (rest_rows : List Row) (n : List ℕ) (p : Planned) → IsNext rest_a rest_b rest_rows rules n p → IsListed n a b rows → head_of ident_in n rest_a ≡ first_of ident_in n a → head_of ident_in n rest_b ≡ first_of ident_in n b → head_of row_ident n rest_rows ≡ first_of row_ident n rows → IsMergedFor a b rows rules p
merged_for a b rows rules rest_a rest_b rest_rows n p next listed at_a at_b at_rows =
    let is_a : next.found_a ≡ option_map found_in (first_of ident_in n a) = next.is_a ∙ ap (option_map found_in) at_a in
    let is_b : next.found_b ≡ option_map found_in (first_of ident_in n b) = next.is_b ∙ ap (option_map found_in) at_b in
    let is_row : next.row ≡ option_map (λ (r : Row). r.fp) (first_of row_ident n rows) = next.is_row ∙ ap (option_map (λ (r : Row). r.fp)) at_rows in
    let same : versions_in (option_map (λ (f : Found). f.fp) next.found_a) (option_map (λ (f : Found). f.fp) next.found_b) next.row ≡ versions (option_map (λ (e : Placed). (e.found.fp).0) (first_of ident_in n a)) (option_map (λ (e : Placed). (e.found.fp).0) (first_of ident_in n b)) (option_map (λ (r : Row). (r.fp).0) (first_of row_ident n rows)) =
    same_versions _ _ _ _ _ _
    (ap (λ (o : Option Found). version_in (option_map (λ (f : Found). f.fp) o)) is_a ∙ found_version (first_of ident_in n a))
    (ap (λ (o : Option Found). version_in (option_map (λ (f : Found). f.fp) o)) is_b ∙ found_version (first_of ident_in n b))
    (ap version_in is_row ∙ row_version (first_of row_ident n rows))
    in
    record {
      listed = subst (λ (i : List ℕ). IsListed i a b rows) (sym next.ident) listed;
      place_a = subst (λ (i : List ℕ). p.a ≡ option_map place_in (first_of ident_in i a)) (sym next.ident) (next.place_a ∙ (ap (option_map (λ (f : Found). f.place)) is_a ∙ twice (λ (f : Found). f.place) found_in (first_of ident_in n a)));
      place_b = subst (λ (i : List ℕ). p.b ≡ option_map place_in (first_of ident_in i b)) (sym next.ident) (next.place_b ∙ (ap (option_map (λ (f : Found). f.place)) is_b ∙ twice (λ (f : Found). f.place) found_in (first_of ident_in n b)));
      by_table = subst (λ (i : List ℕ). p.step ≡ step_of rules (versions (option_map (λ (e : Placed). (e.found.fp).0) (first_of ident_in i a)) (option_map (λ (e : Placed). (e.found.fp).0) (first_of ident_in i b)) (option_map (λ (r : Row). (r.fp).0) (first_of row_ident i rows)))) (sym next.ident) (next.by_table ∙ ap (step_of rules) same);
    }

left_next : {X : Type 0} (f : X → List ℕ) (n : List ℕ) (all rest rest' : List X) (steps steps' : List Planned) → Left f all rest (planned_idents steps) → AtLeast n (head_ident f rest) → rest' ≡ rest_of f n rest → planned_idents steps' ≡ planned_idents steps ++ n ∷ [] → Left f all rest' (planned_idents steps')
left_next {X} f n all rest rest' steps steps' left least is idents =
    subst (λ (l : List X). Left f all l (planned_idents steps')) (sym is) (subst (λ (d : List (List ℕ)). Left f all (rest_of f n rest) d) (sym idents) (left_more f n all rest (planned_idents steps) left least))

pub merging_more : (a b : List Placed) (rows : List Row) (rules : Rules) (rest_a rest_b rest_a' rest_b' : List Placed) (rest_rows rest_rows' : List Row) (steps steps' : List Planned) (n : List ℕ) (p : Planned) → Merging a b rows rules rest_a rest_b rest_rows steps → IsNext rest_a rest_b rest_rows rules n p → rest_a' ≡ rest_of ident_in n rest_a → rest_b' ≡ rest_of ident_in n rest_b → rest_rows' ≡ rest_of row_ident n rest_rows → steps' ≡ steps ++ p ∷ [] → Merging a b rows rules rest_a' rest_b' rest_rows' steps'
merging_more a b rows rules rest_a rest_b rest_a' rest_b' rest_rows rest_rows' steps steps' n p m next is_a is_b is_rows pushed =
    let least = least_of_three (head_ident ident_in rest_a) (head_ident ident_in rest_b) (head_ident row_ident rest_rows) n next.least in
    let done : List (List ℕ) = planned_idents steps in
    let before : AllByRecursion (λ s. Precedes s n) done = elim least.is_one [
      | inl e ↦ done_before ident_in n a rest_a done m.left_a e
      | inr (inl e) ↦ done_before ident_in n b rest_b done m.left_b e
      | inr (inr e) ↦ done_before row_ident n rows rest_rows done m.left_rows e
    ] in
    let not = not_done n done before in
    let at_a = left_found ident_in n a rest_a done m.left_a least.first not in
    let at_b = left_found ident_in n b rest_b done m.left_b least.second not in
    let at_rows = left_found row_ident n rows rest_rows done m.left_rows least.third not in
    let idents : planned_idents steps' ≡ done ++ n ∷ [] = ap planned_idents pushed ∙ (map-append (λ (q : Planned). q.ident.now) steps (p ∷ []) ∙ ap (λ (i : List ℕ). done ++ i ∷ []) next.ident) in
    record {
      left_a = left_next ident_in n a rest_a rest_a' steps steps' m.left_a least.first is_a idents;
      left_b = left_next ident_in n b rest_b rest_b' steps steps' m.left_b least.second is_b idents;
      left_rows = left_next row_ident n rows rest_rows rest_rows' steps steps' m.left_rows least.third is_rows idents;
      rising = subst IsRising (sym idents) (rising_push done n m.rising before);
      each = subst (λ (l : List Planned). All (IsMergedFor a b rows rules) l) (sym pushed) (All-push (IsMergedFor a b rows rules) steps p m.each (merged_for a b rows rules rest_a rest_b rest_rows n p next (listed_next a b rows rest_a rest_b rest_rows n least at_a at_b at_rows) at_a at_b at_rows));
    }

-- the lists get shorter
pub fewer : (rest_a rest_b rest_a' rest_b' : List Placed) (rest_rows rest_rows' : List Row) (n : List ℕ) → least_text (least_text (head_ident ident_in rest_a) (head_ident ident_in rest_b)) (head_ident row_ident rest_rows) ≡ Some n → rest_a' ≡ rest_of ident_in n rest_a → rest_b' ≡ rest_of ident_in n rest_b → rest_rows' ≡ rest_of row_ident n rest_rows → length rest_a' + length rest_b' + length rest_rows' < length rest_a + length rest_b + length rest_rows
fewer rest_a rest_b rest_a' rest_b' rest_rows rest_rows' n e is_a is_b is_rows =
    let least = least_of_three (head_ident ident_in rest_a) (head_ident ident_in rest_b) (head_ident row_ident rest_rows) n e in
    let in_a : length rest_a' ≤ length rest_a = subst (λ (l : List Placed). length l ≤ length rest_a) (sym is_a) (rest_no_longer ident_in n rest_a) in
    let in_b : length rest_b' ≤ length rest_b = subst (λ (l : List Placed). length l ≤ length rest_b) (sym is_b) (rest_no_longer ident_in n rest_b) in
    let in_rows : length rest_rows' ≤ length rest_rows = subst (λ (l : List Row). length l ≤ length rest_rows) (sym is_rows) (rest_no_longer row_ident n rest_rows) in
    elim least.is_one [
      | inl h ↦ let one : length rest_a' + 1 ≡ length rest_a = ap (λ (l : List Placed). length l + 1) is_a ∙ rest_shorter ident_in n rest_a h in omega arith
      | inr (inl h) ↦ let one : length rest_b' + 1 ≡ length rest_b = ap (λ (l : List Placed). length l + 1) is_b ∙ rest_shorter ident_in n rest_b h in omega arith
      | inr (inr h) ↦ let one : length rest_rows' + 1 ≡ length rest_rows = ap (λ (l : List Row). length l + 1) is_rows ∙ rest_shorter row_ident n rest_rows h in omega arith
    ]

done_all : {X : Type 0} (f : X → List ℕ) (ident : List ℕ) (all rest : List X) (done : List (List ℕ)) → Left f all rest done → rest ≡ [] → IsSome (first_of f ident all) → Within ident done
done_all {X} f ident all rest done left none some =
    let h = is_some_of (first_of f ident all) some in
    all_done f ident all done h.0 (subst (λ (l : List X). Left f all l done) none left) h.1

pub merging_end : (a b : List Placed) (rows : List Row) (rules : Rules) (rest_a rest_b : List Placed) (rest_rows : List Row) (steps : List Planned) → Merging a b rows rules rest_a rest_b rest_rows steps → least_text (least_text (head_ident ident_in rest_a) (head_ident ident_in rest_b)) (head_ident row_ident rest_rows) ≡ None → IsMerged a b rows rules steps
merging_end a b rows rules rest_a rest_b rest_rows steps m e =
    let outer = least_none (least_text (head_ident ident_in rest_a) (head_ident ident_in rest_b)) (head_ident row_ident rest_rows) e in
    let inner = least_none (head_ident ident_in rest_a) (head_ident ident_in rest_b) outer.0 in
    record {
      each = m.each;
      rising = m.rising;
      whole = λ ident h. elim h [
        | inl some ↦ done_all ident_in ident a rest_a (planned_idents steps) m.left_a (no_head ident_in rest_a inner.0) some
        | inr (inl some) ↦ done_all ident_in ident b rest_b (planned_idents steps) m.left_b (no_head ident_in rest_b inner.1) some
        | inr (inr some) ↦ done_all row_ident ident rows rest_rows (planned_idents steps) m.left_rows (no_head row_ident rest_rows outer.1) some
      ];
    }
