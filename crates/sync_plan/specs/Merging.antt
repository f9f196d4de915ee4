-- Three lists in byte order of idents taken together, ident by ident (what the functions of a plan say to each other).
use Rattle.std.specs.Prelude.{◌≡◌, ◌⊎◌, ℕ, List, [], ◌∷◌, Option, Some, None, IsSome, All, option_map, if◌then◌else◌}
use Rattle.std.specs.Borrow.{Bor}
use Rattle.std.specs.Ordering.{is_lt, nat_cmp}
use Rattle.std.specs.Cmp.Lexicographic.{slice_cmp}
use Rattle.std.specs.Str.{bytes_eq}
use Rattle.status_keeper.specs.Idents.{IsRising}
use Rattle.status_keeper.specs.declared.row.Row.{Row}
use Rattle.sync_plan.specs.declared.placing.Found.{Found}
use Rattle.sync_plan.specs.declared.placing.Placed.{Placed}
use Rattle.sync_plan.specs.declared.rules.Rules.{Rules}
use Rattle.sync_plan.specs.declared.seen.Planned.{Planned}
use Rattle.sync_plan.specs.Placing.{ident_in, place_in}
use Rattle.sync_plan.specs.Plans.{first_of, planned_idents}
use Rattle.sync_plan.specs.Verdicts.{step_of}

abbrev pub row_ident : Row → List ℕ
row_ident r = r.ident

abbrev pub found_in : Placed → Found
found_in e = e.found

abbrev pub texts : Option (Bor (List ℕ)) → Option (List ℕ)
texts None = None
texts (Some t) = Some t.now

abbrev pub head_ident : {X : Type 0} → (X → List ℕ) → List X → Option (List ℕ)
head_ident f [] = None
head_ident f (x ∷ xs) = Some (f x)

-- the lesser of two, where none is the greatest
abbrev pub least_text : Option (List ℕ) → Option (List ℕ) → Option (List ℕ)
least_text None y = y
least_text (Some x) None = Some x
least_text (Some x) (Some y) = if is_lt (slice_cmp nat_cmp y x) then Some y else Some x

-- the first where it has the ident, and what is left behind it
abbrev pub head_of : {X : Type 0} → (X → List ℕ) → List ℕ → List X → Option X
head_of f ident [] = None
head_of f ident (x ∷ xs) = if bytes_eq (f x) ident then Some x else None

abbrev pub rest_of : {X : Type 0} → (X → List ℕ) → List ℕ → List X → List X
rest_of f ident [] = []
rest_of f ident (x ∷ xs) = if bytes_eq (f x) ident then xs else x ∷ xs

-- by recursion, to be an element
abbrev pub Within : {X : Type 0} → X → List X → Type 0
Within x [] = ⊥
Within x (y ∷ ys) = (x ≡ y) ⊎ Within x ys

-- one of the three has the ident
abbrev pub IsListed : List ℕ → List Placed → List Placed → List Row → Type 0
IsListed ident a b rows = IsSome (first_of ident_in ident a) ⊎ IsSome (first_of ident_in ident b) ⊎ IsSome (first_of row_ident ident rows)

-- the step is the table's for what the lists have of its ident
pub record IsMergedFor (a b : List Placed) (rows : List Row) (rules : Rules) (p : Planned) : Type 0 where
  pub listed : IsListed p.ident.now a b rows
  pub place_a : p.a ≡ option_map place_in (first_of ident_in p.ident.now a)
  pub place_b : p.b ≡ option_map place_in (first_of ident_in p.ident.now b)
  pub by_table : p.step ≡ step_of rules (record {
    a = option_map (λ e. (e.found.fp).0) (first_of ident_in p.ident.now a);
    b = option_map (λ e. (e.found.fp).0) (first_of ident_in p.ident.now b);
    s = option_map (λ r. (r.fp).0) (first_of row_ident p.ident.now rows);
  })

pub record IsMerged (a b : List Placed) (rows : List Row) (rules : Rules) (steps : List Planned) : Type 0 where
  pub each : All (IsMergedFor a b rows rules) steps
  pub rising : IsRising (planned_idents steps)
  pub whole : (ident : List ℕ) → IsListed ident a b rows → Within ident (planned_idents steps)
