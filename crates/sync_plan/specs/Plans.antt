-- What a plan is: one step for each ident of two listings and the rows, by the table, with the places of its items; and why there is none (this project's own).
use Rattle.std.specs.Prelude.{◌≡◌, ◌<◌, ◌⊎◌, ℕ, List, [], ◌∷◌, Option, Some, None, IsSome, Contains, All, map, option_map, slice_get, if◌then◌else◌}
use Rattle.std.specs.Str.{bytes_eq}
use Rattle.status_keeper.specs.Idents.{Precedes, IsRising}
use Rattle.status_keeper.specs.Rows.{row_of}
use Rattle.status_keeper.specs.declared.row.Row.{Row}
use Rattle.sync_plan.specs.declared.report.Side.{Side}
use Rattle.sync_plan.specs.declared.report.Side.TheVariants.{A, B}
use Rattle.sync_plan.specs.declared.rules.Rules.{Rules}
use Rattle.sync_plan.specs.declared.seen.Seen.{Seen}
use Rattle.sync_plan.specs.declared.seen.Planned.{Planned}
use Rattle.sync_plan.specs.declared.seen.PlanError.{PlanError}
use Rattle.sync_plan.specs.declared.seen.PlanError.TheVariants.{SameIdent, NoMemory}
use Rattle.sync_plan.specs.Verdicts.{Versions, step_of}

-- the first that has the ident
abbrev pub first_of : {X : Type 0} → (X → List ℕ) → List ℕ → List X → Option X
first_of f ident [] = None
first_of f ident (x ∷ xs) = if bytes_eq (f x) ident then Some x else first_of f ident xs

-- the first item of a listing that has the ident
abbrev pub seen_of : List ℕ → List Seen → Option Seen
seen_of ident list = first_of (λ x. x.ident) ident list

-- what stands of an ident by two listings and the rows
abbrev pub versions_of : List ℕ → List Seen → List Seen → List Row → Versions
versions_of ident a b rows = record {
  a = option_map (λ x. (x.fp).0) (seen_of ident a);
  b = option_map (λ x. (x.fp).0) (seen_of ident b);
  s = option_map (λ r. (r.fp).0) (row_of ident rows);
}

-- at this place stands the item of the ident
pub record IsItemAt (ident : List ℕ) (list : List Seen) (place : ℕ) : Type 0 where
  pub item : Seen
  pub stands : slice_get list place ≡ Some item
  pub same_ident : item.ident ≡ ident
  pub is_first : seen_of ident list ≡ Some item

-- the place of the ident's item, or none of the listing has the ident
abbrev pub IsPlaceOf : List ℕ → List Seen → Option ℕ → Type 0
IsPlaceOf ident list None = seen_of ident list ≡ None
IsPlaceOf ident list (Some place) = IsItemAt ident list place

-- a listing or the rows have the ident
abbrev pub IsNamed : List ℕ → List Seen → List Seen → List Row → Type 0
IsNamed ident a b rows = IsSome (seen_of ident a) ⊎ IsSome (seen_of ident b) ⊎ IsSome (row_of ident rows)

-- the step is the table's for what stands of its ident
pub record IsPlannedFor (a b : List Seen) (rows : List Row) (rules : Rules) (p : Planned) : Type 0 where
  pub named : IsNamed p.ident.now a b rows
  pub place_a : IsPlaceOf p.ident.now a p.a
  pub place_b : IsPlaceOf p.ident.now b p.b
  pub by_table : p.step ≡ step_of rules (versions_of p.ident.now a b rows)

-- no two items of the listing have one ident
pub record HasNoTwin (list : List Seen) : Type 0 where
  pub once : (j k : ℕ) (x y : Seen) → slice_get list j ≡ Some x → slice_get list k ≡ Some y → x.ident ≡ y.ident → j ≡ k

abbrev pub planned_idents : List Planned → List (List ℕ)
planned_idents steps = map (λ p. p.ident.now) steps

-- a plan: the idents rise, and are all those that a listing or the rows have
pub record IsPlan (a b : List Seen) (rows : List Row) (rules : Rules) (steps : List Planned) : Type 0 where
  pub each : All (IsPlannedFor a b rows rules) steps
  pub rising : IsRising (planned_idents steps)
  pub whole : (ident : List ℕ) → IsNamed ident a b rows → Contains (planned_idents steps) ident
  pub once_a : HasNoTwin a
  pub once_b : HasNoTwin b

-- at this place stands an item of this ident and href
pub record StandsAt (ident href : List ℕ) (list : List Seen) (place : ℕ) : Type 0 where
  pub item : Seen
  pub stands : slice_get list place ≡ Some item
  pub same_ident : item.ident ≡ ident
  pub same_href : item.href ≡ href

-- two items have the ident, the first two in the listing's order with these hrefs; and no lesser ident comes twice
pub record IsFirstTwin (list : List Seen) (ident first second : List ℕ) : Type 0 where
  pub place : ℕ
  pub later : ℕ
  pub in_order : place < later
  pub stands_first : StandsAt ident first list place
  pub stands_second : StandsAt ident second list later
  pub first_two : (k : ℕ) (x : Seen) → slice_get list k ≡ Some x → x.ident ≡ ident → (k ≡ place) ⊎ (k ≡ later) ⊎ (later < k)
  pub least : (j k : ℕ) (x y : Seen) → slice_get list j ≡ Some x → slice_get list k ≡ Some y → x.ident ≡ y.ident → Precedes x.ident ident → j ≡ k

-- a refusal of this side's listing
abbrev pub IsTwinRefusal : Side → List Seen → PlanError → Type 0
IsTwinRefusal side list (SameIdent at ident first second) = (at ≡ side) × IsFirstTwin list ident first second
IsTwinRefusal side list NoMemory = Unit {0}

-- why there is no plan: side a is looked at before side b
abbrev pub IsPlanRefusal : List Seen → List Seen → PlanError → Type 0
IsPlanRefusal a b (SameIdent A ident first second) = IsFirstTwin a ident first second
IsPlanRefusal a b (SameIdent B ident first second) = HasNoTwin a × IsFirstTwin b ident first second
IsPlanRefusal a b NoMemory = Unit {0}
