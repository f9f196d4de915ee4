-- What a listing has of an ident is what its index has.
use Rattle.std.proofs.Common.{◌≡◌, inl, inr, ℕ, zero, suc, List, [], ◌∷◌, Option, Some, None, IsSome, option_map, slice_get, refl, sym, ◌∙◌, ap, subst}
use Rattle.std.proofs.lemmas.Bool.{false≢true}
use Rattle.std.proofs.lemmas.List.Elements.{All-contains, All-weaker}
use Rattle.status_keeper.specs.declared.row.Row.{Row}
use Rattle.sync_plan.specs.declared.placing.Placed.{Placed}
use Rattle.sync_plan.specs.declared.report.Side.TheVariants.{A, B}
use Rattle.sync_plan.specs.declared.rules.Rules.{Rules}
use Rattle.sync_plan.specs.declared.seen.Seen.{Seen}
use Rattle.sync_plan.specs.declared.seen.Planned.{Planned}
use Rattle.sync_plan.specs.declared.seen.PlanError.{PlanError}
use Rattle.sync_plan.specs.declared.seen.PlanError.TheVariants.{SameIdent, NoMemory}
use Rattle.sync_plan.specs.Placing.{ident_in, place_in, IsEntryOf, IsIndexInOrder}
use Rattle.sync_plan.specs.Plans.{first_of, seen_of, IsPlaceOf, IsPlannedFor, HasNoTwin, IsPlan, planned_idents, IsTwinRefusal, IsPlanRefusal}
use Rattle.sync_plan.specs.Merging.{Within, IsMergedFor, IsMerged}
use Rattle.sync_plan.specs.Verdicts.{step_of}
use Rattle.sync_plan.proofs.Rising.{first_cases, within_from_contains, contains_from_within, row_is_first}
use Rattle.sync_plan.proofs.Indexes.{same_item, entry_at, no_twin}
use Rattle.sync_plan.proofs.Merges.{same_versions}

place_within : {X : Type 0} (xs : List X) (x : X) → Within x xs → (k : ℕ) × (slice_get xs k ≡ Some x)
place_within [] x h = elim h [ ]
place_within (y ∷ ys) x (inl same) = (zero, ap Some (sym same))
place_within (y ∷ ys) x (inr later) = let h = place_within ys x later in (suc h.0, h.1)

within_at : {X : Type 0} (xs : List X) (k : ℕ) (x : X) → slice_get xs k ≡ Some x → Within x xs
within_at [] k x e = cc
within_at (y ∷ ys) zero x e = let same : y ≡ x = cc in inl (sym same)
within_at (y ∷ ys) (suc k) x e = inr (within_at ys k x e)

record IsFound (ident : List ℕ) (list : List Seen) (o : Option Placed) : Type 0 where
  place : IsPlaceOf ident list (option_map place_in o)
  version : option_map (λ (x : Seen). (x.fp).0) (seen_of ident list) ≡ option_map (λ (e : Placed). (e.found.fp).0) o
  some : IsSome (seen_of ident list) → IsSome o
  back : IsSome o → IsSome (seen_of ident list)

found_none : (list : List Seen) (sorted : List Placed) (ident : List ℕ) → IsIndexInOrder list sorted → ((e : Placed) → Within e sorted → ident_in e ≡ ident → ⊥) → IsFound ident list None
found_none list sorted ident index none = record {
  place = seen_none;
  version = ap (option_map (λ (x : Seen). (x.fp).0)) seen_none;
  some = λ h. subst IsSome seen_none h;
  back = λ h. absurd (false≢true h);
}
  where
    seen_none : seen_of ident list ≡ None
    seen_none = elim (first_cases (λ (x : Seen). x.ident) ident list) [
      | inl n ↦ n.0
      | inr s ↦
          let at = place_within list s.0 s.2 in
          let e = entry_at list sorted at.0 s.0 index.each index.whole at.1 in
          absurd (none e.entry (within_from_contains sorted e.entry e.among) (e.same_ident ∙ s.3))
    ]

found_some : (list : List Seen) (sorted : List Placed) (ident : List ℕ) (e : Placed) → IsIndexInOrder list sorted → Within e sorted → ident_in e ≡ ident → IsFound ident list (Some e)
found_some list sorted ident e index among is = record {
  place = record { item = of.item; stands = of.stands; same_ident = own; is_first = seen };
  version = ap (option_map (λ (x : Seen). (x.fp).0)) seen ∙ ap Some of.same_version;
  some = λ h. refl;
  back = λ h. subst IsSome (sym seen) refl;
}
  where
    of : IsEntryOf list e
    of = All-contains (IsEntryOf list) sorted e index.each (contains_from_within sorted e among)

    own : of.item.ident ≡ ident
    own = of.same_ident ∙ is

    seen : seen_of ident list ≡ Some of.item
    seen = elim (first_cases (λ (x : Seen). x.ident) ident list) [
      | inl n ↦ absurd (n.1 of.item (within_at list (place_in e) of.item of.stands) own)
      | inr s ↦
          let at = place_within list s.0 s.2 in
          let once = no_twin list sorted index in
          let one : at.0 ≡ place_in e = once.once at.0 (place_in e) s.0 of.item at.1 of.stands (s.3 ∙ sym own) in
          s.1 ∙ ap Some (same_item list (place_in e) s.0 of.item (subst (λ (k : ℕ). slice_get list k ≡ Some s.0) one at.1) of.stands)
    ]

found : (list : List Seen) (sorted : List Placed) (ident : List ℕ) → IsIndexInOrder list sorted → IsFound ident list (first_of ident_in ident sorted)
found list sorted ident index = elim (first_cases ident_in ident sorted) [
  | inl n ↦ subst (λ (o : Option Placed). IsFound ident list o) (sym n.0) (found_none list sorted ident index n.1)
  | inr s ↦ subst (λ (o : Option Placed). IsFound ident list o) (sym s.1) (found_some list sorted ident s.0 index s.2 s.3)
]

planned_for : (a b : List Seen) (sorted_a sorted_b : List Placed) (rows : List Row) (rules : Rules) (p : Planned) → IsIndexInOrder a sorted_a → IsIndexInOrder b sorted_b → IsMergedFor sorted_a sorted_b rows rules p → IsPlannedFor a b rows rules p
planned_for a b sorted_a sorted_b rows rules p index_a index_b m =
    let found_a = found a sorted_a p.ident.now index_a in
    let found_b = found b sorted_b p.ident.now index_b in
    let row = row_is_first p.ident.now rows in
    record {
      named = elim m.listed [
        | inl h ↦ inl (found_a.back h)
        | inr (inl h) ↦ inr (inl (found_b.back h))
        | inr (inr h) ↦ inr (inr (subst IsSome (sym row) h))
      ];
      place_a = subst (λ (o : Option ℕ). IsPlaceOf p.ident.now a o) (sym m.place_a) found_a.place;
      place_b = subst (λ (o : Option ℕ). IsPlaceOf p.ident.now b o) (sym m.place_b) found_b.place;
      by_table = m.by_table ∙ ap (step_of rules) (same_versions _ _ _ _ _ _ (sym found_a.version) (sym found_b.version) (ap (option_map (λ (r : Row). (r.fp).0)) (sym row)));
    }

pub is_plan : (a b : List Seen) (sorted_a sorted_b : List Placed) (rows : List Row) (rules : Rules) (steps : List Planned) → IsIndexInOrder a sorted_a → IsIndexInOrder b sorted_b → IsMerged sorted_a sorted_b rows rules steps → IsPlan a b rows rules steps
is_plan a b sorted_a sorted_b rows rules steps index_a index_b m = record {
  each = All-weaker (IsMergedFor sorted_a sorted_b rows rules) (IsPlannedFor a b rows rules) (λ p h. planned_for a b sorted_a sorted_b rows rules p index_a index_b h) steps m.each;
  rising = m.rising;
  whole = λ ident named. contains_from_within (planned_idents steps) ident (m.whole ident (elim named [
    | inl h ↦ let f = found a sorted_a ident index_a in inl (f.some h)
    | inr (inl h) ↦ let f = found b sorted_b ident index_b in inr (inl (f.some h))
    | inr (inr h) ↦ inr (inr (subst IsSome (row_is_first ident rows) h))
  ]));
  once_a = no_twin a sorted_a index_a;
  once_b = no_twin b sorted_b index_b;
}

pub refused_b : (a b : List Seen) (e : PlanError) → HasNoTwin a → IsTwinRefusal B b e → IsPlanRefusal a b e
refused_b a b (SameIdent A ident first second) once h = absurd (let clash : A ≡ B = h.0 in cc)
refused_b a b (SameIdent B ident first second) once h = (once, h.1)
refused_b a b NoMemory once h = tt
