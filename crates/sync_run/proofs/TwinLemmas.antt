-- A proper side, as it was read, has no two items of one ident.
use Rattle.std.proofs.Common.{◌≡◌, ℕ, zero, suc, List, [], ◌∷◌, map, slice_get, Option, Some, None, refl, sym, ap, ◌∙◌, subst, arith}
use Rattle.std.specs.List.{AllByRecursion}
use Rattle.std.specs.FinMap as fin
use Rattle.std.specs.FinMap.{entries_sorted}
use Rattle.std.specs.declared.vec.Vec.{Vec}
use Rattle.std.specs.declared.alloc.Global.{Global}
use Rattle.item_text.specs.Items.{ItemValue}
use Rattle.store_model.specs.declared.event.Held.{Held}
use Rattle.store_model.specs.declared.store.Entry.{Entry}
use Rattle.store_model.specs.declared.store.Fetched.{Fetched}
use Rattle.store_model.specs.Sides.{Content, IsTextOf, WasEdited}
use Rattle.status_keeper.specs.Idents.{Precedes, IsRising}
use Rattle.sync_plan.specs.declared.seen.Seen.{Seen}
use Rattle.sync_plan.specs.Merging.{Within}
use Rattle.sync_plan.specs.Plans.{IsFirstTwin, StandsAt}
use Rattle.sync_plan.proofs.Rising.{precedes_differs}
use Rattle.side_reads.specs.Holdings.{AreTaken}
use Rattle.side_views.specs.Views.{IsProperAt}
use Rattle.job_runs.specs.Courses.{Course, IsCourse, AreTrueRows}
use Rattle.job_runs.proofs.TakenLemmas.{taken_stood}
use Rattle.job_reads.specs.Readings.{Reads}
use Rattle.job_reads.proofs.TookLemmas.{each_taken}
use Rattle.job_traces.proofs.PlaceLemmas.{sorted_hrefs, seen_hrefs}
use Rattle.job_traces.proofs.StepLemmas.{within_slice}
use Rattle.sync_run.proofs.CalmLemmas.{calm_same}

-- ---- the hrefs of a listing rise, so each stands at one place

not_later : (q : List ℕ) (ss : List Seen) → AllByRecursion (λ y. Precedes q y) (map (λ (s : Seen). s.href) ss) → (k : ℕ) (y : Seen) → slice_get ss k ≡ Some y → q ≡ y.href → ⊥
not_later q [] all k y at same = let clash : None ≡ Some y = at in cc
not_later q (s ∷ ss) all zero y at same = let here : s ≡ y = cc in precedes_differs q s.href all.0 (same ∙ sym (ap (λ (x : Seen). x.href) here))
not_later q (s ∷ ss) all (suc k) y at same = not_later q ss all.1 k y at same

one_place : (ss : List Seen) → IsRising (map (λ (s : Seen). s.href) ss) → (j k : ℕ) (x y : Seen) → slice_get ss j ≡ Some x → slice_get ss k ≡ Some y → x.href ≡ y.href → j ≡ k
one_place [] up j k x y at_x at_y same = absurd (let clash : None ≡ Some x = at_x in cc)
one_place (s ∷ ss) up zero zero x y at_x at_y same = refl
one_place (s ∷ ss) up zero (suc k) x y at_x at_y same = let here : s ≡ x = cc in absurd (not_later s.href ss up.0 k y at_y (ap (λ (z : Seen). z.href) here ∙ same))
one_place (s ∷ ss) up (suc j) zero x y at_x at_y same = let here : s ≡ y = cc in absurd (not_later s.href ss up.0 j x at_x (ap (λ (z : Seen). z.href) here ∙ sym same))
one_place (s ∷ ss) up (suc j) (suc k) x y at_x at_y same = ap suc (one_place ss up.1 j k x y at_x at_y same)

-- ---- a side

-- an item of this ident stood at the href when the run began
pub record Stood (c : Course) (ident href : List ℕ) : Type 0 where
  pub held : Held
  pub here : fin.get (c.entry).content href ≡ Some held
  pub text : IsTextOf ident held.text

module _ (c : Course) (course : IsCourse c) (honest : AreTrueRows c) (calm : WasEdited c.entry c.exit → ⊥) (entries : Vec Entry Global) (fetched : Vec Fetched Global) (reads : Reads c.side c.rows entries fetched c.entry c.read) (ss : List Seen) (ts : List (Option ItemValue)) (taken : AreTaken c.side c.rows fetched.items entries.items ss ts) where
  rising : IsRising (map (λ (s : Seen). s.href) ss)
  rising = subst IsRising (sym (seen_hrefs c.side c.rows fetched.items (fin.entries (reads.listed).content) ss ts (subst (λ (es : List Entry). AreTaken c.side c.rows fetched.items es ss ts) reads.is_listing.1 taken))) (sorted_hrefs (fin.entries (reads.listed).content) (entries_sorted (reads.listed).content))

  stood : (x : Seen) → Within x ss → Stood c x.ident x.href
  stood x within =
      let at = taken_stood c x.ident (x.fp).0 x.href x.etag course honest (each_taken c entries fetched reads ss ts taken x within) in
      let same = calm_same at.moment calm course.reads course.later at.from at.until in
      record { held = (at.was).held; here = ap (λ (k : Content). fin.get k x.href) (sym same.0) ∙ (at.was).here; text = ((at.was).item, (at.was).is_item, (at.was).same_ident) }

  stood_twin : (ident href : List ℕ) (place : ℕ) (at : StandsAt ident href ss place) → Stood c ident (at.item).href
  stood_twin ident href place at = subst (λ (i : List ℕ). Stood c i (at.item).href) at.same_ident (stood at.item (within_slice ss place at.item at.stands))

  pub no_twin : ((ident : List ℕ) → IsProperAt ident c.entry) → (ident first second : List ℕ) → IsFirstTwin ss ident first second → ⊥
  no_twin proper ident first second twin =
      let x = stood_twin ident first twin.place twin.stands_first in
      let y = stood_twin ident second twin.later twin.stands_second in
      let same = (proper ident).once ((twin.stands_first).item).href ((twin.stands_second).item).href x.held y.held x.here y.here x.text y.text in
      let one : twin.place ≡ twin.later = one_place ss rising twin.place twin.later (twin.stands_first).item (twin.stands_second).item (twin.stands_first).stands (twin.stands_second).stands same in
      omega (arith, one, twin.in_order)
