-- What stands in slots that were made of a list.
use Rattle.std.proofs.Common.{◌≡◌, ◌≢◌, ℕ, zero, suc, List, [], ◌∷◌, map, Option, Some, None, Bool, true, false, refl, ap, sym, ◌∙◌, subst, arith}
use Rattle.std.specs.Prelude.{Contains, AllPairs}
use Rattle.std.specs.Str.{bytes_eq}
use Rattle.outfits.specs.declared.slots.Slot.{Slot}
use Rattle.outfits.specs.Places.{StandAs, IsWhole}
use Rattle.outfits.specs.Slots.{held_at, place_held, places_of, slot_of}
use Rattle.outfits.proofs.SlotLemmas.{eq_itself, other_bytes}

module _ {D : Type 0} where
  held-placed : (dirs : List (List ℕ × D)) (d : List ℕ × D) → AllPairs (λ (x y : List ℕ × D). x.0 ≢ y.0) dirs → Contains dirs d → held_at (map slot_of dirs) d.0 ≡ Some (Some d.1)
  held-placed [] d apart (k, l, e) = absurd (omega arith)
  held-placed (x ∷ xs) d apart (zero, l, e) = rw (e, eq_itself) refl
  held-placed (x ∷ xs) d apart (suc k, l, e) =
      let other : x.0 ≢ d.0 = subst (λ (y : List ℕ × D). x.0 ≢ y.0) e (apart 0 (suc k) d (omega arith) l) in
      rw (other_bytes x.0 d.0 (λ same. other (sym same))) (held-placed xs d (λ i j y i_j j_l. apart (suc i) (suc j) y (omega arith) (omega arith)) (k, omega arith, e))

  held-unplaced : (dirs : List (List ℕ × D)) (q : List ℕ) → ((d : List ℕ × D) → Contains dirs d → d.0 ≢ q) → held_at (map slot_of dirs) q ≡ None
  held-unplaced [] q none = refl
  held-unplaced (x ∷ xs) q none =
      rw (other_bytes x.0 q (λ same. none x (0, omega arith, refl) (sym same))) (held-unplaced xs q (λ d h. none d (suc h.0, omega (arith, h.1), h.2)))

  held-never_out : (dirs : List (List ℕ × D)) (q : List ℕ) → held_at (map slot_of dirs) q ≢ Some None
  held-never_out [] q e = cc
  held-never_out (x ∷ xs) q e = decided (held-never_out xs q) (bytes_eq x.0 q) refl where
    decided : held_at (map slot_of xs) q ≢ Some None → (b : Bool) → bytes_eq x.0 q ≡ b → ⊥
    decided rest true d = let k = rw d at e in cc
    decided rest false d = rest (rw d at e)

  place-in : {P : Type 0} (place_of : D → P) (blank : P) (o : Option (Option D)) → o ≢ Some None → place_held place_of blank o ≢ None
  place-in place_of blank None h e = cc
  place-in place_of blank (Some None) h e = h refl
  place-in place_of blank (Some (Some d)) h e = cc

  pub placed_stand : {P : Type 0} (place_of : D → P) (blank : P) (dirs : List (List ℕ × D)) (slots : List (Slot D)) → slots ≡ map slot_of dirs → AllPairs (λ (x y : List ℕ × D). x.0 ≢ y.0) dirs → StandAs place_of blank dirs (places_of place_of blank slots)
  placed_stand place_of blank dirs slots e apart = record {
    each = λ d h. ap (λ (ss : List (Slot D)). places_of place_of blank ss d.0) e ∙ ap (λ o. place_held place_of blank o) (held-placed dirs d apart h);
    others = λ q none. ap (λ (ss : List (Slot D)). places_of place_of blank ss q) e ∙ ap (λ o. place_held place_of blank o) (held-unplaced dirs q none);
  }

  pub placed_whole : {P : Type 0} (place_of : D → P) (blank : P) (dirs : List (List ℕ × D)) (slots : List (Slot D)) → slots ≡ map slot_of dirs → IsWhole (places_of place_of blank slots)
  placed_whole place_of blank dirs slots e q out =
      place-in place_of blank (held_at (map slot_of dirs) q) (held-never_out dirs q) (sym (ap (λ (ss : List (Slot D)). places_of place_of blank ss q) e) ∙ out)
