-- Three places were handed out, and put back after a job.
use Rattle.std.proofs.Common.{◌≡◌, ◌≢◌, ◌⊎◌, inl, inr, ℕ, List, Option, Some, None, ap, sym, ◌∙◌}
use Rattle.std.specs.Option.{unwrap_or}
use Rattle.outfits.specs.Places.{Place, IsWhole}
use Rattle.vdirsyncer_cli.specs.Places.{Places, place_at, nowhere}
use Rattle.vdirsyncer_cli.specs.declared.opened.Opened.{Opened}
use Rattle.vdirsyncer_cli.specs.Opened.{HandsOut, TakesBack}
use Rattle.vdirsyncer_cli.proofs.PlaceLaws.{same_or_not}

-- what stands at a location that isn't out
pub stands_at : (places : Places) (q : List ℕ) (p : Place) → places q ≡ Some p → place_at places q ≡ p
stands_at places q p e = ap (λ o. unwrap_or o nowhere) e

-- no other place was touched
pub others_kept : {D : Type 0} (place_of : D → Place) (tells_of : D → Type 0) (old mid new : Places) (t0 t1 t2 t3 : List ℕ → Type 0) (a b s : List ℕ) (dirs back : Opened D) → HandsOut place_of tells_of old mid t0 t1 a b s dirs → TakesBack place_of tells_of mid new t2 t3 a b s back → (q : List ℕ) → q ≢ a → q ≢ b → q ≢ s → new q ≡ old q
others_kept place_of tells_of old mid new t0 t1 t2 t3 a b s dirs back out given q x y z = given.others q x y z ∙ out.others q x y z

pub some_is_not_none : {P : Type 0} (p : P) (o : Option P) → o ≡ Some p → o ≢ None
some_is_not_none p o e n = let clash : Some p ≡ None = sym e ∙ n in cc

-- no place is out
pub whole_again : {D : Type 0} (place_of : D → Place) (tells_of : D → Type 0) (old mid new : Places) (t0 t1 t2 t3 : List ℕ → Type 0) (a b s : List ℕ) (dirs back : Opened D) → IsWhole old → HandsOut place_of tells_of old mid t0 t1 a b s dirs → TakesBack place_of tells_of mid new t2 t3 a b s back → IsWhole new
whole_again place_of tells_of old mid new t0 t1 t2 t3 a b s dirs back whole out given q = decided (same_or_not q a) (same_or_not q b) (same_or_not q s) where
  decided : (q ≡ a) ⊎ (q ≢ a) → (q ≡ b) ⊎ (q ≢ b) → (q ≡ s) ⊎ (q ≢ s) → new q ≢ None
  decided (inl x) y z = some_is_not_none _ _ (ap new x ∙ given.at_a)
  decided (inr x) (inl y) z = some_is_not_none _ _ (ap new y ∙ given.at_b)
  decided (inr x) (inr y) (inl z) = some_is_not_none _ _ (ap new z ∙ given.at_s)
  decided (inr x) (inr y) (inr z) = λ n. whole q (sym (given.others q x y z ∙ out.others q x y z) ∙ n)
