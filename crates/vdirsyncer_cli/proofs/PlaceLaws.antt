-- What follows from a place being handed out and given back.
use Rattle.std.proofs.Common.{◌≡◌, ◌≢◌, ◌⊎◌, inl, inr, ℕ, List, Option, Some, None, Bool, true, false, refl, ap, sym, ◌∙◌, subst, arith}
use Rattle.std.specs.Str.{bytes_eq}
use Rattle.std.proofs.lemmas.Slice.Eq.{bytes_eq-Decides}
use Rattle.outfits.specs.Places.{Place, ChangesOnly, IsSame, IsWhole, StayTold, GiveTold}
use Rattle.vdirsyncer_cli.specs.Places.{Places}

-- two texts are equal or not
pub same_or_not : (p q : List ℕ) → (p ≡ q) ⊎ (p ≢ q)
same_or_not p q = decided (bytes_eq p q) refl where
  decided : (b : Bool) → bytes_eq p q ≡ b → (p ≡ q) ⊎ (p ≢ q)
  decided true d = inl ((bytes_eq-Decides p q).0 d)
  decided false d = inr (λ s. different (sym d ∙ (bytes_eq-Decides p q).1 s)) where
    different : false ≡ true → ⊥
    different x = cc

-- at each location: it is the one that changed, or nothing changed there
pub place_cases : (old new : Places) (path : List ℕ) (v : Option Place) → ChangesOnly old new path v → (q : List ℕ) → ((q ≡ path) × (new q ≡ v)) ⊎ ((q ≢ path) × (new q ≡ old q))
place_cases old new path v h q = decided (same_or_not q path) where
  decided : (q ≡ path) ⊎ (q ≢ path) → ((q ≡ path) × (new q ≡ v)) ⊎ ((q ≢ path) × (new q ≡ old q))
  decided (inl e) = inl (e, ap new e ∙ h.here)
  decided (inr d) = inr (d, h.others q d)

-- two maps of places that agree everywhere are one
pub same_places : (old new : Places) → IsSame old new → new ≡ old
same_places old new h = λ i q. h q i

-- one place was handed out and given back as it was
pub back_one : (p0 p1 p2 p3 : Places) (a : List ℕ) (x : Place) → p0 a ≡ Some x → ChangesOnly p0 p1 a None → IsSame p1 p2 → ChangesOnly p2 p3 a (Some x) → IsSame p0 p3
back_one p0 p1 p2 p3 a x at_a open_a same give_a q =
    let k1 = place_cases p0 p1 a None open_a q in
    let k2 : p2 q ≡ p1 q = same q in
    let k3 = place_cases p2 p3 a (Some x) give_a q in
    grind arith

-- two places were handed out and given back as they were
pub back_two : (p0 p1 p2 p3 p4 p5 : Places) (a b : List ℕ) (x y : Place) → a ≢ b → p0 a ≡ Some x → ChangesOnly p0 p1 a None → p1 b ≡ Some y → ChangesOnly p1 p2 b None → IsSame p2 p3 → ChangesOnly p3 p4 a (Some x) → ChangesOnly p4 p5 b (Some y) → IsSame p0 p5
back_two p0 p1 p2 p3 p4 p5 a b x y apart at_a open_a at_b open_b same give_a give_b q =
    let k1 = place_cases p0 p1 a None open_a q in
    let k2 = place_cases p1 p2 b None open_b q in
    let k3 : p3 q ≡ p2 q = same q in
    let k4 = place_cases p3 p4 a (Some x) give_a q in
    let k5 = place_cases p4 p5 b (Some y) give_b q in
    grind arith

-- what is changed to a place is not out
pub whole_after : (p0 p1 p2 p3 p4 p5 p6 : Places) (a b s : List ℕ) (x y z : Place) → IsWhole p0 → ChangesOnly p0 p1 a None → ChangesOnly p1 p2 b None → ChangesOnly p2 p3 s None → ChangesOnly p3 p4 a (Some x) → ChangesOnly p4 p5 b (Some y) → ChangesOnly p5 p6 s (Some z) → IsWhole p6
whole_after p0 p1 p2 p3 p4 p5 p6 a b s x y z whole open_a open_b open_s give_a give_b give_s q e =
    let k0 : p0 q ≢ None = whole q in
    let k1 = place_cases p0 p1 a None open_a q in
    let k2 = place_cases p1 p2 b None open_b q in
    let k3 = place_cases p2 p3 s None open_s q in
    let k4 = place_cases p3 p4 a (Some x) give_a q in
    let k5 = place_cases p4 p5 b (Some y) give_b q in
    let k6 = place_cases p5 p6 s (Some z) give_s q in
    grind arith

pub whole_same : (p0 p1 : Places) → IsWhole p0 → IsSame p0 p1 → IsWhole p1
whole_same p0 p1 whole same q e = whole q (sym (same q) ∙ e)

-- one place was handed out and given back: what was told is told still
pub told_back : (t0 t1 t2 t3 : List ℕ → Type 0) (a : List ℕ) (Dir : Type 0) → (t0 a → Dir) → StayTold t0 t1 → StayTold t1 t2 → GiveTold t2 t3 a Dir → StayTold t0 t3
told_back t0 t1 t2 t3 a Dir at_a first second give q was = decided (same_or_not q a) where
  decided : (q ≡ a) ⊎ (q ≢ a) → t3 q
  decided (inl e) = subst t3 (sym e) (give.here (at_a (subst t0 e was)))
  decided (inr d) = give.others q d (second q (first q was))

-- two places were handed out and given back: what was told is told still
pub told_two : (t0 t1 t2 t3 t4 t5 : List ℕ → Type 0) (a b : List ℕ) (Dir_a Dir_b : Type 0) → (t0 a → Dir_a) → StayTold t0 t1 → (t1 b → Dir_b) → StayTold t1 t2 → StayTold t2 t3 → GiveTold t3 t4 a Dir_a → GiveTold t4 t5 b Dir_b → StayTold t0 t5
told_two t0 t1 t2 t3 t4 t5 a b Dir_a Dir_b at_a first at_b second third give_a give_b q was = decided (same_or_not q b) where
  decided : (q ≡ b) ⊎ (q ≢ b) → t5 q
  decided (inl e) = subst t5 (sym e) (give_b.here (at_b (subst t1 e (first q was))))
  decided (inr d) = give_b.others q d (told_back t0 t1 t3 t4 a Dir_a at_a first (λ p was_p. third p (second p was_p)) give_a q was)
