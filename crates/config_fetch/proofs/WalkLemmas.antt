-- A walk that has come so far.
use Rattle.std.proofs.Common.{◌≡◌, inl, inr, List, [], ◌∷◌, ◌++◌, Result, Ok, Err, refl, sym, subst, append-nil, append_assoc}
use Rattle.config_fetch.specs.Walks.{Walk, behind}

-- whatever the rest comes to, all come to that behind what is done
pub record SoFar {W X Y E : Type 0} (Step : W → W → X → Result Y E → Type 0) (s m : W) (all rest : List X) (done : List Y) : Type 0 where
  pub goes_on : (t : W) (answer : Result (List Y) E) → Walk Step m t rest answer → Walk Step s t all (behind done answer)

behind_none : {Y E : Type 0} (answer : Result (List Y) E) → behind [] answer ≡ answer
behind_none (Ok ys) = refl
behind_none (Err e) = refl

pub none_yet : {W X Y E : Type 0} {Step : W → W → X → Result Y E → Type 0} {s : W} {all : List X} {done : List Y} → done ≡ [] → SoFar Step s s all all done
none_yet {W} {X} {Y} {E} {Step} {s} {all} {done} none = record {
  goes_on = λ t answer walk. rw none (subst (λ (r : Result (List Y) E). Walk Step s t all r) (sym (behind_none answer)) walk);
}

pub one_more : {W X Y E : Type 0} {Step : W → W → X → Result Y E → Type 0} {s m n : W} {all rest left : List X} {x : X} {y : Y} {done more : List Y} → SoFar Step s m all rest done → rest ≡ x ∷ left → more ≡ done ++ y ∷ [] → Step m n x (Ok y) → SoFar Step s n all left more
one_more {W} {X} {Y} {E} {Step} {s} {m} {n} {all} {rest} {left} {x} {y} {done} {more} so_far is adds step = record { goes_on = by }
  where
    by : (t : W) (answer : Result (List Y) E) → Walk Step n t left answer → Walk Step s t all (behind more answer)
    by t (Ok ys) walk =
        let whole = so_far.goes_on t (Ok (y ∷ ys)) (subst (λ (r : List X). Walk Step m t r (Ok (y ∷ ys))) (sym is) (n, step, walk)) in
        rw adds (subst (λ (l : List Y). Walk Step s t all (Ok l)) (sym (append_assoc done (y ∷ []) ys)) whole)
    by t (Err e) walk = so_far.goes_on t (Err e) (subst (λ (r : List X). Walk Step m t r (Err e)) (sym is) (inr (n, y, step, walk)))

pub stopped : {W X Y E : Type 0} {Step : W → W → X → Result Y E → Type 0} {s m t : W} {all rest left : List X} {x : X} {e : E} {done : List Y} → SoFar Step s m all rest done → rest ≡ x ∷ left → Step m t x (Err e) → Walk Step s t all (Err e)
stopped {W} {X} {Y} {E} {Step} {s} {m} {t} {all} {rest} {left} {x} {e} {done} so_far is step =
    so_far.goes_on t (Err e) (subst (λ (r : List X). Walk Step m t r (Err e)) (sym is) (inl step))

pub all_done : {W X Y E : Type 0} {Step : W → W → X → Result Y E → Type 0} {s m : W} {all rest : List X} {done : List Y} → SoFar Step s m all rest done → rest ≡ [] → Walk Step s m all (Ok done)
all_done {W} {X} {Y} {E} {Step} {s} {m} {all} {rest} {done} so_far is =
    subst (λ (l : List Y). Walk Step s m all (Ok l)) (append-nil done) (so_far.goes_on m (Ok []) (subst (λ (r : List X). Walk Step m m r (Ok [])) (sym is) refl))
