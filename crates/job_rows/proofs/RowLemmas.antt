-- The rows of the first steps of a plan, and of one more.
use Rattle.std.proofs.Common.{◌≡◌, ℕ, suc, ◌+◌, ◌<◌, ◌≤◌, Bool, true, false, ◌||◌, List, [], ◌∷◌, ◌++◌, length, take, get_or, Option, Some, None, refl, sym, ◌∙◌, ap, subst, arith}
use Rattle.std.specs.List.{cons_option}
use Rattle.std.specs.Option.{option_to_list}
use Rattle.std.proofs.lemmas.Bool.{false≢true}
use Rattle.std.proofs.lemmas.List.{length-take-le, take_more, take_all}
use Rattle.status_keeper.specs.declared.row.Row.{Row}
use Rattle.status_keeper.specs.Rows.{row_of}
use Rattle.sync_plan.specs.declared.seen.Planned.{Planned}
use Rattle.job_writes.specs.declared.outcome.Outcome.{Outcome}
use Rattle.job_writes.specs.Writings.{Sources, AllFit, is_failure}
use Rattle.job_writes.proofs.OrderLemmas.{no_step}
use Rattle.job_rows.specs.RowsAfter.{outcome_of, row_after, rows_after, IsUnchanged}

pub fit_length : (Fits : Bool → Planned → Outcome → Type 0) (failed : Bool) (ps : List Planned) (os : List Outcome) → AllFit Fits failed ps os → length os ≡ length ps
fit_length Fits failed [] [] fits = refl
fit_length Fits failed (p ∷ ps) (o ∷ os) fits = ap suc (fit_length Fits (failed || is_failure o) ps os fits.1)
fit_length Fits failed [] (o ∷ os) fits = absurd fits
fit_length Fits failed (p ∷ ps) [] fits = absurd fits

cons_append : {X : Type 0} (o : Option X) (xs ys : List X) → cons_option o (xs ++ ys) ≡ cons_option o xs ++ ys
cons_append None xs ys = refl
cons_append (Some x) xs ys = refl

cons_last : {X : Type 0} (o : Option X) → cons_option o [] ≡ option_to_list o
cons_last None = refl
cons_last (Some x) = refl

module _ (x : Sources) (rows : List Row) where
  abbrev pub next : Planned → Outcome → Outcome → Option Row
  next p f g = row_after x rows p (outcome_of p.step f g)

  rows_push : (ps : List Planned) (fs gs : List Outcome) (p : Planned) (f g : Outcome) → length fs ≡ length ps → length gs ≡ length ps → rows_after x rows (ps ++ p ∷ []) (fs ++ f ∷ []) (gs ++ g ∷ []) ≡ rows_after x rows ps fs gs ++ option_to_list (next p f g)
  rows_push [] [] [] p f g ef eg = cons_last (next p f g)
  rows_push [] (y ∷ fs) gs p f g ef eg = absurd (omega (arith, ef))
  rows_push [] [] (z ∷ gs) p f g ef eg = absurd (omega (arith, eg))
  rows_push (q ∷ ps) [] gs p f g ef eg = absurd (omega (arith, ef))
  rows_push (q ∷ ps) (y ∷ fs) [] p f g ef eg = absurd (omega (arith, eg))
  rows_push (q ∷ ps) (y ∷ fs) (z ∷ gs) p f g ef eg =
      ap (cons_option (next q y z)) (rows_push ps fs gs p f g (omega (arith, ef)) (omega (arith, eg))) ∙ cons_append (next q y z) (rows_after x rows ps fs gs) (option_to_list (next p f g))

  abbrev pub IsSame : Planned → Outcome → Outcome → Type 0
  IsSame p f g = next p f g ≡ row_of (p.ident).now rows

  same_push : (ps : List Planned) (fs gs : List Outcome) (p : Planned) (f g : Outcome) → length fs ≡ length ps → length gs ≡ length ps → IsUnchanged x rows ps fs gs → IsSame p f g → IsUnchanged x rows (ps ++ p ∷ []) (fs ++ f ∷ []) (gs ++ g ∷ [])
  same_push [] [] [] p f g ef eg all one = (one, tt)
  same_push [] (y ∷ fs) gs p f g ef eg all one = absurd (omega (arith, ef))
  same_push [] [] (z ∷ gs) p f g ef eg all one = absurd (omega (arith, eg))
  same_push (q ∷ ps) [] gs p f g ef eg all one = absurd (omega (arith, ef))
  same_push (q ∷ ps) (y ∷ fs) [] p f g ef eg all one = absurd (omega (arith, eg))
  same_push (q ∷ ps) (y ∷ fs) (z ∷ gs) p f g ef eg all one = (all.0, same_push ps fs gs p f g (omega (arith, ef)) (omega (arith, eg)) all.1 one)

  same_back : (ps : List Planned) (fs gs : List Outcome) (p : Planned) (f g : Outcome) → length fs ≡ length ps → length gs ≡ length ps → IsUnchanged x rows (ps ++ p ∷ []) (fs ++ f ∷ []) (gs ++ g ∷ []) → IsUnchanged x rows ps fs gs × IsSame p f g
  same_back [] [] [] p f g ef eg all = (tt, all.0)
  same_back [] (y ∷ fs) gs p f g ef eg all = absurd (omega (arith, ef))
  same_back [] [] (z ∷ gs) p f g ef eg all = absurd (omega (arith, eg))
  same_back (q ∷ ps) [] gs p f g ef eg all = absurd (omega (arith, ef))
  same_back (q ∷ ps) (y ∷ fs) [] p f g ef eg all = absurd (omega (arith, eg))
  same_back (q ∷ ps) (y ∷ fs) (z ∷ gs) p f g ef eg all = let rest = same_back ps fs gs p f g (omega (arith, ef)) (omega (arith, eg)) all.1 in ((all.0, rest.0), rest.1)

  -- ---- a turn of the loop

  module _ (plan : List Planned) (put removed : List Outcome) (i : ℕ) (f g : Outcome) (lt : i < length plan) (lf : length put ≡ length plan) (lg : length removed ≡ length plan) (is_f : f ≡ get_or put i f) (is_g : g ≡ get_or removed i g) where
    len_f : length (take i put) ≡ length (take i plan)
    len_f = length-take-le i put (omega (arith, lt, lf)) ∙ sym (length-take-le i plan (omega (arith, lt)))

    len_g : length (take i removed) ≡ length (take i plan)
    len_g = length-take-le i removed (omega (arith, lt, lg)) ∙ sym (length-take-le i plan (omega (arith, lt)))

    more_p : take (i + 1) plan ≡ take i plan ++ get_or plan i no_step ∷ []
    more_p = take_more plan i no_step lt

    more_f : take (i + 1) put ≡ take i put ++ f ∷ []
    more_f = take_more put i f (omega (arith, lt, lf)) ∙ ap (λ (y : Outcome). take i put ++ y ∷ []) (sym is_f)

    more_g : take (i + 1) removed ≡ take i removed ++ g ∷ []
    more_g = take_more removed i g (omega (arith, lt, lg)) ∙ ap (λ (y : Outcome). take i removed ++ y ∷ []) (sym is_g)

    pub rows_turn : (before now : List Row) (row : Option Row) → before ≡ rows_after x rows (take i plan) (take i put) (take i removed) → now ≡ before ++ option_to_list row → row ≡ next (get_or plan i no_step) f g → now ≡ rows_after x rows (take (i + 1) plan) (take (i + 1) put) (take (i + 1) removed)
    rows_turn before now row so more is =
        more ∙ ((λ j. so j ++ option_to_list (is j)) ∙ (sym (rows_push (take i plan) (take i put) (take i removed) (get_or plan i no_step) f g len_f len_g) ∙ (λ j. rows_after x rows (sym more_p j) (sym more_f j) (sym more_g j))))

    pub same_turn : (before changed now : Bool) → now ≡ (before || changed) → (before ≡ false → IsUnchanged x rows (take i plan) (take i put) (take i removed)) → (changed ≡ false → IsSame (get_or plan i no_step) f g) → now ≡ false → IsUnchanged x rows (take (i + 1) plan) (take (i + 1) put) (take (i + 1) removed)
    same_turn false false now is all one h = subst (λ (ps : List Planned). IsUnchanged x rows ps (take (i + 1) put) (take (i + 1) removed)) (sym more_p) (subst (λ (fs : List Outcome). IsUnchanged x rows (take i plan ++ get_or plan i no_step ∷ []) fs (take (i + 1) removed)) (sym more_f) (subst (λ (gs : List Outcome). IsUnchanged x rows (take i plan ++ get_or plan i no_step ∷ []) (take i put ++ f ∷ []) gs) (sym more_g) (same_push (take i plan) (take i put) (take i removed) (get_or plan i no_step) f g len_f len_g (all refl) (one refl))))
    same_turn true changed now is all one h = absurd (false≢true (sym h ∙ is))
    same_turn false true now is all one h = absurd (false≢true (sym h ∙ is))

    pub differs_turn : (before changed now : Bool) → now ≡ (before || changed) → (before ≡ true → IsUnchanged x rows (take i plan) (take i put) (take i removed) → ⊥) → (changed ≡ true → IsSame (get_or plan i no_step) f g → ⊥) → now ≡ true → IsUnchanged x rows (take (i + 1) plan) (take (i + 1) put) (take (i + 1) removed) → ⊥
    differs_turn before changed now is all one h same =
        let back = same_back (take i plan) (take i put) (take i removed) (get_or plan i no_step) f g len_f len_g
        (subst (λ (gs : List Outcome). IsUnchanged x rows (take i plan ++ get_or plan i no_step ∷ []) (take i put ++ f ∷ []) gs) more_g (subst (λ (fs : List Outcome). IsUnchanged x rows (take i plan ++ get_or plan i no_step ∷ []) fs (take (i + 1) removed)) more_f (subst (λ (ps : List Planned). IsUnchanged x rows ps (take (i + 1) put) (take (i + 1) removed)) more_p same))) in
        by before changed (sym is ∙ h) (λ e. all e back.0) (λ e. one e back.1)
      where
        by : (b d : Bool) → (b || d) ≡ true → (b ≡ true → ⊥) → (d ≡ true → ⊥) → ⊥
        by true d e f g = f refl
        by false true e f g = g refl
        by false false e f g = false≢true e

  pub whole : (plan : List Planned) (put removed : List Outcome) (i : ℕ) (P : List Planned → List Outcome → List Outcome → Type 0) → length plan ≤ i → length put ≡ length plan → length removed ≡ length plan → P (take i plan) (take i put) (take i removed) → P plan put removed
  whole plan put removed i P end lf lg h =
      subst (λ (ps : List Planned). P ps put removed) (take_all i plan end) (subst (λ (fs : List Outcome). P (take i plan) fs removed) (take_all i put (omega (arith, end, lf))) (subst (λ (gs : List Outcome). P (take i plan) (take i put) gs) (take_all i removed (omega (arith, end, lg))) h))
