-- A side that is known stays known while a run writes there, unless an edit from outside comes or a write fails.
use Rattle.std.proofs.Common.{◌≡◌, inl, inr, ℕ, ◌+◌, ◌<◌, Bool, true, false, ◌||◌, List, [], ◌∷◌, ◌++◌, length, get_or, take, Option, Some, None, Ok, Err, refl, sym, ap, ◌∙◌}
use Rattle.std.proofs.lemmas.Bool.{false≢true}
use Rattle.std.specs.Str.{bytes_eq}
use Rattle.std.specs.FinMap as fin
use Rattle.item_text.specs.Items.{ItemValue}
use Rattle.store_model.specs.declared.event.Held.{Held}
use Rattle.store_model.specs.declared.event.StoreEvent.{StoreEvent}
use Rattle.store_model.specs.declared.event.StoreEvent.TheVariants.{Wrote}
use Rattle.store_model.specs.declared.store.Put.{Put}
use Rattle.store_model.specs.declared.store.StoreError.{StoreError}
use Rattle.store_model.specs.declared.store.StoreError.TheVariants as store
use Rattle.store_model.specs.Sides.{SideState, happens, Evolves, IsOutside, Since, WasEdited}
use Rattle.store_model.specs.Waits.{Change, fits_at, over_at, Acts, Sent, ActsOrWaits}
use Rattle.store_model.specs.StoreCalls.{TakenByPut, IsKnown, PutNewAnswer}
use Rattle.store_model.proofs.Moments.{Evolves-refl, Evolves-trans, Evolves-one, Since-from_evolves}
use Rattle.store_model.proofs.Lacks.{get-put_held}
use Rattle.store_model.proofs.Known.{edited_extends, still_or_edited, known_after_put}
use Rattle.sync_plan.specs.declared.report.Side.{Side}
use Rattle.sync_plan.specs.declared.seen.Planned.{Planned}
use Rattle.job_writes.specs.declared.outcome.Outcome.{Outcome}
use Rattle.job_writes.specs.Writings.{AllFit, is_failure, failed_after}
use Rattle.job_writes.specs.Knowns.{StillKnown, KnownAfter, IsMovedError, IsCopyMoved, CopiesMoveByEdit, AllMoveByEdit}
use Rattle.job_writes.proofs.OrderLemmas.{fit_turn}

-- ---- a new item

either_false : (a b : Bool) → (a || b) ≡ false → (a ≡ false) × (b ≡ false)
either_false true b h = absurd (false≢true (sym h))
either_false false b h = (refl, h)

-- nothing acted, and no href is used less
still_known : (taken taken' : List ℕ → Bool) (s t : SideState) → ((q : List ℕ) → taken' q ≡ false → taken q ≡ false) → Evolves IsOutside s t → IsKnown taken s → StillKnown s taken' t
still_known taken taken' s t fewer outside known = elim (still_or_edited outside) [
  | inr edited ↦ inl edited
  | inl same ↦ inr (record { there = ap (λ (k : SideState). k.is_there) same ∙ known.there; covers = λ q free. ap (λ (k : SideState). fin.get k.content q) same ∙ known.covers q (fewer q free) })
]

module _ (may : List ℕ → Type 0) (taken taken' : List ℕ → Bool) (item : ItemValue) (s t : SideState) (w w' : List Change) (free : (href : List ℕ) → may href → taken href ≡ false) (known : IsKnown taken s) where
  pub put_known : (waits : Bool) (put : Put) → TakenByPut taken taken' (Ok put) → PutNewAnswer waits may item s w t w' (Ok put) → ActsOrWaits waits s t → StillKnown s taken' t
  put_known false put takes answer acts = known_after_put false may taken taken' item s t w w' (Ok put) refl free takes answer known
  put_known true put takes answer acts = still_known taken taken' s t (λ q h. (either_false (bytes_eq put.href q) (taken q) (sym (takes q) ∙ h)).1) (acts.until_flush refl) known

  pub put_moved : (waits : Bool) (error : StoreError) → IsMovedError error → TakenByPut taken taken' (Err error) → PutNewAnswer waits may item s w t w' (Err error) → WasEdited s t
  put_moved waits store.Moved moved takes answer = known_after_put false may taken taken' item s t w w' (Err store.Moved) refl free takes answer known
  put_moved waits store.Fault moved takes answer = absurd moved
  put_moved waits store.TooLong moved takes answer = absurd moved
  put_moved waits store.TooMany moved takes answer = absurd moved
  put_moved waits store.NotThere moved takes answer = absurd moved
  put_moved waits (store.Vanished href) moved takes answer = absurd moved
  put_moved waits (store.BadItem href error) moved takes answer = absurd moved
  put_moved waits store.NoMemory moved takes answer = absurd moved

-- ---- an item over another

some_stands : (etag : List ℕ) (old : Option Held) → fits_at (Some etag) old ≡ true → old ≡ None → ⊥
some_stands etag None fit none = false≢true fit
some_stands etag (Some held) fit none = let clash : Some held ≡ None = none in cc

over_acts : (taken taken' : List ℕ → Bool) (href etag text : List ℕ) (s t : SideState) → ((q : List ℕ) → taken' q ≡ taken q) → IsKnown taken s → Acts (over_at href etag text) s t → StillKnown s taken' t
over_acts taken taken' href etag text s t same known acts =
    let w = acts.writes in
    let e : StoreEvent = Wrote href acts.old acts.new (Some text) in
    let one : Since w.moment (happens w.moment e) = Evolves-one w.moment e tt w.is_true in
    elim (still_or_edited w.before) [
      | inr edited ↦ inl (edited_extends (Evolves-refl s) edited (Evolves-trans one (Since-from_evolves w.after)))
      | inl at ↦ elim (still_or_edited w.after) [
        | inr edited ↦ inl (edited_extends (Evolves-trans (Since-from_evolves w.before) one) edited (Evolves-refl t))
        | inl end ↦
            let now : t ≡ happens s e = end ∙ ap (λ (k : SideState). happens k e) at in
            let stood : acts.old ≡ fin.get s.content href = w.is_true.0 ∙ ap (λ (k : SideState). fin.get k.content href) at in
            inr (record {
              there = ap (λ (k : SideState). k.is_there) now ∙ known.there;
              covers = λ q free. ap (λ (k : SideState). fin.get k.content q) now ∙ elim (get-put_held s.content href q acts.new) [
                | inl here ↦ absurd (some_stands etag acts.old acts.fit (stood ∙ (ap (fin.get s.content) (sym here.0) ∙ known.covers q (sym (same q) ∙ free))))
                | inr kept ↦ kept ∙ known.covers q (sym (same q) ∙ free)
              ];
            })
      ]
    ]

pub over_known : (waits : Bool) (taken taken' : List ℕ → Bool) (href etag text : List ℕ) (told : Option (List ℕ)) (s t : SideState) (w w' : List Change) → ((q : List ℕ) → taken' q ≡ taken q) → IsKnown taken s → Sent waits (over_at href etag text) told s w t w' → StillKnown s taken' t
over_known false taken taken' href etag text told s t w w' same known sent = over_acts taken taken' href etag text s t same known sent.0
over_known true taken taken' href etag text told s t w w' same known sent = still_known taken taken' s t (λ q h. sym (same q) ∙ h) sent.0 known

-- ---- one step after others

second_none : (b d : Bool) → (b || d) ≡ false → (b ≡ false) × (d ≡ false)
second_none false d e = (refl, e)
second_none true d e = absurd (false≢true (sym e))

pub known_turn : (taken taken' : List ℕ → Bool) (s m t : SideState) (now before : Bool) (o : Outcome) → now ≡ (before || is_failure o) → Since s m → Since m t → (before ≡ false → StillKnown s taken m) → (IsKnown taken m → KnownAfter m taken' t o) → now ≡ false → StillKnown s taken' t
known_turn taken taken' s m t now before o is first second known step none =
    let both = second_none before (is_failure o) (sym is ∙ none) in
    elim (known both.0) [
      | inl edited ↦ inl (edited_extends (Evolves-refl s) edited second)
      | inr still ↦ elim (step still both.1) [
        | inl edited ↦ inl (edited_extends first edited (Evolves-refl t))
        | inr later ↦ inr later
      ]
    ]

fit_later : (side : Side) (s m t : SideState) (φ : Bool) (ps : List Planned) (os : List Outcome) → Since m t → AllFit (CopiesMoveByEdit side s m) φ ps os → AllFit (CopiesMoveByEdit side s t) φ ps os
fit_later side s m t φ [] [] later all = all
fit_later side s m t φ (p ∷ ps) (o ∷ os) later all = ((λ none copy. edited_extends (Evolves-refl s) (all.0 none copy) later), fit_later side s m t (φ || is_failure o) ps os later all.1)
fit_later side s m t φ [] (o ∷ os) later all = absurd all
fit_later side s m t φ (p ∷ ps) [] later all = absurd all

pub all_later : (side : Side) (s m t : SideState) (ps : List Planned) (os : List Outcome) → Since m t → AllMoveByEdit side s m ps os → AllMoveByEdit side s t ps os
all_later side s m t ps os later all = fit_later side s m t false ps os later all

pub moved_turn : (side : Side) (taken : List ℕ → Bool) (s m t : SideState) (all : List Planned) (i : ℕ) (d : Planned) (os now : List Outcome) (o : Outcome) → i < length all → now ≡ os ++ o ∷ [] → Since s m → Since m t → (failed_after false os ≡ false → StillKnown s taken m) → (IsKnown taken m → IsCopyMoved side (get_or all i d).step o → WasEdited m t) → AllMoveByEdit side s m (take i all) os → AllMoveByEdit side s t (take (i + 1) all) now
moved_turn side taken s m t all i d os now o lt more first second known step before =
    fit_turn (CopiesMoveByEdit side s t) false all i d os now o lt more (all_later side s m t (take i all) os second before)
    (λ none copy. elim (known none) [
      | inl edited ↦ edited_extends (Evolves-refl s) edited second
      | inr still ↦ edited_extends first (step still copy) (Evolves-refl t)
    ])
