-- A draft, and what waits: one change more, and what comes of all of them.
use Rattle.std.proofs.Common.{◌≡◌, ◌∙◌, ℕ, Bool, true, false, List, [], ◌∷◌, ◌++◌, Option, Result, Ok, Err, OnOk, OnErr, refl, sym, ap, subst, append_assoc, append-nil}
use Rattle.std.specs.Prelude.{◌&&◌}
use Rattle.std.specs.Option.{option_map}
use Rattle.std.specs.FinMap as fin
use Rattle.outside.specs.declared.folder.NoMemory.{NoMemory as OutOfMemory}
use Rattle.store_model.specs.Sides.{Content, SideState, KeepsItem, happens, IsTrueEvent, Evolves, IsOutside, Sometime}
use Rattle.store_model.specs.Waits.{Change, fits, fits_at, ActAll, Acts, Flushes}
use Rattle.store_model.specs.declared.event.Held.{Held}
use Rattle.store_model.specs.declared.event.StoreEvent.{StoreEvent}
use Rattle.store_model.specs.declared.event.StoreEvent.TheVariants.{Edited, Wrote}
use Rattle.store_model.proofs.Moments.{Evolves-refl, Evolves-one, Since-from_evolves}
use Rattle.vdir_store.specs.Vdir.{held_of}
use Rattle.mem_store.specs.Memory.{wrote, edited, bare, joined}
use Rattle.mem_store.specs.Desks.{IsDraft}
use Rattle.mem_store.specs.declared.shelf.Shelf.{Shelf}

-- one change more acts behind the others
pub act_one_more : (w : List Change) (c : Change) (s t : SideState) (old new : Option Held) → ActAll w s t → fits_at c.expected old ≡ true → IsTrueEvent t (Wrote c.href old new c.sent) → ActAll (w ++ c ∷ []) s (happens t (Wrote c.href old new c.sent))
act_one_more [] c s t old new all fit is_true = (old, new, fit, subst (λ (x : SideState). IsTrueEvent x (Wrote c.href old new c.sent)) all is_true, ap (λ (x : SideState). happens x (Wrote c.href old new c.sent)) all)
act_one_more (d ∷ ds) c s t old new (was, now, met, truly, rest) fit is_true = (was, now, met, truly, act_one_more ds c (happens s (Wrote d.href was now d.sent)) t old new rest fit is_true)

second_true : (a b : Bool) → (a && b) ≡ true → b ≡ true
second_true true b h = h
second_true false b h = absurd (let clash : false ≡ true = h in cc)

-- a draft in which one more change acted
pub drafted : (w : List Change) (c : Change) (s t t' : SideState) → KeepsItem (option_map held_of c.sent) c.sent → ActAll w s t → fits c t ≡ true → t' ≡ wrote t c.href c.sent → ActAll (w ++ c ∷ []) s t'
drafted w c s t t' keeps all fit same =
    subst (λ (x : SideState). ActAll (w ++ c ∷ []) s x) (sym same)
    (act_one_more w c s t (fin.get t.content c.href) (option_map held_of c.sent) all (second_true t.is_there _ fit) (refl, keeps))

-- the same changes act where something happened before
abbrev behind : SideState → SideState → SideState
behind s t = record { is_there = t.is_there; content = t.content; trail = s.trail ++ t.trail; reads = s.reads; beside = s.beside }

shifted : (w : List Change) (s m t : SideState) → ActAll w m t → ActAll w (behind s m) (behind s t)
shifted [] s m t all = ap (behind s) all
shifted (c ∷ cs) s m t (old, new, fit, is_true, rest) =
    let e : StoreEvent = Wrote c.href old new c.sent in
    let step : behind s (happens m e) ≡ happens (behind s m) e =
    λ i. record { is_there = m.is_there; content = (happens m e).content; trail = sym (append_assoc s.trail m.trail (e ∷ [])) i; reads = s.reads; beside = s.beside } in
    (old, new, fit, is_true, subst (λ (x : SideState). ActAll cs x (behind s t)) step (shifted cs s (happens m e) t rest))

-- what a draft of a side's content comes to, all that waits comes to on the side
pub all_acts : (w : List Change) (s d : SideState) → s.is_there ≡ true → ActAll w (bare s.content) d → ActAll w s (joined s d)
all_acts w s d there all =
    subst (λ (x : SideState). ActAll w x (joined s d)) (λ i. record { is_there = sym there i; content = s.content; trail = append-nil s.trail i; reads = s.reads; beside = s.beside }) (shifted w s (bare s.content) d all)

pub flushes : (w : List Change) (s d t : SideState) → s.is_there ≡ true → ActAll w (bare s.content) d → t ≡ joined s d → Flushes w s t
flushes w s d t there all same =
    record { first = s; last = joined s d; before = Evolves-refl s; all = all_acts w s d there all; after = subst (λ (x : SideState). Evolves IsOutside (joined s d) x) (sym same) (Evolves-refl (joined s d)) }

pub flushes_none : (w : List Change) (s : SideState) → w ≡ [] → Flushes w s s
flushes_none w s none = subst (λ (l : List Change). Flushes l s s) (sym none) (record { first = s; last = s; before = Evolves-refl s; all = refl; after = Evolves-refl s })

-- an edit from outside
pub edited_run : (s t : SideState) (href : List ℕ) (new : Option (List ℕ)) → t ≡ edited s href new → Evolves IsOutside s t
edited_run s t href new same = subst (λ (x : SideState). Evolves IsOutside s x) (sym same) (Evolves-one s (Edited href (fin.get s.content href) (option_map held_of new)) tt refl)

pub still : (s t : SideState) → t ≡ s → Evolves IsOutside s t
still s t same = subst (λ (x : SideState). Evolves IsOutside s x) (sym same) (Evolves-refl s)

pub edit_run : (s t : SideState) (href : List ℕ) (new : Option (List ℕ)) (result : Result (Unit {0}) OutOfMemory) → OnOk result (t ≡ edited s href new) → OnErr result (t ≡ s) → Evolves IsOutside s t
edit_run s t href new (Ok done) ok err = edited_run s t href new ok
edit_run s t href new (Err e) ok err = still s t err

-- a change that acted at once
pub acted_now : (c : Change) (s t : SideState) → KeepsItem (option_map held_of c.sent) c.sent → fits c s ≡ true → t ≡ wrote s c.href c.sent → (acts : Acts c s t) × (acts.new ≡ option_map held_of c.sent)
acted_now c s t keeps fit same =
    let e : StoreEvent = Wrote c.href (fin.get s.content c.href) (option_map held_of c.sent) c.sent in (
      record {
        old = fin.get s.content c.href;
        new = option_map held_of c.sent;
        fit = second_true s.is_there _ fit;
        writes = record { moment = s; before = Evolves-refl s; is_true = (refl, keeps); after = subst (λ (x : SideState). Evolves IsOutside (happens s e) x) (sym same) (Evolves-refl (happens s e)) };
      },
      refl,
    )

-- a change that doesn't fit
pub moved_at : (c : Change) (s t : SideState) → fits c s ≡ false → t ≡ s → Sometime (λ m. fits c m ≡ false) s t
moved_at c s t off same = record { moment = s; from = Evolves-refl s; until = Since-from_evolves (still s t same); was = off }

pub same_draft : (w w' : List Change) (c c' : Content) (d d' : Option Shelf) → w' ≡ w → c' ≡ c → d' ≡ d → IsDraft w c d → IsDraft w' c' d'
same_draft w w' c c' d d' p q r h = subst (λ (x : Option Shelf). IsDraft w' c' x) (sym r) (subst (λ (x : Content). IsDraft w' x d) (sym q) (subst (λ (x : List Change). IsDraft x c d) (sym p) h))

-- the etag of what a change leaves
pub etag_left : (new kept : Option Held) (etag : Option (List ℕ)) → etag ≡ option_map (λ (h : Held). h.etag) kept → new ≡ kept → etag ≡ option_map (λ (h : Held). h.etag) new
etag_left new kept etag is same = is ∙ ap (option_map (λ (h : Held). h.etag)) (sym same)
