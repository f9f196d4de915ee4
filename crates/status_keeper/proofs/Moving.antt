-- A commit from what was loaded answers `Moved` only after an edit from outside.
use Rattle.std.proofs.Common.{◌≡◌, ℕ, true, false, List, [], ◌∷◌, Option, Some, None, refl, sym, ap, ◌∙◌, subst}
use Rattle.std.proofs.lemmas.Slice.Eq.{bytes_eq-Decides}
use Rattle.outside.specs.Runs.{Leads}
use Rattle.outside.proofs.Runs.{Runs-refl, Runs-trans, Runs-weaker, Runs-one}
use Rattle.status_keeper.specs.Kept.{Stamp, Gone, Empty, Tagged, KeeperEvent, KeeperState, Edited, Toggled, Made, Committed, Spoiled, made, happens, IsTrueEvent, Evolves, IsEdit, IsMaking}
use Rattle.status_keeper.specs.KeeperCalls.{AfterPlacing, WasEdited, found_at, is_as_found, made_where, placed}

pub edit_is_making : (e : KeeperEvent) → IsEdit e → IsMaking e
edit_is_making (Edited kept stamp) h = tt
edit_is_making Toggled h = tt
edit_is_making Made h = tt
edit_is_making (Committed rows) h = h
edit_is_making (Spoiled kept stamp) h = h

made_run : (stamp : Stamp) (s : KeeperState) → Evolves IsMaking s (made_where stamp s)
made_run Gone s = Runs-one s Made tt tt
made_run Empty s = Runs-refl s
made_run (Tagged tag) s = Runs-refl s

placed_run : (found : Option (List ℕ)) (s : KeeperState) → Evolves IsMaking s (placed found s)
placed_run None s = made_run s.stamp s
placed_run (Some tag) s = Runs-refl s

-- the run of a call up to its write
pub placing_run : (found : Option (List ℕ)) (s : KeeperState) (Does : KeeperState → Type 0) (h : AfterPlacing found s Does) → Evolves IsMaking s h.moment
placing_run found s Does h = Runs-trans (Runs-weaker edit_is_making h.edits) (Runs-trans (placed_run found h.asked) (Runs-weaker edit_is_making h.later))

-- no edit, or a first one
first_edit : (x s t : KeeperState) (es : List KeeperEvent) → Evolves IsMaking x s → Leads happens IsTrueEvent IsEdit s es t → (t ≡ s → WasEdited x t) → WasEdited x t
first_edit x s t [] from leads none = none leads
first_edit x s t (e ∷ es) from leads none = record { event = e; is_edit = leads.0; moment = s; from = from; until = Runs-weaker edit_is_making (record { events = es; leads = leads.2 }) }

-- edits from outside before and after
edited_before : {s m t : KeeperState} → WasEdited s m → Evolves IsMaking m t → WasEdited s t
edited_before w more = record { event = w.event; is_edit = w.is_edit; moment = w.moment; from = w.from; until = Runs-trans w.until more }

-- what was found stands there, once the place is
placed_met : (s : KeeperState) (stamp : Stamp) → s.stamp ≡ stamp → is_as_found (found_at stamp) (placed (found_at stamp) s).stamp ≡ true
placed_met s Gone is = ap (λ (x : Stamp). is_as_found None (made_where x s).stamp) is ∙ ap (λ (x : Stamp). is_as_found None (made x)) is
placed_met s Empty is = ap (λ (x : Stamp). is_as_found None (made_where x s).stamp) is ∙ ap (is_as_found None) is
placed_met s (Tagged tag) is = ap (is_as_found (Some tag)) is ∙ (bytes_eq-Decides tag tag).1 refl

pub moved_was_edited : (s t : KeeperState) → AfterPlacing (found_at s.stamp) s (λ m. (is_as_found (found_at s.stamp) m.stamp ≡ false) × (t ≡ m)) → WasEdited s t
moved_was_edited s t h =
    let found = found_at s.stamp in
    let by_later : h.asked ≡ s → WasEdited s h.moment =
    λ same. first_edit s (placed found h.asked) h.moment (h.later).events (Runs-trans (Runs-weaker edit_is_making h.edits) (placed_run found h.asked)) (h.later).leads
    (λ still. absurd (let met : is_as_found found h.moment.stamp ≡ true = ap (λ (x : KeeperState). is_as_found found x.stamp) still ∙ ap (λ (x : KeeperState). is_as_found found (placed found x).stamp) same ∙ placed_met s s.stamp refl in
    let clash : true ≡ false = sym met ∙ h.does.0 in cc))
    in
    subst (λ (x : KeeperState). WasEdited s x) (sym h.does.1) (at (h.edits).events (h.edits).leads by_later)
  where
    rest : Evolves IsMaking h.asked h.moment
    rest = Runs-trans (placed_run (found_at s.stamp) h.asked) (Runs-weaker edit_is_making h.later)

    at : (es : List KeeperEvent) → Leads happens IsTrueEvent IsEdit s es h.asked → (h.asked ≡ s → WasEdited s h.moment) → WasEdited s h.moment
    at [] leads none = none leads
    at (e ∷ es) leads none = edited_before (record { event = e; is_edit = leads.0; moment = s; from = Runs-refl s; until = Runs-weaker edit_is_making (record { events = es; leads = leads.2 }) }) rest
