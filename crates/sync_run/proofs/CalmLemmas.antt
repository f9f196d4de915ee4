-- What stays as it is where no edit from outside comes.
use Rattle.std.proofs.Common.{◌≡◌, inl, inr, ℕ, List, [], ◌∷◌, ap}
use Rattle.outside.specs.Runs.{Leads, Anything}
use Rattle.outside.proofs.Runs.{Runs-refl, Runs-trans, Runs-weaker, Runs-one}
use Rattle.store_model.specs.declared.event.StoreEvent.{StoreEvent}
use Rattle.store_model.specs.declared.event.StoreEvent.TheVariants.{Edited, Toggled, Wrote, Read}
use Rattle.store_model.specs.Sides.{SideState, happens, IsTrueEvent, Evolves, IsAnyEvent, IsNoWrite, IsUntouching, IsOutside, Since, WasEdited}
use Rattle.store_model.proofs.Moments.{Evolves-refl, Evolves-trans, Evolves-one}
use Rattle.store_model.proofs.Known.{Holds_same, same_or_edited, edited_extends}
use Rattle.store_model.proofs.Lacks.{Evolves-first}
use Rattle.status_keeper.specs.Kept.{KeeperEvent, KeeperState, IsEdit, IsMaking}
use Rattle.status_keeper.specs.Kept as status
use Rattle.sync_run.specs.Quiet.{IsDisturbed}

-- ---- a side

-- at each moment of its reading it holds what it held
pub calm_same : {s r t : SideState} (m : SideState) → (WasEdited s t → ⊥) → Evolves IsNoWrite s r → Since r t → Since s m → Since m r → Holds_same s m
calm_same {s} {r} {t} m calm reads later from until = elim (same_or_edited (Evolves-first reads from until)) [
  | inl same ↦ same
  | inr edited ↦ absurd (calm (edited_extends (Evolves-refl s) edited (Evolves-trans until later)))
]

-- no edit from outside touches any ident
pub calm_untouched : (ident : List ℕ) {s t : SideState} → (WasEdited s t → ⊥) → Since s t → Evolves (IsUntouching ident) s t
calm_untouched ident {s} {t} calm run = record { events = run.events; leads = by s run.events run.leads calm }
  where
    one : (e : StoreEvent) → (IsOutside e → ⊥) → IsUntouching ident e
    one (Edited href old new) none = absurd (none tt)
    one Toggled none = tt
    one (Wrote href old new sent) none = tt
    one (Read href text) none = tt

    by : (s : SideState) (es : List StoreEvent) → Leads happens IsTrueEvent IsAnyEvent s es t → (WasEdited s t → ⊥) → Leads happens IsTrueEvent (IsUntouching ident) s es t
    by s [] leads none = leads
    by s (e ∷ es) leads none =
        let rest : Since (happens s e) t = record { events = es; leads = leads.2 } in
        (one e (λ outside. none (record { moment = s; event = e; from = Evolves-refl s; is_outside = outside; is_true = leads.1; until = rest })), leads.1, by (happens s e) es leads.2 (λ edited. none (edited_extends (Evolves-one s e tt leads.1) edited (Evolves-refl t))))

-- ---- the status

disturbed_at : (s : KeeperState) (e : KeeperEvent) (t : KeeperState) → IsEdit e → status.Evolves Anything (status.happens s e) t → IsDisturbed s t
disturbed_at s e t is_edit rest = record { moment = s; event = e; from = Runs-refl s; is_edit = is_edit; until = rest }

pub disturbed_extends : {s s' t t' : KeeperState} → status.Evolves Anything s s' → IsDisturbed s' t → status.Evolves Anything t t' → IsDisturbed s t'
disturbed_extends before d after = record { moment = d.moment; event = d.event; from = Runs-trans before d.from; is_edit = d.is_edit; until = Runs-trans d.until after }

-- edits from outside that are none change nothing
pub calm_loaded : {s m t : KeeperState} → (IsDisturbed s t → ⊥) → status.Evolves IsEdit s m → status.Evolves Anything m t → m ≡ s
calm_loaded {s} {m} {t} calm run later = by run.events run.leads
  where
    by : (es : List KeeperEvent) → Leads status.happens status.IsTrueEvent IsEdit s es m → m ≡ s
    by [] leads = leads
    by (e ∷ es) leads =
        let rest : status.Evolves IsEdit (status.happens s e) m = record { events = es; leads = leads.2 } in
        absurd (calm (disturbed_at s e t leads.0 (Runs-trans (Runs-weaker (λ x h. tt) rest) later)))

-- the making of its place keeps what is kept
pub calm_kept : {s t : KeeperState} → (IsDisturbed s t → ⊥) → status.Evolves IsMaking s t → t.kept ≡ s.kept
calm_kept {s} {t} calm run = by s run.events run.leads calm
  where
    later : (s : KeeperState) (e : KeeperEvent) → (IsDisturbed s t → ⊥) → IsDisturbed (status.happens s e) t → ⊥
    later s e none d = none (disturbed_extends (Runs-one s e tt tt) d (Runs-refl t))

    by : (s : KeeperState) (es : List KeeperEvent) → Leads status.happens status.IsTrueEvent IsMaking s es t → (IsDisturbed s t → ⊥) → t.kept ≡ s.kept
    by s [] leads none = ap (λ (x : KeeperState). x.kept) leads
    by s (status.Edited kept stamp ∷ es) leads none = absurd (none (disturbed_at s (status.Edited kept stamp) t tt (Runs-weaker (λ x h. tt) (let rest : status.Evolves IsMaking (status.happens s (status.Edited kept stamp)) t = record { events = es; leads = leads.2 } in rest))))
    by s (status.Toggled ∷ es) leads none = by (status.happens s status.Toggled) es leads.2 (later s status.Toggled none)
    by s (status.Made ∷ es) leads none = by (status.happens s status.Made) es leads.2 (later s status.Made none)
    by s (status.Committed rows ∷ es) leads none = absurd leads.0
    by s (status.Spoiled kept stamp ∷ es) leads none = absurd leads.0
