-- One ident on one side, over all steps of a plan.
use Rattle.std.proofs.Common.{◌≡◌, ◌⊎◌, inl, inr, ℕ, Bool, true, false, List, [], ◌∷◌, Option, Some, None, refl, sym, ap, ◌∙◌, subst}
use Rattle.std.specs.Str.{bytes_eq}
use Rattle.std.proofs.lemmas.Bool.{false≢true}
use Rattle.std.proofs.lemmas.Slice.Eq.{bytes_eq-Decides}
use Rattle.std.specs.List.{AllByRecursion}
use Rattle.status_keeper.specs.declared.row.Row.{Row}
use Rattle.status_keeper.specs.Idents.{Precedes, IsRising}
use Rattle.sync_plan.specs.declared.report.Side.{Side}
use Rattle.sync_plan.specs.declared.report.Side.TheVariants.{A, B}
use Rattle.sync_plan.specs.declared.rules.Rules.{Rules}
use Rattle.sync_plan.specs.declared.dues.Step.{Step}
use Rattle.sync_plan.specs.declared.dues.Step.TheVariants as step
use Rattle.sync_plan.specs.declared.seen.Planned.{Planned}
use Rattle.sync_plan.specs.Plans.{planned_idents}
use Rattle.sync_plan.specs.Verdicts.{step_of}
use Rattle.sync_plan.specs.JobSteps.{on_side, written}
use Rattle.sync_plan.proofs.Rising.{precedes_differs}
use Rattle.job_runs.specs.Courses.{Course}
use Rattle.job_runs.specs.Writes.{WroteFor, WroteAll, WroteSome}
use Rattle.job_writes.proofs.OrderLemmas.{puts_tried, removals_refl}
use Rattle.job_writes.specs.Writings.{WritesTried, failed_after, SideNow, Sources, PutTried, PutSentBy, RemovalTried, RemovalSentBy, AllTried}
use Rattle.job_traces.specs.Traces.{IsWriteFor, IsFlushed}
use Rattle.job_traces.proofs.WriteLemmas.{IsOther, IsFresh, IsUnderWay, Tracks, IsWritten, fresh_other, fresh_flushed, sends_other, sends_own, flushed}
use Rattle.job_traces.proofs.StepLemmas.{versions_at, Knows, IsPlanned, Affects, IsPutStep, IsRemovalStep, not_both, copy_affects, over_affects, removal_affects}

put_kind : (side : Side) (st : Step) (c peer : Course) (x : Sources) (rows : List Row) (rules : Rules) (p : Planned) (s t : SideNow) → Knows c peer side x rows rules → IsPlanned c peer side x rows rules p → p.step ≡ st → PutSentBy st side x p s t → Affects c peer side x rows rules p s t × IsPutStep st
put_kind A (step.CopyTo A) c peer x rows rules p s t knows planned is sent = (copy_affects c peer A x rows rules p s t knows planned is sent, tt)
put_kind B (step.CopyTo B) c peer x rows rules p s t knows planned is sent = (copy_affects c peer B x rows rules p s t knows planned is sent, tt)
put_kind A (step.CopyTo B) c peer x rows rules p s t knows planned is sent = absurd sent
put_kind B (step.CopyTo A) c peer x rows rules p s t knows planned is sent = absurd sent
put_kind A (step.WriteOver A) c peer x rows rules p s t knows planned is sent = (over_affects c peer A x rows rules p s t knows planned is sent, tt)
put_kind B (step.WriteOver B) c peer x rows rules p s t knows planned is sent = (over_affects c peer B x rows rules p s t knows planned is sent, tt)
put_kind A (step.WriteOver B) c peer x rows rules p s t knows planned is sent = absurd sent
put_kind B (step.WriteOver A) c peer x rows rules p s t knows planned is sent = absurd sent
put_kind side step.Forget c peer x rows rules p s t knows planned is sent = absurd sent
put_kind side step.Keep c peer x rows rules p s t knows planned is sent = absurd sent
put_kind side (step.RemoveFrom from) c peer x rows rules p s t knows planned is sent = absurd sent
put_kind side step.HandOver c peer x rows rules p s t knows planned is sent = absurd sent
put_kind side step.Conflict c peer x rows rules p s t knows planned is sent = absurd sent
put_kind side (step.Held to) c peer x rows rules p s t knows planned is sent = absurd sent

removal_kind : (side : Side) (st : Step) (c peer : Course) (x : Sources) (rows : List Row) (rules : Rules) (p : Planned) (s t : SideNow) → Knows c peer side x rows rules → IsPlanned c peer side x rows rules p → p.step ≡ st → RemovalSentBy st side x p s t → Affects c peer side x rows rules p s t × IsRemovalStep st
removal_kind A (step.RemoveFrom A) c peer x rows rules p s t knows planned is sent = (removal_affects c peer A x rows rules p s t knows planned is sent, tt)
removal_kind B (step.RemoveFrom B) c peer x rows rules p s t knows planned is sent = (removal_affects c peer B x rows rules p s t knows planned is sent, tt)
removal_kind A (step.RemoveFrom B) c peer x rows rules p s t knows planned is sent = absurd sent
removal_kind B (step.RemoveFrom A) c peer x rows rules p s t knows planned is sent = absurd sent
removal_kind side (step.CopyTo to) c peer x rows rules p s t knows planned is sent = absurd sent
removal_kind side (step.WriteOver to) c peer x rows rules p s t knows planned is sent = absurd sent
removal_kind side step.Forget c peer x rows rules p s t knows planned is sent = absurd sent
removal_kind side step.Keep c peer x rows rules p s t knows planned is sent = absurd sent
removal_kind side step.HandOver c peer x rows rules p s t knows planned is sent = absurd sent
removal_kind side step.Conflict c peer x rows rules p s t knows planned is sent = absurd sent
removal_kind side (step.Held to) c peer x rows rules p s t knows planned is sent = absurd sent

module _ (c peer : Course) (side : Side) (x : Sources) (rows : List Row) (rules : Rules) where
  -- nothing was done, or the step sent its change; it is of this kind
  abbrev pub Effect : (Step → Type 0) → Planned → SideNow → SideNow → Type 0
  Effect Kind p s t = (t ≡ s) ⊎ (Affects c peer side x rows rules p s t × Kind p.step)

  pub put_effect : (p : Planned) (s t : SideNow) → Knows c peer side x rows rules → IsPlanned c peer side x rows rules p → PutTried side x p s t → Effect IsPutStep p s t
  put_effect p s t knows planned (inl same) = inl same
  put_effect p s t knows planned (inr sent) = inr (put_kind side p.step c peer x rows rules p s t knows planned refl sent)

  pub removal_effect : (failed : Bool) (p : Planned) (s t : SideNow) → Knows c peer side x rows rules → IsPlanned c peer side x rows rules p → RemovalTried side x failed p s t → Effect IsRemovalStep p s t
  removal_effect failed p s t knows planned (inl same) = inl same
  removal_effect failed p s t knows planned (inr (none, sent)) = inr (removal_kind side p.step c peer x rows rules p s t knows planned refl sent)

  pub put_effects : (ps : List Planned) (s t : SideNow) → Knows c peer side x rows rules → AllByRecursion (IsPlanned c peer side x rows rules) ps → AllTried (PutTried side x) ps s t → AllTried (Effect IsPutStep) ps s t
  put_effects [] s t knows planned done = done
  put_effects (p ∷ ps) s t knows planned (m, tried, rest) = (m, put_effect p s m knows planned.0 tried, put_effects ps m t knows planned.1 rest)

  pub removal_effects : (failed : Bool) (ps : List Planned) (s t : SideNow) → Knows c peer side x rows rules → AllByRecursion (IsPlanned c peer side x rows rules) ps → AllTried (RemovalTried side x failed) ps s t → AllTried (Effect IsRemovalStep) ps s t
  removal_effects failed [] s t knows planned done = done
  removal_effects failed (p ∷ ps) s t knows planned (m, tried, rest) = (m, removal_effect failed p s m knows planned.0 tried, removal_effects failed ps m t knows planned.1 rest)

  -- ---- one ident

  module _ (ident : List ℕ) where
    abbrev pub saw : Option (List ℕ)
    saw = on_side side (versions_at c peer side x rows rules ident)

    abbrev pub says : Option (Option (List ℕ))
    says = written (step_of rules (versions_at c peer side x rows rules ident)) None side (versions_at c peer side x rows rules ident)

    -- the write that the step says is under way
    pub record IsSaid (s : SideNow) : Type 0 where
      pub to : Option (List ℕ)
      pub is : says ≡ Some to
      pub under : IsUnderWay c peer ident saw to s

    abbrev pub Stands : SideNow → Type 0
    Stands s = IsFresh c peer ident s ⊎ IsSaid s

    pub other_of : (p : Planned) (s t : SideNow) → ((p.ident).now ≡ ident → ⊥) → (a : Affects c peer side x rows rules p s t) → IsOther c peer ident a.ch
    other_of p s t differs a = record { other = (p.ident).now; differs = differs; saw = on_side side (versions_at c peer side x rows rules (p.ident).now); to = a.to; write = a.write }

    -- a step of another ident
    pub fresh_by_other : (Kind : Step → Type 0) (p : Planned) (s t : SideNow) → ((p.ident).now ≡ ident → ⊥) → Effect Kind p s t → IsFresh c peer ident s → IsFresh c peer ident t
    fresh_by_other Kind p s t differs (inl same) fresh = subst (λ (y : SideNow). IsFresh c peer ident y) (sym same) fresh
    fresh_by_other Kind p s t differs (inr (a, kind)) fresh = fresh_other c peer ident a.ch s t (other_of p s t differs a) a.sends fresh

    under_of : (to : Option (List ℕ)) (t : SideNow) → says ≡ Some to → Tracks c peer ident saw to t → Stands t
    under_of to t is (inl fresh) = inl fresh
    under_of to t is (inr under) = inr (record { to = to; is = is; under = under })

    said_by_other : (Kind : Step → Type 0) (p : Planned) (s t : SideNow) → ((p.ident).now ≡ ident → ⊥) → Effect Kind p s t → IsSaid s → Stands t
    said_by_other Kind p s t differs (inl same) said = inr (subst (λ (y : SideNow). IsSaid y) (sym same) said)
    said_by_other Kind p s t differs (inr (a, kind)) said = under_of said.to t said.is (sends_other c peer ident saw said.to a.ch s t (other_of p s t differs a) a.sends (inr said.under))

    stands_by_other : (Kind : Step → Type 0) (p : Planned) (s t : SideNow) → ((p.ident).now ≡ ident → ⊥) → Effect Kind p s t → Stands s → Stands t
    stands_by_other Kind p s t differs effect (inl fresh) = inl (fresh_by_other Kind p s t differs effect fresh)
    stands_by_other Kind p s t differs effect (inr said) = said_by_other Kind p s t differs effect said

    -- the step of the ident itself
    own_affects : (p : Planned) (s t : SideNow) → (p.ident).now ≡ ident → IsPlanned c peer side x rows rules p → Affects c peer side x rows rules p s t → IsFresh c peer ident s → Stands t
    own_affects p s t here planned a fresh =
        let is : says ≡ Some a.to = subst (λ (i : List ℕ). written (step_of rules (versions_at c peer side x rows rules i)) None side (versions_at c peer side x rows rules i) ≡ Some a.to) here (ap (λ (q : Step). written q None side (versions_at c peer side x rows rules (p.ident).now)) (sym planned.by_table) ∙ a.is_written) in
        under_of a.to t is (sends_own c peer ident saw a.to a.ch s t (subst (λ (i : List ℕ). IsWriteFor c peer i (on_side side (versions_at c peer side x rows rules i)) a.to a.ch) here a.write) a.sends fresh)

    pub own_step : (p : Planned) → (p.ident).now ≡ ident → IsPlanned c peer side x rows rules p → p.step ≡ step_of rules (versions_at c peer side x rows rules ident)
    own_step p here planned = planned.by_table ∙ ap (λ (i : List ℕ). step_of rules (versions_at c peer side x rows rules i)) here

    -- ---- all steps

    pub decide : (i : List ℕ) → (i ≡ ident) ⊎ (i ≡ ident → ⊥)
    decide i = at (bytes_eq i ident) refl
      where
        at : (b : Bool) → bytes_eq i ident ≡ b → (i ≡ ident) ⊎ (i ≡ ident → ⊥)
        at true e = inl ((bytes_eq-Decides i ident).0 e)
        at false e = inr (λ same. false≢true (sym e ∙ (bytes_eq-Decides i ident).1 same))

    all_others : (Kind : Step → Type 0) (ps : List Planned) (s t : SideNow) → AllByRecursion (λ (z : List ℕ). Precedes ident z) (planned_idents ps) → AllTried (Effect Kind) ps s t → Stands s → Stands t
    all_others Kind [] s t later done stands = subst (λ (y : SideNow). Stands y) (sym done) stands
    all_others Kind (p ∷ ps) s t later (m, effect, rest) stands = all_others Kind ps m t later.1 rest (stands_by_other Kind p s m (λ same. precedes_differs ident (p.ident).now later.0 (sym same)) effect stands)

    pub all_fresh : (Kind : Step → Type 0) (ps : List Planned) (s t : SideNow) → AllByRecursion (λ (z : List ℕ). Precedes ident z) (planned_idents ps) → AllTried (Effect Kind) ps s t → IsFresh c peer ident s → IsFresh c peer ident t
    all_fresh Kind [] s t later done fresh = subst (λ (y : SideNow). IsFresh c peer ident y) (sym done) fresh
    all_fresh Kind (p ∷ ps) s t later (m, effect, rest) fresh = all_fresh Kind ps m t later.1 rest (fresh_by_other Kind p s m (λ same. precedes_differs ident (p.ident).now later.0 (sym same)) effect fresh)

    abbrev pub own_kind : (Step → Type 0) → Type 0
    own_kind Kind = Kind (step_of rules (versions_at c peer side x rows rules ident))

    once_here : (Kind : Step → Type 0) (p : Planned) (ps : List Planned) (s m t : SideNow) → (p.ident).now ≡ ident → IsPlanned c peer side x rows rules p → AllByRecursion (λ (z : List ℕ). Precedes ident z) (planned_idents ps) → Effect Kind p s m → AllTried (Effect Kind) ps m t → IsFresh c peer ident s → IsFresh c peer ident t ⊎ (Stands t × own_kind Kind)
    once_here Kind p ps s m t here planned later (inl same) rest fresh = inl (all_fresh Kind ps m t later rest (subst (λ (y : SideNow). IsFresh c peer ident y) (sym same) fresh))
    once_here Kind p ps s m t here planned later (inr (a, kind)) rest fresh = inr (all_others Kind ps m t later rest (own_affects p s m here planned a fresh), subst Kind (own_step p here planned) kind)

    -- in one phase the ident is written once at most, and only where its step is of the phase
    once : (Kind : Step → Type 0) (ps : List Planned) (s t : SideNow) → IsRising (planned_idents ps) → AllByRecursion (IsPlanned c peer side x rows rules) ps → AllTried (Effect Kind) ps s t → IsFresh c peer ident s → IsFresh c peer ident t ⊎ (Stands t × own_kind Kind)
    once Kind [] s t rising planned done fresh = inl (subst (λ (y : SideNow). IsFresh c peer ident y) (sym done) fresh)
    once Kind (p ∷ ps) s t rising planned (m, effect, rest) fresh = elim (decide (p.ident).now) [
      | inr differs ↦ once Kind ps m t rising.1 planned.1 rest (fresh_by_other Kind p s m differs effect fresh)
      | inl here ↦ once_here Kind p ps s m t here planned.0 (subst (λ (i : List ℕ). AllByRecursion (λ (z : List ℕ). Precedes i z) (planned_idents ps)) here rising.0) effect rest fresh
    ]

    -- where it was put, no removal is of it
    keep_here : (p : Planned) (s m : SideNow) → (p.ident).now ≡ ident → IsPlanned c peer side x rows rules p → own_kind IsPutStep → Effect IsRemovalStep p s m → Stands s → Stands m
    keep_here p s m here planned put (inl same) stands = subst (λ (y : SideNow). Stands y) (sym same) stands
    keep_here p s m here planned put (inr (a, kind)) stands = absurd (not_both (step_of rules (versions_at c peer side x rows rules ident)) put (subst IsRemovalStep (own_step p here planned) kind))

    keep : (ps : List Planned) (s t : SideNow) → AllByRecursion (IsPlanned c peer side x rows rules) ps → own_kind IsPutStep → AllTried (Effect IsRemovalStep) ps s t → Stands s → Stands t
    keep [] s t planned put done stands = subst (λ (y : SideNow). Stands y) (sym done) stands
    keep (p ∷ ps) s t planned put (m, effect, rest) stands = keep ps m t planned.1 put rest (elim (decide (p.ident).now) [
      | inl here ↦ keep_here p s m here planned.0 put effect stands
      | inr differs ↦ stands_by_other IsRemovalStep p s m differs effect stands
    ])

    -- both phases
    both : (ps : List Planned) (s m t : SideNow) → IsRising (planned_idents ps) → AllByRecursion (IsPlanned c peer side x rows rules) ps → AllTried (Effect IsPutStep) ps s m → AllTried (Effect IsRemovalStep) ps m t → IsFresh c peer ident s → Stands t
    both ps s m t rising planned first second fresh = elim (once IsPutStep ps s m rising planned first fresh) [
      | inr put ↦ keep ps m t planned put.1 second put.0
      | inl still ↦ elim (once IsRemovalStep ps m t rising planned second still) [
        | inl end ↦ inl end
        | inr removed ↦ removed.0
      ]
    ]

    wrote_for : (to : Option (List ℕ)) → IsWritten c peer ident saw to c.exit → WroteFor c peer ident saw to
    wrote_for to w =
        record {
          moment = (w.acted).moment;
          href = (w.ch).href;
          old = (w.acted).old;
          new = (w.acted).new;
          sent = (w.ch).sent;
          before = (w.acted).before;
          is_true = (w.acted).is_true;
          over = (w.acted).over;
          alone = (w.acted).alone;
          put = (w.acted).put;
          source = (w.acted).source;
          after = (w.acted).after;
        }

    pub wrote_some : (end : SideNow) → Stands end → IsFlushed end c.exit → WroteSome c peer ident saw says
    wrote_some end (inl fresh) flush = inl (fresh_flushed c peer ident end c.exit fresh flush)
    wrote_some end (inr said) flush = elim (flushed c peer ident saw said.to end c.exit (inr said.under) flush) [
      | inl others ↦ inl others
      | inr wrote ↦ inr (subst (λ (o : Option (Option (List ℕ))). WroteAll c peer ident saw o) (sym said.is) (wrote_for said.to wrote))
    ]

    wrote : (failed : Bool) (ps : List Planned) (s m t : SideNow) → Knows c peer side x rows rules → IsRising (planned_idents ps) → AllByRecursion (IsPlanned c peer side x rows rules) ps → AllTried (PutTried side x) ps s m → AllTried (RemovalTried side x failed) ps m t → IsFresh c peer ident s → IsFlushed t c.exit → WroteSome c peer ident saw says
    wrote failed ps s m t knows rising planned first second fresh flush = wrote_some t (both ps s m t rising planned (put_effects ps s m knows planned first) (removal_effects failed ps m t knows planned second) fresh) flush

    -- wherever the run ended
    pub wrote_tried : (waits : Bool) (ps : List Planned) (s t : SideNow) → Knows c peer side x rows rules → IsRising (planned_idents ps) → AllByRecursion (IsPlanned c peer side x rows rules) ps → WritesTried waits side x ps s t → IsFresh c peer ident s → IsFlushed t c.exit → WroteSome c peer ident saw says
    wrote_tried waits ps s t knows rising planned (inl puts) fresh flush = wrote false ps s t t knows rising planned puts (removals_refl side x false ps t) fresh flush
    wrote_tried waits ps s t knows rising planned (inr tried) fresh flush = wrote (failed_after false tried.put) ps s tried.between t knows rising planned (puts_tried waits side x ps tried.put s tried.between tried.puts) tried.removals fresh flush
