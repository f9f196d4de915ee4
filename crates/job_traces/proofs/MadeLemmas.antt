-- A row that a run makes rests on what was taken of both sides, or on a write whose answer is known.
use Rattle.std.proofs.Common.{◌≡◌, ◌⊎◌, inl, inr, ℕ, Bool, true, false, ◌||◌, List, [], ◌∷◌, Option, Some, None, refl, sym, ap, ◌∙◌, subst}
use Rattle.std.specs.List.{AllByRecursion}
use Rattle.store_model.specs.Waits.{Change, Flushes, new_at, over_at, gone_at}
use Rattle.status_keeper.specs.declared.row.Row.{Row}
use Rattle.status_keeper.specs.Idents.{Precedes, IsRising}
use Rattle.sync_plan.specs.declared.report.Side.{Side}
use Rattle.sync_plan.specs.declared.report.Side.TheVariants.{A, B}
use Rattle.sync_plan.specs.declared.rules.Rules.{Rules}
use Rattle.sync_plan.specs.declared.dues.Step.{Step}
use Rattle.sync_plan.specs.declared.dues.Step.TheVariants as step
use Rattle.sync_plan.specs.declared.seen.Seen.{Seen}
use Rattle.sync_plan.specs.declared.seen.Planned.{Planned}
use Rattle.sync_plan.specs.Plans.{seen_of, planned_idents}
use Rattle.sync_plan.specs.Verdicts.{other_side, step_of}
use Rattle.sync_plan.specs.JobSteps.{on_side, written}
use Rattle.sync_plan.proofs.Rising.{precedes_differs}
use Rattle.side_reads.specs.Places.{href_on, etag_on}
use Rattle.job_runs.specs.Courses.{Course}
use Rattle.job_runs.specs.Writes.{WroteFor, IsEtagOf}
use Rattle.job_writes.specs.declared.outcome.Outcome.{Outcome}
use Rattle.job_writes.specs.declared.outcome.Outcome.TheVariants.{Gone, Written}
use Rattle.job_writes.specs.Writings.{SideNow, Sources, CopyDid, OverDid, RemovalDid, IsSent, held_on, place_on, seen_at, PutBy, PutDid, RemovalBy, RemovalDone, RemovalTried, InOrder, AllTried, AllFit, FitsRemoval, is_failure, failed_after, row_beside}
use Rattle.job_writes.proofs.OrderLemmas.{put_tried, removal_tried, removals_tried}
use Rattle.job_traces.specs.Traces.{IsWriteFor, IsFlushed}
use Rattle.job_traces.proofs.WriteLemmas.{IsFresh, IsSentFor, IsDone, HasActed, sent_other, sent_own, sent_flushed, done_other, done_own, done_flushed}
use Rattle.job_traces.proofs.StepLemmas.{at_place, place_of, versions_at, Knows, IsPlanned, IsPutStep, IsRemovalStep, not_both, copy_write, over_write, removal_write, copy_says, over_says, removal_says}
use Rattle.job_traces.proofs.RunLemmas.{Effect, put_effect, removal_effect, saw, says, other_of, fresh_by_other, decide, own_kind, own_step}

-- the step and its outcome stand at one place of their lists
abbrev pub IsAt : Planned → Outcome → List Planned → List Outcome → Type 0
IsAt p o [] os = ⊥
IsAt p o (q ∷ ps) [] = ⊥
IsAt p o (q ∷ ps) (y ∷ os) = ((p ≡ q) × (o ≡ y)) ⊎ IsAt p o ps os

placed_beside : (side : Side) (from : Seen) (href : List ℕ) (etag : Option (List ℕ)) → (href_on side (row_beside side from href etag) ≡ Some href) × (etag_on side (row_beside side from href etag) ≡ etag)
placed_beside A from href etag = (refl, refl)
placed_beside B from href etag = (refl, refl)

module _ (c peer : Course) (side : Side) (x : Sources) (rows : List Row) (rules : Rules) (ident : List ℕ) (waits : Bool) where
  -- a write for the ident was answered Ok: it acted or waits, and what its answer told is the row's place on this side
  pub record IsPut (row : Row) (s : SideNow) : Type 0 where
    pub to : Option (List ℕ)
    pub is : says c peer side x rows rules ident ≡ Some to
    pub ch : Change
    pub etag : Option (List ℕ)
    pub sent : IsSentFor c peer ident (saw c peer side x rows rules ident) to ch etag s
    -- where the store doesn't wait it acted at once
    pub at_once : waits ≡ false → IsDone c peer ident (saw c peer side x rows rules ident) to ch s
    pub from : Seen
    pub source : seen_of ident (held_on (other_side side) x).seen.items ≡ Some from
    pub is_row : row ≡ row_beside side from ch.href etag

  pub record IsRemoved (s : SideNow) : Type 0 where
    pub is : says c peer side x rows rules ident ≡ Some None
    pub ch : Change
    pub sent : IsSentFor c peer ident (saw c peer side x rows rules ident) None ch None s

  put_other : (Kind : Step → Type 0) (row : Row) (p : Planned) (s t : SideNow) → ((p.ident).now ≡ ident → ⊥) → Effect c peer side x rows rules Kind p s t → IsPut row s → IsPut row t
  put_other Kind row p s t differs (inl same) put = subst (λ (y : SideNow). IsPut row y) (sym same) put
  put_other Kind row p s t differs (inr (a, kind)) put =
      record { to = put.to; is = put.is; ch = put.ch; etag = put.etag; sent = sent_other c peer ident (saw c peer side x rows rules ident) put.to put.ch put.etag a.ch s t (other_of c peer side x rows rules ident p s t differs a) a.sends put.sent; at_once = λ h. done_other c peer ident (saw c peer side x rows rules ident) put.to put.ch a.ch s t (other_of c peer side x rows rules ident p s t differs a) a.sends (put.at_once h); from = put.from; source = put.source; is_row = put.is_row }

  removed_other : (Kind : Step → Type 0) (p : Planned) (s t : SideNow) → ((p.ident).now ≡ ident → ⊥) → Effect c peer side x rows rules Kind p s t → IsRemoved s → IsRemoved t
  removed_other Kind p s t differs (inl same) removed = subst (λ (y : SideNow). IsRemoved y) (sym same) removed
  removed_other Kind p s t differs (inr (a, kind)) removed =
      record { is = removed.is; ch = removed.ch; sent = sent_other c peer ident (saw c peer side x rows rules ident) None removed.ch None a.ch s t (other_of c peer side x rows rules ident p s t differs a) a.sends removed.sent }

  says_at : (p : Planned) (to : Option (List ℕ)) → (p.ident).now ≡ ident → IsPlanned c peer side x rows rules p → written p.step None side (versions_at c peer side x rows rules (p.ident).now) ≡ Some to → says c peer side x rows rules ident ≡ Some to
  says_at p to here planned is = subst (λ (i : List ℕ). written (step_of rules (versions_at c peer side x rows rules i)) None side (versions_at c peer side x rows rules i) ≡ Some to) here (ap (λ (q : Step). written q None side (versions_at c peer side x rows rules (p.ident).now)) (sym planned.by_table) ∙ is)

  write_at : (p : Planned) (to : Option (List ℕ)) (ch : Change) → (p.ident).now ≡ ident → IsWriteFor c peer (p.ident).now (on_side side (versions_at c peer side x rows rules (p.ident).now)) to ch → IsWriteFor c peer ident (saw c peer side x rows rules ident) to ch
  write_at p to ch here write = subst (λ (i : List ℕ). IsWriteFor c peer i (on_side side (versions_at c peer side x rows rules i)) to ch) here write

  source_first : (p : Planned) (from : Seen) → (p.ident).now ≡ ident → IsPlanned c peer side x rows rules p → seen_at (held_on (other_side side) x) (place_on (other_side side) p) ≡ Some from → seen_of ident (held_on (other_side side) x).seen.items ≡ Some from
  source_first p from here planned stands = subst (λ (i : List ℕ). seen_of i (held_on (other_side side) x).seen.items ≡ Some from) here (at_place (p.ident).now (held_on (other_side side) x) (place_on (other_side side) p) from (place_of c peer side x rows rules (other_side side) p planned) stands).first

  -- the step of the ident itself, where it is on this side
  copy_put : (p : Planned) (row : Row) (s t : SideNow) → (p.ident).now ≡ ident → Knows c peer side x rows rules → IsPlanned c peer side x rows rules p → p.step ≡ step.CopyTo side → CopyDid waits side (held_on (other_side side) x) (place_on (other_side side) p) s t (Written row) → IsFresh c peer ident s → IsPut row t
  copy_put p row s t here knows planned is did fresh =
      let to = on_side (other_side side) (versions_at c peer side x rows rules (p.ident).now) in
      let ch = new_at did.answer.0 did.item.text in
      record {
        to = to;
        is = says_at p to here planned (copy_says c peer side x rows rules p is);
        ch = ch;
        etag = did.answer.1;
        sent = sent_own c peer ident (saw c peer side x rows rules ident) to waits ch did.answer.1 s t (write_at p to ch here (copy_write c peer side x rows rules p did.from did.item did.answer.0 knows planned is did.source)) did.answer.3 fresh;
        at_once = λ h. done_own c peer ident (saw c peer side x rows rules ident) to ch did.answer.1 s t (write_at p to ch here (copy_write c peer side x rows rules p did.from did.item did.answer.0 knows planned is did.source)) (subst (λ (w : Bool). IsSent w ch did.answer.1 s t) h did.answer.3) fresh;
        from = did.from;
        source = source_first p did.from here planned did.source.seen;
        is_row = did.answer.2;
      }

  over_put : (p : Planned) (row : Row) (s t : SideNow) → (p.ident).now ≡ ident → Knows c peer side x rows rules → IsPlanned c peer side x rows rules p → p.step ≡ step.WriteOver side → OverDid waits side (held_on side x) (place_on side p) (held_on (other_side side) x) (place_on (other_side side) p) s t (Written row) → IsFresh c peer ident s → IsPut row t
  over_put p row s t here knows planned is did fresh =
      let to = on_side (other_side side) (versions_at c peer side x rows rules (p.ident).now) in
      let ch = over_at (did.over).href (did.over).etag did.item.text in
      record {
        to = to;
        is = says_at p to here planned (over_says c peer side x rows rules p is);
        ch = ch;
        etag = did.answer.0;
        sent = sent_own c peer ident (saw c peer side x rows rules ident) to waits ch did.answer.0 s t (write_at p to ch here (over_write c peer side x rows rules p did.over did.from did.item knows planned did.stands did.source)) did.answer.2 fresh;
        at_once = λ h. done_own c peer ident (saw c peer side x rows rules ident) to ch did.answer.0 s t (write_at p to ch here (over_write c peer side x rows rules p did.over did.from did.item knows planned did.stands did.source)) (subst (λ (w : Bool). IsSent w ch did.answer.0 s t) h did.answer.2) fresh;
        from = did.from;
        source = source_first p did.from here planned did.source.seen;
        is_row = did.answer.1;
      }

  removal_of : (p : Planned) (s t : SideNow) → (p.ident).now ≡ ident → Knows c peer side x rows rules → IsPlanned c peer side x rows rules p → p.step ≡ step.RemoveFrom side → RemovalDid waits side (held_on side x) (place_on side p) s t Gone → IsFresh c peer ident s → IsRemoved t
  removal_of p s t here knows planned is did fresh =
      let ch = gone_at (did.over).href (did.over).etag in
      record {
        is = says_at p None here planned (removal_says c peer side x rows rules p is);
        ch = ch;
        sent = sent_own c peer ident (saw c peer side x rows rules ident) None waits ch None s t (write_at p None ch here (removal_write c peer side x rows rules p did.over knows planned did.stands)) did.answer fresh;
      }

  -- ---- all steps of a phase

  later_at : (i : List ℕ) (p : Planned) (o : Outcome) (ps : List Planned) (os : List Outcome) → AllByRecursion (λ (z : List ℕ). Precedes i z) (planned_idents ps) → IsAt p o ps os → Precedes i (p.ident).now
  later_at i p o [] os later at = absurd at
  later_at i p o (q ∷ ps) [] later at = absurd at
  later_at i p o (q ∷ ps) (y ∷ os) later (inl (same, e)) = subst (λ (r : Planned). Precedes i (r.ident).now) (sym same) later.0
  later_at i p o (q ∷ ps) (y ∷ os) later (inr at) = later_at i p o ps os later.1 at

  before_at : (q p : Planned) (o : Outcome) (ps : List Planned) (os : List Outcome) → (p.ident).now ≡ ident → AllByRecursion (λ (z : List ℕ). Precedes (q.ident).now z) (planned_idents ps) → IsAt p o ps os → (q.ident).now ≡ ident → ⊥
  before_at q p o ps os here later at same = precedes_differs (q.ident).now (p.ident).now (later_at (q.ident).now p o ps os later at) (same ∙ sym here)

  module _ (knows : Knows c peer side x rows rules) where
    puts_others : (row : Row) (failed : Bool) (ps : List Planned) (os : List Outcome) (s t : SideNow) → AllByRecursion (λ (z : List ℕ). Precedes ident z) (planned_idents ps) → AllByRecursion (IsPlanned c peer side x rows rules) ps → InOrder (λ failed. PutDid waits side x) failed ps os s t → IsPut row s → IsPut row t
    puts_others row failed [] [] s t later planned done put = subst (λ (y : SideNow). IsPut row y) (sym done) put
    puts_others row failed (p ∷ ps) (o ∷ os) s t later planned (m, did, rest) put = puts_others row (failed || is_failure o) ps os m t later.1 planned.1 rest (put_other IsPutStep row p s m (λ same. precedes_differs ident (p.ident).now later.0 (sym same)) (put_effect c peer side x rows rules p s m knows planned.0 (put_tried waits side x p s m o did)) put)
    puts_others row failed [] (o ∷ os) s t later planned done put = absurd done
    puts_others row failed (p ∷ ps) [] s t later planned done put = absurd done

    -- what one step of the ident does on this side, where it was written
    own_put : (st : Step) (p : Planned) (row : Row) (s t : SideNow) → (p.ident).now ≡ ident → IsPlanned c peer side x rows rules p → p.step ≡ st → (st ≡ step.CopyTo side) ⊎ (st ≡ step.WriteOver side) → PutBy st waits side x p s t (Written row) → IsFresh c peer ident s → IsPut row t
    own_put st p row s t here planned is (inl copy) did fresh = copy_put p row s t here knows planned (is ∙ copy) (copy_did side copy did) fresh
      where
        copy_did : (to : Side) → st ≡ step.CopyTo to → PutBy st waits to x p s t (Written row) → CopyDid waits to (held_on (other_side to) x) (place_on (other_side to) p) s t (Written row)
        copy_did A e h = subst (λ (q : Step). PutBy q waits A x p s t (Written row)) e h
        copy_did B e h = subst (λ (q : Step). PutBy q waits B x p s t (Written row)) e h
    own_put st p row s t here planned is (inr over) did fresh = over_put p row s t here knows planned (is ∙ over) (over_did side over did) fresh
      where
        over_did : (to : Side) → st ≡ step.WriteOver to → PutBy st waits to x p s t (Written row) → OverDid waits to (held_on to x) (place_on to p) (held_on (other_side to) x) (place_on (other_side to) p) s t (Written row)
        over_did A e h = subst (λ (q : Step). PutBy q waits A x p s t (Written row)) e h
        over_did B e h = subst (λ (q : Step). PutBy q waits B x p s t (Written row)) e h

    puts_at : (p : Planned) (row : Row) (failed : Bool) (ps : List Planned) (os : List Outcome) (s t : SideNow) → (p.ident).now ≡ ident → (p.step ≡ step.CopyTo side) ⊎ (p.step ≡ step.WriteOver side) → IsRising (planned_idents ps) → AllByRecursion (IsPlanned c peer side x rows rules) ps → InOrder (λ failed. PutDid waits side x) failed ps os s t → IsAt p (Written row) ps os → IsFresh c peer ident s → IsPut row t
    puts_at p row failed [] os s t here kind rising planned done at fresh = absurd at
    puts_at p row failed (q ∷ ps) [] s t here kind rising planned done at fresh = absurd at
    puts_at p row failed (q ∷ ps) (o ∷ os) s t here kind rising planned (m, did, rest) (inl (same, e)) fresh =
        let own : PutDid waits side x p s m (Written row) = subst (λ (r : Planned). PutDid waits side x r s m (Written row)) (sym same) (subst (λ (y : Outcome). PutDid waits side x q s m y) (sym e) did) in
        let is_planned : IsPlanned c peer side x rows rules p = subst (IsPlanned c peer side x rows rules) (sym same) planned.0 in
        let later : AllByRecursion (λ (z : List ℕ). Precedes ident z) (planned_idents ps) = subst (λ (i : List ℕ). AllByRecursion (λ (z : List ℕ). Precedes i z) (planned_idents ps)) (ap (λ (r : Planned). (r.ident).now) (sym same) ∙ here) rising.0 in
        puts_others row (failed || is_failure o) ps os m t later planned.1 rest (own_put p.step p row s m here is_planned refl kind own fresh)
    puts_at p row failed (q ∷ ps) (o ∷ os) s t here kind rising planned (m, did, rest) (inr at) fresh =
        puts_at p row (failed || is_failure o) ps os m t here kind rising.1 planned.1 rest at (fresh_by_other c peer side x rows rules ident IsPutStep q s m (before_at q p (Written row) ps os here rising.0 at) (put_effect c peer side x rows rules q s m knows planned.0 (put_tried waits side x q s m o did)) fresh)

    -- ---- removals

    -- no removal is of an ident that was put
    keep_put : (row : Row) (failed : Bool) (ps : List Planned) (s t : SideNow) → AllByRecursion (IsPlanned c peer side x rows rules) ps → own_kind c peer side x rows rules ident IsPutStep → AllTried (RemovalTried side x failed) ps s t → IsPut row s → IsPut row t
    keep_put row failed [] s t planned kind done put = subst (λ (y : SideNow). IsPut row y) (sym done) put
    keep_put row failed (p ∷ ps) s t planned kind (m, tried, rest) put = keep_put row failed ps m t planned.1 kind rest (one (decide c peer side x rows rules ident (p.ident).now) (removal_effect c peer side x rows rules failed p s m knows planned.0 tried))
      where
        one : ((p.ident).now ≡ ident) ⊎ ((p.ident).now ≡ ident → ⊥) → Effect c peer side x rows rules IsRemovalStep p s m → IsPut row m
        one (inr differs) effect = put_other IsRemovalStep row p s m differs effect put
        one (inl here) (inl same) = subst (λ (y : SideNow). IsPut row y) (sym same) put
        one (inl here) (inr (a, removal)) = absurd (not_both (step_of rules (versions_at c peer side x rows rules ident)) kind (subst IsRemovalStep (own_step c peer side x rows rules ident p here planned.0) removal))

    -- no put is of an ident that is to be removed
    fresh_puts : (failed : Bool) (ps : List Planned) (os : List Outcome) (s t : SideNow) → AllByRecursion (IsPlanned c peer side x rows rules) ps → own_kind c peer side x rows rules ident IsRemovalStep → InOrder (λ failed. PutDid waits side x) failed ps os s t → IsFresh c peer ident s → IsFresh c peer ident t
    fresh_puts failed [] [] s t planned kind done fresh = subst (λ (y : SideNow). IsFresh c peer ident y) (sym done) fresh
    fresh_puts failed [] (o ∷ os) s t planned kind done fresh = absurd done
    fresh_puts failed (p ∷ ps) [] s t planned kind done fresh = absurd done
    fresh_puts failed (p ∷ ps) (o ∷ os) s t planned kind (m, did, rest) fresh = fresh_puts (failed || is_failure o) ps os m t planned.1 kind rest (one (decide c peer side x rows rules ident (p.ident).now) (put_effect c peer side x rows rules p s m knows planned.0 (put_tried waits side x p s m o did)))
      where
        one : ((p.ident).now ≡ ident) ⊎ ((p.ident).now ≡ ident → ⊥) → Effect c peer side x rows rules IsPutStep p s m → IsFresh c peer ident m
        one (inr differs) effect = fresh_by_other c peer side x rows rules ident IsPutStep p s m differs effect fresh
        one (inl here) (inl same) = subst (λ (y : SideNow). IsFresh c peer ident y) (sym same) fresh
        one (inl here) (inr (a, put)) = absurd (not_both (step_of rules (versions_at c peer side x rows rules ident)) (subst IsPutStep (own_step c peer side x rows rules ident p here planned.0) put) kind)

    removals_others : (failed : Bool) (ps : List Planned) (os : List Outcome) (s t : SideNow) → AllByRecursion (λ (z : List ℕ). Precedes ident z) (planned_idents ps) → AllByRecursion (IsPlanned c peer side x rows rules) ps → InOrder (RemovalDone waits side x) failed ps os s t → IsRemoved s → IsRemoved t
    removals_others failed [] [] s t later planned done removed = subst (λ (y : SideNow). IsRemoved y) (sym done) removed
    removals_others failed (p ∷ ps) (o ∷ os) s t later planned (m, did, rest) removed = removals_others (failed || is_failure o) ps os m t later.1 planned.1 rest (removed_other IsRemovalStep p s m (λ same. precedes_differs ident (p.ident).now later.0 (sym same)) (removal_effect c peer side x rows rules failed p s m knows planned.0 (removal_tried waits side x failed p s m o did)) removed)
    removals_others failed [] (o ∷ os) s t later planned done removed = absurd done
    removals_others failed (p ∷ ps) [] s t later planned done removed = absurd done

    own_removal : (failed : Bool) (p : Planned) (s t : SideNow) → (p.ident).now ≡ ident → IsPlanned c peer side x rows rules p → p.step ≡ step.RemoveFrom side → FitsRemoval failed p.step Gone → RemovalDone waits side x failed p s t Gone → IsFresh c peer ident s → IsRemoved t
    own_removal failed p s t here planned is fits did fresh = removal_of p s t here knows planned is (by failed side (subst (λ (q : Step). FitsRemoval failed q Gone) is fits) (subst (λ (q : Step). RemovalBy q failed waits side x p s t Gone) is did)) fresh
      where
        by : (φ : Bool) (at : Side) → FitsRemoval φ (step.RemoveFrom at) Gone → RemovalBy (step.RemoveFrom at) φ waits at x p s t Gone → RemovalDid waits at (held_on at x) (place_on at p) s t Gone
        by true at e did = cc
        by false A e did = did
        by false B e did = did

    removals_at : (p : Planned) (failed : Bool) (ps : List Planned) (os : List Outcome) (s t : SideNow) → (p.ident).now ≡ ident → p.step ≡ step.RemoveFrom side → IsRising (planned_idents ps) → AllByRecursion (IsPlanned c peer side x rows rules) ps → AllFit (λ φ q. FitsRemoval φ q.step) failed ps os → InOrder (RemovalDone waits side x) failed ps os s t → IsAt p Gone ps os → IsFresh c peer ident s → IsRemoved t
    removals_at p failed [] os s t here kind rising planned fits done at fresh = absurd at
    removals_at p failed (q ∷ ps) [] s t here kind rising planned fits done at fresh = absurd at
    removals_at p failed (q ∷ ps) (o ∷ os) s t here kind rising planned fits (m, did, rest) (inl (same, e)) fresh =
        let own : RemovalDone waits side x failed p s m Gone = subst (λ (r : Planned). RemovalDone waits side x failed r s m Gone) (sym same) (subst (λ (y : Outcome). RemovalDone waits side x failed q s m y) (sym e) did) in
        let fit : FitsRemoval failed p.step Gone = subst (λ (r : Planned). FitsRemoval failed r.step Gone) (sym same) (subst (λ (y : Outcome). FitsRemoval failed q.step y) (sym e) fits.0) in
        let is_planned : IsPlanned c peer side x rows rules p = subst (IsPlanned c peer side x rows rules) (sym same) planned.0 in
        let later : AllByRecursion (λ (z : List ℕ). Precedes ident z) (planned_idents ps) = subst (λ (i : List ℕ). AllByRecursion (λ (z : List ℕ). Precedes i z) (planned_idents ps)) (ap (λ (r : Planned). (r.ident).now) (sym same) ∙ here) rising.0 in
        removals_others (failed || is_failure o) ps os m t later planned.1 rest (own_removal failed p s m here is_planned kind fit own fresh)
    removals_at p failed (q ∷ ps) (o ∷ os) s t here kind rising planned fits (m, did, rest) (inr at) fresh =
        removals_at p (failed || is_failure o) ps os m t here kind rising.1 planned.1 fits.1 rest at (fresh_by_other c peer side x rows rules ident IsRemovalStep q s m (before_at q p Gone ps os here rising.0 at) (removal_effect c peer side x rows rules failed q s m knows planned.0 (removal_tried waits side x failed q s m o did)) fresh)

    -- ---- when all is flushed

    wrote_by : (to : Option (List ℕ)) (ch : Change) → (acted : HasActed c peer ident (saw c peer side x rows rules ident) to ch c.exit) → WroteFor c peer ident (saw c peer side x rows rules ident) to
    wrote_by to ch acted = record { moment = acted.moment; href = ch.href; old = acted.old; new = acted.new; sent = ch.sent; before = acted.before; is_true = acted.is_true; over = acted.over; alone = acted.alone; put = acted.put; source = acted.source; after = acted.after }

    -- the row's place on this side is that of the write
    pub record IsWroteRow (row : Row) : Type 0 where
      pub to : Option (List ℕ)
      pub is : says c peer side x rows rules ident ≡ Some to
      pub wrote : WroteFor c peer ident (saw c peer side x rows rules ident) to
      pub from : Seen
      pub source : seen_of ident (held_on (other_side side) x).seen.items ≡ Some from
      pub etag : Option (List ℕ)
      pub is_row : row ≡ row_beside side from wrote.href etag
      pub told : IsEtagOf etag wrote.new

    pub put_wrote : (row : Row) (ps : List Planned) (fs gs : List Outcome) (s m t : SideNow) (p : Planned) → (p.ident).now ≡ ident → (p.step ≡ step.CopyTo side) ⊎ (p.step ≡ step.WriteOver side) → own_kind c peer side x rows rules ident IsPutStep → IsRising (planned_idents ps) → AllByRecursion (IsPlanned c peer side x rows rules) ps → InOrder (λ failed. PutDid waits side x) false ps fs s m → InOrder (RemovalDone waits side x) (failed_after false fs) ps gs m t → IsAt p (Written row) ps fs → IsFresh c peer ident s → Flushes t.waiting t.state c.exit → IsWroteRow row
    unfolding wrote_by
    put_wrote row ps fs gs s m t p here kind put_kind rising planned first second at fresh flush =
        let put = keep_put row (failed_after false fs) ps m t planned put_kind (removals_tried waits side x (failed_after false fs) ps gs m t second) (puts_at p row false ps fs s m here kind rising planned first at fresh) in
        let acted = sent_flushed c peer ident (saw c peer side x rows rules ident) put.to put.ch put.etag t c.exit put.sent flush in
        record { to = put.to; is = put.is; wrote = wrote_by put.to put.ch acted.0; from = put.from; source = put.source; etag = put.etag; is_row = put.is_row; told = acted.1 }

    -- and where the side that waits was flushed, or doesn't wait
    pub put_acted : (row : Row) (ps : List Planned) (fs : List Outcome) (φ : Bool) (s m t : SideNow) (p : Planned) → (p.ident).now ≡ ident → (p.step ≡ step.CopyTo side) ⊎ (p.step ≡ step.WriteOver side) → own_kind c peer side x rows rules ident IsPutStep → IsRising (planned_idents ps) → AllByRecursion (IsPlanned c peer side x rows rules) ps → InOrder (λ failed. PutDid waits side x) false ps fs s m → AllTried (RemovalTried side x φ) ps m t → IsAt p (Written row) ps fs → IsFresh c peer ident s → IsFlushed t c.exit → (waits ≡ false) ⊎ Flushes t.waiting t.state c.exit → (to : Option (List ℕ)) × (says c peer side x rows rules ident ≡ Some to) × WroteFor c peer ident (saw c peer side x rows rules ident) to
    put_acted row ps fs φ s m t p here kind put_kind rising planned first second at fresh flush ends =
        let put = keep_put row φ ps m t planned put_kind second (puts_at p row false ps fs s m here kind rising planned first at fresh) in (
          put.to,
          put.is,
          wrote_by put.to put.ch (elim ends [
            | inl now ↦ done_flushed c peer ident (saw c peer side x rows rules ident) put.to put.ch t c.exit (put.at_once now) flush
            | inr all ↦ (sent_flushed c peer ident (saw c peer side x rows rules ident) put.to put.ch put.etag t c.exit put.sent all).0
          ]),
        )

    pub removal_wrote : (ps : List Planned) (fs gs : List Outcome) (s m t : SideNow) (p : Planned) → (p.ident).now ≡ ident → p.step ≡ step.RemoveFrom side → own_kind c peer side x rows rules ident IsRemovalStep → IsRising (planned_idents ps) → AllByRecursion (IsPlanned c peer side x rows rules) ps → AllFit (λ φ q. FitsRemoval φ q.step) (failed_after false fs) ps gs → InOrder (λ failed. PutDid waits side x) false ps fs s m → InOrder (RemovalDone waits side x) (failed_after false fs) ps gs m t → IsAt p Gone ps gs → IsFresh c peer ident s → Flushes t.waiting t.state c.exit → WroteFor c peer ident (saw c peer side x rows rules ident) None
    removal_wrote ps fs gs s m t p here kind removal_kind rising planned fits first second at fresh flush =
        let removed = removals_at p (failed_after false fs) ps gs m t here kind rising planned fits second at (fresh_puts false ps fs s m planned removal_kind first fresh) in
        wrote_by None removed.ch (sent_flushed c peer ident (saw c peer side x rows rules ident) None removed.ch None t c.exit removed.sent flush).0
