-- What the steps of a plan send is for their idents.
use Rattle.std.proofs.Common.{◌≡◌, inl, inr, ℕ, zero, suc, List, [], ◌∷◌, Option, Some, None, option_map, slice_get, refl, sym, ap, ◌∙◌, subst}
use Rattle.std.specs.Option.{option_and_then}
use Rattle.item_text.specs.Items.{ItemValue}
use Rattle.store_model.specs.Waits.{Change, new_at, over_at, gone_at}
use Rattle.status_keeper.specs.declared.row.Row.{Row}
use Rattle.sync_plan.specs.declared.report.Side.{Side}
use Rattle.sync_plan.specs.declared.report.Side.TheVariants.{A, B}
use Rattle.sync_plan.specs.declared.rules.Rules.{Rules}
use Rattle.sync_plan.specs.declared.dues.Step.{Step}
use Rattle.sync_plan.specs.declared.dues.Step.TheVariants as step
use Rattle.sync_plan.specs.declared.seen.Seen.{Seen}
use Rattle.sync_plan.specs.declared.seen.Planned.{Planned}
use Rattle.sync_plan.specs.Merging.{Within}
use Rattle.sync_plan.specs.Plans.{seen_of, versions_of, IsPlaceOf, IsPlannedFor}
use Rattle.sync_plan.specs.Verdicts.{Versions, other_side, due_of}
use Rattle.sync_plan.specs.JobSteps.{on_side, written}
use Rattle.sync_plan.proofs.Facts.{Fits, verdict_fits}
use Rattle.side_reads.specs.declared.holding.Holding.{Holding}
use Rattle.job_runs.specs.Courses.{Course}
use Rattle.job_runs.specs.Taken.{IsTaken, FoundAlone, IsAlone}
use Rattle.job_runs.specs.Writes.{IsSource}
use Rattle.job_reads.specs.Readings.{IsReadText}
use Rattle.job_writes.specs.Writings.{SideNow, Sends, Sources, held_on, place_on, seen_at, text_at, IsSourceAt, CopySent, OverSent, RemovalSent}
use Rattle.job_traces.specs.Traces.{Expects, IsSentAs, IsWriteFor}

-- ---- places

pub within_slice : {X : Type 0} (xs : List X) (i : ℕ) (x : X) → slice_get xs i ≡ Some x → Within x xs
within_slice [] i x e = cc
within_slice (y ∷ ys) zero x e = inl (cc)
within_slice (y ∷ ys) (suc i) x e = inr (within_slice ys i x e)

-- the item at the place of an ident is the ident's
pub record IsAtPlace (ident : List ℕ) (held : Holding) (place : Option ℕ) (x : Seen) : Type 0 where
  pub index : ℕ
  pub is : place ≡ Some index
  pub stands : slice_get held.seen.items index ≡ Some x
  pub same_ident : x.ident ≡ ident
  pub first : seen_of ident held.seen.items ≡ Some x

pub at_place : (ident : List ℕ) (held : Holding) (place : Option ℕ) (x : Seen) → IsPlaceOf ident held.seen.items place → seen_at held place ≡ Some x → IsAtPlace ident held place x
at_place ident held None x of e = cc
at_place ident held (Some index) x of e =
    let both : Some of.item ≡ Some x = sym of.stands ∙ e in
    let one : of.item ≡ x = cc in
    record { index = index; is = refl; stands = e; same_ident = ap (λ (y : Seen). y.ident) (sym one) ∙ of.same_ident; first = of.is_first ∙ ap Some one }

joined : (o : Option (Option ItemValue)) (item : ItemValue) → option_and_then (λ x. x) o ≡ Some item → o ≡ Some (Some item)
joined None item e = cc
joined (Some o) item e = ap Some e

text_index : (held : Holding) (place : Option ℕ) (index : ℕ) (item : ItemValue) → place ≡ Some index → text_at held place ≡ Some item → slice_get held.items.items index ≡ Some (Some item)
text_index held place index item is e = joined (slice_get held.items.items index) item (subst (λ (o : Option ℕ). text_at held o ≡ Some item) is e)

-- ---- the table

written_copy : (side : Side) (v : Versions) → written (step.CopyTo side) None side v ≡ Some (on_side (other_side side) v)
written_copy A v = refl
written_copy B v = refl

written_over : (side : Side) (v : Versions) → written (step.WriteOver side) None side v ≡ Some (on_side (other_side side) v)
written_over A v = refl
written_over B v = refl

written_removal : (side : Side) (v : Versions) → written (step.RemoveFrom side) None side v ≡ Some None
written_removal A v = refl
written_removal B v = refl

abbrev pub IsPutStep : Step → Type 0
IsPutStep (step.CopyTo side) = Unit {0}
IsPutStep (step.WriteOver side) = Unit {0}
IsPutStep (step.RemoveFrom side) = ⊥
IsPutStep step.Forget = ⊥
IsPutStep step.Keep = ⊥
IsPutStep step.HandOver = ⊥
IsPutStep step.Conflict = ⊥
IsPutStep (step.Held side) = ⊥

abbrev pub IsRemovalStep : Step → Type 0
IsRemovalStep (step.RemoveFrom side) = Unit {0}
IsRemovalStep (step.CopyTo side) = ⊥
IsRemovalStep (step.WriteOver side) = ⊥
IsRemovalStep step.Forget = ⊥
IsRemovalStep step.Keep = ⊥
IsRemovalStep step.HandOver = ⊥
IsRemovalStep step.Conflict = ⊥
IsRemovalStep (step.Held side) = ⊥

pub not_both : (st : Step) → IsPutStep st → IsRemovalStep st → ⊥
not_both (step.CopyTo side) put removal = removal
not_both (step.WriteOver side) put removal = removal
not_both (step.RemoveFrom side) put removal = put
not_both step.Forget put removal = put
not_both step.Keep put removal = put
not_both step.HandOver put removal = put
not_both step.Conflict put removal = put
not_both (step.Held side) put removal = put

-- ---- one side of a run

module _ (c peer : Course) (side : Side) (x : Sources) (rows : List Row) (rules : Rules) where
  abbrev pub versions_at : List ℕ → Versions
  versions_at ident = versions_of ident x.a.seen.items x.b.seen.items rows

  abbrev pub own : Holding
  own = held_on side x

  abbrev pub other : Holding
  other = held_on (other_side side) x

  -- what the run knows of both sides
  pub record Knows : Type 0 where
    pub taken : (s : Seen) → Within s own.seen.items → IsTaken c s.ident (s.fp).0 s.href s.etag
    pub alone : (s : Seen) → Within s own.seen.items → FoundAlone c s.ident s.href
    pub texts : (index : ℕ) (s : Seen) (item : ItemValue) → slice_get other.seen.items index ≡ Some s → slice_get other.items.items index ≡ Some (Some item) → IsReadText peer s item

  abbrev pub IsPlanned : Planned → Type 0
  IsPlanned p = IsPlannedFor x.a.seen.items x.b.seen.items rows rules p

  pub on_held : (at : Side) (ident : List ℕ) → on_side at (versions_at ident) ≡ option_map (λ (s : Seen). (s.fp).0) (seen_of ident (held_on at x).seen.items)
  on_held A ident = refl
  on_held B ident = refl

  pub place_of : (at : Side) (p : Planned) → IsPlanned p → IsPlaceOf (p.ident).now (held_on at x).seen.items (place_on at p)
  place_of A p planned = planned.place_a
  place_of B p planned = planned.place_b

  -- a step sent its change to the side
  pub record Affects (p : Planned) (s t : SideNow) : Type 0 where
    pub to : Option (List ℕ)
    pub is_written : written p.step None side (versions_at (p.ident).now) ≡ Some to
    pub ch : Change
    pub write : IsWriteFor c peer (p.ident).now (on_side side (versions_at (p.ident).now)) to ch
    pub sends : Sends ch s t

  pub source_of : (ident : List ℕ) (place : Option ℕ) (from : Seen) (item : ItemValue) → Knows → IsPlaceOf ident other.seen.items place → IsSourceAt other place from item → IsAtPlace ident other place from × IsReadText peer from item
  source_of ident place from item knows of source =
      let here = at_place ident other place from of source.seen in
      (here, knows.texts here.index from item here.stands (text_index other place here.index item here.is source.text))

  pub version_at : (at : Side) (ident : List ℕ) (s : Seen) → seen_of ident (held_on at x).seen.items ≡ Some s → on_side at (versions_at ident) ≡ Some (s.fp).0
  version_at at ident s e = on_held at ident ∙ ap (option_map (λ (y : Seen). (y.fp).0)) e

  sent_as : (ident : List ℕ) (place : Option ℕ) (from : Seen) (item : ItemValue) → IsAtPlace ident other place from → IsReadText peer from item → IsSentAs ident (Some item.text) (on_side (other_side side) (versions_at ident))
  sent_as ident place from item here read =
      subst (λ (o : Option (List ℕ)). IsSentAs ident (Some item.text) o) (sym (version_at (other_side side) ident from here.first))
      (item.text, item, refl, read.is_item, read.same_ident ∙ here.same_ident, read.same_version)

  source_is : (ident : List ℕ) (place : Option ℕ) (from : Seen) (item : ItemValue) → IsAtPlace ident other place from → IsReadText peer from item → IsSource peer ident (Some item.text)
  source_is ident place from item here read = ((item, read.is_item, read.same_ident ∙ here.same_ident), read.stood, read.was_read)

  expects_own : (ident : List ℕ) (place : Option ℕ) (over : Seen) (ch : Change) → Knows → IsAtPlace ident own place over → ch.expected ≡ Some over.etag → ch.href ≡ over.href → Expects c ident ch (on_side side (versions_at ident))
  expects_own ident place over ch knows here expected at =
      subst (λ (o : Option (List ℕ)). Expects c ident ch o) (sym (version_at side ident over here.first))
      (over.etag, expected, subst (λ (h : List ℕ). IsTaken c ident (over.fp).0 h over.etag) (sym at) (subst (λ (i : List ℕ). IsTaken c i (over.fp).0 over.href over.etag) here.same_ident (knows.taken over (within_slice own.seen.items here.index over here.stands))))

  alone_own : (ident : List ℕ) (place : Option ℕ) (over : Seen) (ch : Change) → Knows → IsAtPlace ident own place over → ch.href ≡ over.href → IsAlone c ident ch.href (on_side side (versions_at ident))
  alone_own ident place over ch knows here at =
      subst (λ (o : Option (List ℕ)). IsAlone c ident ch.href o) (sym (version_at side ident over here.first))
      (subst (λ (h : List ℕ). FoundAlone c ident h) (sym at) (subst (λ (i : List ℕ). FoundAlone c i over.href) here.same_ident (knows.alone over (within_slice own.seen.items here.index over here.stands))))

  table_at : (p : Planned) (st : Step) → IsPlanned p → p.step ≡ st → Fits st (due_of rules (versions_at (p.ident).now)) (versions_at (p.ident).now)
  table_at p st planned is = subst (λ (q : Step). Fits q (due_of rules (versions_at (p.ident).now)) (versions_at (p.ident).now)) (sym planned.by_table ∙ is) (verdict_fits rules (versions_at (p.ident).now))

  pub copy_write : (p : Planned) (from : Seen) (item : ItemValue) (href : List ℕ) → Knows → IsPlanned p → p.step ≡ step.CopyTo side → IsSourceAt other (place_on (other_side side) p) from item → IsWriteFor c peer (p.ident).now (on_side side (versions_at (p.ident).now)) (on_side (other_side side) (versions_at (p.ident).now)) (new_at href item.text)
  copy_write p from item href knows planned is source =
      let ident = (p.ident).now in
      let fits = table_at p (step.CopyTo side) planned is in
      let found = source_of ident (place_on (other_side side) p) from item knows (place_of (other_side side) p planned) source in
      record {
        expects = subst (λ (o : Option (List ℕ)). Expects c ident (new_at href item.text) o) (sym fits.2) refl;
        alone = subst (λ (o : Option (List ℕ)). IsAlone c ident href o) (sym fits.2) tt;
        sends = sent_as ident (place_on (other_side side) p) from item found.0 found.1;
        source = source_is ident (place_on (other_side side) p) from item found.0 found.1;
      }

  pub over_write : (p : Planned) (over from : Seen) (item : ItemValue) → Knows → IsPlanned p → seen_at own (place_on side p) ≡ Some over → IsSourceAt other (place_on (other_side side) p) from item → IsWriteFor c peer (p.ident).now (on_side side (versions_at (p.ident).now)) (on_side (other_side side) (versions_at (p.ident).now)) (over_at over.href over.etag item.text)
  over_write p over from item knows planned stands source =
      let ident = (p.ident).now in
      let found = source_of ident (place_on (other_side side) p) from item knows (place_of (other_side side) p planned) source in
      let here = at_place ident own (place_on side p) over (place_of side p planned) stands in
      record {
        expects = expects_own ident (place_on side p) over (over_at over.href over.etag item.text) knows here refl refl;
        alone = alone_own ident (place_on side p) over (over_at over.href over.etag item.text) knows here refl;
        sends = sent_as ident (place_on (other_side side) p) from item found.0 found.1;
        source = source_is ident (place_on (other_side side) p) from item found.0 found.1;
      }

  pub removal_write : (p : Planned) (over : Seen) → Knows → IsPlanned p → seen_at own (place_on side p) ≡ Some over → IsWriteFor c peer (p.ident).now (on_side side (versions_at (p.ident).now)) None (gone_at over.href over.etag)
  removal_write p over knows planned stands =
      let ident = (p.ident).now in
      let here = at_place ident own (place_on side p) over (place_of side p planned) stands in
      record {
        expects = expects_own ident (place_on side p) over (gone_at over.href over.etag) knows here refl refl;
        alone = alone_own ident (place_on side p) over (gone_at over.href over.etag) knows here refl;
        sends = refl;
        source = tt;
      }

  pub copy_says : (p : Planned) → p.step ≡ step.CopyTo side → written p.step None side (versions_at (p.ident).now) ≡ Some (on_side (other_side side) (versions_at (p.ident).now))
  copy_says p is = ap (λ (q : Step). written q None side (versions_at (p.ident).now)) is ∙ written_copy side (versions_at (p.ident).now)

  pub over_says : (p : Planned) → p.step ≡ step.WriteOver side → written p.step None side (versions_at (p.ident).now) ≡ Some (on_side (other_side side) (versions_at (p.ident).now))
  over_says p is = ap (λ (q : Step). written q None side (versions_at (p.ident).now)) is ∙ written_over side (versions_at (p.ident).now)

  pub removal_says : (p : Planned) → p.step ≡ step.RemoveFrom side → written p.step None side (versions_at (p.ident).now) ≡ Some None
  removal_says p is = ap (λ (q : Step). written q None side (versions_at (p.ident).now)) is ∙ written_removal side (versions_at (p.ident).now)

  pub copy_affects : (p : Planned) (s t : SideNow) → Knows → IsPlanned p → p.step ≡ step.CopyTo side → CopySent other (place_on (other_side side) p) s t → Affects p s t
  copy_affects p s t knows planned is sent = record { to = on_side (other_side side) (versions_at (p.ident).now); is_written = copy_says p is; ch = new_at sent.href sent.item.text; write = copy_write p sent.from sent.item sent.href knows planned is sent.source; sends = sent.sends }

  pub over_affects : (p : Planned) (s t : SideNow) → Knows → IsPlanned p → p.step ≡ step.WriteOver side → OverSent own (place_on side p) other (place_on (other_side side) p) s t → Affects p s t
  over_affects p s t knows planned is sent = record { to = on_side (other_side side) (versions_at (p.ident).now); is_written = over_says p is; ch = over_at sent.over.href sent.over.etag sent.item.text; write = over_write p sent.over sent.from sent.item knows planned sent.stands sent.source; sends = sent.sends }

  pub removal_affects : (p : Planned) (s t : SideNow) → Knows → IsPlanned p → p.step ≡ step.RemoveFrom side → RemovalSent own (place_on side p) s t → Affects p s t
  removal_affects p s t knows planned is sent = record { to = None; is_written = removal_says p is; ch = gone_at sent.over.href sent.over.etag; write = removal_write p sent.over knows planned sent.stands; sends = sent.sends }
