-- Where a removal acted on a side, all that was to be put there has acted.
use Rattle.std.proofs.Common.{◌≡◌, ◌⊎◌, inl, inr, ℕ, Bool, true, false, ◌||◌, List, [], ◌∷◌, ◌++◌, Option, Some, None, IsSome, option_map, refl, sym, ◌∙◌, subst}
use Rattle.std.proofs.lemmas.Bool.{false≢true}
use Rattle.std.specs.List.{AllByRecursion}
use Rattle.store_model.specs.declared.event.Held.{Held}
use Rattle.store_model.specs.declared.event.StoreEvent.{StoreEvent}
use Rattle.store_model.specs.declared.event.StoreEvent.TheVariants.{Edited, Toggled, Wrote, Read}
use Rattle.store_model.specs.Sides.{SideState, happens, KeepsItem, Evolves, IsOutside}
use Rattle.store_model.specs.Waits.{Change, Acts, ActAll, Flushes}
use Rattle.store_model.proofs.Moments.{Evolves-refl, Evolves-trans, Evolves-weaker, Evolves-one, Since-from_evolves}
use Rattle.store_model.proofs.Lacks.{kind_at}
use Rattle.status_keeper.specs.declared.row.Row.{Row}
use Rattle.status_keeper.specs.Rows.{row_of}
use Rattle.sync_plan.specs.declared.report.Side.{Side}
use Rattle.sync_plan.specs.declared.report.Side.TheVariants.{A, B}
use Rattle.sync_plan.specs.declared.rules.Rules.{Rules}
use Rattle.sync_plan.specs.declared.dues.Step.{Step}
use Rattle.sync_plan.specs.declared.dues.Step.TheVariants as step
use Rattle.sync_plan.specs.declared.seen.Seen.{Seen}
use Rattle.sync_plan.specs.declared.seen.Planned.{Planned}
use Rattle.sync_plan.specs.Merging.{Within}
use Rattle.sync_plan.specs.Plans.{seen_of, IsPlan, IsNamed, planned_idents}
use Rattle.sync_plan.specs.Verdicts.{Versions, other_side, step_of, due_of}
use Rattle.sync_plan.specs.JobSteps.{on_side, IsPutOn}
use Rattle.sync_plan.proofs.Facts.{Fits, verdict_fits}
use Rattle.sync_plan.proofs.Rising.{within_all, within_from_contains}
use Rattle.side_views.specs.Views.{IsPut}
use Rattle.job_runs.specs.Courses.{Course}
use Rattle.job_runs.specs.Writes.{WroteFor, WroteAll}
use Rattle.job_writes.specs.declared.outcome.Outcome.{Outcome}
use Rattle.job_writes.specs.declared.outcome.Outcome.TheVariants.{Kept, Gone, Written, Left, Conflict, NotWritten, NotRemoved, Skipped}
use Rattle.job_writes.specs.Writings.{SideNow, now_of, Sources, Sends, PutBy, PutSentBy, PutDid, PutTried, RemovalTried, RemovalsTried, WritesTried, InOrder, AllTried, is_failure, failed_after}
use Rattle.job_writes.proofs.OrderLemmas.{none_failed, puts_tried}
use Rattle.job_traces.specs.Traces.{IsFlushed, WroteOn}
use Rattle.job_traces.proofs.WriteLemmas.{IsFresh}
use Rattle.job_traces.proofs.StepLemmas.{Knows, IsPlanned, IsPutStep, versions_at}
use Rattle.job_traces.proofs.RunLemmas.{saw, says, own_step}
use Rattle.job_traces.proofs.MadeLemmas.{IsAt, put_acted}

-- ---- runs without a removal

abbrev pub IsText : Option (List ℕ) → Type 0
IsText None = ⊥
IsText (Some text) = Unit {0}

abbrev pub IsNoRemoval : StoreEvent → Type 0
IsNoRemoval (Wrote href old new sent) = IsText sent
IsNoRemoval (Edited href old new) = Unit {0}
IsNoRemoval Toggled = Unit {0}
IsNoRemoval (Read href text) = Unit {0}

outside_removes_none : (e : StoreEvent) → IsOutside e → IsNoRemoval e
outside_removes_none (Edited href old new) h = tt
outside_removes_none Toggled h = tt
outside_removes_none (Wrote href old new sent) h = absurd h
outside_removes_none (Read href text) h = absurd h

quiet : {s t : SideState} → Evolves IsOutside s t → Evolves IsNoRemoval s t
quiet run = Evolves-weaker outside_removes_none run

acts_removes_none : (ch : Change) (s t : SideState) → IsText ch.sent → Acts ch s t → Evolves IsNoRemoval s t
acts_removes_none ch s t text acts =
    let w = acts.writes in
    Evolves-trans (quiet w.before) (Evolves-trans (Evolves-one w.moment (Wrote ch.href acts.old acts.new ch.sent) text w.is_true) (quiet w.after))

abbrev pub Sendings : List Change → Type 0
Sendings w = AllByRecursion (λ (ch : Change). IsText ch.sent) w

sendings_push : (w : List Change) (ch : Change) → Sendings w → IsText ch.sent → Sendings (w ++ ch ∷ [])
sendings_push [] ch all text = (text, tt)
sendings_push (x ∷ w) ch all text = (all.0, sendings_push w ch all.1 text)

all_act : (w : List Change) (s t : SideState) → Sendings w → ActAll w s t → Evolves IsNoRemoval s t
all_act [] s t all acts = subst (λ (x : SideState). Evolves IsNoRemoval s x) (sym acts) (Evolves-refl s)
all_act (ch ∷ w) s t all (old, new, fit, is_true, rest) =
    let e : StoreEvent = Wrote ch.href old new ch.sent in
    Evolves-trans (Evolves-one s e all.0 is_true) (all_act w (happens s e) t all.1 rest)

module _ (start : SideState) where
  -- nothing was removed, and no removal waits
  record RemovedNone (s : SideNow) : Type 0 where
    pub run : Evolves IsNoRemoval start s.state
    pub waits : Sendings s.waiting

  still : (s t : SideNow) → Evolves IsNoRemoval s.state t.state → t.waiting ≡ s.waiting → RemovedNone s → RemovedNone t
  still s t more same none = record { run = Evolves-trans none.run more; waits = subst Sendings (sym same) none.waits }

  sends_text : (ch : Change) (s t : SideNow) → IsText ch.sent → Sends ch s t → RemovedNone s → RemovedNone t
  sends_text ch s t text (inl (inl outside, same)) none = still s t (quiet outside) same none
  sends_text ch s t text (inl (inr acts, same)) none = still s t (acts_removes_none ch s.state t.state text acts) same none
  sends_text ch s t text (inr (outside, more)) none = record { run = Evolves-trans none.run (quiet outside); waits = subst Sendings (sym more) (sendings_push s.waiting ch none.waits text) }

  flushed : (s : SideNow) (exit : SideState) → RemovedNone s → IsFlushed s exit → Evolves IsNoRemoval start exit
  flushed s exit none (inl outside) = Evolves-trans none.run (quiet outside)
  flushed s exit none (inr flush) = Evolves-trans none.run (Evolves-trans (quiet flush.before) (Evolves-trans (all_act s.waiting flush.first flush.last none.waits flush.all) (quiet flush.after)))

-- ---- the steps but removals send texts

put_sends : (side : Side) (st : Step) (x : Sources) (p : Planned) (s t : SideNow) → PutSentBy st side x p s t → (ch : Change) × IsText ch.sent × Sends ch s t
put_sends A (step.CopyTo A) x p s t sent = (record { href = sent.href; expected = None; sent = Some sent.item.text }, tt, sent.sends)
put_sends B (step.CopyTo B) x p s t sent = (record { href = sent.href; expected = None; sent = Some sent.item.text }, tt, sent.sends)
put_sends A (step.CopyTo B) x p s t sent = absurd sent
put_sends B (step.CopyTo A) x p s t sent = absurd sent
put_sends A (step.WriteOver A) x p s t sent = (record { href = sent.over.href; expected = Some sent.over.etag; sent = Some sent.item.text }, tt, sent.sends)
put_sends B (step.WriteOver B) x p s t sent = (record { href = sent.over.href; expected = Some sent.over.etag; sent = Some sent.item.text }, tt, sent.sends)
put_sends A (step.WriteOver B) x p s t sent = absurd sent
put_sends B (step.WriteOver A) x p s t sent = absurd sent
put_sends side step.Forget x p s t sent = absurd sent
put_sends side step.Keep x p s t sent = absurd sent
put_sends side (step.RemoveFrom from) x p s t sent = absurd sent
put_sends side step.HandOver x p s t sent = absurd sent
put_sends side step.Conflict x p s t sent = absurd sent
put_sends side (step.Held to) x p s t sent = absurd sent

puts_remove_none : (start : SideState) (side : Side) (x : Sources) (ps : List Planned) (s t : SideNow) → AllTried (PutTried side x) ps s t → RemovedNone start s → RemovedNone start t
puts_remove_none start side x [] s t done none = subst (λ (y : SideNow). RemovedNone start y) (sym done) none
puts_remove_none start side x (p ∷ ps) s t (m, tried, rest) none = puts_remove_none start side x ps m t rest (one tried)
  where
    one : PutTried side x p s m → RemovedNone start m
    one (inl same) = subst (λ (y : SideNow). RemovedNone start y) (sym same) none
    one (inr sent) = let change = put_sends side p.step x p s m sent in sends_text start change.0 s m change.1 change.2 none

-- after a failure no removal is sent
halted : (side : Side) (x : Sources) (ps : List Planned) (s t : SideNow) → AllTried (RemovalTried side x true) ps s t → t ≡ s
halted side x [] s t done = done
halted side x (p ∷ ps) s t (m, tried, rest) = halted side x ps m t rest ∙ one tried
  where
    one : RemovalTried side x true p s m → m ≡ s
    one (inl same) = same
    one (inr (none, sent)) = absurd (false≢true (sym none))

-- ---- where none has failed, all were written

by_copy : (waits : Bool) (side : Side) (x : Sources) (p : Planned) (s t : SideNow) (o : Outcome) → PutBy (step.CopyTo side) waits side x p s t o → is_failure o ≡ false → (row : Row) × (o ≡ Written row)
by_copy waits A x p s t (Written row) did h = (row, refl)
by_copy waits B x p s t (Written row) did h = (row, refl)
by_copy waits side x p s t (NotWritten at error) did h = absurd (false≢true (sym h))
by_copy waits side x p s t (NotRemoved at error) did h = absurd (false≢true (sym h))
by_copy waits A x p s t Kept did h = absurd did.answer
by_copy waits B x p s t Kept did h = absurd did.answer
by_copy waits A x p s t Gone did h = absurd did.answer
by_copy waits B x p s t Gone did h = absurd did.answer
by_copy waits A x p s t Left did h = absurd did.answer
by_copy waits B x p s t Left did h = absurd did.answer
by_copy waits A x p s t Conflict did h = absurd did.answer
by_copy waits B x p s t Conflict did h = absurd did.answer
by_copy waits A x p s t Skipped did h = absurd did.answer
by_copy waits B x p s t Skipped did h = absurd did.answer

by_over : (waits : Bool) (side : Side) (x : Sources) (p : Planned) (s t : SideNow) (o : Outcome) → PutBy (step.WriteOver side) waits side x p s t o → is_failure o ≡ false → (row : Row) × (o ≡ Written row)
by_over waits A x p s t (Written row) did h = (row, refl)
by_over waits B x p s t (Written row) did h = (row, refl)
by_over waits side x p s t (NotWritten at error) did h = absurd (false≢true (sym h))
by_over waits side x p s t (NotRemoved at error) did h = absurd (false≢true (sym h))
by_over waits A x p s t Kept did h = absurd did.answer
by_over waits B x p s t Kept did h = absurd did.answer
by_over waits A x p s t Gone did h = absurd did.answer
by_over waits B x p s t Gone did h = absurd did.answer
by_over waits A x p s t Left did h = absurd did.answer
by_over waits B x p s t Left did h = absurd did.answer
by_over waits A x p s t Conflict did h = absurd did.answer
by_over waits B x p s t Conflict did h = absurd did.answer
by_over waits A x p s t Skipped did h = absurd did.answer
by_over waits B x p s t Skipped did h = absurd did.answer

written_by : (waits : Bool) (side : Side) (x : Sources) (p : Planned) (s t : SideNow) (o : Outcome) → IsPutOn side p.step → PutDid waits side x p s t o → is_failure o ≡ false → (row : Row) × (o ≡ Written row)
written_by waits side x p s t o (inl copy) did h = by_copy waits side x p s t o (subst (λ (q : Step). PutBy q waits side x p s t o) copy did) h
written_by waits side x p s t o (inr over) did h = by_over waits side x p s t o (subst (λ (q : Step). PutBy q waits side x p s t o) over did) h

second_none : (b d : Bool) → (b || d) ≡ false → d ≡ false
second_none false d e = e
second_none true d e = absurd (false≢true (sym e))

all_written : (waits : Bool) (side : Side) (x : Sources) (p : Planned) (φ : Bool) (ps : List Planned) (os : List Outcome) (s t : SideNow) → Within p ps → IsPutOn side p.step → failed_after φ os ≡ false → InOrder (λ failed. PutDid waits side x) φ ps os s t → (row : Row) × IsAt p (Written row) ps os
all_written waits side x p φ [] os s t within put none done = absurd within
all_written waits side x p φ (q ∷ ps) [] s t within put none done = absurd done
all_written waits side x p φ (q ∷ ps) (o ∷ os) s t (inl same) put none (m, did, rest) =
    let ok : is_failure o ≡ false = second_none φ (is_failure o) (none_failed (φ || is_failure o) os none) in
    let wrote = written_by waits side x p s m o put (subst (λ (r : Planned). PutDid waits side x r s m o) (sym same) did) ok in
    (wrote.0, inl (same, sym wrote.1))
all_written waits side x p φ (q ∷ ps) (o ∷ os) s t (inr later) put none (m, did, rest) =
    let found = all_written waits side x p (φ || is_failure o) ps os m t later put none rest in
    (found.0, inr found.1)

-- ---- the ident of a step that puts is in the plan

within_planned : (ident : List ℕ) (ps : List Planned) → Within ident (planned_idents ps) → (p : Planned) × Within p ps × ((p.ident).now ≡ ident)
within_planned ident [] within = absurd within
within_planned ident (p ∷ ps) (inl same) = (p, inl refl, sym same)
within_planned ident (p ∷ ps) (inr later) = let found = within_planned ident ps later in (found.0, inr found.1, found.2)

has_item : (o : Option Seen) (version : List ℕ) → option_map (λ (s : Seen). (s.fp).0) o ≡ Some version → IsSome o
has_item None version e = absurd (let clash : None ≡ Some version = e in cc)
has_item (Some s) version e = refl

module _ (x : Sources) (rows : List Row) (rules : Rules) (ident : List ℕ) where
  abbrev pub stands : Versions
  stands = record {
    a = option_map (λ (s : Seen). (s.fp).0) (seen_of ident x.a.seen.items);
    b = option_map (λ (s : Seen). (s.fp).0) (seen_of ident x.b.seen.items);
    s = option_map (λ (r : Row). (r.fp).0) (row_of ident rows);
  }

  source_version : (side : Side) → IsPutOn side (step_of rules stands) → (version : List ℕ) × (on_side (other_side side) stands ≡ Some version)
  source_version side (inl copy) = let fits = subst (λ (q : Step). Fits q (due_of rules stands) stands) copy (verdict_fits rules stands) in (fits.0, fits.3)
  source_version side (inr over) = let fits = subst (λ (q : Step). Fits q (due_of rules stands) stands) over (verdict_fits rules stands) in (fits.0, fits.3)

  pub put_named : (side : Side) → IsPutOn side (step_of rules stands) → IsNamed ident x.a.seen.items x.b.seen.items rows
  put_named A put = let source = source_version A put in inr (inl (has_item (seen_of ident x.b.seen.items) source.0 source.1))
  put_named B put = let source = source_version B put in inl (has_item (seen_of ident x.a.seen.items) source.0 source.1)

put_kind : (side : Side) (st : Step) → IsPutOn side st → IsPutStep st
put_kind side st (inl copy) = subst IsPutStep (sym copy) tt
put_kind side st (inr over) = subst IsPutStep (sym over) tt

-- ---- one side of a run

module _ (c peer : Course) (side : Side) (x : Sources) (rows : List Row) (rules : Rules) (plan : List Planned) (knows : Knows c peer side x rows rules) (is_plan : IsPlan x.a.seen.items x.b.seen.items rows rules plan) (planned : AllByRecursion (IsPlanned c peer side x rows rules) plan) (waits : Bool) (wrote : WroteOn waits side x plan c.read c.exit) where
  abbrev pub start : SideNow
  start = now_of c.read []

  none_yet : RemovedNone c.read start
  none_yet = record { run = Evolves-refl c.read; waits = tt }

  fresh : (ident : List ℕ) → IsFresh c peer ident start
  fresh ident = record { run = Evolves-refl c.read; waits = tt }

  abbrev pub PutAll : Type 0
  PutAll = (put : List ℕ) → IsPutOn side (step_of rules (versions_at c peer side x rows rules put)) → WroteAll c peer put (saw c peer side x rows rules put) (says c peer side x rows rules put)

  put_on_step : (put : List ℕ) (p : Planned) → (p.ident).now ≡ put → IsPlanned c peer side x rows rules p → IsPutOn side (step_of rules (versions_at c peer side x rows rules put)) → IsPutOn side p.step
  put_on_step put p here is_planned kind = subst (λ (q : Step). IsPutOn side q) (sym (own_step c peer side x rows rules put p here is_planned)) kind

  put_one : (tried : RemovalsTried waits side x plan start wrote.end) → failed_after false tried.put ≡ false → (waits ≡ false) ⊎ Flushes (wrote.end).waiting (wrote.end).state c.exit → PutAll
  put_one tried none ends put kind =
      let named = put_named x rows rules put side kind in
      let here = within_planned put plan (within_from_contains (planned_idents plan) put (is_plan.whole put named)) in
      let p = here.0 in
      let is_planned = within_all (IsPlanned c peer side x rows rules) plan planned p here.1 in
      let put_on = put_on_step put p here.2 is_planned kind in
      let found = all_written waits side x p false plan tried.put start tried.between here.1 put_on none tried.puts in
      let acted = put_acted c peer side x rows rules put waits knows found.0 plan tried.put (failed_after false tried.put) start tried.between wrote.end p here.2 put_on (put_kind side (step_of rules (versions_at c peer side x rows rules put)) kind) is_plan.rising planned tried.puts tried.removals found.1 (fresh put) wrote.flush ends in
      subst (λ (o : Option (Option (List ℕ))). WroteAll c peer put (saw c peer side x rows rules put) o) (sym acted.1) acted.2

  -- nothing was removed, or all was put that was to be put
  removed_none_or_put_all : Evolves IsNoRemoval c.read c.exit ⊎ PutAll
  removed_none_or_put_all = by wrote.tried
    where
      on_kind : (tried : RemovalsTried waits side x plan start wrote.end) → failed_after false tried.put ≡ false → (w : Bool) → waits ≡ w → IsFlushed wrote.end c.exit → Evolves IsNoRemoval c.read c.exit ⊎ PutAll
      on_kind tried none false is flush = inr (put_one tried none (inl is))
      on_kind tried none true is (inl outside) = inl (quiet (Evolves-trans (wrote.acts.until_flush is) outside))
      on_kind tried none true is (inr all) = inr (put_one tried none (inr all))

      on_flag : (tried : RemovalsTried waits side x plan start wrote.end) → (φ : Bool) → failed_after false tried.put ≡ φ → Evolves IsNoRemoval c.read c.exit ⊎ PutAll
      on_flag tried false is = on_kind tried is waits refl wrote.flush
      on_flag tried true is =
          let same = halted side x plan tried.between wrote.end (subst (λ (φ : Bool). AllTried (RemovalTried side x φ) plan tried.between wrote.end) is tried.removals) in
          let none = puts_remove_none c.read side x plan start tried.between (puts_tried waits side x plan tried.put start tried.between tried.puts) none_yet in
          inl (flushed c.read wrote.end c.exit (subst (λ (y : SideNow). RemovedNone c.read y) (sym same) none) wrote.flush)

      by : WritesTried waits side x plan start wrote.end → Evolves IsNoRemoval c.read c.exit ⊎ PutAll
      by (inl puts) = inl (flushed c.read wrote.end c.exit (puts_remove_none c.read side x plan start wrote.end puts none_yet) wrote.flush)
      by (inr tried) = on_flag tried (failed_after false tried.put) refl

  no_text : (gone : List ℕ) (new : Option Held) (sent : Option (List ℕ)) → IsPut gone None new → KeepsItem new sent → IsText sent → ⊥
  no_text gone None None put keeps text = text
  no_text gone None (Some sent) put keeps text = keeps
  no_text gone (Some held) sent put keeps text = put

  pub puts_come_first : (gone put : List ℕ) (saw_gone : Option (List ℕ)) → WroteFor c peer gone saw_gone None → IsPutOn side (step_of rules (versions_at c peer side x rows rules put)) → WroteAll c peer put (saw c peer side x rows rules put) (says c peer side x rows rules put)
  puts_come_first gone put saw_gone w kind = elim removed_none_or_put_all [
    | inr all ↦ all put kind
    | inl none ↦ absurd (no_text gone w.new w.sent w.put w.is_true.1 (kind_at (Wrote w.href w.old w.new w.sent) none (Since-from_evolves w.before) w.is_true (Since-from_evolves w.after)))
  ]
