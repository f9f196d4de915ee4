-- What a run took stands where it was taken until its own change is sent, unless an edit from outside came.
use Rattle.std.proofs.Common.{T, ◌≡◌, ◌⊎◌, inl, inr, ℕ, Bool, true, false, ◌&&◌, ◌||◌, List, [], ◌∷◌, Option, Some, None, Ok, map, refl, sym, ap, ◌∙◌, subst}
use Rattle.std.proofs.lemmas.Bool.{false≢true}
use Rattle.std.proofs.lemmas.Slice.Eq.{bytes_eq-Decides}
use Rattle.std.specs.List.{AllByRecursion}
use Rattle.std.specs.Ordering.{nat_cmp, is_lt}
use Rattle.std.specs.declared.cmp.Ordering.{Ordering}
use Rattle.std.specs.declared.cmp.Ordering.TheVariants.{Less, Equal, Greater}
use Rattle.std.specs.Cmp.Lexicographic.{slice_cmp}
use Rattle.std.specs.FinMap as fin
use Rattle.std.specs.FinMap.{entries_sorted}
use Rattle.std.specs.FinMap.Entries.{below_all, is_sorted}
use Rattle.std.specs.declared.vec.Vec.{Vec}
use Rattle.std.specs.declared.alloc.Global.{Global}
use Rattle.item_text.specs.Items.{ItemValue}
use Rattle.store_model.specs.declared.event.Held.{Held}
use Rattle.store_model.specs.declared.event.StoreEvent.{StoreEvent}
use Rattle.store_model.specs.declared.event.StoreEvent.TheVariants.{Wrote}
use Rattle.store_model.specs.declared.store.Entry.{Entry}
use Rattle.store_model.specs.declared.store.Fetched.{Fetched}
use Rattle.store_model.specs.declared.store.StoreError.{StoreError}
use Rattle.store_model.specs.declared.store.StoreError.TheVariants as store
use Rattle.store_model.specs.Sides.{SideState, happens, Evolves, IsOutside, IsNoWrite, Since, Sometime, WasEdited}
use Rattle.store_model.specs.Waits.{Change, fits_at, fits, new_at, over_at, gone_at, Acts}
use Rattle.store_model.specs.StoreCalls.{entry_of}
use Rattle.store_model.proofs.Moments.{Evolves-refl, Evolves-trans, Evolves-weaker, Evolves-one, Since-from_evolves, outside_is_no_write}
use Rattle.store_model.proofs.Lacks.{Evolves-first, Evolves-rest, get-put_held}
use Rattle.store_model.proofs.Known.{edited_extends, still_or_edited, same_or_edited}
use Rattle.status_keeper.specs.declared.row.Row.{Row}
use Rattle.status_keeper.specs.Idents.{Precedes, IsRising}
use Rattle.sync_plan.specs.declared.report.Side.{Side}
use Rattle.sync_plan.specs.declared.report.Side.TheVariants.{A, B}
use Rattle.sync_plan.specs.declared.rules.Rules.{Rules}
use Rattle.sync_plan.specs.declared.dues.Step.{Step}
use Rattle.sync_plan.specs.declared.dues.Step.TheVariants as step
use Rattle.sync_plan.specs.declared.seen.Seen.{Seen}
use Rattle.sync_plan.specs.declared.seen.Planned.{Planned}
use Rattle.sync_plan.specs.Merging.{Within}
use Rattle.sync_plan.specs.Plans.{planned_idents}
use Rattle.sync_plan.specs.Verdicts.{other_side, step_of}
use Rattle.sync_plan.proofs.Rising.{one_of_ident, precedes_differs}
use Rattle.side_reads.specs.Holdings.{AreTaken, IsTakenFor}
use Rattle.side_reads.specs.Places.{row_at}
use Rattle.job_runs.specs.Courses.{Course}
use Rattle.job_runs.specs.Taken.{IsTaken}
use Rattle.job_reads.specs.Readings.{Reads}
use Rattle.job_reads.proofs.TookLemmas.{each_taken}
use Rattle.job_writes.specs.declared.outcome.Outcome.{Outcome}
use Rattle.job_writes.specs.declared.outcome.Outcome.TheVariants.{Kept, Gone, Written, Left, Conflict, NotWritten, NotRemoved, Skipped}
use Rattle.job_writes.specs.Writings.{SideNow, now_of, Sources, Sends, IsUnsent, OverAnswer, OverDid, RemovalAnswer, RemovalDid, PutBy, PutSentBy, PutDid, PutTried, RemovalBy, RemovalSentBy, RemovalDone, RemovalTried, InOrder, AllTried, AllFit, FitsRemoval, WritesDid, IsWhole, failed_after, held_on, place_on, seen_at, is_failure}
use Rattle.job_writes.proofs.OrderLemmas.{put_tried, removal_tried, puts_tried, removals_tried}
use Rattle.job_writes.specs.declared.phases.Outcomes.{Outcomes}
use Rattle.job_rows.specs.RowsAfter.{outcome_of, IsStepAt}
use Rattle.job_writes.specs.Knowns.{IsMovedError, IsMovedOut}
use Rattle.job_traces.specs.Traces.{HasMoved}
use Rattle.job_traces.proofs.StepLemmas.{at_place, within_slice, place_of, versions_at, IsPlanned, IsRemovalStep}
use Rattle.job_traces.proofs.RunLemmas.{decide, own_step}
use Rattle.job_traces.proofs.MadeLemmas.{IsAt}
use Rattle.job_traces.proofs.RowsMade.{first_at, second_at, planned_at}

-- ---- the hrefs of a listing rise

first_of_both : (a b : Bool) → T (a && b) → T a × T b
first_of_both true b h = (tt, h)
first_of_both false b h = absurd h

less_from : (r : Ordering) → T (is_lt r) → r ≡ Less
less_from Less h = refl
less_from Equal h = absurd h
less_from Greater h = absurd h

below_hrefs : (q : List ℕ) (es : List (List ℕ × Held)) → T (below_all (slice_cmp nat_cmp) q es) → AllByRecursion (λ y. Precedes q y) (map (λ (e : List ℕ × Held). e.0) es)
below_hrefs q [] h = tt
below_hrefs q (e ∷ es) h = let both = first_of_both (is_lt (slice_cmp nat_cmp q e.0)) (below_all (slice_cmp nat_cmp) q es) h in (less_from (slice_cmp nat_cmp q e.0) both.0, below_hrefs q es both.1)

pub sorted_hrefs : (es : List (List ℕ × Held)) → T (is_sorted (slice_cmp nat_cmp) es) → IsRising (map (λ (e : List ℕ × Held). e.0) es)
sorted_hrefs [] h = tt
sorted_hrefs (e ∷ es) h = let both = first_of_both (below_all (slice_cmp nat_cmp) e.0 es) (is_sorted (slice_cmp nat_cmp) es) h in (below_hrefs e.0 es both.0, sorted_hrefs es both.1)

taken_href : (fetched : List Fetched) (o : Option Row) (e : Entry) (s : Seen) (t : Option ItemValue) → IsTakenFor fetched o e s t → s.href ≡ e.href
taken_href fetched (Some row) e s t (of, none) = of.href
taken_href fetched None e s t (f, within, at, of, is) = of.href ∙ at

pub seen_hrefs : (side : Side) (rows : List Row) (fetched : List Fetched) (es : List (List ℕ × Held)) (ss : List Seen) (ts : List (Option ItemValue)) → AreTaken side rows fetched (map entry_of es) ss ts → map (λ (s : Seen). s.href) ss ≡ map (λ (e : List ℕ × Held). e.0) es
seen_hrefs side rows fetched [] [] [] taken = refl
seen_hrefs side rows fetched (e ∷ es) (s ∷ ss) (t ∷ ts) taken = λ j. taken_href fetched (row_at side e.0 (e.1).etag rows) (entry_of e) s t taken.0 j ∷ seen_hrefs side rows fetched es ss ts taken.1 j
seen_hrefs side rows fetched [] (s ∷ ss) ts taken = absurd taken
seen_hrefs side rows fetched [] [] (t ∷ ts) taken = absurd taken
seen_hrefs side rows fetched (e ∷ es) [] ts taken = absurd taken
seen_hrefs side rows fetched (e ∷ es) (s ∷ ss) [] taken = absurd taken

-- ---- calls

sends_since : (ch : Change) (s t : SideNow) → Sends ch s t → Since s.state t.state
sends_since ch s t (inl (inl outside, same)) = Since-from_evolves outside
sends_since ch s t (inl (inr acts, same)) = let w = acts.writes in Evolves-trans (Since-from_evolves w.before) (Evolves-trans (Evolves-one w.moment (Wrote ch.href acts.old acts.new ch.sent) tt w.is_true) (Since-from_evolves w.after))
sends_since ch s t (inr (outside, more)) = Since-from_evolves outside

moved_unsent : (ch : Change) (error : StoreError) (s t : SideNow) → IsMovedError error → IsUnsent ch error s t → Evolves IsOutside s.state t.state × Sometime (λ m. fits ch m ≡ false) s.state t.state
moved_unsent ch store.Moved s t moved h = (h.0, h.1)
moved_unsent ch store.Fault s t moved h = absurd moved
moved_unsent ch store.TooLong s t moved h = absurd moved
moved_unsent ch store.TooMany s t moved h = absurd moved
moved_unsent ch store.NotThere s t moved h = absurd moved
moved_unsent ch (store.Vanished href) s t moved h = absurd moved
moved_unsent ch (store.BadItem href error) s t moved h = absurd moved
moved_unsent ch store.NoMemory s t moved h = absurd moved

module _ (c peer : Course) (side : Side) (x : Sources) (rows : List Row) (rules : Rules) (entries : Vec Entry Global) (fetched : Vec Fetched Global) (reads : Reads c.side c.rows entries fetched c.entry c.read) (taken : AreTaken c.side c.rows fetched.items entries.items (held_on side x).seen.items (held_on side x).items.items) where
  abbrev pub mine : List Seen
  mine = (held_on side x).seen.items

  rising : IsRising (map (λ (s : Seen). s.href) mine)
  rising = subst IsRising (sym (seen_hrefs c.side c.rows fetched.items (fin.entries (reads.listed).content) mine (held_on side x).items.items (subst (λ (es : List Entry). AreTaken c.side c.rows fetched.items es mine (held_on side x).items.items) reads.is_listing.1 taken))) (sorted_hrefs (fin.entries (reads.listed).content) (entries_sorted (reads.listed).content))

  one_place : (s t : Seen) → Within s mine → Within t mine → s.href ≡ t.href → s ≡ t
  one_place s t within_s within_t same = one_of_ident (λ (y : Seen). y.href) mine s t rising within_s within_t same

  -- ---- it stands

  pub record Stands (s : Seen) (m : SideState) : Type 0 where
    pub there : m.is_there ≡ true
    pub held : Held
    pub here : fin.get m.content s.href ≡ Some held
    pub same_etag : held.etag ≡ s.etag

  pub record Good (s : Seen) (m : SideState) : Type 0 where
    pub since : Since c.entry m
    pub at : WasEdited c.entry m ⊎ Stands s m

  reading : Evolves IsNoWrite c.entry c.read
  reading = Evolves-trans (Evolves-weaker outside_is_no_write reads.from) reads.until

  standing : (s : Seen) (m : SideState) (held : Held) → Since c.entry m → Since m c.read → fin.get m.content s.href ≡ Some held → held.etag ≡ s.etag → WasEdited c.entry c.read ⊎ Stands s c.read
  standing s m held from until here same = elim (same_or_edited (Evolves-rest reading from until)) [
    | inr edited ↦ inl (edited_extends from edited (Evolves-refl c.read))
    | inl kept ↦ elim (same_or_edited reads.until) [
      | inr edited ↦ inl (edited_extends (Since-from_evolves reads.from) edited (Evolves-refl c.read))
      | inl there ↦ inr (record { there = there.1 ∙ reads.is_listing.0; held = held; here = ap (λ k. fin.get k s.href) kept.0 ∙ here; same_etag = same })
    ]
  ]

  read_good : (s : Seen) → Within s mine → Good s c.read
  read_good s within = record { since = Since-from_evolves reading; at = by (each_taken c entries fetched reads mine (held_on side x).items.items taken s within) }
    where
      by : IsTaken c s.ident (s.fp).0 s.href s.etag → WasEdited c.entry c.read ⊎ Stands s c.read
      by (inl stood) = standing s stood.moment (stood.was).held stood.from stood.until (stood.was).here (stood.was).same_etag
      by (inr (stood, row)) = standing s stood.moment (stood.was).held stood.from stood.until (stood.was).here (stood.was).same_etag

  good_outside : (s : Seen) (m n : SideState) → Good s m → Evolves IsOutside m n → Good s n
  good_outside s m n good outside = record { since = Evolves-trans good.since (Since-from_evolves outside); at = by good.at (still_or_edited outside) }
    where
      by : WasEdited c.entry m ⊎ Stands s m → (n ≡ m) ⊎ WasEdited m n → WasEdited c.entry n ⊎ Stands s n
      by (inl edited) h = inl (edited_extends (Evolves-refl c.entry) edited (Since-from_evolves outside))
      by (inr stands) (inl same) = inr (subst (λ (k : SideState). Stands s k) (sym same) stands)
      by (inr stands) (inr edited) = inl (edited_extends good.since edited (Evolves-refl n))

  -- a change of another place
  abbrev pub IsApart : Seen → Change → Type 0
  IsApart s ch = (k : SideState) → Stands s k → fits_at ch.expected (fin.get k.content ch.href) ≡ true → s.href ≡ ch.href → ⊥

  good_acts : (s : Seen) (ch : Change) (m n : SideState) → IsApart s ch → Good s m → Acts ch m n → Good s n
  good_acts s ch m n apart good acts =
      let w = acts.writes in
      let e : StoreEvent = Wrote ch.href acts.old acts.new ch.sent in
      let before = good_outside s m w.moment good w.before in
      let one : Since w.moment (happens w.moment e) = Evolves-one w.moment e tt w.is_true in
      good_outside s (happens w.moment e) n (record {
        since = Evolves-trans before.since one;
        at = elim before.at [
          | inl edited ↦ inl (edited_extends (Evolves-refl c.entry) edited one)
          | inr stands ↦ elim (get-put_held (w.moment).content ch.href s.href acts.new) [
            | inl here ↦ absurd (apart w.moment stands (subst (λ (o : Option Held). fits_at ch.expected o ≡ true) w.is_true.0 acts.fit) here.0)
            | inr same ↦ inr (record { there = stands.there; held = stands.held; here = same ∙ stands.here; same_etag = stands.same_etag })
          ]
        ];
      }) w.after

  good_sends : (s : Seen) (ch : Change) (m n : SideNow) → IsApart s ch → Sends ch m n → Good s m.state → Good s n.state
  good_sends s ch m n apart (inl (inl outside, same)) good = good_outside s m.state n.state good outside
  good_sends s ch m n apart (inl (inr acts, same)) good = good_acts s ch m.state n.state apart good acts
  good_sends s ch m n apart (inr (outside, more)) good = good_outside s m.state n.state good outside

  -- a change over what stands is answered `moved` only where an edit from outside came
  moved_edited : (s : Seen) (ch : Change) (m n : SideState) → ch.href ≡ s.href → ch.expected ≡ Some s.etag → Good s m → Evolves IsOutside m n → Sometime (λ k. fits ch k ≡ false) m n → WasEdited c.entry n
  moved_edited s ch m n at expected good outside moved = elim (still_or_edited (Evolves-first outside moved.from moved.until)) [
    | inr edited ↦ edited_extends good.since edited moved.until
    | inl same ↦ elim good.at [
      | inl edited ↦ edited_extends (Evolves-refl c.entry) edited (Since-from_evolves outside)
      | inr stands ↦ absurd (false≢true (sym moved.was ∙ (ap (fits ch) same ∙ it_fits m stands)))
    ]
  ]
    where
      it_fits : (k : SideState) → Stands s k → fits ch k ≡ true
      it_fits k stands = λ j. (stands.there j && ((λ i. fits_at (expected i) (fin.get k.content (at i))) ∙ (ap (fits_at (Some s.etag)) stands.here ∙ (bytes_eq-Decides (stands.held).etag s.etag).1 stands.same_etag)) j)

  -- ---- what a step sends is new, or over the item of its own ident

  pub record IsSentFor (ident : List ℕ) (m n : SideNow) : Type 0 where
    pub ch : Change
    pub sends : Sends ch m n
    pub kind : (ch.expected ≡ None) ⊎ ((over : Seen) × Within over mine × (over.ident ≡ ident) × (ch.href ≡ over.href))

  over_within : (p : Planned) (over : Seen) → IsPlanned c peer side x rows rules p → seen_at (held_on side x) (place_on side p) ≡ Some over → Within over mine × (over.ident ≡ (p.ident).now)
  over_within p over planned stands = let here = at_place (p.ident).now (held_on side x) (place_on side p) over (place_of c peer side x rows rules side p planned) stands in (within_slice mine here.index over here.stands, here.same_ident)

  put_sent : (p : Planned) (st : Step) (m n : SideNow) → IsPlanned c peer side x rows rules p → p.step ≡ st → PutSentBy st side x p m n → IsSentFor (p.ident).now m n
  put_sent p st m n planned is sent = by side st refl sent
    where
      by : (at : Side) (st : Step) → at ≡ side → PutSentBy st at x p m n → IsSentFor (p.ident).now m n
      by A (step.CopyTo A) same sent = record { ch = new_at sent.href sent.item.text; sends = sent.sends; kind = inl refl }
      by B (step.CopyTo B) same sent = record { ch = new_at sent.href sent.item.text; sends = sent.sends; kind = inl refl }
      by A (step.CopyTo B) same sent = absurd sent
      by B (step.CopyTo A) same sent = absurd sent
      by A (step.WriteOver A) same sent = let here = over_within p sent.over planned (subst (λ (d : Side). seen_at (held_on d x) (place_on d p) ≡ Some sent.over) same sent.stands) in record { ch = over_at (sent.over).href (sent.over).etag sent.item.text; sends = sent.sends; kind = inr (sent.over, here.0, here.1, refl) }
      by B (step.WriteOver B) same sent = let here = over_within p sent.over planned (subst (λ (d : Side). seen_at (held_on d x) (place_on d p) ≡ Some sent.over) same sent.stands) in record { ch = over_at (sent.over).href (sent.over).etag sent.item.text; sends = sent.sends; kind = inr (sent.over, here.0, here.1, refl) }
      by A (step.WriteOver B) same sent = absurd sent
      by B (step.WriteOver A) same sent = absurd sent
      by at step.Forget same sent = absurd sent
      by at step.Keep same sent = absurd sent
      by at (step.RemoveFrom from) same sent = absurd sent
      by at step.HandOver same sent = absurd sent
      by at step.Conflict same sent = absurd sent
      by at (step.Held to) same sent = absurd sent

  removal_sent : (p : Planned) (st : Step) (m n : SideNow) → IsPlanned c peer side x rows rules p → RemovalSentBy st side x p m n → IsSentFor (p.ident).now m n
  removal_sent p st m n planned sent = by side st refl sent
    where
      by : (at : Side) (st : Step) → at ≡ side → RemovalSentBy st at x p m n → IsSentFor (p.ident).now m n
      by A (step.RemoveFrom A) same sent = let here = over_within p sent.over planned (subst (λ (d : Side). seen_at (held_on d x) (place_on d p) ≡ Some sent.over) same sent.stands) in record { ch = gone_at (sent.over).href (sent.over).etag; sends = sent.sends; kind = inr (sent.over, here.0, here.1, refl) }
      by B (step.RemoveFrom B) same sent = let here = over_within p sent.over planned (subst (λ (d : Side). seen_at (held_on d x) (place_on d p) ≡ Some sent.over) same sent.stands) in record { ch = gone_at (sent.over).href (sent.over).etag; sends = sent.sends; kind = inr (sent.over, here.0, here.1, refl) }
      by A (step.RemoveFrom B) same sent = absurd sent
      by B (step.RemoveFrom A) same sent = absurd sent
      by at (step.CopyTo to) same sent = absurd sent
      by at (step.WriteOver to) same sent = absurd sent
      by at step.Forget same sent = absurd sent
      by at step.Keep same sent = absurd sent
      by at step.HandOver same sent = absurd sent
      by at step.Conflict same sent = absurd sent
      by at (step.Held to) same sent = absurd sent

  -- the items of an ident stand, whatever is sent for another
  abbrev pub AllGood : List ℕ → SideState → Type 0
  AllGood ident m = (s : Seen) → Within s mine → s.ident ≡ ident → Good s m

  sent_apart : (ident other : List ℕ) (m n : SideNow) → (other ≡ ident → ⊥) → (sent : IsSentFor other m n) → (s : Seen) → Within s mine → s.ident ≡ ident → IsApart s sent.ch
  sent_apart ident other m n differs sent s within is k stands fit at = by sent.kind
    where
      here : fin.get k.content (sent.ch).href ≡ Some stands.held
      here = ap (fin.get k.content) (sym at) ∙ stands.here

      by : ((sent.ch).expected ≡ None) ⊎ ((over : Seen) × Within over mine × (over.ident ≡ other) × ((sent.ch).href ≡ over.href)) → ⊥
      by (inl new) = false≢true ((λ j. fits_at (sym new j) (sym here j)) ∙ fit)
      by (inr (over, among, of, same)) = differs (sym of ∙ (ap (λ (y : Seen). y.ident) (sym (one_place s over within among (at ∙ same))) ∙ is))

  good_other : (ident other : List ℕ) (m n : SideNow) → (other ≡ ident → ⊥) → (n ≡ m) ⊎ IsSentFor other m n → AllGood ident m.state → AllGood ident n.state
  good_other ident other m n differs (inl same) good = subst (λ (k : SideNow). AllGood ident k.state) (sym same) good
  good_other ident other m n differs (inr sent) good = λ s within is. good_sends s sent.ch m n (sent_apart ident other m n differs sent s within is) sent.sends (good s within is)

  put_effect : (p : Planned) (m n : SideNow) → IsPlanned c peer side x rows rules p → PutTried side x p m n → (n ≡ m) ⊎ IsSentFor (p.ident).now m n
  put_effect p m n planned (inl same) = inl same
  put_effect p m n planned (inr sent) = inr (put_sent p p.step m n planned refl sent)

  removal_effect : (failed : Bool) (p : Planned) (m n : SideNow) → IsPlanned c peer side x rows rules p → RemovalTried side x failed p m n → (n ≡ m) ⊎ IsSentFor (p.ident).now m n
  removal_effect failed p m n planned (inl same) = inl same
  removal_effect failed p m n planned (inr (none, sent)) = inr (removal_sent p p.step m n planned sent)

  effect_since : (ident : List ℕ) (m n : SideNow) → (n ≡ m) ⊎ IsSentFor ident m n → Since m.state n.state
  effect_since ident m n (inl same) = subst (λ (k : SideNow). Since m.state k.state) (sym same) (Evolves-refl m.state)
  effect_since ident m n (inr sent) = sends_since sent.ch m n sent.sends

  puts_since : (ps : List Planned) (s t : SideNow) → AllByRecursion (IsPlanned c peer side x rows rules) ps → AllTried (PutTried side x) ps s t → Since s.state t.state
  puts_since [] s t planned done = subst (λ (k : SideNow). Since s.state k.state) (sym done) (Evolves-refl s.state)
  puts_since (p ∷ ps) s t planned (m, tried, rest) = Evolves-trans (effect_since (p.ident).now s m (put_effect p s m planned.0 tried)) (puts_since ps m t planned.1 rest)

  removals_since : (failed : Bool) (ps : List Planned) (s t : SideNow) → AllByRecursion (IsPlanned c peer side x rows rules) ps → AllTried (RemovalTried side x failed) ps s t → Since s.state t.state
  removals_since failed [] s t planned done = subst (λ (k : SideNow). Since s.state k.state) (sym done) (Evolves-refl s.state)
  removals_since failed (p ∷ ps) s t planned (m, tried, rest) = Evolves-trans (effect_since (p.ident).now s m (removal_effect failed p s m planned.0 tried)) (removals_since failed ps m t planned.1 rest)

  edited_later : (m n : SideState) → WasEdited c.entry m → Since m n → WasEdited c.entry n
  edited_later m n edited later = edited_extends (Evolves-refl c.entry) edited later

  -- ---- the step whose change is answered `moved`

  put_moved : (waits : Bool) (p : Planned) (m n : SideNow) (o : Outcome) → IsPlanned c peer side x rows rules p → PutDid waits side x p m n o → p.step ≡ step.WriteOver side → IsMovedOut o → AllGood (p.ident).now m.state → WasEdited c.entry n.state
  put_moved waits p m n o planned did is moved good = answered (over_did side (subst (λ (q : Step). PutBy q waits side x p m n o) is did))
    where
      answered : (did : OverDid waits side (held_on side x) (place_on side p) (held_on (other_side side) x) (place_on (other_side side) p) m n o) → WasEdited c.entry n.state
      answered did = told o moved did.answer
        where
          here : Within did.over mine × ((did.over).ident ≡ (p.ident).now)
          here = over_within p did.over planned did.stands

          told : (o : Outcome) → IsMovedOut o → OverAnswer waits side did.over did.from did.item m n (Ok o) → WasEdited c.entry n.state
          told (NotWritten at error) moved (of, unsent) =
              let sent = moved_unsent (over_at (did.over).href (did.over).etag did.item.text) error m n moved unsent in
              moved_edited did.over (over_at (did.over).href (did.over).etag did.item.text) m.state n.state refl refl (good did.over here.0 here.1) sent.0 sent.1
          told (NotRemoved at error) moved answer = absurd answer
          told Kept moved answer = absurd moved
          told Gone moved answer = absurd moved
          told (Written row) moved answer = absurd moved
          told Left moved answer = absurd moved
          told Conflict moved answer = absurd moved
          told Skipped moved answer = absurd moved

      over_did : (to : Side) → PutBy (step.WriteOver to) waits to x p m n o → OverDid waits to (held_on to x) (place_on to p) (held_on (other_side to) x) (place_on (other_side to) p) m n o
      over_did A did = did
      over_did B did = did

  removal_moved : (failed waits : Bool) (p : Planned) (m n : SideNow) (o : Outcome) → IsPlanned c peer side x rows rules p → RemovalDone waits side x failed p m n o → p.step ≡ step.RemoveFrom side → FitsRemoval failed p.step o → IsMovedOut o → AllGood (p.ident).now m.state → WasEdited c.entry n.state
  removal_moved failed waits p m n o planned did is fits moved good = by failed side (subst (λ (q : Step). FitsRemoval failed q o) is fits) (subst (λ (q : Step). RemovalBy q failed waits side x p m n o) is did)
    where
      answered : (did : RemovalDid waits side (held_on side x) (place_on side p) m n o) → WasEdited c.entry n.state
      answered did = told o moved did.answer
        where
          here : Within did.over mine × ((did.over).ident ≡ (p.ident).now)
          here = over_within p did.over planned did.stands

          told : (o : Outcome) → IsMovedOut o → RemovalAnswer waits side did.over m n (Ok o) → WasEdited c.entry n.state
          told (NotRemoved at error) moved (of, unsent) =
              let sent = moved_unsent (gone_at (did.over).href (did.over).etag) error m n moved unsent in
              moved_edited did.over (gone_at (did.over).href (did.over).etag) m.state n.state refl refl (good did.over here.0 here.1) sent.0 sent.1
          told (NotWritten at error) moved answer = absurd answer
          told Kept moved answer = absurd moved
          told Gone moved answer = absurd moved
          told (Written row) moved answer = absurd moved
          told Left moved answer = absurd moved
          told Conflict moved answer = absurd moved
          told Skipped moved answer = absurd moved

      removal_did : (from : Side) → RemovalBy (step.RemoveFrom from) false waits from x p m n o → RemovalDid waits from (held_on from x) (place_on from p) m n o
      removal_did A did = did
      removal_did B did = did

      skipped : o ≡ Skipped → WasEdited c.entry n.state
      skipped same = absurd (subst IsMovedOut same moved)

      by : (φ : Bool) (at : Side) → FitsRemoval φ (step.RemoveFrom side) o → RemovalBy (step.RemoveFrom side) φ waits side x p m n o → WasEdited c.entry n.state
      by true at fits did = skipped fits
      by false at fits did = answered (removal_did side did)

  -- ---- all steps

  module _ (ident : List ℕ) where
    other_put : (ps : List Planned) (s t : SideNow) → AllByRecursion (IsPlanned c peer side x rows rules) ps → IsRemovalStep (step_of rules (versions_at c peer side x rows rules ident)) → AllTried (PutTried side x) ps s t → AllGood ident s.state → AllGood ident t.state
    other_put [] s t planned kind done good = subst (λ (k : SideNow). AllGood ident k.state) (sym done) good
    other_put (p ∷ ps) s t planned kind (m, tried, rest) good = other_put ps m t planned.1 kind rest (one (decide c peer side x rows rules ident (p.ident).now))
      where
        own : (p.ident).now ≡ ident → PutTried side x p s m → m ≡ s
        own here (inl same) = same
        own here (inr sent) = absurd (no_put p.step (subst IsRemovalStep (sym (own_step c peer side x rows rules ident p here planned.0)) kind) sent)
          where
            no_put : (st : Step) → IsRemovalStep st → PutSentBy st side x p s m → ⊥
            no_put (step.RemoveFrom from) is sent = sent
            no_put (step.CopyTo to) is sent = is
            no_put (step.WriteOver to) is sent = is
            no_put step.Forget is sent = is
            no_put step.Keep is sent = is
            no_put step.HandOver is sent = is
            no_put step.Conflict is sent = is
            no_put (step.Held to) is sent = is

        one : ((p.ident).now ≡ ident) ⊎ ((p.ident).now ≡ ident → ⊥) → AllGood ident m.state
        one (inl here) = subst (λ (k : SideNow). AllGood ident k.state) (sym (own here tried)) good
        one (inr differs) = good_other ident (p.ident).now s m differs (put_effect p s m planned.0 tried) good

  behind : (i : List ℕ) (p : Planned) (o : Outcome) (ps : List Planned) (os : List Outcome) → AllByRecursion (λ (z : List ℕ). Precedes i z) (planned_idents ps) → IsAt p o ps os → i ≡ (p.ident).now → ⊥
  behind i p o [] os later at same = absurd at
  behind i p o (q ∷ ps) [] later at same = absurd at
  behind i p o (q ∷ ps) (y ∷ os) later (inl (here, e)) same = precedes_differs i (q.ident).now later.0 (same ∙ ap (λ (r : Planned). (r.ident).now) here)
  behind i p o (q ∷ ps) (y ∷ os) later (inr at) same = behind i p o ps os later.1 at same

  order_tried_puts : (waits φ : Bool) (ps : List Planned) (os : List Outcome) (s t : SideNow) → InOrder (λ failed. PutDid waits side x) φ ps os s t → AllTried (PutTried side x) ps s t
  order_tried_puts waits φ [] [] s t done = done
  order_tried_puts waits φ (p ∷ ps) (o ∷ os) s t (m, did, rest) = (m, put_tried waits side x p s m o did, order_tried_puts waits (φ || is_failure o) ps os m t rest)
  order_tried_puts waits φ [] (o ∷ os) s t done = absurd done
  order_tried_puts waits φ (p ∷ ps) [] s t done = absurd done

  puts_moved : (waits φ : Bool) (p : Planned) (o : Outcome) (ps : List Planned) (os : List Outcome) (s t : SideNow) → IsRising (planned_idents ps) → AllByRecursion (IsPlanned c peer side x rows rules) ps → InOrder (λ failed. PutDid waits side x) φ ps os s t → IsAt p o ps os → p.step ≡ step.WriteOver side → IsMovedOut o → AllGood (p.ident).now s.state → WasEdited c.entry t.state
  puts_moved waits φ p o [] os s t up planned done at is moved good = absurd at
  puts_moved waits φ p o (q ∷ ps) [] s t up planned done at is moved good = absurd at
  puts_moved waits φ p o (q ∷ ps) (y ∷ os) s t up planned (m, did, rest) (inl (same, e)) is moved good =
      edited_later m.state t.state (put_moved waits p s m o (subst (IsPlanned c peer side x rows rules) (sym same) planned.0) (subst (λ (r : Planned). PutDid waits side x r s m o) (sym same) (subst (λ (z : Outcome). PutDid waits side x q s m z) (sym e) did)) is moved good) (puts_since ps m t planned.1 (order_tried_puts waits (φ || is_failure y) ps os m t rest))
  puts_moved waits φ p o (q ∷ ps) (y ∷ os) s t up planned (m, did, rest) (inr at) is moved good =
      puts_moved waits (φ || is_failure y) p o ps os m t up.1 planned.1 rest at is moved (good_other (p.ident).now (q.ident).now s m (behind (q.ident).now p o ps os up.0 at) (put_effect q s m planned.0 (put_tried waits side x q s m y did)) good)

  removals_moved : (waits φ : Bool) (p : Planned) (o : Outcome) (ps : List Planned) (os : List Outcome) (s t : SideNow) → IsRising (planned_idents ps) → AllByRecursion (IsPlanned c peer side x rows rules) ps → AllFit (λ failed q. FitsRemoval failed q.step) φ ps os → InOrder (RemovalDone waits side x) φ ps os s t → IsAt p o ps os → p.step ≡ step.RemoveFrom side → IsMovedOut o → AllGood (p.ident).now s.state → WasEdited c.entry t.state
  removals_moved waits φ p o [] os s t up planned fits done at is moved good = absurd at
  removals_moved waits φ p o (q ∷ ps) [] s t up planned fits done at is moved good = absurd at
  removals_moved waits φ p o (q ∷ ps) (y ∷ os) s t up planned fits (m, did, rest) (inl (same, e)) is moved good =
      edited_later m.state t.state (removal_moved φ waits p s m o (subst (IsPlanned c peer side x rows rules) (sym same) planned.0) (subst (λ (r : Planned). RemovalDone waits side x φ r s m o) (sym same) (subst (λ (z : Outcome). RemovalDone waits side x φ q s m z) (sym e) did)) is (subst (λ (r : Planned). FitsRemoval φ r.step o) (sym same) (subst (λ (z : Outcome). FitsRemoval φ q.step z) (sym e) fits.0)) moved good) (removals_since (φ || is_failure y) ps m t planned.1 (removals_tried waits side x (φ || is_failure y) ps os m t rest))
  removals_moved waits φ p o (q ∷ ps) (y ∷ os) s t up planned fits (m, did, rest) (inr at) is moved good =
      removals_moved waits (φ || is_failure y) p o ps os m t up.1 planned.1 fits.1 rest at is moved (good_other (p.ident).now (q.ident).now s m (behind (q.ident).now p o ps os up.0 at) (removal_effect φ q s m planned.0 (removal_tried waits side x φ q s m y did)) good)

  -- both phases
  pub moved_by_edit : (waits : Bool) (p : Planned) (f g : Outcome) (ps : List Planned) (os : Outcomes) (end : SideNow) → IsRising (planned_idents ps) → AllByRecursion (IsPlanned c peer side x rows rules) ps → IsWhole x ps os → WritesDid waits side x ps (now_of c.read []) end os → IsStepAt p f g ps os.put.items os.removed.items → HasMoved side p.step (outcome_of p.step f g) → WasEdited c.entry end.state
  moved_by_edit waits p f g ps os end up planned whole did at moved = by p.step refl moved
    where
      first : IsAt p f ps os.put.items
      first = first_at p f g ps os.put.items os.removed.items at

      second : IsAt p g ps os.removed.items
      second = second_at p f g ps os.put.items os.removed.items at

      removals : AllTried (RemovalTried side x (failed_after false os.put.items)) ps did.between end
      removals = removals_tried waits side x (failed_after false os.put.items) ps os.removed.items did.between end did.removals

      starts : AllGood (p.ident).now c.read
      starts = λ s within is. read_good s within

      is_planned : IsPlanned c peer side x rows rules p
      is_planned = planned_at (IsPlanned c peer side x rows rules) p f ps os.put.items planned first

      by : (st : Step) → p.step ≡ st → HasMoved side st (outcome_of st f g) → WasEdited c.entry end.state
      by (step.WriteOver to) is (same, out) = edited_later (did.between).state end.state (puts_moved waits false p f ps os.put.items (now_of c.read []) did.between up planned did.puts first (is ∙ ap step.WriteOver same) out starts) (removals_since (failed_after false os.put.items) ps did.between end planned removals)
      by (step.RemoveFrom from) is (same, out) =
          let kind : IsRemovalStep (step_of rules (versions_at c peer side x rows rules (p.ident).now)) = subst IsRemovalStep (sym is ∙ is_planned.by_table) tt in
          removals_moved waits (failed_after false os.put.items) p g ps os.removed.items did.between end up planned whole.removed did.removals second (is ∙ ap step.RemoveFrom same) out (other_put (p.ident).now ps (now_of c.read []) did.between planned kind (puts_tried waits side x ps os.put.items (now_of c.read []) did.between did.puts) starts)
      by (step.CopyTo to) is h = absurd h
      by step.Forget is h = absurd h
      by step.Keep is h = absurd h
      by step.HandOver is h = absurd h
      by step.Conflict is h = absurd h
      by (step.Held to) is h = absurd h
