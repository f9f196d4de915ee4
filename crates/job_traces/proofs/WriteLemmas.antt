-- One ident on one side, while changes are sent and act.
use Rattle.std.proofs.Common.{◌≡◌, ◌⊎◌, inl, inr, ℕ, true, List, [], ◌∷◌, ◌++◌, Option, Some, None, option_map, refl, sym, ap, ◌∙◌, subst, append_assoc, Bool, false}
use Rattle.std.proofs.lemmas.Bool.{false≢true}
use Rattle.std.proofs.lemmas.Slice.Eq.{bytes_eq-Decides}
use Rattle.std.specs.List.{AllByRecursion}
use Rattle.item_text.specs.Items.{ItemValue, item_of}
use Rattle.store_model.specs.declared.event.Held.{Held}
use Rattle.store_model.specs.declared.event.StoreEvent.{StoreEvent}
use Rattle.store_model.specs.declared.event.StoreEvent.TheVariants.{Edited, Toggled, Wrote, Read}
use Rattle.store_model.specs.Sides.{SideState, happens, IsTrueEvent, KeepsItem, Evolves, IsOutside}
use Rattle.store_model.specs.Waits.{Change, fits_at, Acts, ActAll, Flushes}
use Rattle.store_model.proofs.Moments.{Evolves-refl, Evolves-trans, Evolves-weaker, Evolves-one}
use Rattle.side_views.specs.Views.{IsPut}
use Rattle.job_runs.specs.Courses.{Course}
use Rattle.job_runs.specs.Taken.{IsTaken, IsOverTaken, IsAlone}
use Rattle.job_runs.specs.Writes.{IsNewOf, IsForOthers, IsSource, IsEtagOf}
use Rattle.job_writes.specs.Writings.{SideNow, IsSent, Sends}
use Rattle.job_traces.specs.Traces.{Expects, IsSentAs, IsWriteFor, IsFlushed}

-- ---- one change that acts

none_is : (old : Option Held) → fits_at None old ≡ true → old ≡ None
none_is None h = refl
none_is (Some held) h = absurd (false≢true h)

some_is : (etag : List ℕ) (old : Option Held) → fits_at (Some etag) old ≡ true → (held : Held) × (old ≡ Some held) × (held.etag ≡ etag)
some_is etag None h = absurd (false≢true h)
some_is etag (Some held) h = (held, refl, (bytes_eq-Decides held.etag etag).0 h)

over_taken : (c : Course) (ident : List ℕ) (ch : Change) (saw : Option (List ℕ)) (old : Option Held) → Expects c ident ch saw → fits_at ch.expected old ≡ true → IsOverTaken c ident ch.href saw old
over_taken c ident ch None old expects fit = none_is old (subst (λ (e : Option (List ℕ)). fits_at e old ≡ true) expects fit)
over_taken c ident ch (Some version) old (etag, is, taken) fit =
    let found = some_is etag old (subst (λ (e : Option (List ℕ)). fits_at e old ≡ true) is fit) in
    (found.0, found.1, subst (λ (e : List ℕ). IsTaken c ident version ch.href e) (sym found.2) taken)

put_none : (ident : List ℕ) (new : Option Held) → KeepsItem new None → IsPut ident None new
put_none ident None keeps = tt
put_none ident (Some held) keeps = absurd keeps

put_some : (ident version text : List ℕ) (item : ItemValue) (new : Option Held) → item_of text ≡ Some item → item.ident ≡ ident → item.version ≡ version → KeepsItem new (Some text) → IsPut ident (Some version) new
put_some ident version text item None is same_ident same_version keeps = absurd keeps
put_some ident version text item (Some held) is same_ident same_version (i, j, is_i, is_j, idents, versions) =
    let both : Some j ≡ Some item = sym is_j ∙ is in
    let one : j ≡ item = cc in
    (i, is_i, idents ∙ (ap (λ (x : ItemValue). x.ident) one ∙ same_ident), versions ∙ (ap (λ (x : ItemValue). x.version) one ∙ same_version))

is_put : (ident : List ℕ) (sent : Option (List ℕ)) (to : Option (List ℕ)) (new : Option Held) → IsSentAs ident sent to → KeepsItem new sent → IsPut ident to new
is_put ident sent None new is keeps = put_none ident new (subst (λ (o : Option (List ℕ)). KeepsItem new o) is keeps)
is_put ident sent (Some version) new (text, item, is, is_item, same_ident, same_version) keeps = put_some ident version text item new is_item same_ident same_version (subst (λ (o : Option (List ℕ)). KeepsItem new o) is keeps)

is_new : (ident : List ℕ) (to : Option (List ℕ)) (new : Option Held) → IsPut ident to new → IsNewOf ident new
is_new ident None None put = tt
is_new ident None (Some held) put = absurd put
is_new ident (Some version) None put = absurd put
is_new ident (Some version) (Some held) (item, is_item, same_ident, same_version) = (item, is_item, same_ident)

module _ (c peer : Course) (ident : List ℕ) where
  outside_is_for_others : (e : StoreEvent) → IsOutside e → IsForOthers c ident e
  outside_is_for_others (Edited href old new) h = tt
  outside_is_for_others Toggled h = tt
  outside_is_for_others (Wrote href old new sent) h = absurd h
  outside_is_for_others (Read href text) h = absurd h

  -- the change is for another ident
  pub record IsOther (ch : Change) : Type 0 where
    pub other : List ℕ
    pub differs : other ≡ ident → ⊥
    pub saw : Option (List ℕ)
    pub to : Option (List ℕ)
    pub write : IsWriteFor c peer other saw to ch

  other_event : (ch : Change) (s : SideState) (old new : Option Held) → IsOther ch → fits_at ch.expected old ≡ true → IsTrueEvent s (Wrote ch.href old new ch.sent) → IsForOthers c ident (Wrote ch.href old new ch.sent)
  other_event ch s old new is fit is_true =
      (is.other, is.differs, (is.saw, over_taken c is.other ch is.saw old is.write.expects fit), is_new is.other is.to new (is_put is.other ch.sent is.to new is.write.sends is_true.1))

  acts_for_others : (ch : Change) (s t : SideState) → IsOther ch → Acts ch s t → Evolves (IsForOthers c ident) s t
  acts_for_others ch s t is acts =
      let w = acts.writes in
      Evolves-trans (Evolves-weaker outside_is_for_others w.before) (Evolves-trans (Evolves-one w.moment (Wrote ch.href acts.old acts.new ch.sent) (other_event ch w.moment acts.old acts.new is acts.fit w.is_true) w.is_true) (Evolves-weaker outside_is_for_others w.after))

  -- ---- where the ident stands

  -- nothing was sent for it
  pub record IsFresh (s : SideNow) : Type 0 where
    pub run : Evolves (IsForOthers c ident) c.read s.state
    pub waits : AllByRecursion IsOther s.waiting

  all_push : (w : List Change) (ch : Change) → AllByRecursion IsOther w → IsOther ch → AllByRecursion IsOther (w ++ ch ∷ [])
  all_push [] ch all is = (is, tt)
  all_push (x ∷ w) ch all is = (all.0, all_push w ch all.1 is)

  fresh_more : (s t : SideNow) → Evolves (IsForOthers c ident) s.state t.state → t.waiting ≡ s.waiting → IsFresh s → IsFresh t
  fresh_more s t more same fresh = record { run = Evolves-trans fresh.run more; waits = subst (λ (w : List Change). AllByRecursion IsOther w) (sym same) fresh.waits }

  pub fresh_other : (ch : Change) (s t : SideNow) → IsOther ch → Sends ch s t → IsFresh s → IsFresh t
  fresh_other ch s t is (inl (inl outside, same)) fresh = fresh_more s t (Evolves-weaker outside_is_for_others outside) same fresh
  fresh_other ch s t is (inl (inr acts, same)) fresh = fresh_more s t (acts_for_others ch s.state t.state is acts) same fresh
  fresh_other ch s t is (inr (outside, same)) fresh = record { run = Evolves-trans fresh.run (Evolves-weaker outside_is_for_others outside); waits = subst (λ (w : List Change). AllByRecursion IsOther w) (sym same) (all_push s.waiting ch fresh.waits is) }

  all_act : (w : List Change) (s t : SideState) → AllByRecursion IsOther w → ActAll w s t → Evolves (IsForOthers c ident) s t
  all_act [] s t all acts = subst (λ (x : SideState). Evolves (IsForOthers c ident) s x) (sym acts) (Evolves-refl s)
  all_act (ch ∷ w) s t all (old, new, fit, is_true, rest) =
      let e : StoreEvent = Wrote ch.href old new ch.sent in
      Evolves-trans (Evolves-one s e (other_event ch s old new all.0 fit is_true) is_true) (all_act w (happens s e) t all.1 rest)

  pub fresh_flushed : (s : SideNow) (exit : SideState) → IsFresh s → IsFlushed s exit → Evolves (IsForOthers c ident) c.read exit
  fresh_flushed s exit fresh (inl outside) = Evolves-trans fresh.run (Evolves-weaker outside_is_for_others outside)
  fresh_flushed s exit fresh (inr flush) = Evolves-trans fresh.run (Evolves-trans (Evolves-weaker outside_is_for_others flush.before) (Evolves-trans (all_act s.waiting flush.first flush.last fresh.waits flush.all) (Evolves-weaker outside_is_for_others flush.after)))

  module _ (saw to : Option (List ℕ)) where
    -- the write for the ident has acted: the change that was sent for it, over what was taken
    pub record HasActed (ch : Change) (t : SideState) : Type 0 where
      pub moment : SideState
      pub old : Option Held
      pub new : Option Held
      pub before : Evolves (IsForOthers c ident) c.read moment
      pub is_true : IsTrueEvent moment (Wrote ch.href old new ch.sent)
      pub over : IsOverTaken c ident ch.href saw old
      pub alone : IsAlone c ident ch.href saw
      pub put : IsPut ident to new
      pub source : IsSource peer ident ch.sent
      pub after : Evolves (IsForOthers c ident) (happens moment (Wrote ch.href old new ch.sent)) t

    pub record IsDone (ch : Change) (s : SideNow) : Type 0 where
      pub acted : HasActed ch s.state
      pub waits : AllByRecursion IsOther s.waiting

    pub record Pends (ch : Change) (s : SideNow) : Type 0 where
      pub run : Evolves (IsForOthers c ident) c.read s.state
      pub write : IsWriteFor c peer ident saw to ch
      pub first : List Change
      pub rest : List Change
      pub waits : s.waiting ≡ first ++ ch ∷ rest
      pub others_first : AllByRecursion IsOther first
      pub others_rest : AllByRecursion IsOther rest

    pub record IsUnderWay (s : SideNow) : Type 0 where
      pub ch : Change
      pub at : IsDone ch s ⊎ Pends ch s

    abbrev pub Tracks : SideNow → Type 0
    Tracks s = IsFresh s ⊎ IsUnderWay s

    acted_more : (ch : Change) (s t : SideState) → HasActed ch s → Evolves (IsForOthers c ident) s t → HasActed ch t
    acted_more ch s t acted more =
        record { moment = acted.moment; old = acted.old; new = acted.new; before = acted.before; is_true = acted.is_true; over = acted.over; alone = acted.alone; put = acted.put; source = acted.source; after = Evolves-trans acted.after more }

    -- the state goes on by what is for others, and the waiting changes stay
    state_more : (s t : SideNow) → Evolves (IsForOthers c ident) s.state t.state → t.waiting ≡ s.waiting → Tracks s → Tracks t
    state_more s t more same (inl fresh) = inl (fresh_more s t more same fresh)
    state_more s t more same (inr under) = inr (record { ch = under.ch; at = at under.at })
      where
        at : IsDone under.ch s ⊎ Pends under.ch s → IsDone under.ch t ⊎ Pends under.ch t
        at (inl done) = inl (record { acted = acted_more under.ch s.state t.state done.acted more; waits = subst (λ (w : List Change). AllByRecursion IsOther w) (sym same) done.waits })
        at (inr pends) = inr (record { run = Evolves-trans pends.run more; write = pends.write; first = pends.first; rest = pends.rest; waits = same ∙ pends.waits; others_first = pends.others_first; others_rest = pends.others_rest })

    -- another change waits
    wait_more : (ch : Change) (s t : SideNow) → IsOther ch → Evolves (IsForOthers c ident) s.state t.state → t.waiting ≡ s.waiting ++ ch ∷ [] → Tracks s → Tracks t
    wait_more ch s t is more same (inl fresh) = inl (record { run = Evolves-trans fresh.run more; waits = subst (λ (w : List Change). AllByRecursion IsOther w) (sym same) (all_push s.waiting ch fresh.waits is) })
    wait_more ch s t is more same (inr under) = inr (record { ch = under.ch; at = at under.at })
      where
        at : IsDone under.ch s ⊎ Pends under.ch s → IsDone under.ch t ⊎ Pends under.ch t
        at (inl done) = inl (record { acted = acted_more under.ch s.state t.state done.acted more; waits = subst (λ (w : List Change). AllByRecursion IsOther w) (sym same) (all_push s.waiting ch done.waits is) })
        at (inr pends) = inr (record {
          run = Evolves-trans pends.run more;
          write = pends.write;
          first = pends.first;
          rest = pends.rest ++ ch ∷ [];
          waits = same ∙ (ap (λ (w : List Change). w ++ ch ∷ []) pends.waits ∙ append_assoc pends.first (under.ch ∷ pends.rest) (ch ∷ []));
          others_first = pends.others_first;
          others_rest = all_push pends.rest ch pends.others_rest is;
        })

    pub sends_other : (ch : Change) (s t : SideNow) → IsOther ch → Sends ch s t → Tracks s → Tracks t
    sends_other ch s t is (inl (inl outside, same)) tracks = state_more s t (Evolves-weaker outside_is_for_others outside) same tracks
    sends_other ch s t is (inl (inr acts, same)) tracks = state_more s t (acts_for_others ch s.state t.state is acts) same tracks
    sends_other ch s t is (inr (outside, same)) tracks = wait_more ch s t is (Evolves-weaker outside_is_for_others outside) same tracks

    acted_by : (ch : Change) (s t : SideState) → IsWriteFor c peer ident saw to ch → Evolves (IsForOthers c ident) c.read s → Acts ch s t → HasActed ch t
    acted_by ch s t write run acts =
        let w = acts.writes in
        record {
          moment = w.moment;
          old = acts.old;
          new = acts.new;
          before = Evolves-trans run (Evolves-weaker outside_is_for_others w.before);
          is_true = w.is_true;
          over = over_taken c ident ch saw acts.old write.expects acts.fit;
          alone = write.alone;
          put = is_put ident ch.sent to acts.new write.sends w.is_true.1;
          source = write.source;
          after = Evolves-weaker outside_is_for_others w.after;
        }

    pub sends_own : (ch : Change) (s t : SideNow) → IsWriteFor c peer ident saw to ch → Sends ch s t → IsFresh s → Tracks t
    sends_own ch s t write (inl (inl outside, same)) fresh = state_more s t (Evolves-weaker outside_is_for_others outside) same (inl fresh)
    sends_own ch s t write (inl (inr acts, same)) fresh = inr (record { ch = ch; at = inl (record { acted = acted_by ch s.state t.state write fresh.run acts; waits = subst (λ (w : List Change). AllByRecursion IsOther w) (sym same) fresh.waits }) })
    sends_own ch s t write (inr (outside, same)) fresh = inr (record { ch = ch; at = inr (record { run = Evolves-trans fresh.run (Evolves-weaker outside_is_for_others outside); write = write; first = s.waiting; rest = []; waits = same; others_first = fresh.waits; others_rest = tt }) })

    -- ---- when what waits acts

    acted_among : (first : List Change) (ch : Change) (rest : List Change) (s t : SideState) → AllByRecursion IsOther first → AllByRecursion IsOther rest → IsWriteFor c peer ident saw to ch → Evolves (IsForOthers c ident) c.read s → ActAll (first ++ ch ∷ rest) s t → HasActed ch t
    acted_among [] ch rest s t all_first all_rest write run (old, new, fit, is_true, later) =
        let e : StoreEvent = Wrote ch.href old new ch.sent in
        record {
          moment = s;
          old = old;
          new = new;
          before = run;
          is_true = is_true;
          over = over_taken c ident ch saw old write.expects fit;
          alone = write.alone;
          put = is_put ident ch.sent to new write.sends is_true.1;
          source = write.source;
          after = all_act rest (happens s e) t all_rest later;
        }
    acted_among (x ∷ first) ch rest s t all_first all_rest write run (old, new, fit, is_true, later) =
        let e : StoreEvent = Wrote x.href old new x.sent in
        acted_among first ch rest (happens s e) t all_first.1 all_rest write (Evolves-trans run (Evolves-one s e (other_event x s old new all_first.0 fit is_true) is_true)) later

    -- ---- a write whose answer is known

    -- the change was sent for the ident and its call told this etag: it acted, and the etag is of what it left, or it waits
    abbrev pub IsSentFor : Change → Option (List ℕ) → SideNow → Type 0
    IsSentFor ch etag s = ((done : IsDone ch s) × IsEtagOf etag (done.acted).new) ⊎ (Pends ch s × (etag ≡ None))

    etag_of : (etag : Option (List ℕ)) (new : Option Held) → etag ≡ option_map (λ (h : Held). h.etag) new → IsEtagOf etag new
    etag_of etag None e = subst (λ (o : Option (List ℕ)). IsEtagOf o None) (sym e) tt
    etag_of etag (Some held) e = subst (λ (o : Option (List ℕ)). IsEtagOf o (Some held)) (sym e) refl

    sent_more : (ch : Change) (etag : Option (List ℕ)) (s t : SideNow) → Evolves (IsForOthers c ident) s.state t.state → t.waiting ≡ s.waiting → IsSentFor ch etag s → IsSentFor ch etag t
    unfolding acted_more
    sent_more ch etag s t more same (inl (done, told)) = inl (record { acted = acted_more ch s.state t.state done.acted more; waits = subst (λ (w : List Change). AllByRecursion IsOther w) (sym same) done.waits }, told)
    sent_more ch etag s t more same (inr (pends, none)) = inr (record { run = Evolves-trans pends.run more; write = pends.write; first = pends.first; rest = pends.rest; waits = same ∙ pends.waits; others_first = pends.others_first; others_rest = pends.others_rest }, none)

    pub sent_other : (ch : Change) (etag : Option (List ℕ)) (other : Change) (s t : SideNow) → IsOther other → Sends other s t → IsSentFor ch etag s → IsSentFor ch etag t
    unfolding acted_more
    sent_other ch etag other s t is (inl (inl outside, same)) sent = sent_more ch etag s t (Evolves-weaker outside_is_for_others outside) same sent
    sent_other ch etag other s t is (inl (inr acts, same)) sent = sent_more ch etag s t (acts_for_others other s.state t.state is acts) same sent
    sent_other ch etag other s t is (inr (outside, same)) (inl (done, told)) = inl (record { acted = acted_more ch s.state t.state done.acted (Evolves-weaker outside_is_for_others outside); waits = subst (λ (w : List Change). AllByRecursion IsOther w) (sym same) (all_push s.waiting other done.waits is) }, told)
    sent_other ch etag other s t is (inr (outside, same)) (inr (pends, none)) = inr (
      record {
        run = Evolves-trans pends.run (Evolves-weaker outside_is_for_others outside);
        write = pends.write;
        first = pends.first;
        rest = pends.rest ++ other ∷ [];
        waits = same ∙ (ap (λ (w : List Change). w ++ other ∷ []) pends.waits ∙ append_assoc pends.first (ch ∷ pends.rest) (other ∷ []));
        others_first = pends.others_first;
        others_rest = all_push pends.rest other pends.others_rest is;
      },
      none,
    )

    pub sent_own : (waits : Bool) (ch : Change) (etag : Option (List ℕ)) (s t : SideNow) → IsWriteFor c peer ident saw to ch → IsSent waits ch etag s t → IsFresh s → IsSentFor ch etag t
    unfolding acted_by
    sent_own false ch etag s t write sent fresh = inl (record { acted = acted_by ch s.state t.state write fresh.run sent.0; waits = subst (λ (w : List Change). AllByRecursion IsOther w) (sym sent.2) fresh.waits }, etag_of etag (sent.0).new sent.1)
    sent_own true ch etag s t write sent fresh = inr (record { run = Evolves-trans fresh.run (Evolves-weaker outside_is_for_others sent.0); write = write; first = s.waiting; rest = []; waits = sent.2; others_first = fresh.waits; others_rest = tt }, sent.1)

    -- a change that acted as it was sent stays done, whatever comes later
    pub done_other : (ch other : Change) (s t : SideNow) → IsOther other → Sends other s t → IsDone ch s → IsDone ch t
    unfolding acted_more
    done_other ch other s t is (inl (inl outside, same)) done = record { acted = acted_more ch s.state t.state done.acted (Evolves-weaker outside_is_for_others outside); waits = subst (λ (w : List Change). AllByRecursion IsOther w) (sym same) done.waits }
    done_other ch other s t is (inl (inr acts, same)) done = record { acted = acted_more ch s.state t.state done.acted (acts_for_others other s.state t.state is acts); waits = subst (λ (w : List Change). AllByRecursion IsOther w) (sym same) done.waits }
    done_other ch other s t is (inr (outside, same)) done = record { acted = acted_more ch s.state t.state done.acted (Evolves-weaker outside_is_for_others outside); waits = subst (λ (w : List Change). AllByRecursion IsOther w) (sym same) (all_push s.waiting other done.waits is) }

    pub done_own : (ch : Change) (etag : Option (List ℕ)) (s t : SideNow) → IsWriteFor c peer ident saw to ch → IsSent false ch etag s t → IsFresh s → IsDone ch t
    unfolding acted_by
    done_own ch etag s t write sent fresh = record { acted = acted_by ch s.state t.state write fresh.run sent.0; waits = subst (λ (w : List Change). AllByRecursion IsOther w) (sym sent.2) fresh.waits }

    pub done_flushed : (ch : Change) (s : SideNow) (exit : SideState) → IsDone ch s → IsFlushed s exit → HasActed ch exit
    unfolding acted_more
    done_flushed ch s exit done (inl outside) = acted_more ch s.state exit done.acted (Evolves-weaker outside_is_for_others outside)
    done_flushed ch s exit done (inr flush) = acted_more ch s.state exit done.acted (Evolves-trans (Evolves-weaker outside_is_for_others flush.before) (Evolves-trans (all_act s.waiting flush.first flush.last done.waits flush.all) (Evolves-weaker outside_is_for_others flush.after)))

    -- when all that waits has acted, it has
    pub sent_flushed : (ch : Change) (etag : Option (List ℕ)) (s : SideNow) (exit : SideState) → IsSentFor ch etag s → Flushes s.waiting s.state exit → (acted : HasActed ch exit) × IsEtagOf etag acted.new
    unfolding acted_more
    sent_flushed ch etag s exit (inl (done, told)) flush = (acted_more ch s.state exit done.acted (Evolves-trans (Evolves-weaker outside_is_for_others flush.before) (Evolves-trans (all_act s.waiting flush.first flush.last done.waits flush.all) (Evolves-weaker outside_is_for_others flush.after))), told)
    sent_flushed ch etag s exit (inr (pends, none)) flush =
        let all : ActAll (pends.first ++ ch ∷ pends.rest) flush.first flush.last = subst (λ (w : List Change). ActAll w flush.first flush.last) pends.waits flush.all in
        let acted = acted_among pends.first ch pends.rest flush.first flush.last pends.others_first pends.others_rest pends.write (Evolves-trans pends.run (Evolves-weaker outside_is_for_others flush.before)) all in
        let done = acted_more ch flush.last exit acted (Evolves-weaker outside_is_for_others flush.after) in
        (done, subst (λ (o : Option (List ℕ)). IsEtagOf o done.new) (sym none) tt)

    -- at the end the ident was written once, or not at all
    pub record IsWritten (exit : SideState) : Type 0 where
      pub ch : Change
      pub acted : HasActed ch exit

    pub flushed : (s : SideNow) (exit : SideState) → Tracks s → IsFlushed s exit → Evolves (IsForOthers c ident) c.read exit ⊎ IsWritten exit
    flushed s exit (inl fresh) flush = inl (fresh_flushed s exit fresh flush)
    flushed s exit (inr under) flush = at under.at flush
      where
        at : IsDone under.ch s ⊎ Pends under.ch s → IsFlushed s exit → Evolves (IsForOthers c ident) c.read exit ⊎ IsWritten exit
        at (inl done) (inl outside) = inr (record { ch = under.ch; acted = acted_more under.ch s.state exit done.acted (Evolves-weaker outside_is_for_others outside) })
        at (inl done) (inr flush) = inr (record { ch = under.ch; acted = acted_more under.ch s.state exit done.acted (Evolves-trans (Evolves-weaker outside_is_for_others flush.before) (Evolves-trans (all_act s.waiting flush.first flush.last done.waits flush.all) (Evolves-weaker outside_is_for_others flush.after))) })
        at (inr pends) (inl outside) = inl (Evolves-trans pends.run (Evolves-weaker outside_is_for_others outside))
        at (inr pends) (inr flush) =
            let all : ActAll (pends.first ++ under.ch ∷ pends.rest) flush.first flush.last = subst (λ (w : List Change). ActAll w flush.first flush.last) pends.waits flush.all in
            let acted = acted_among pends.first under.ch pends.rest flush.first flush.last pends.others_first pends.others_rest pends.write (Evolves-trans pends.run (Evolves-weaker outside_is_for_others flush.before)) all in
            inr (record { ch = under.ch; acted = acted_more under.ch flush.last exit acted (Evolves-weaker outside_is_for_others flush.after) })
