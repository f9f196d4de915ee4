-- What a row at exit says of both sides: each side's part, then the row.
use Rattle.std.proofs.Common.{◌≡◌, ◌⊎◌, inl, inr, ℕ, List, [], ◌∷◌, Option, Some, None, refl, sym, ◌∙◌, ap, subst, rules}
use Rattle.std.specs.FinMap as fin
use Rattle.std.specs.FinMap.{gets}
use Rattle.item_text.specs.Items.{ItemValue, item_of}
use Rattle.outside.specs.Runs.{Leads}
use Rattle.status_keeper.specs.declared.row.Row.{Row}
use Rattle.status_keeper.specs.Rows.{row_of}
use Rattle.store_model.specs.declared.event.Held.{Held}
use Rattle.store_model.specs.declared.event.StoreEvent.{StoreEvent}
use Rattle.store_model.specs.declared.event.StoreEvent.TheVariants.{Edited, Toggled, Wrote, Read}
use Rattle.store_model.specs.Sides.{Content, SideState, happens, IsTrueEvent, Evolves, Since, Sometime, Lacks, PutOutside, IsTextOf, IsNotOf, IsNotWriteOf}
use Rattle.store_model.proofs.Moments.{Evolves-refl, Evolves-trans, Evolves-weaker, Evolves-one, Since-from_evolves, Sometime-extends, Sometime-weaker, get-inserted}
use Rattle.store_model.proofs.Lacks.{get-put_held, Evolves-rest}
use Rattle.side_views.specs.Views.{view, HoldsVersion, IsPut}
use Rattle.side_reads.specs.Places.{etag_on}
use Rattle.sync_plan.specs.declared.report.Side.TheVariants.{A, B}
use Rattle.sync_plan.specs.declared.rules.Rules.{Rules}
use Rattle.sync_plan.specs.Verdicts.{Versions, step_of}
use Rattle.sync_plan.specs.JobSteps.{written}
use Rattle.job_runs.specs.Courses.{Course, IsCourse, IsRowAt}
use Rattle.job_runs.specs.Taken.{StandsAs, StandsOther, FoundAlone, Took, IsOverTaken}
use Rattle.job_runs.specs.Writes.{WroteFor, WroteAll, after_all, IsPlace, IsEtagOf}
use Rattle.job_runs.specs.Jobs.{IsMade, IsRowOfHeld, IdentRun, JobOf, IsHonest, IsUntouchedOn}
use Rattle.job_runs.specs.Held.{StandsAt, IsVouched, HeldOn, IsHeldRow, GoneOn, IsGoneRow, IsByStep}
use Rattle.job_runs.proofs.TakenLemmas.{taken_stood, took_saw, clash_of}
use Rattle.job_runs.proofs.SideLemmas.{no_write_is_other, others, refl_since, saw_is_view, all_to, all_stands}

-- ---- what stands of an ident that nothing is written of stood before, or an edit from outside put it there

put_later : (s m n t : SideState) (q : List ℕ) (new : Option Held) → Since s m → PutOutside m n q new → Since n t → PutOutside s t q new
put_later s m n t q new first put last = record { moment = put.moment; old = put.old; from = Evolves-trans first put.from; is_true = put.is_true; until = Evolves-trans put.until last }

stood_one : (ident : List ℕ) (s : SideState) (e : StoreEvent) → IsNotWriteOf ident e → IsTrueEvent s e → (q : List ℕ) (x : Held) → fin.get (happens s e).content q ≡ Some x → IsTextOf ident x.text → (fin.get s.content q ≡ Some x) ⊎ PutOutside s (happens s e) q (Some x)
stood_one ident s (Edited href old new) other is_true q x here text = elim (get-put_held s.content href q new) [
  | inr same ↦ inl (sym same ∙ here)
  | inl at ↦
      let e : StoreEvent = Edited href old new in
      let put : PutOutside s (happens s e) href new = record { moment = s; old = old; from = Evolves-refl s; is_true = is_true; until = Evolves-refl (happens s e) } in
      let is : new ≡ Some x = sym at.1 ∙ here in
      inr (subst (λ (k : List ℕ). PutOutside s (happens s e) k (Some x)) (sym at.0) (subst (λ (o : Option Held). PutOutside s (happens s e) href o) is put))
]
stood_one ident s Toggled other is_true q x here text = inl here
stood_one ident s (Read href t) other is_true q x here text = inl here
stood_one ident s (Wrote href old new sent) other is_true q x here text = elim (get-put_held s.content href q new) [
  | inr same ↦ inl (sym same ∙ here)
  | inl at ↦ absurd (let is : new ≡ Some x = sym at.1 ∙ here in (subst (λ (o : Option Held). IsNotOf ident o) is other.1) text)
]

stood_by : (ident : List ℕ) (s t : SideState) (es : List StoreEvent) → Leads happens IsTrueEvent (IsNotWriteOf ident) s es t → (q : List ℕ) (x : Held) → fin.get t.content q ≡ Some x → IsTextOf ident x.text → (fin.get s.content q ≡ Some x) ⊎ PutOutside s t q (Some x)
stood_by ident s t [] leads q x here text = inl (sym (ap (λ (m : SideState). fin.get m.content q) leads) ∙ here)
stood_by ident s t (e ∷ es) leads q x here text =
    let n : SideState = happens s e in
    let later : Since n t = Since-from_evolves {Kind = IsNotWriteOf ident} (record { events = es; leads = leads.2 }) in
    elim (stood_by ident n t es leads.2 q x here text) [
      | inl stood ↦ elim (stood_one ident s e leads.0 leads.1 q x stood text) [
        | inl was ↦ inl was
        | inr put ↦ inr (put_later s s n t q (Some x) (Evolves-refl s) put later)
      ]
      | inr put ↦ inr (put_later s n t t q (Some x) (Evolves-one s e tt leads.1) put (Evolves-refl t))
    ]

stood_or_put : (ident : List ℕ) (s t : SideState) → Evolves (IsNotWriteOf ident) s t → (q : List ℕ) (x : Held) → fin.get t.content q ≡ Some x → IsTextOf ident x.text → (fin.get s.content q ≡ Some x) ⊎ PutOutside s t q (Some x)
stood_or_put ident s t evolves q x here text = stood_by ident s t evolves.events evolves.leads q x here text

get-removed : (m : Content) (k : List ℕ) → fin.get (fin.remove m k) k ≡ None
get-removed m k = grind (gets, rules)

-- ---- one side

holds : (ident version href : List ℕ) (etag : Option (List ℕ)) (m : SideState) → StandsAt ident version href etag m → HoldsVersion ident version m
holds ident version href etag m stood = record { href = href; held = stood.held; here = stood.here; item = stood.item; is_item = stood.is_item; same_ident = stood.same_ident; same_version = stood.same_version }

told : (ident version href etag : List ℕ) (m : SideState) → StandsAs ident version href etag m → StandsAt ident version href (Some etag) m
told ident version href etag m stood = record { held = stood.held; here = stood.here; same_etag = sym stood.same_etag; item = stood.item; is_item = stood.is_item; same_ident = stood.same_ident; same_version = stood.same_version }

put_stands : (ident version href : List ℕ) (etag : Option (List ℕ)) (m : SideState) (old new : Option Held) (sent : Option (List ℕ)) → IsPut ident (Some version) new → IsEtagOf etag new → StandsAt ident version href etag (happens m (Wrote href old new sent))
put_stands ident version href etag m old None sent put is_etag = absurd put
put_stands ident version href etag m old (Some held) sent put is_etag = record { held = held; here = get-inserted m.content href held; same_etag = is_etag; item = put.0; is_item = put.1; same_ident = put.2; same_version = put.3 }

module _ (ident : List ℕ) (c peer : Course) (course : IsCourse c) (honest : IsHonest c) where
  -- what the side has come to is there at exit, where no edit from outside touches the ident
  ends_at : (saw : Option (List ℕ)) (o : Option (Option (List ℕ))) → Took c ident saw → WroteAll c peer ident saw o → IsUntouchedOn ident c → view c.exit ident ≡ after_all o saw
  ends_at saw o took all quiet =
      let stands : view c.exit ident ≡ after_all o (view c.entry ident) = all_stands ident c peer quiet course honest o (all_to ident c peer quiet course honest saw o took all) in
      stands ∙ ap (λ (v : Option (List ℕ)). after_all o v) (saw_is_view ident c peer quiet course honest saw (took_saw c ident saw course honest.rows took))

  behind : (saw to : Option (List ℕ)) (w : WroteFor c peer ident saw to) → Since c.entry (happens w.moment (Wrote w.href w.old w.new w.sent))
  behind saw to w = Evolves-trans (Since-from_evolves course.reads) (Evolves-trans (Since-from_evolves w.before) (Evolves-one w.moment (Wrote w.href w.old w.new w.sent) tt w.is_true))

  vouched : (row : Row) (saw : Option (List ℕ)) (o : Option (Option (List ℕ))) (all : WroteAll c peer ident saw o) → after_all o saw ≡ Some (row.fp).0 → IsPlace c peer ident row saw o all → IsVouched c ident row
  vouched row saw None all came (href, etag, same_href, same_etag, taken) =
      let version : List ℕ = (row.fp).0 in
      let stood : Sometime (StandsAt ident version href (Some etag)) c.entry c.read = Sometime-weaker (told ident version href etag) (taken_stood c ident version href etag course honest.rows taken) in
      let placed : Sometime (StandsAt ident version href (etag_on c.side row)) c.entry c.read = subst (λ (x : Option (List ℕ)). Sometime (StandsAt ident version href x) c.entry c.read) (sym same_etag) stood in
      record { href = href; same_href = same_href; stood = Sometime-extends (Evolves-refl c.entry) placed course.later }
  vouched row saw (Some to) w came (same_href, is_etag) =
      let version : List ℕ = (row.fp).0 in
      let put : IsPut ident (Some version) w.new = subst (λ (x : Option (List ℕ)). IsPut ident x w.new) came w.put in
      record {
        href = w.href;
        same_href = same_href;
        stood = record {
          moment = happens w.moment (Wrote w.href w.old w.new w.sent);
          from = behind saw to w;
          until = Since-from_evolves w.after;
          was = put_stands ident version w.href (etag_on c.side row) w.moment w.old w.new w.sent put is_etag;
        };
      }

  held_on : (row : Row) (saw : Option (List ℕ)) (o : Option (Option (List ℕ))) → Took c ident saw → (all : WroteAll c peer ident saw o) → after_all o saw ≡ Some (row.fp).0 → IsPlace c peer ident row saw o all → HeldOn c ident row
  held_on row saw o took all came is_place =
      let place = vouched row saw o all came is_place in
      record {
        held = Sometime-weaker (holds ident (row.fp).0 place.href (etag_on c.side row)) place.stood;
        ends = λ quiet. ends_at saw o took all quiet ∙ came;
        place = place;
      }

  lacks_after : (m : SideState) (href : List ℕ) (held : Held) → Evolves (IsNotWriteOf ident) c.read m → IsTrueEvent m (Wrote href (Some held) None None) → Since (happens m (Wrote href (Some held) None None)) c.exit → FoundAlone c ident href → Lacks ident c.entry (happens m (Wrote href (Some held) None None))
  lacks_after m href held before is_true later found = record { each = λ q x item here is_item same. lacked q x item here is_item same (get-put_held m.content href q None) }
    where
      e : StoreEvent
      e = Wrote href (Some held) None None

      n : SideState
      n = happens m e

      step : Since m n
      step = Evolves-one m e tt is_true

      whole : Evolves (IsNotWriteOf ident) found.listed m
      whole = Evolves-trans (Evolves-weaker (no_write_is_other ident) found.until) before

      by_fetch : (q : List ℕ) (x : Held) (item : ItemValue) → item_of x.text ≡ Some item → item.ident ≡ ident → (stood : Sometime (StandsOther ident q) found.listed c.read) → (fin.get stood.moment.content q ≡ Some x) ⊎ PutOutside stood.moment m q (Some x) → PutOutside c.entry n q (Some x)
      by_fetch q x item is_item same stood (inr put) = put_later c.entry stood.moment m n q (Some x) (Evolves-trans found.from stood.from) put step
      by_fetch q x item is_item same stood (inl here) =
          let was = stood.was in
          let helds : Some was.held ≡ Some x = sym was.here ∙ here in
          let one : was.held ≡ x = cc in
          absurd (clash_of ident x.text was.item item (sym (ap (λ (h : Held). item_of h.text) one) ∙ was.is_item) is_item was.other same)

      by_entry : (q : List ℕ) (x : Held) (item : ItemValue) → fin.get n.content q ≡ Some x → fin.get m.content q ≡ Some x → item_of x.text ≡ Some item → item.ident ≡ ident → fin.get found.listed.content q ≡ Some x → (q ≡ href) ⊎ Sometime (StandsOther ident q) found.listed c.read ⊎ ((other : List ℕ) × (version : List ℕ) × (other ≡ ident → ⊥) × IsRowAt c other version q x.etag) → PutOutside c.entry n q (Some x)
      by_entry q x item here was is_item same stood (inl at) =
          let none : fin.get n.content q ≡ None = ap (λ (k : List ℕ). fin.get n.content k) at ∙ get-removed m.content href in
          absurd (let clash : None ≡ Some x = sym none ∙ here in cc)
      by_entry q x item here was is_item same stood (inr (inl other)) = by_fetch q x item is_item same other (stood_or_put ident other.moment m (Evolves-rest whole other.from (Evolves-trans other.until (Since-from_evolves before))) q x was (item, is_item, same))
      by_entry q x item here was is_item same stood (inr (inr (other, version, differs, known))) =
          let said = honest.rows.each other version q x.etag found.listed x known found.from (Evolves-trans (Since-from_evolves found.until) course.later) stood refl in
          absurd (clash_of ident x.text said.0 item said.1 is_item (λ e. differs (sym said.2 ∙ e)) same)

      lacked : (q : List ℕ) (x : Held) (item : ItemValue) → fin.get n.content q ≡ Some x → item_of x.text ≡ Some item → item.ident ≡ ident → ((q ≡ href) × (fin.get n.content q ≡ None)) ⊎ (fin.get n.content q ≡ fin.get m.content q) → PutOutside c.entry n q (Some x)
      lacked q x item here is_item same (inl at) = absurd (let clash : None ≡ Some x = sym at.1 ∙ here in cc)
      lacked q x item here is_item same (inr kept) =
          let was : fin.get m.content q ≡ Some x = sym kept ∙ here in
          elim (stood_or_put ident found.listed m whole q x was (item, is_item, same)) [
            | inl stood ↦ by_entry q x item here was is_item same stood (found.each q x stood)
            | inr put ↦ put_later c.entry found.listed m n q (Some x) found.from put step
          ]

  removed_at : (moment : SideState) (href : List ℕ) (version : List ℕ) (old new : Option Held) (sent : Option (List ℕ)) → Since c.read moment → Evolves (IsNotWriteOf ident) c.read moment → IsTrueEvent moment (Wrote href old new sent) → Since (happens moment (Wrote href old new sent)) c.exit → IsOverTaken c ident href (Some version) old → IsPut ident None new → FoundAlone c ident href → Sometime (Lacks ident c.entry) c.entry c.exit
  removed_at moment href version old (Some x) sent first before is_true later over put found = absurd put
  removed_at moment href version old None (Some text) first before is_true later over put found = absurd is_true.1
  removed_at moment href version None None None first before is_true later (held, same, taken) put found = absurd (cc)
  removed_at moment href version (Some x) None None first before is_true later over put found =
      let e : StoreEvent = Wrote href (Some x) None None in
      record {
        moment = happens moment e;
        from = Evolves-trans (Since-from_evolves course.reads) (Evolves-trans first (Evolves-one moment e tt is_true));
        until = later;
        was = lacks_after moment href x before is_true later found;
      }

  lacked_by : (saw : Option (List ℕ)) (o : Option (Option (List ℕ))) → Took c ident saw → WroteAll c peer ident saw o → after_all o saw ≡ None → Sometime (Lacks ident c.entry) c.entry c.exit
  lacked_by None o took all came = record { moment = c.read; from = Since-from_evolves course.reads; until = course.later; was = took_saw c ident None course honest.rows took }
  lacked_by (Some version) None took all came = absurd (let clash : Some version ≡ None = came in cc)
  lacked_by (Some version) (Some (Some to)) took w came = absurd (let clash : Some to ≡ None = came in cc)
  lacked_by (Some version) (Some None) took w came =
      let e : StoreEvent = Wrote w.href w.old w.new w.sent in
      let later : Since (happens w.moment e) c.exit = Since-from_evolves w.after in
      let until : Since w.moment c.exit = Evolves-trans (Evolves-one w.moment e tt w.is_true) later in
      let before : Evolves (IsNotWriteOf ident) c.read w.moment = others ident c course honest c.read w.moment (refl_since ident c course honest c.read) until w.before in
      removed_at w.moment w.href version w.old w.new w.sent (Since-from_evolves w.before) before w.is_true later w.over w.put w.alone

  gone_on : (saw : Option (List ℕ)) (o : Option (Option (List ℕ))) → Took c ident saw → WroteAll c peer ident saw o → after_all o saw ≡ None → GoneOn c ident
  gone_on saw o took all came = record { lacked = lacked_by saw o took all came; ends = λ quiet. ends_at saw o took all quiet ∙ came }

-- ---- the row

module _ (rules : Rules) (a b : Course) (before after : List Row) (honest_a : IsHonest a) (honest_b : IsHonest b) (job : JobOf rules a b before after) where
  made_step : (ident : List ℕ) (saw : Versions) (on_a on_b : Option (Option (List ℕ))) (new : Option Row) → Took a ident saw.a → Took b ident saw.b → IsMade a b ident saw on_a on_b new → ((row : Row) × (new ≡ Some row) × IsHeldRow a b ident row) ⊎ ((new ≡ None) × IsGoneRow a b ident)
  made_step ident saw on_a on_b None took_a took_b made = inr (
    refl,
    record {
      on_a = gone_on ident a b job.course_a honest_a saw.a on_a took_a made.all_a made.came_a;
      on_b = gone_on ident b a job.course_b honest_b saw.b on_b took_b made.all_b made.came_b;
    },
  )
  made_step ident saw on_a on_b (Some row) took_a took_b made =
      let (same_ident, place_a, place_b) = made.places row refl in
      inl (
        row,
        refl,
        record {
          same_ident = same_ident;
          on_a = held_on ident a b job.course_a honest_a row saw.a on_a took_a made.all_a made.came_a place_a;
          on_b = held_on ident b a job.course_b honest_b row saw.b on_b took_b made.all_b made.came_b place_b;
        },
      )

  pub by_step : (ident : List ℕ) → IsByStep rules a b before ident (row_of ident before) (row_of ident after)
  by_step ident = at one.row
    where
      one : IdentRun rules a b ident (row_of ident before) (row_of ident after)
      one = job.each ident

      at : (row_of ident after ≡ row_of ident before) ⊎ IsMade a b ident one.saw (written (step_of rules one.saw) one.answer A one.saw) (written (step_of rules one.saw) one.answer B one.saw) (row_of ident after) ⊎ IsRowOfHeld rules one.saw (row_of ident after) → IsByStep rules a b before ident (row_of ident before) (row_of ident after)
      at (inl same) = inl same
      at (inr (inl made)) = elim (made_step ident one.saw (written (step_of rules one.saw) one.answer A one.saw) (written (step_of rules one.saw) one.answer B one.saw) (row_of ident after) one.took_a one.took_b made) [ inl held ↦ inr (inl held) | inr gone ↦ inr (inr (inl gone)) ]
      at (inr (inr held)) = inr (inr (inr (record {
        saw = one.saw;
        saw_a = took_saw a ident one.saw.a job.course_a honest_a.rows one.took_a;
        saw_b = took_saw b ident one.saw.b job.course_b honest_b.rows one.took_b;
        saw_row = one.saw_row;
        row = held;
      })))
