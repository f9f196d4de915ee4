-- What one run leaves of one ident on one side, where no edit from outside touches it.
use Rattle.std.proofs.Common.{◌≡◌, ◌⊎◌, inl, inr, ℕ, List, [], ◌∷◌, Option, Some, None, refl, sym, ◌∙◌, ap}
use Rattle.std.specs.FinMap as fin
use Rattle.item_text.specs.Items.{ItemValue, item_of}
use Rattle.outside.specs.Runs.{Leads}
use Rattle.store_model.specs.declared.event.Held.{Held}
use Rattle.store_model.specs.declared.event.StoreEvent.{StoreEvent}
use Rattle.store_model.specs.declared.event.StoreEvent.TheVariants.{Edited, Toggled, Wrote, Read}
use Rattle.store_model.specs.Sides.{SideState, happens, IsTrueEvent, Evolves, IsTextOf, Since, Sometime, IsNoWrite, IsUntouching, IsNotOf, IsNotWriteOf}
use Rattle.store_model.proofs.Moments.{Evolves-trans, Evolves-weaker, Evolves-one, Since-from_evolves}
use Rattle.store_model.proofs.Lacks.{kind_at, Evolves-first, Evolves-rest, Lacks-none}
use Rattle.side_views.specs.Views.{view, IsAt, IsProperAt, IsOver, WroteTo}
use Rattle.side_views.proofs.ViewLemmas.{view_at, view_is}
use Rattle.side_views.proofs.SameLemmas.{Same, evolves_same, same_at, same_none, same_proper, once_ends, write_at}
use Rattle.job_runs.specs.Courses.{Course, IsCourse}
use Rattle.job_runs.specs.Taken.{StandsAs, Took, Saw, IsOverSeen}
use Rattle.job_runs.specs.Writes.{IsNewOf, IsForOthers, WroteFor, WroteAll, WroteSome, after_all}
use Rattle.job_runs.specs.Jobs.{IsHonest, IsUntouchedOn, OwnWrite}
use Rattle.job_runs.proofs.TakenLemmas.{took_saw, over_seen}

pub no_write_is_other : (ident : List ℕ) (e : StoreEvent) → IsNoWrite e → IsNotWriteOf ident e
no_write_is_other ident (Edited href old new) h = tt
no_write_is_other ident Toggled h = tt
no_write_is_other ident (Wrote href old new sent) h = absurd h
no_write_is_other ident (Read href text) h = tt

same_back : (ident : List ℕ) (s t : SideState) → Same ident s t → Same ident t s
same_back ident s t same = record { there = same.back; back = same.there }

-- own writes for other idents are of others
module _ (ident : List ℕ) (c : Course) (course : IsCourse c) (honest : IsHonest c) where
  -- what a write was sent over is of the ident that the run saw there
  pub over_is_of : (other version href : List ℕ) (moment : SideState) (held x : Held) → Since c.entry moment → Since moment c.exit → Some x ≡ fin.get moment.content href → Some x ≡ Some held → Sometime (StandsAs other version href held.etag) c.entry c.read → IsTextOf other x.text
  over_is_of other version href moment held x from until stands same stood =
      let was = stood.was in
      let one : x ≡ held = cc in
      let texts : x.text ≡ was.held.text = honest.etags.each moment stood.moment href x was.held from until stood.from (Evolves-trans stood.until course.later) (sym stands) was.here (ap (λ (h : Held). h.etag) one ∙ sym was.same_etag) in
      (was.item, ap item_of texts ∙ was.is_item, was.same_ident)

  pub of_one : (other : List ℕ) (text : List ℕ) → (other ≡ ident → ⊥) → IsTextOf other text → IsTextOf ident text → ⊥
  of_one other text differs (x, is_x, x_is) (y, is_y, y_is) =
      let both : Some x ≡ Some y = sym is_x ∙ is_y in
      let one : x ≡ y = cc in
      differs (sym x_is ∙ (ap (λ (i : ItemValue). i.ident) one ∙ y_is))

  pub not_new : (other : List ℕ) (new : Option Held) → (other ≡ ident → ⊥) → IsNewOf other new → IsNotOf ident new
  not_new other None differs is_of = tt
  not_new other (Some held) differs is_of = of_one other held.text differs is_of

  pub not_old : (other href : List ℕ) (moment : SideState) (saw : Option (List ℕ)) (old : Option Held) → (other ≡ ident → ⊥) → Since c.entry moment → Since moment c.exit → old ≡ fin.get moment.content href → IsOverSeen c other href saw old → IsNotOf ident old
  not_old other href moment saw None differs from until stands over = tt
  not_old other href moment None (Some x) differs from until stands over = absurd (let clash : Some x ≡ None = over in cc)
  not_old other href moment (Some version) (Some x) differs from until stands (held, same, stood) = of_one other x.text differs (over_is_of other version href moment held x from until stands same stood)

  pub one_other : (m : SideState) (e : StoreEvent) → Since c.entry m → Since m c.exit → IsTrueEvent m e → IsForOthers c ident e → IsNotWriteOf ident e
  one_other m (Wrote href old new sent) from until is_true (other, differs, (saw, over), is_of) = (not_old other href m saw old differs from until is_true.0 (over_seen c other href saw old course honest.rows over), not_new other new differs is_of)
  one_other m (Edited href old new) from until is_true kind = tt
  one_other m Toggled from until is_true kind = tt
  one_other m (Read href text) from until is_true kind = tt

  pub leads_other : (m n : SideState) (es : List StoreEvent) → Since c.entry m → Since n c.exit → Leads happens IsTrueEvent (IsForOthers c ident) m es n → Leads happens IsTrueEvent (IsNotWriteOf ident) m es n
  leads_other m n [] from until leads = leads
  leads_other m n (e ∷ es) from until leads =
      let rest : Since (happens m e) n = Since-from_evolves {Kind = IsForOthers c ident} (record { events = es; leads = leads.2 }) in
      let step : Since m (happens m e) = Evolves-one m e tt leads.1 in
      (one_other m e from (Evolves-trans step (Evolves-trans rest until)) leads.1 leads.0, leads.1, leads_other (happens m e) n es (Evolves-trans from step) until leads.2)

  pub others : (m n : SideState) → Since c.read m → Since n c.exit → Evolves (IsForOthers c ident) m n → Evolves (IsNotWriteOf ident) m n
  others m n from until evolves = record { events = evolves.events; leads = leads_other m n evolves.events (Evolves-trans (Since-from_evolves course.reads) from) until evolves.leads }

  pub refl_since : (m : SideState) → Since m m
  refl_since m = record { events = []; leads = refl }

-- one side of one ident that no edit from outside touches there
module _ (ident : List ℕ) (c peer : Course) (untouched : IsUntouchedOn ident c) (course : IsCourse c) (honest : IsHonest c) where
  quiet_read : Evolves (IsUntouching ident) c.entry c.read
  quiet_read = Evolves-first untouched.quiet (Since-from_evolves course.reads) course.later

  quiet_later : Evolves (IsUntouching ident) c.read c.exit
  quiet_later = Evolves-rest untouched.quiet (Since-from_evolves course.reads) course.later

  same_read : Same ident c.entry c.read
  same_read = evolves_same ident c.entry c.read quiet_read (Evolves-weaker (no_write_is_other ident) course.reads)

  proper_read : IsProperAt ident c.read
  proper_read = same_proper ident c.entry c.read same_read untouched.proper

  -- what the run saw stood there at entry
  pub saw_is_view : (o : Option (List ℕ)) → Saw c ident o → view c.entry ident ≡ o
  saw_is_view None lacks = view_is ident c.entry None untouched.proper (same_none ident c.read c.entry (same_back ident c.entry c.read same_read) (Lacks-none quiet_read lacks))
  saw_is_view (Some version) stood =
      let first = evolves_same ident c.entry stood.moment (Evolves-first quiet_read stood.from stood.until) (Evolves-first (Evolves-weaker (no_write_is_other ident) course.reads) stood.from stood.until) in
      view_is ident c.entry (Some version) untouched.proper (same_at ident stood.moment c.entry (Some version) (same_back ident c.entry stood.moment first) stood.was)

  at_read : IsAt ident c.read (view c.entry ident)
  at_read = same_at ident c.entry c.read (view c.entry ident) same_read (view_at ident c.entry)

  over_is : (saw : Option (List ℕ)) (href : List ℕ) (moment : SideState) (old : Option Held) → Saw c ident saw → Since c.read moment → Since moment c.exit → Evolves (IsNotWriteOf ident) c.read moment → old ≡ fin.get moment.content href → IsOverSeen c ident href saw old → IsOver ident moment old
  over_is None href moment None sees from until other stands over = same_none ident c.read moment (evolves_same ident c.read moment (Evolves-first quiet_later from until) other) (Lacks-none quiet_read sees)
  over_is None href moment (Some x) sees from until other stands over = absurd (let clash : Some x ≡ None = over in cc)
  over_is (Some version) href moment None sees from until other stands (held, same, stood) = absurd (cc)
  over_is (Some version) href moment (Some x) sees from until other stands (held, same, stood) = over_is_of ident c course honest ident version href moment held x (Evolves-trans (Since-from_evolves course.reads) from) until stands same stood

  pub wrote_to : (saw to : Option (List ℕ)) → Saw c ident saw → WroteFor c peer ident saw to → WroteTo ident to c.read c.exit
  wrote_to saw to sees w =
      let e : StoreEvent = Wrote w.href w.old w.new w.sent in
      let n : SideState = happens w.moment e in
      let first : Since c.read w.moment = Since-from_evolves w.before in
      let last : Since n c.exit = Since-from_evolves w.after in
      let one : Since w.moment n = Evolves-one w.moment e tt w.is_true in
      let before : Evolves (IsNotWriteOf ident) c.read w.moment = others ident c course honest c.read w.moment (refl_since ident c course honest c.read) (Evolves-trans one last) w.before in
      record {
        moment = w.moment;
        href = w.href;
        old = w.old;
        new = w.new;
        sent = w.sent;
        before = before;
        is_true = w.is_true;
        over = over_is saw w.href w.moment w.old sees first (Evolves-trans one last) before w.is_true.0 (over_seen c ident w.href saw w.old course honest.rows w.over);
        put = w.put;
        after = others ident c course honest n c.exit (Evolves-trans first one) (refl_since ident c course honest c.exit) w.after;
      }

  -- what was written, said of texts
  abbrev pub AllTo : Option (Option (List ℕ)) → Type 0
  AllTo None = Evolves (IsNotWriteOf ident) c.read c.exit
  AllTo (Some to) = WroteTo ident to c.read c.exit

  pub all_to : (saw : Option (List ℕ)) (q : Option (Option (List ℕ))) → Took c ident saw → WroteAll c peer ident saw q → AllTo q
  all_to saw None sees none = others ident c course honest c.read c.exit (refl_since ident c course honest c.read) (refl_since ident c course honest c.exit) none
  all_to saw (Some to) sees w = wrote_to saw to (took_saw c ident saw course honest.rows sees) w

  pub some_to : (saw : Option (List ℕ)) (q : Option (Option (List ℕ))) → Took c ident saw → WroteSome c peer ident saw q → Evolves (IsNotWriteOf ident) c.read c.exit ⊎ AllTo q
  some_to saw q sees (inl none) = inl (others ident c course honest c.read c.exit (refl_since ident c course honest c.read) (refl_since ident c course honest c.exit) none)
  some_to saw q sees (inr all) = inr (all_to saw q sees all)

  proper_end : (o : Option (Option (List ℕ))) → Evolves (IsNotWriteOf ident) c.read c.exit ⊎ AllTo o → IsProperAt ident c.exit
  proper_end None (inl none) = (once_ends ident None (view c.entry ident) c.read c.exit proper_read quiet_later at_read (inl none)).1
  proper_end None (inr none) = (once_ends ident None (view c.entry ident) c.read c.exit proper_read quiet_later at_read (inl none)).1
  proper_end (Some to) (inl none) = (once_ends ident to (view c.entry ident) c.read c.exit proper_read quiet_later at_read (inl none)).1
  proper_end (Some to) (inr wrote) = (once_ends ident to (view c.entry ident) c.read c.exit proper_read quiet_later at_read (inr wrote)).1

  pub unwritten : Evolves (IsNotWriteOf ident) c.read c.exit → view c.exit ident ≡ view c.entry ident
  unwritten none =
      let same = evolves_same ident c.read c.exit quiet_later none in
      view_is ident c.exit (view c.entry ident) (same_proper ident c.read c.exit same proper_read) (same_at ident c.read c.exit (view c.entry ident) same at_read)

  -- a write that was made stands at the end
  pub written_stands : (to : Option (List ℕ)) → WroteTo ident to c.read c.exit → view c.exit ident ≡ to
  written_stands to w =
      let e : StoreEvent = Wrote w.href w.old w.new w.sent in
      let n : SideState = happens w.moment e in
      let first : Since c.read w.moment = Since-from_evolves w.before in
      let last : Since n c.exit = Since-from_evolves w.after in
      let one : Since w.moment n = Evolves-one w.moment e tt w.is_true in
      let before = evolves_same ident c.read w.moment (Evolves-first quiet_later first (Evolves-trans one last)) w.before in
      let proper_m = same_proper ident c.read w.moment before proper_read in
      let after = evolves_same ident n c.exit (Evolves-rest quiet_later (Evolves-trans first one) last) w.after in
      view_is ident c.exit to (proper_end (Some to) (inr w)) (same_at ident n c.exit to after (write_at ident to w.moment w.href w.old w.new w.sent w.is_true.0 proper_m w.over w.put))

  pub all_stands : (o : Option (Option (List ℕ))) → AllTo o → view c.exit ident ≡ after_all o (view c.entry ident)
  all_stands None none = unwritten none
  all_stands (Some to) wrote = written_stands to wrote

  pub some_stands : (o : Option (Option (List ℕ))) → Evolves (IsNotWriteOf ident) c.read c.exit ⊎ AllTo o → (view c.exit ident ≡ view c.entry ident) ⊎ (o ≡ Some (view c.exit ident))
  some_stands o (inl none) = inl (unwritten none)
  some_stands None (inr none) = inl (unwritten none)
  some_stands (Some to) (inr wrote) = inr (ap Some (sym (written_stands to wrote)))

  -- an own write is one that the step says
  pub own_write : (o : Option (Option (List ℕ))) → Evolves (IsNotWriteOf ident) c.read c.exit ⊎ AllTo o → OwnWrite ident c → (to : Option (List ℕ)) × (o ≡ Some to)
  own_write (Some to) wrote own = (to, refl)
  own_write None (inl none) own = absurd (own.is_of (kind_at (Wrote own.href own.old own.new own.sent) (Evolves-trans (Evolves-weaker (no_write_is_other ident) course.reads) none) own.from own.is_true own.until))
  own_write None (inr none) own = absurd (own.is_of (kind_at (Wrote own.href own.old own.new own.sent) (Evolves-trans (Evolves-weaker (no_write_is_other ident) course.reads) none) own.from own.is_true own.until))
