-- Each own write of a run is for one ident: so what it is over is named, and what it sends was read.
use Rattle.std.proofs.Common.{◌≡◌, ◌⊎◌, inl, inr, ℕ, List, Option, Some, None, refl, sym, ◌∙◌, ap, subst}
use Rattle.item_text.specs.Items.{ItemValue, item_of}
use Rattle.status_keeper.specs.declared.row.Row.{Row}
use Rattle.store_model.specs.declared.event.Held.{Held}
use Rattle.store_model.specs.declared.event.StoreEvent.{StoreEvent}
use Rattle.store_model.specs.declared.event.StoreEvent.TheVariants.{Wrote}
use Rattle.store_model.specs.Sides.{KeepsItem, Evolves, IsNoWrite}
use Rattle.store_model.proofs.Moments.{Evolves-trans, Evolves-weaker, Evolves-one}
use Rattle.store_model.proofs.Lacks.{kind_at}
use Rattle.sync_plan.specs.declared.report.Side.{Side}
use Rattle.sync_plan.specs.declared.report.Side.TheVariants.{A, B}
use Rattle.sync_plan.specs.declared.rules.Rules.{Rules}
use Rattle.sync_plan.specs.Verdicts.{Versions, step_of}
use Rattle.sync_plan.specs.JobSteps.{on_side, written, IsNamed}
use Rattle.sync_plan.proofs.Overwrites.{overwrite_named}
use Rattle.side_views.specs.Views.{IsPut}
use Rattle.job_runs.specs.Courses.{Course, IsCourse}
use Rattle.job_runs.specs.Taken.{IsOverTaken, IsOverSeen}
use Rattle.job_runs.specs.Writes.{IsForOthers, IsSource, WroteFor, WroteAll, WroteSome}
use Rattle.job_runs.specs.Jobs.{JobOf, IsHonest}
use Rattle.job_runs.specs.Named.{OwnEvent, IsNamedWrite}
use Rattle.job_runs.proofs.TakenLemmas.{took_saw, over_seen}
use Rattle.job_runs.proofs.SideLemmas.{over_is_of, of_one}

-- the write that the run made for the ident is this one
pub record IsOne (c peer : Course) (ident : List ℕ) (saw : Option (List ℕ)) (o : Option (Option (List ℕ))) (e : StoreEvent) : Type 0 where
  pub to : Option (List ℕ)
  pub is : o ≡ Some to
  pub wrote : WroteFor c peer ident saw to
  pub same : e ≡ Wrote wrote.href wrote.old wrote.new wrote.sent

one_of : (c peer : Course) (ident : List ℕ) → IsCourse c → (saw : Option (List ℕ)) (o : Option (Option (List ℕ))) → WroteSome c peer ident saw o → (href : List ℕ) (old new : Option Held) (sent : Option (List ℕ)) → OwnEvent c href old new sent → (IsForOthers c ident (Wrote href old new sent) → ⊥) → IsOne c peer ident saw o (Wrote href old new sent)
one_of c peer ident course saw o some href old new sent own not_other = at some
  where
    e : StoreEvent
    e = Wrote href old new sent

    never : Evolves (IsForOthers c ident) c.read c.exit → ⊥
    never none =
        let whole : Evolves (λ x. IsNoWrite x ⊎ IsForOthers c ident x) c.entry c.exit = Evolves-trans (Evolves-weaker (λ x k. inl k) course.reads) (Evolves-weaker (λ x k. inr k) none) in
        elim (kind_at e whole own.from own.is_true own.until) [ inl k ↦ k | inr k ↦ not_other k ]

    at : WroteSome c peer ident saw o → IsOne c peer ident saw o e
    at (inl none) = absurd (never none)
    at (inr all) = by o all refl
      where
        by : (q : Option (Option (List ℕ))) → WroteAll c peer ident saw q → o ≡ q → IsOne c peer ident saw o e
        by None none is = absurd (never none)
        by (Some to) w is =
            let x : StoreEvent = Wrote w.href w.old w.new w.sent in
            let whole : Evolves (λ y. IsNoWrite y ⊎ (IsForOthers c ident y ⊎ (y ≡ x))) c.entry c.exit =
            Evolves-trans (Evolves-weaker (λ y k. inl k) course.reads)
            (Evolves-trans (Evolves-weaker (λ y k. inr (inl k)) w.before)
            (Evolves-trans (Evolves-one w.moment x (inr (inr refl)) w.is_true) (Evolves-weaker (λ y k. inr (inl k)) w.after))) in
            elim (kind_at e whole own.from own.is_true own.until) [
              | inl k ↦ absurd k
              | inr k ↦ elim k [ inl other ↦ absurd (not_other other) | inr same ↦ record { to = to; is = is; wrote = w; same = same } ]
            ]

-- a write over an item is for the item's ident
over_own : (c : Course) (item : ItemValue) (href : List ℕ) (held : Held) (new : Option Held) (sent : Option (List ℕ)) → IsCourse c → IsHonest c → item_of held.text ≡ Some item → OwnEvent c href (Some held) new sent → IsForOthers c item.ident (Wrote href (Some held) new sent) → ⊥
over_own c item href held new sent course honest is_item own (other, differs, (saw, over), is_of) = at saw (over_seen c other href saw (Some held) course honest.rows over)
  where
    at : (o : Option (List ℕ)) → IsOverSeen c other href o (Some held) → ⊥
    at None none = let clash : Some held ≡ None = none in cc
    at (Some version) (was, same, stood) = of_one item.ident c course honest other held.text differs (over_is_of item.ident c course honest other version href own.moment was held own.from (Evolves-trans (Evolves-one own.moment (Wrote href (Some held) new sent) tt own.is_true) own.until) own.is_true.0 same stood) (item, is_item, refl)

-- what the run saw there is the item's version
over_version : (c : Course) (item : ItemValue) (href : List ℕ) (held : Held) (new : Option Held) (sent : Option (List ℕ)) (saw : Option (List ℕ)) → IsCourse c → IsHonest c → item_of held.text ≡ Some item → OwnEvent c href (Some held) new sent → IsOverTaken c item.ident href saw (Some held) → saw ≡ Some item.version
over_version c item href held new sent saw course honest is_item own over = at saw (over_seen c item.ident href saw (Some held) course honest.rows over)
  where
    at : (o : Option (List ℕ)) → IsOverSeen c item.ident href o (Some held) → o ≡ Some item.version
    at None none = absurd (let clash : Some held ≡ None = none in cc)
    at (Some version) (was, same, stood) =
        let m = stood.was in
        let one : held ≡ was = cc in
        let texts : held.text ≡ m.held.text = honest.etags.each own.moment stood.moment href held m.held own.from (Evolves-trans (Evolves-one own.moment (Wrote href (Some held) new sent) tt own.is_true) own.until) stood.from (Evolves-trans stood.until course.later) (sym own.is_true.0) m.here (ap (λ (h : Held). h.etag) one ∙ sym m.same_etag) in
        let both : Some m.item ≡ Some item = sym m.is_item ∙ (sym (ap item_of texts) ∙ is_item) in
        let items : m.item ≡ item = cc in
        ap Some (sym m.same_version ∙ ap (λ (i : ItemValue). i.version) items)

-- ---- on one side

module _ (rules : Rules) (c peer : Course) (side : Side) where
  named : (item : ItemValue) (href : List ℕ) (held : Held) (new : Option Held) (sent : Option (List ℕ)) (saw : Versions) (answer : Option (List ℕ)) → IsCourse c → IsHonest c → item_of held.text ≡ Some item → OwnEvent c href (Some held) new sent → WroteSome c peer item.ident (on_side side saw) (written (step_of rules saw) answer side saw) → (to : Option (List ℕ)) × IsPut item.ident to new × IsNamed rules answer side saw item.version to
  named item href held new sent saw answer course honest is_item own some =
      let one = one_of c peer item.ident course (on_side side saw) (written (step_of rules saw) answer side saw) some href (Some held) new sent own (over_own c item href held new sent course honest is_item own) in
      let w = one.wrote in
      let hrefs : href ≡ w.href = (let same = one.same in cc) in
      let olds : Some held ≡ w.old = (let same = one.same in cc) in
      let news : new ≡ w.new = (let same = one.same in cc) in
      let over : IsOverTaken c item.ident href (on_side side saw) (Some held) = subst (λ (q : List ℕ). IsOverTaken c item.ident q (on_side side saw) (Some held)) (sym hrefs) (subst (λ (o : Option Held). IsOverTaken c item.ident w.href (on_side side saw) o) (sym olds) w.over) in
      (one.to, subst (λ (o : Option Held). IsPut item.ident one.to o) (sym news) w.put, overwrite_named rules answer side saw item.version one.to (over_version c item href held new sent (on_side side saw) course honest is_item own over) one.is)

-- ---- on both

module _ (rules : Rules) (a b : Course) (before after : List Row) (honest_a : IsHonest a) (honest_b : IsHonest b) (job : JobOf rules a b before after) where
  named_write : (side : Side) (item : ItemValue) (new : Option Held) → (to : Option (List ℕ)) × IsPut item.ident to new × IsNamed rules (job.each item.ident).answer side (job.each item.ident).saw item.version to → IsNamedWrite rules a b before side item new
  named_write side item new (to, put, is_named) =
      let one = job.each item.ident in
      record {
        saw = one.saw;
        saw_a = took_saw a item.ident one.saw.a job.course_a honest_a.rows one.took_a;
        saw_b = took_saw b item.ident one.saw.b job.course_b honest_b.rows one.took_b;
        saw_row = one.saw_row;
        answer = one.answer;
        to = to;
        put = put;
        named = is_named;
      }

  pub named_on_a : (href : List ℕ) (held : Held) (new : Option Held) (sent : Option (List ℕ)) (item : ItemValue) → OwnEvent a href (Some held) new sent → item_of held.text ≡ Some item → IsNamedWrite rules a b before A item new
  named_on_a href held new sent item own is_item = let one = job.each item.ident in named_write A item new (named rules a b A item href held new sent one.saw one.answer job.course_a honest_a is_item own one.writes_a)

  pub named_on_b : (href : List ℕ) (held : Held) (new : Option Held) (sent : Option (List ℕ)) (item : ItemValue) → OwnEvent b href (Some held) new sent → item_of held.text ≡ Some item → IsNamedWrite rules a b before B item new
  named_on_b href held new sent item own is_item = let one = job.each item.ident in named_write B item new (named rules b a B item href held new sent one.saw one.answer job.course_b honest_b is_item own one.writes_b)

-- ---- sources

text_of_sent : (new : Option Held) (text : List ℕ) → KeepsItem new (Some text) → (held : Held) × (item : ItemValue) × (new ≡ Some held) × (item_of held.text ≡ Some item)
text_of_sent None text keeps = absurd keeps
text_of_sent (Some held) text (i, j, is_i, is_j, idents, versions) = (held, i, refl, is_i)

-- a write of an item is for the item's ident
put_own : (c : Course) (item : ItemValue) (href : List ℕ) (old : Option Held) (held : Held) (sent : Option (List ℕ)) → IsCourse c → IsHonest c → item_of held.text ≡ Some item → IsForOthers c item.ident (Wrote href old (Some held) sent) → ⊥
put_own c item href old held sent course honest is_item (other, differs, over, is_of) = of_one item.ident c course honest other held.text differs is_of (item, is_item, refl)

pub source_on : (c peer : Course) (href : List ℕ) (old new : Option Held) (text : List ℕ) → IsCourse c → IsHonest c → ((ident : List ℕ) → (saw : Option (List ℕ)) × (o : Option (Option (List ℕ))) × WroteSome c peer ident saw o) → OwnEvent c href old new (Some text) → (ident : List ℕ) × IsSource peer ident (Some text)
source_on c peer href old new text course honest each own = at (text_of_sent new text own.is_true.1)
  where
    at : (held : Held) × (item : ItemValue) × (new ≡ Some held) × (item_of held.text ≡ Some item) → (ident : List ℕ) × IsSource peer ident (Some text)
    at (held, item, is_new, is_item) =
        let one = each item.ident in
        let found = one_of c peer item.ident course one.0 one.1 one.2 href old new (Some text) own (λ for_others. put_own c item href old held (Some text) course honest is_item (subst (λ (o : Option Held). IsForOthers c item.ident (Wrote href old o (Some text))) is_new for_others)) in
        let sents : Some text ≡ found.wrote.sent = (let same = found.same in cc) in
        (item.ident, subst (λ (o : Option (List ℕ)). IsSource peer item.ident o) (sym sents) found.wrote.source)
