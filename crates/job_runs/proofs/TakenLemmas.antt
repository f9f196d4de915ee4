-- Where rows are true, what was taken from them was so.
use Rattle.std.proofs.Common.{◌≡◌, ◌⊎◌, inl, inr, ℕ, List, Option, Some, None, refl, sym, ◌∙◌, ap, subst}
use Rattle.std.specs.FinMap as fin
use Rattle.item_text.specs.Items.{ItemValue, item_of}
use Rattle.store_model.specs.declared.event.Held.{Held}
use Rattle.store_model.specs.Sides.{SideState, Since, Sometime, Lacks, PutOutside}
use Rattle.store_model.proofs.Moments.{Evolves-trans, Since-from_evolves, Sometime-weaker}
use Rattle.store_model.proofs.Lacks.{kept_or_put, Evolves-rest, Lacks-extends}
use Rattle.side_views.specs.Views.{HoldsVersion}
use Rattle.job_runs.specs.Courses.{Course, IsCourse, IsRowAt, AreTrueRows}
use Rattle.job_runs.specs.Taken.{StandsAs, IsTaken, StandsOther, FoundNone, Took, IsOverTaken, Saw, IsOverSeen}

pub taken_stood : (c : Course) (ident version href etag : List ℕ) → IsCourse c → AreTrueRows c → IsTaken c ident version href etag → Sometime (StandsAs ident version href etag) c.entry c.read
taken_stood c ident version href etag course trues (inl stood) = stood
taken_stood c ident version href etag course trues (inr (had, known)) =
    let was = had.was in
    let item = trues.each ident version href etag had.moment was.held known had.from (Evolves-trans had.until course.later) was.here was.same_etag in
    record { moment = had.moment; from = had.from; until = had.until; was = record { held = was.held; here = was.here; same_etag = was.same_etag; item = item.0; is_item = item.1; same_ident = item.2; same_version = item.3 } }

holds : (ident version href etag : List ℕ) (m : SideState) → StandsAs ident version href etag m → HoldsVersion ident version m
holds ident version href etag m stood = record { href = href; held = stood.held; here = stood.here; item = stood.item; is_item = stood.is_item; same_ident = stood.same_ident; same_version = stood.same_version }

pub clash_of : (ident : List ℕ) (text : List ℕ) (i j : ItemValue) → item_of text ≡ Some i → item_of text ≡ Some j → (i.ident ≡ ident → ⊥) → j.ident ≡ ident → ⊥
clash_of ident text i j is_i is_j other same =
    let both : Some i ≡ Some j = sym is_i ∙ is_j in
    let one : i ≡ j = cc in
    other (ap (λ (x : ItemValue). x.ident) one ∙ same)

put_since : (s m t : SideState) (href : List ℕ) (new : Option Held) → Since s m → PutOutside m t href new → PutOutside s t href new
put_since s m t href new first put = record { moment = put.moment; old = put.old; from = Evolves-trans first put.from; is_true = put.is_true; until = put.until }

found_none : (c : Course) (ident : List ℕ) → IsCourse c → AreTrueRows c → (found : FoundNone c ident) → Lacks ident found.listed c.read
found_none c ident course trues found = record { each = λ href held item here is_item same. lacked href held item here is_item same (kept_or_put found.until href) }
  where
    by_fetch : (href : List ℕ) (held : Held) (item : ItemValue) → fin.get c.read.content href ≡ Some held → item_of held.text ≡ Some item → item.ident ≡ ident → (stood : Sometime (StandsOther ident href) found.listed c.read) → (fin.get c.read.content href ≡ fin.get stood.moment.content href) ⊎ PutOutside stood.moment c.read href (fin.get c.read.content href) → PutOutside found.listed c.read href (Some held)
    by_fetch href held item here is_item same stood (inl kept) =
        let was = stood.was in
        let helds : Some was.held ≡ Some held = sym was.here ∙ (sym kept ∙ here) in
        let one : was.held ≡ held = cc in
        absurd (clash_of ident held.text was.item item (sym (ap (λ (h : Held). item_of h.text) one) ∙ was.is_item) is_item was.other same)
    by_fetch href held item here is_item same stood (inr put) = put_since found.listed stood.moment c.read href (Some held) stood.from (subst (λ (v : Option Held). PutOutside stood.moment c.read href v) here put)

    lacked : (href : List ℕ) (held : Held) (item : ItemValue) → fin.get c.read.content href ≡ Some held → item_of held.text ≡ Some item → item.ident ≡ ident → (fin.get c.read.content href ≡ fin.get found.listed.content href) ⊎ PutOutside found.listed c.read href (fin.get c.read.content href) → PutOutside found.listed c.read href (Some held)
    lacked href held item here is_item same (inr put) = subst (λ (v : Option Held). PutOutside found.listed c.read href v) here put
    lacked href held item here is_item same (inl kept) = at (found.each href held (sym kept ∙ here))
      where
        at : Sometime (StandsOther ident href) found.listed c.read ⊎ ((other : List ℕ) × (version : List ℕ) × (other ≡ ident → ⊥) × IsRowAt c other version href held.etag) → PutOutside found.listed c.read href (Some held)
        at (inl stood) = by_fetch href held item here is_item same stood (kept_or_put (Evolves-rest found.until stood.from stood.until) href)
        at (inr (other, version, differs, known)) =
            let said = trues.each other version href held.etag found.listed held known found.from (Evolves-trans (Since-from_evolves found.until) course.later) (sym kept ∙ here) refl in
            absurd (clash_of ident held.text said.0 item said.1 is_item (λ e. differs (sym said.2 ∙ e)) same)

pub took_saw : (c : Course) (ident : List ℕ) (saw : Option (List ℕ)) → IsCourse c → AreTrueRows c → Took c ident saw → Saw c ident saw
took_saw c ident None course trues found = Lacks-extends found.from (found_none c ident course trues found)
took_saw c ident (Some version) course trues (href, etag, taken) = Sometime-weaker (holds ident version href etag) (taken_stood c ident version href etag course trues taken)

pub over_seen : (c : Course) (ident href : List ℕ) (saw : Option (List ℕ)) (old : Option Held) → IsCourse c → AreTrueRows c → IsOverTaken c ident href saw old → IsOverSeen c ident href saw old
over_seen c ident href None old course trues over = over
over_seen c ident href (Some version) old course trues (held, same, taken) = (held, same, taken_stood c ident version href held.etag course trues taken)
